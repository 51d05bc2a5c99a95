-- A command that is accepted leaves its stream room to go on.
use Rattle.std.proofs.Common.{◌≡◌, ℕ, ◌+◌, ◌<◌, ◌≤◌, Result, Ok, Err, ◌++◌, length, map, refl, sym, ap, ◌∙◌, ⊎_elim, arith, IfOk, IsOkAnd, length-append}
use Rattle.std.specs.List.{range_with_len}
use Rattle.std.proofs.lemmas.Bool.{cases_lt}
use Rattle.std.proofs.lemmas.List.{length-map}
use Rattle.std.proofs.lemmas.List.FromFn.{length-range_with_len}
use Rattle.gpu_word.specs.Header.{size_of}
use Rattle.gpu_cmd.specs.declared.command.Command.{Command}
use Rattle.gpu_cmd.specs.declared.error.CmdError.{CmdError}
use Rattle.gpu_cmd.specs.declared.error.CmdError.TheVariants.{OutOfBounds}
use Rattle.gpu_cmd.specs.declared.facts.StreamFacts.{StreamFacts}
use Rattle.gpu_cmd.specs.declared.shape.Shape.{Shape}
use Rattle.gpu_cmd.specs.declared.decoded.Decoded.{Decoded}
use Rattle.gpu_cmd.specs.Lawful.{IsLawfulFacts}
use Rattle.gpu_word.specs.Outcome.{◌>>=◌}
use Rattle.gpu_cmd.specs.Checks.{headed, decoded}
use Rattle.gpu_cmd.specs.Copied.{copied, fetched_places, judged, places_headed, places_decoded, ring_places, value_in, places_listed}
use Rattle.gpu_cmd.specs.Laws.{LeavesRoom, AcceptedLeavesRoom}
use Rattle.gpu_cmd.proofs.Heads.{headed_room}
use Rattle.gpu_cmd.proofs.Decoders.{decoded_few}
use Rattle.gpu_cmd.proofs.Copies.{judged_out, places_in, judged_headed, judged_in}

-- where the ring words leave room, so do all words
by_answer : (m : ℕ → ℕ) (facts : StreamFacts) (shape : Shape) (command : Command) (answer : Result Decoded CmdError) → (answer >>= λ found. Ok found.command) ≡ Ok command → IfOk answer (λ found. facts.fetched + length (map m (ring_places facts shape)) + found.count ≤ 1048576) → facts.fetched + length (ring_places facts shape ++ places_decoded answer) ≤ 1048576
by_answer m facts shape command (Err error) e h = absurd (cc)
by_answer m facts shape command (Ok found) e h =
    let few : facts.fetched + length (map m (ring_places facts shape)) + found.count ≤ 1048576 = h in
    omega (arith, length-map (ring_places facts shape) m, length-append (ring_places facts shape) (range_with_len found.from found.count), length-range_with_len found.from found.count)

by_head : (m : ℕ → ℕ) (facts : StreamFacts) (command : Command) (head : Result Shape CmdError) → headed (m facts.get) facts ≡ head → IsLawfulFacts facts → facts.put < facts.areas.ring → judged_headed m facts head ≡ Ok command → (1 ≤ size_of (m facts.get)) × (facts.get + size_of (m facts.get) ≤ facts.areas.ring) × (facts.fetched + length (places_headed m facts head) ≤ 1048576)
by_head m facts command (Err error) e lawful r j = absurd (cc)
by_head m facts command (Ok shape) e lawful r j =
    let passed : IsOkAnd (headed (m facts.get) facts) (λ s. shape.ring_words ≡ s.ring_words) = rw e refl in
    let room = headed_room (m facts.get) facts (λ s. shape.ring_words ≡ s.ring_words) lawful.get r passed in
    (room.0, room.1, by_answer m facts shape command (decoded (map m (ring_places facts shape)) facts) j (decoded_few (map m (ring_places facts shape)) facts))

pub accepted_leaves_room : AcceptedLeavesRoom
unfolding copied fetched_places
accepted_leaves_room words facts command lawful copy = ⊎_elim in_range out_of_range (cases_lt facts.put facts.areas.ring)
  where
    in_range : facts.put < facts.areas.ring → LeavesRoom words facts
    in_range r =
        let m = value_in words in
        let judged_ok : judged_headed m facts (headed (m facts.get) facts) ≡ Ok command = sym (judged_in m facts r) ∙ copy.verdict in
        let h = by_head m facts command (headed (m facts.get) facts) refl lawful r judged_ok in
        let places : places_listed words ≡ places_headed m facts (headed (m facts.get) facts) = copy.places ∙ places_in m facts r in
        let count : length words ≡ length (places_headed m facts (headed (m facts.get) facts)) = sym (length-map words (λ word. word.0)) ∙ ap length places in
        let few : facts.fetched + length (places_headed m facts (headed (m facts.get) facts)) ≤ 1048576 = h.2 in
        record { some = h.0; ends = h.1; quota = omega arith }

    out_of_range : facts.areas.ring ≤ facts.put → LeavesRoom words facts
    out_of_range r = let wrong : judged (value_in words) facts ≡ Err OutOfBounds = judged_out (value_in words) facts r in let right : judged (value_in words) facts ≡ Ok command = copy.verdict in absurd (cc)
