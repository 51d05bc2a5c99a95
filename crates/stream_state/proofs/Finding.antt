-- What a step finds: room in its words for the bytes that it reads, and room in the counts.
use Rattle.std.proofs.Common.{◌≡◌, ℕ, ◌+◌, ◌-◌, ◌*◌, ◌%◌, ◌<◌, ◌≤◌, Bool, true, false, Option, Some, None, Ok, List, length, refl, sym, ap, ◌∙◌, arith, IsTrue}
use Rattle.std.specs.Prelude.{◌==◌, ◌&&◌, nat_le, IfSome}
use Rattle.std.specs.Option.{option_map_or}
use Rattle.std.proofs.lemmas.Bool.{and_parts}
use Rattle.std.proofs.lemmas.Bool.Decides.{nat_tests}
use Rattle.gpu_word.specs.Header.{size_of}
use Rattle.gpu_cmd.specs.declared.command.Command.{Command}
use Rattle.gpu_cmd.specs.declared.error.CmdError.TheVariants.{InvalidArguments}
use Rattle.gpu_cmd.specs.declared.areas.Areas.{Areas}
use Rattle.gpu_cmd.specs.declared.areas.Span.{Span}
use Rattle.gpu_cmd.specs.declared.range.Range.{Range}
use Rattle.gpu_cmd.specs.Spans.{span_at}
use Rattle.gpu_cmd.specs.Lawful.{IsLawfulAreas, IsLawfulFacts}
use Rattle.gpu_word.specs.Outcome.{◌>>=◌, unless}
use Rattle.gpu_cmd.specs.Ranges.{named, places_from, places_in, transfer_places}
use Rattle.gpu_cmd.specs.Checks.{has_format, has_slot, has_data, has_aligned_results, has_memories, lies_in}
use Rattle.gpu_cmd.specs.Copied.{value_in}
use Rattle.gpu_cmd.specs.Laws.{LeavesRoom}
use Rattle.gpu_cmd.proofs.Fitting.{accepted_leaves_room}
use Rattle.gpu_cmd.specs.Table.{command_said}
use Rattle.stream_state.specs.Steps.{values_of, header_in, ring_words_in, command_in, effect_of, acted, moved_on, effect, stepped}
use Rattle.stream_state.specs.State.{State, IsBounded, facts_of}
use Rattle.stream_state.specs.Verdict.{has_block, has_bytes, checked_state}
use Rattle.stream_state.specs.Accepted.{IsAccepted, HasTransfer, HoldItsBytes}
use Rattle.stream_state.proofs.Accepting.{told, says}

-- the words of a range hold its bytes
by_bytes : (b : Bool) (span : Span) (range : Range) → (range.bytes == 0) ≡ b → 0 < range.bytes → range.offset % 4 + range.bytes ≤ 4 * (places_from span range).count
by_bytes true span range e h = absurd (grind (arith, nat_tests))
by_bytes false span range e h = rw e (omega arith)

by_span : (span : Option Span) (spans : List (Option Span)) (range : Range) → span_at spans range.memory ≡ span → IsTrue (option_map_or (λ (s : Span). nat_le (range.offset + range.bytes) (4 * s.words)) span false) → 0 < range.bytes → range.offset % 4 + range.bytes ≤ 4 * (places_in spans range).count
by_span None spans range e h b = absurd (cc)
by_span (Some span) spans range e h b = rw e (by_bytes (range.bytes == 0) span range refl b)

range_room : (areas : Areas) (range : Range) (others : Bool) → IsTrue (lies_in areas.memories range && others) → 0 < range.bytes → range.offset % 4 + range.bytes ≤ 4 * (places_in areas.memories range).count
range_room areas range others h = by_span (span_at areas.memories range.memory) areas.memories range refl (and_parts (lies_in areas.memories range) others h).0

range_held : (areas : Areas) (words : List (ℕ × ℕ)) (range : Option Range) (others : Bool) → 0 < ring_words_in words → ring_words_in words + (option_map_or (places_in areas.memories) range (record { from = 0; count = 0 })).count ≡ length words → IsTrue (option_map_or (lies_in areas.memories) range true && others) → IfSome range (λ range. HasTransfer words range.offset range.bytes)
range_held areas words None others some ring h = tt
range_held areas words (Some range) others some ring h = record {
  some = omega arith;
  ring = omega arith;
  enough = λ b. let room = range_room areas range others h b in omega arith;
}

data_held : (words : List (ℕ × ℕ)) (entries : ℕ) (size : Option ℕ) → entries ≤ length words → IsTrue (option_map_or (λ size. nat_le size (4 * (entries - 4))) size true) → IfSome size (λ size. size ≤ 4 * (length words - 4))
data_held words entries None within h = tt
data_held words entries (Some size) within h = grind (arith, nat_tests)

-- the words hold the bytes that the command reads of them
words_held : (areas : Areas) (words : List (ℕ × ℕ)) (command : Command) → 0 < ring_words_in words → ring_words_in words + (transfer_places areas command).count ≡ length words → IsTrue (has_memories areas command) → IsTrue (has_data (ring_words_in words) command && has_aligned_results command) → HoldItsBytes words command
words_held areas words command some ring memories bytes =
    let results = option_map_or (lies_in areas.results) (named command).size_range true && option_map_or (lies_in areas.results) (named command).data_range true in
    let within : ring_words_in words ≤ length words = omega (arith, ring) in (
      range_held areas words (named command).transfer_range results some ring memories,
      data_held words (ring_words_in words) (named command).immediate_size within (and_parts (has_data (ring_words_in words) command) (has_aligned_results command) bytes).0,
    )

-- what a step finds in its words, and the room that it has in the counts
pub record Finds (areas : Areas) (words : List (ℕ × ℕ)) (state : State) (command : Command) (size : ℕ) : Type 0 where
  pub same : command_in words ≡ command
  pub said : command_said (values_of words) ≡ Some command
  pub sized : size ≡ size_of (header_in words)
  pub held : HoldItsBytes words command
  pub format : IsTrue (has_format command)
  pub slot : IsTrue (has_slot command)
  pub memories : IsTrue (has_memories areas command)
  pub aligned : IsTrue (has_aligned_results command)
  pub entry : 1 ≤ size
  pub few : size ≤ 4096
  pub some : 1 ≤ length words
  pub quota : state.fetched + length words ≤ 1048576

pub facts_lawful : (areas : Areas) (put : ℕ) (state : State) → IsLawfulAreas areas → IsBounded state → IsLawfulFacts (facts_of areas put state)
facts_lawful areas put state lawful bounded =
    let least : 16 ≤ areas.ring = lawful.ring_least in
    record { areas = lawful; get = omega arith; fetched = bounded.fetched }

pub finds : (areas : Areas) (words : List (ℕ × ℕ)) (state : State) (command : Command) (size : ℕ) → IsLawfulAreas areas → IsBounded state → IsAccepted areas words state command size → Finds areas words state command size
finds areas words state command size lawful bounded accepted =
    let facts = facts_of areas accepted.put state in
    let right = facts_lawful areas accepted.put state lawful bounded in
    let s = says words facts command (told words facts command right accepted.copy) in
    let room : LeavesRoom words facts = accepted_leaves_room words facts command right accepted.copy in
    let ends : facts.get + size_of (value_in words facts.get) ≤ areas.ring = room.ends in
    let most : areas.ring ≤ 4096 = lawful.ring_most in
    let sized : size ≡ size_of (value_in words facts.get) = accepted.sized in
    record {
      same = s.same;
      said = s.said;
      sized = sized ∙ ap size_of (sym s.header);
      held = words_held areas words command s.some s.ring s.passed.1.memories s.passed.1.bytes;
      format = s.passed.1.format;
      slot = s.passed.1.slot;
      memories = s.passed.1.memories;
      aligned = (and_parts (has_data (ring_words_in words) command) (has_aligned_results command) s.passed.1.bytes).1;
      entry = omega (arith, room.some);
      few = omega arith;
      some = omega (arith, s.ring, s.some);
      quota = room.quota;
    }

-- the state and the effect of a step, by its command and its size
pub stepped_by : (areas : Areas) (words : List (ℕ × ℕ)) (state : State) (command : Command) (size : ℕ) → Finds areas words state command size
    → stepped areas words state ≡ moved_on size (length words) (acted areas command words state)
unfolding stepped
stepped_by areas words state command size f =
    ap (λ n. moved_on n (length words) (acted areas (command_in words) words state)) (sym f.sized) ∙ ap (λ c. moved_on size (length words) (acted areas c words state)) f.same

pub effect_by : (areas : Areas) (words : List (ℕ × ℕ)) (state : State) (command : Command) (size : ℕ) → Finds areas words state command size
    → effect areas words state ≡ effect_of areas command words state
unfolding effect
effect_by areas words state command size f = ap (λ c. effect_of areas c words state) f.same

two_passed : (a b : Bool) → (unless a InvalidArguments >>= λ _. unless b InvalidArguments) ≡ Ok tt → IsTrue b
two_passed false b h = absurd (cc)
two_passed true false h = absurd (cc)
two_passed true true h = refl

-- check 12 passed
pub bytes_checked : (command : Command) (state : State) → checked_state command state ≡ Ok tt → IsTrue (has_bytes command state)
unfolding checked_state
bytes_checked command state h = two_passed (has_block command state) (has_bytes command state) h
