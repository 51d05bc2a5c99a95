-- Settled streams that are apart have one text between the journal and the marks.
use Rattle.std.proofs.Common.{◌≡◌, ℕ, zero, suc, ◌+◌, ◌<◌, ◌≤◌, List, ◌++◌, length, reverse, refl, ap, ◌∙◌, arith, append_assoc}
use Rattle.std.specs.List.{flat_map, range_with_len}
use Rattle.gpu_plan.specs.Plans.{PlansData}
use Rattle.gpu_journal.specs.World.{replay, state_of}
use Rattle.gpu_journal.specs.Ended.{end_of}
use Rattle.gpu_journal.specs.Serial.{serial}
use Rattle.journal_text.specs.Text.{journal_text, tally_of, stream_text}
use Rattle.journal_text.specs.Picture.{picture_text}
use Rattle.journal_text.specs.Output.{head_lines, stream_lines, mark_lines, output}
use Rattle.serial_laws.specs.Scripts.{AreLawfulPlans}
use Rattle.serial_laws.proofs.Bounded.{serial_is_legal, serial_is_complete, serial_wants_no_memory}
use Rattle.race_laws.specs.Laws.{IsWhole, OneText, SerialShows}
use Rattle.race_laws.proofs.Ending.{works_agree}
use Rattle.race_laws.proofs.Ends.{end_same}
use Rattle.race_laws.proofs.Outcomes.{one_result}

-- the same of each number of a range
flat_same : (f g : ℕ → List ℕ) (a n : ℕ) → ((k : ℕ) → a ≤ k → k < a + n → f k ≡ g k) → flat_map f (range_with_len a n) ≡ flat_map g (range_with_len a n)
flat_same f g a zero same = refl
flat_same f g a (suc n) same =
    let first = same a (omega arith) (omega arith) in
    let rest = flat_same f g (a + 1) n (λ k since until. same k (omega (arith, since)) (omega (arith, until))) in
    λ i. first i ++ rest i

pub one_text : OneText
one_text p h g lawful whole also none =
    let same = one_result p h g lawful whole also none in
    let lines : stream_lines p g ≡ stream_lines p h =
    flat_same (λ s. stream_text s (tally_of (state_of p g s)) (end_of g s)) (λ s. stream_text s (tally_of (state_of p h s)) (end_of h s)) 1 (length p.plans) (λ s since until.
    let ended = end_same p h g s whole also (works_agree p h g s lawful whole also (none.settled s)) (omega (arith, since), omega (arith, until)) in
    λ i. stream_text s (tally_of (same.states s i)) (ended i)) in
    λ i. picture_text (same.images i) ++ lines i

pub serial_is_whole : (p : PlansData) → AreLawfulPlans p → IsWhole p (serial p)
serial_is_whole p lawful = record { legal = serial_is_legal p lawful; complete = serial_is_complete p lawful; kept = serial_wants_no_memory p lawful }

pub serial_shows : SerialShows
unfolding output
serial_shows p g mark lawful also none =
    let same = one_text p (serial p) g lawful (serial_is_whole p lawful) also none in
    let front = head_lines p ++ journal_text (reverse g) in
    ap (λ (text : List ℕ). text ++ mark_lines p mark g) (append_assoc front (picture_text (replay p g)) (stream_lines p g) ∙ ap (λ (text : List ℕ). front ++ text) same)
