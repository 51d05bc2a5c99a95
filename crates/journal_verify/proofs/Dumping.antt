-- A value may be told of a dump exactly where its place last had it late enough, and what is kept of dumped places says when
-- that was.
use Rattle.std.proofs.Common.{◌≡◌, ℕ, ◌≤◌, Bool, true, false, cond, eqb, Option, Some, None, List, [], ◌∷◌, ◌++◌, take, refl, sym, ap, subst, ◌∙◌, arith}
use Rattle.std.specs.Prelude.{◌==◌, nat_le, slice_index, slice_index_or, if◌then◌else◌}
use Rattle.std.specs.List.{All}
use Rattle.std.proofs.lemmas.Bool.Decides.{nat_tests}
use Rattle.gpu_word.specs.Results as results
use Rattle.gpu_plan.specs.Plans.{PlansData, plan_of}
use Rattle.gpu_plan.specs.Passes.{flushes}
use Rattle.stream_state.specs.Steps.{writes}
use Rattle.stream_state.specs.Writes as writing
use Rattle.gpu_journal.specs.declared.event.Event.{Event}
use Rattle.gpu_journal.specs.declared.event.Event.TheVariants.{Order, Step, Finish, Lost, Close}
use Rattle.gpu_journal.specs.World.{Known, World, world, stream_in, known, known_after, state_of}
use Rattle.gpu_journal.specs.Written.{result_at}
use Rattle.gpu_journal.specs.Dumps.{MayDump}
use Rattle.gpu_journal.proofs.Worlds.{world_none, known_then}
use Rattle.gpu_journal.proofs.Folding.{written_none}
use Rattle.journal_verify.specs.Dumped.{DumpedData, is_dumped_in, last_with, HasTakenUp, last_held, is_from, HoldsDumped, IsUntouched, LastHeldMayBeTold, ToldWasLastHeld}
use Rattle.journal_verify.specs.Reached.{last_of}

-- ---- finishes never fall

event_finishes : (p : PlansData) (e : Event) (w : World) (k : Known) → k.finished ≤ (known_after p e w k).finished
event_finishes p (Order s n c) w k = omega arith
event_finishes p (Step s words) w k = omega arith
event_finishes p (Finish s n) w k = omega arith
event_finishes p (Lost s why words) w k = omega arith
event_finishes p (Close s) w k = omega arith

finishes_grow : (p : PlansData) (e : Event) (h : List Event) (s : ℕ) → (known p h s).finished ≤ (known p (e ∷ h) s).finished
finishes_grow p e h s = subst (λ (k : Known). (known p h s).finished ≤ k.finished) (sym (known_then p e h s)) (by (stream_in e == s))
  where
    by : (b : Bool) → (known p h s).finished ≤ (if b then known_after p e (world p h) (known p h s) else known p h s).finished
    by true = event_finishes p e (world p h) (known p h s)
    by false = omega arith

finishes_later : (p : PlansData) (later past : List Event) (s : ℕ) → (known p past s).finished ≤ (known p (later ++ past) s).finished
finishes_later p [] past s = omega arith
finishes_later p (e ∷ later) past s =
    let less = finishes_later p later past s in
    let more = finishes_grow p e (later ++ past) s in
    omega (arith, less, more)

none_finished : (p : PlansData) (s : ℕ) → (known p [] s).finished ≡ 0
none_finished p s = ap (λ (w : World). (w.streams s).finished) (world_none p)

none_written : (p : PlansData) (s place : ℕ) → result_at p [] s place ≡ 0
none_written p s place = ap (λ (l : List results.Written). results.last_written l place) (written_none p s)

-- ---- the law

module _ (p : PlansData) (s : ℕ) (dump : ℕ × ℕ) (value : ℕ) where
  abbrev least : ℕ
  least = flushes (take dump.0 (plan_of p s).actions)

  longer : (e : Event) (h : List Event) → MayDump p h s dump value → MayDump p (e ∷ h) s dump value
  longer e h may = record { later = e ∷ may.later; past = may.past; first_part = ap (λ (g : List Event). e ∷ g) may.first_part; enough = may.enough; found = may.found }

  held_told : (h : List Event) → is_from least (last_held p h s dump.1 value) ≡ true → MayDump p h s dump value
  held_told [] q = by (eqb 0 value) refl q
    where
      by : (b : Bool) → eqb 0 value ≡ b → is_from least (cond b (Some 0) None) ≡ true → MayDump p [] s dump value
      by true same q =
          let none = none_finished p s in
          let zero : 0 ≡ value = grind (arith, nat_tests) in
          let few : least ≤ 0 = grind (arith, nat_tests) in
          record { later = []; past = []; first_part = refl; enough = omega (arith, none, few); found = none_written p s dump.1 ∙ zero }
      by false same q = absurd (cc)
  held_told (e ∷ h) q = by (held_told h) (eqb (result_at p (e ∷ h) s dump.1) value) refl q
    where
      by : (is_from least (last_held p h s dump.1 value) ≡ true → MayDump p h s dump value) → (b : Bool) → eqb (result_at p (e ∷ h) s dump.1) value ≡ b → is_from least (cond b (Some (known p (e ∷ h) s).finished) (last_held p h s dump.1 value)) ≡ true → MayDump p (e ∷ h) s dump value
      by before true same q =
          let found : result_at p (e ∷ h) s dump.1 ≡ value = grind (arith, nat_tests) in
          let enough : least ≤ (known p (e ∷ h) s).finished = grind (arith, nat_tests) in
          record { later = []; past = e ∷ h; first_part = refl; enough = enough; found = found }
      by before false same q = longer e h (before q)

  here : (past : List Event) → least ≤ (known p past s).finished → result_at p past s dump.1 ≡ value → is_from least (last_held p past s dump.1 value) ≡ true
  here [] enough found =
      let none = none_finished p s in
      let zero : 0 ≡ value = sym (none_written p s dump.1) ∙ found in
      let few : least ≤ 0 = omega (arith, none, enough) in
      let test : eqb 0 value ≡ true = grind (arith, nat_tests) in
      let low : nat_le least 0 ≡ true = grind (arith, nat_tests) in
      ap (λ (b : Bool). is_from least (cond b (Some 0) None)) test ∙ low
  here (e ∷ h) enough found =
      let test : eqb (result_at p (e ∷ h) s dump.1) value ≡ true = grind (arith, nat_tests) in
      let low : nat_le least (known p (e ∷ h) s).finished ≡ true = grind (arith, nat_tests) in
      ap (λ (b : Bool). is_from least (cond b (Some (known p (e ∷ h) s).finished) (last_held p h s dump.1 value))) test ∙ low

  told_held : (later past : List Event) → least ≤ (known p past s).finished → result_at p past s dump.1 ≡ value → is_from least (last_held p (later ++ past) s dump.1 value) ≡ true
  told_held [] past enough found = here past enough found
  told_held (e ∷ later) past enough found = by (told_held later past enough found) (eqb (result_at p (e ∷ later ++ past) s dump.1) value) refl
    where
      by : is_from least (last_held p (later ++ past) s dump.1 value) ≡ true → (b : Bool) → eqb (result_at p (e ∷ later ++ past) s dump.1) value ≡ b → is_from least (last_held p (e ∷ later ++ past) s dump.1 value) ≡ true
      by before true same =
          let more = finishes_later p (e ∷ later) past s in
          let low : nat_le least (known p (e ∷ later ++ past) s).finished ≡ true = grind (arith, nat_tests, more) in
          ap (λ (b : Bool). is_from least (cond b (Some (known p (e ∷ later ++ past) s).finished) (last_held p (later ++ past) s dump.1 value))) same ∙ low
      by before false same =
          ap (λ (b : Bool). is_from least (cond b (Some (known p (e ∷ later ++ past) s).finished) (last_held p (later ++ past) s dump.1 value))) same ∙ before

pub last_held_may_be_told : LastHeldMayBeTold
last_held_may_be_told p h s dump value q = held_told p s dump value h q

pub told_was_last_held : ToldWasLastHeld
told_was_last_held p h s dump value may =
    subst (λ (g : List Event). is_from (flushes (take dump.0 (plan_of p s).actions)) (last_held p g s dump.1 value) ≡ true) may.first_part
    (told_held p s dump value may.later may.past may.enough may.found)

-- ---- what is kept

-- a place has its value by as many finishes as there are
held_now : (p : PlansData) (h : List Event) (s place value : ℕ) → result_at p h s place ≡ value → last_held p h s place value ≡ Some (known p h s).finished
held_now p [] s place value found =
    let zero : 0 ≡ value = sym (none_written p s place) ∙ found in
    let test : eqb 0 value ≡ true = grind (arith, nat_tests) in
    ap (λ (b : Bool). cond b (Some 0) None) test ∙ ap Some (sym (none_finished p s))
held_now p (e ∷ h) s place value found =
    let test : eqb (result_at p (e ∷ h) s place) value ≡ true = grind (arith, nat_tests) in
    ap (λ (b : Bool). cond b (Some (known p (e ∷ h) s).finished) (last_held p h s place value)) test

-- another value was last there before the event
held_before : (p : PlansData) (e : Event) (h : List Event) (s place value : ℕ) → (result_at p (e ∷ h) s place ≡ value → ⊥) → last_held p (e ∷ h) s place value ≡ last_held p h s place value
held_before p e h s place value other =
    let test : eqb (result_at p (e ∷ h) s place) value ≡ false = by (eqb (result_at p (e ∷ h) s place) value) refl in
    ap (λ (b : Bool). cond b (Some (known p (e ∷ h) s).finished) (last_held p h s place value)) test
  where
    by : (b : Bool) → eqb (result_at p (e ∷ h) s place) value ≡ b → eqb (result_at p (e ∷ h) s place) value ≡ false
    by true same = absurd (other (grind (arith, nat_tests)))
    by false same = same

-- what is kept of a dumped place tells when it last had a value
pub with_held : (p : PlansData) (h : List Event) (s : ℕ) (dumped : DumpedData) (place value : ℕ) → HoldsDumped p h s dumped → is_dumped_in dumped place ≡ true
    → last_with dumped (known p h s).finished place value ≡ last_held p h s place value
with_held p h s dumped place value holds there = by (eqb (slice_index dumped.values place) value) refl
  where
    by : (b : Bool) → eqb (slice_index dumped.values place) value ≡ b → last_with dumped (known p h s).finished place value ≡ last_held p h s place value
    by true same =
        let found : slice_index dumped.values place ≡ value = grind (arith, nat_tests) in
        ap (λ (b : Bool). cond b (Some (known p h s).finished) (last_of dumped.left place value)) same
        ∙ sym (held_now p h s place value (sym (holds.values place there) ∙ found))
    by false same =
        ap (λ (b : Bool). cond b (Some (known p h s).finished) (last_of dumped.left place value)) same
        ∙ holds.left place value there (λ found. let is : slice_index dumped.values place ≡ value = holds.values place there ∙ found in absurd (grind (arith, nat_tests)))

-- nothing is written before any event
pub holds_none : (p : PlansData) (s : ℕ) (dumped : DumpedData) → IsUntouched (plan_of p s) dumped → HoldsDumped p [] s dumped
holds_none p s dumped new = record {
  watched = new.watched;
  values = λ place there. new.values place ∙ sym (none_written p s place);
  left = λ place value there other.
      ap (λ (l : List ((ℕ × ℕ) × ℕ)). last_of l place value) new.left ∙ sym (missing value (λ zero. other (none_written p s place ∙ zero)));
}
  where
    missing : (value : ℕ) → (0 ≡ value → ⊥) → cond {A = Option ℕ} (eqb 0 value) (Some 0) None ≡ None
    missing value other = by (eqb 0 value) refl
      where
        by : (b : Bool) → eqb 0 value ≡ b → cond {A = Option ℕ} b (Some 0) None ≡ None
        by true same = absurd (other (grind (arith, nat_tests)))
        by false same = refl

-- an event that writes nothing to the results of the stream leaves what is kept
pub holds_same : (p : PlansData) (e : Event) (h : List Event) (s : ℕ) (dumped : DumpedData) → ((place : ℕ) → result_at p (e ∷ h) s place ≡ result_at p h s place) → HoldsDumped p h s dumped → HoldsDumped p (e ∷ h) s dumped
holds_same p e h s dumped same holds = record {
  watched = holds.watched;
  values = λ place there. holds.values place there ∙ sym (same place);
  left = λ place value there other.
      holds.left place value there (λ found. other (same place ∙ found)) ∙ sym (held_before p e h s place value other);
}

-- a step of the stream is taken up
pub holds_step : (p : PlansData) (h : List Event) (s : ℕ) (words : List (ℕ × ℕ)) (old new : DumpedData)
    → ((place : ℕ) → result_at p (Step s words ∷ h) s place ≡ writing.left_by_writes (writes (plan_of p s).areas words (state_of p h s)) place (result_at p h s place))
    → HasTakenUp (writes (plan_of p s).areas words (state_of p h s)) (known p h s).finished old new
    → HoldsDumped p h s old → HoldsDumped p (Step s words ∷ h) s new
holds_step p h s words old new next taken holds = record {
  watched = subst (λ (l : List Bool). All (λ (dump : ℕ × ℕ). slice_index_or l dump.1 false ≡ true) (plan_of p s).dumps) (sym taken.dumped) holds.watched;
  values = values;
  left = λ place value there other.
      taken.left place value (was place there) (λ found. other (sym (values place there) ∙ found))
      ∙ with_held p h s old place value holds (was place there) ∙ sym (held_before p (Step s words) h s place value other);
}
  where
    ws : writing.Writes
    ws = writes (plan_of p s).areas words (state_of p h s)

    was : (place : ℕ) → is_dumped_in new place ≡ true → is_dumped_in old place ≡ true
    was place there = ap (λ (l : List Bool). slice_index_or l place false) (sym taken.dumped) ∙ there

    values : (place : ℕ) → is_dumped_in new place ≡ true → slice_index new.values place ≡ result_at p (Step s words ∷ h) s place
    values place there =
        taken.values place (was place there) ∙ ap (λ (v : ℕ). writing.left_by_writes ws place v) (holds.values place (was place there)) ∙ sym (next place)
