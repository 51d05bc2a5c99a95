-- What follows from what is looked at of an event.
use Rattle.std.proofs.Common.{◌≡◌, ◌≢◌, ℕ, ◌<◌, Bool, true, false, not, eqb, Option, Some, None, Result, Ok, Err, List, [], ◌∷◌, length, refl, sym, ap, subst, ◌∙◌, arith}
use Rattle.std.proofs.lemmas.Bool.{not-true}
use Rattle.std.specs.Prelude.{is_some}
use Rattle.std.specs.Option.{option_map_or}
use Rattle.std.proofs.lemmas.Bool.Decides.{nat_tests}
use Rattle.gpu_cmd.specs.declared.command.Command.{Command}
use Rattle.gpu_cmd.specs.declared.error.CmdError.{CmdError}
use Rattle.gpu_cmd.specs.Copied.{IsCopy}
use Rattle.gpu_plan.specs.Plans.{PlansData, plan_of}
use Rattle.stream_state.specs.State.{State}
use Rattle.stream_state.specs.Steps.{command_in}
use Rattle.stream_state.specs.Laws.{IsTaken}
use Rattle.stream_state.specs.Verdict.{checked_state}
use Rattle.stream_state.proofs.Telling.{command_passes, verdict_taken}
use Rattle.sync_core.specs.declared.wait.Number.{Number}
use Rattle.sync_core.specs.Standing.{IsKnown, first_order}
use Rattle.sync_core.specs.Core.{unprocessed_of, blocked}
use Rattle.gpu_journal.specs.Replaying.{IsWithinQuota}
use Rattle.journal_verify.specs.declared.outcome.Outcome.{Outcome}
use Rattle.journal_verify.specs.declared.outcome.Outcome.TheVariants.{Broken, Valid}
use Rattle.journal_verify.specs.Kept.{WatchData, JudgeData, watch_of}
use Rattle.journal_verify.specs.Copy.{copy_read}
use Rattle.journal_verify.specs.Faults.{or_fault, is_this_number, is_open_in, order_fault, kept_state, kept_facts, are_held, or_broken, verdict_outcome, checked_outcome, copy_outcome, fetch_outcome, finish_fault, may_close, close_fault}
use Rattle.journal_verify.specs.Entered.{FitsPlans}
use Rattle.journal_verify.proofs.Turning.{known_of_watch, front_known, lawful_kept, within_kept}
use Rattle.journal_verify.proofs.Copying.{IsRead, copy_is}

-- ---- tests that hold where no rule is broken

pub fault_none : (test : Bool) (rule : ℕ) (next : Option ℕ) → or_fault test rule next ≡ None → (test ≡ true) × (next ≡ None)
fault_none true rule next e = (refl, e)
fault_none false rule next e = absurd (cc)

-- there is a number
pub some_left : (xs : List Number) → is_some (first_order xs) ≡ true → 0 < length xs
some_left [] e = absurd (cc)
some_left (x ∷ xs) e = omega arith

pub number_left : (xs : List Number) (n : ℕ) → is_this_number (first_order xs) n ≡ true → 0 < length xs
number_left [] n e = absurd (cc)
number_left (x ∷ xs) n e = omega arith

-- ---- orders, losses as out of memory, and closes

pub watch_there : (test : WatchData → Bool) (o : Option WatchData) → option_map_or test o false ≡ true → (w : WatchData) × (o ≡ Some w) × (test w ≡ true)
watch_there test None e = absurd (cc)
watch_there test (Some w) e = (w, refl, e)

pub open_known : (p : PlansData) (j : JudgeData) (s : ℕ) → FitsPlans p j → is_open_in j s ≡ true → IsKnown (length p.plans) s
open_known p j s fits e = let w = watch_there (λ watch. watch.stays) (watch_of j s) e in known_of_watch p j s w.0 fits w.1

pub order_known : (p : PlansData) (j : JudgeData) (s n c : ℕ) → FitsPlans p j → order_fault j s n c ≡ None → IsKnown (length p.plans) s
order_known p j s n c fits e = open_known p j s fits (fault_none (is_open_in j s) 1 _ e).0

pub close_known : (p : PlansData) (j : JudgeData) (s : ℕ) → FitsPlans p j → close_fault p j s ≡ None → IsKnown (length p.plans) s
close_known p j s fits e = let w = watch_there (may_close (plan_of p s).actions) (watch_of j s) (fault_none (option_map_or (may_close (plan_of p s).actions) (watch_of j s) false) 12 None e).0 in known_of_watch p j s w.0 fits w.1

-- ---- finishes

pub finish_front : (p : PlansData) (j : JudgeData) (s n : ℕ) → finish_fault p j s n ≡ None → (0 < length (unprocessed_of j.core s)) × (blocked j.core s ≡ false)
finish_front p j s n e =
    let one = fault_none (is_this_number (first_order (unprocessed_of j.core s)) n) 4 _ e in
    let two = fault_none (not (blocked j.core s)) 5 _ one.1 in
    (number_left (unprocessed_of j.core s) n one.0, not-true (blocked j.core s) two.0)

-- ---- words that are fetched

-- an outcome other than a broken rule
pub broken_none : (test : Bool) (rule : ℕ) (next : Outcome) (P : Outcome → Type 0) → (P (Broken rule) → ⊥) → P (or_broken test rule next) → (test ≡ true) × P next
broken_none true rule next P not h = (refl, h)
broken_none false rule next P not h = absurd (not h)

-- what an outcome that breaks no rule comes from
pub record IsJudgedCopy (p : PlansData) (j : JudgeData) (s : ℕ) (words : List (ℕ × ℕ)) (outcome : Outcome) : Type 0 where
  pub some : 0 < length (unprocessed_of j.core s)
  pub free : blocked j.core s ≡ false
  pub more : eqb (kept_facts p j s).get (kept_facts p j s).put ≡ false
  pub verdict : Result Command CmdError
  pub copy : copy_read words (kept_facts p j s) ≡ Some verdict
  pub held : are_held j s words ≡ true
  pub gives : verdict_outcome verdict (kept_state j s) ≡ outcome

not_broken : Outcome → Type 0
not_broken (Broken rule) = ⊥
not_broken _ = Unit {0}

pub judged_copy : (p : PlansData) (j : JudgeData) (s : ℕ) (words : List (ℕ × ℕ)) (outcome : Outcome) → ((rule : ℕ) → outcome ≡ Broken rule → ⊥) → fetch_outcome p j s words ≡ outcome → IsJudgedCopy p j s words outcome
judged_copy p j s words outcome unbroken e =
    by (is_some (first_order (unprocessed_of j.core s))) (blocked j.core s) (eqb (kept_facts p j s).get (kept_facts p j s).put) (copy_read words (kept_facts p j s)) (are_held j s words) refl refl refl refl refl e
  where
    by : (a b c : Bool) (o : Option (Result Command CmdError)) (d : Bool) → is_some (first_order (unprocessed_of j.core s)) ≡ a → blocked j.core s ≡ b → eqb (kept_facts p j s).get (kept_facts p j s).put ≡ c → copy_read words (kept_facts p j s) ≡ o → are_held j s words ≡ d
        → or_broken a 4 (or_broken (not b) 5 (or_broken (not c) 7 (copy_outcome o d (kept_state j s)))) ≡ outcome → IsJudgedCopy p j s words outcome
    by true false false (Some verdict) true ea eb ec eo ed e = record { some = some_left (unprocessed_of j.core s) ea; free = eb; more = ec; verdict = verdict; copy = eo; held = ed; gives = e }
    by false b c o d ea eb ec eo ed e = absurd (unbroken 4 (sym e))
    by true true c o d ea eb ec eo ed e = absurd (unbroken 5 (sym e))
    by true false true o d ea eb ec eo ed e = absurd (unbroken 7 (sym e))
    by true false false None d ea eb ec eo ed e = absurd (unbroken 7 (sym e))
    by true false false (Some verdict) false ea eb ec eo ed e = absurd (unbroken 8 (sym e))

-- a valid command passed all checks
abbrev lifted : Command → Result Command CmdError
lifted command = Ok command

valid_passed : (verdict : Result Command CmdError) (state : State) (command : Command) → verdict_outcome verdict state ≡ Valid command → (verdict ≡ Ok command) × (checked_state command state ≡ Ok tt)
valid_passed (Ok command') state command e = by (checked_state command' state) refl e
  where
    by : (checked : Result (Unit {0}) CmdError) → checked_state command' state ≡ checked → checked_outcome command' checked ≡ Valid command → (lifted command' ≡ lifted command) × (checked_state command state ≡ Ok tt)
    by (Ok x) q e =
        let same : command' ≡ command = cc in
        (ap lifted same, ap (λ (c : Command). checked_state c state) (sym same) ∙ q)
    by (Err error) q e = absurd (cc)
valid_passed (Err error) state command e = absurd (cc)

not_valid_broken : (command : Command) (rule : ℕ) → Valid command ≡ Broken rule → ⊥
not_valid_broken command rule e = cc

-- the words of a valid command are taken in the state that is kept
pub valid_taken : (p : PlansData) (j : JudgeData) (s : ℕ) (words : List (ℕ × ℕ)) (command : Command) → FitsPlans p j → fetch_outcome p j s words ≡ Valid command → IsTaken (plan_of p s).areas words (kept_state j s) × (command ≡ command_in words)
valid_taken p j s words command fits e =
    let from = judged_copy p j s words (Valid command) (not_valid_broken command) e in
    let passed = valid_passed from.verdict (kept_state j s) command from.gives in
    let copy : IsCopy words (kept_facts p j s) (Ok command) = subst (IsRead words (kept_facts p j s)) (from.copy ∙ ap Some passed.0) (copy_is words (kept_facts p j s)) in
    let known = front_known p j s fits from.some in
    let lawful = lawful_kept p j s fits known in
    let state_within : IsWithinQuota (kept_state j s) = within_kept p j s fits known in
    let verdict' = command_passes words (kept_facts p j s) (kept_state j s) command copy.verdict passed.1 in
    let apart : (kept_facts p j s).get ≢ (kept_facts p j s).put = λ same. let test = from.more in let other : eqb (kept_facts p j s).get (kept_facts p j s).put ≡ true = grind (arith, nat_tests) in absurd (cc) in
    let taken = verdict_taken (plan_of p s).areas (kept_facts p j s).put words (kept_state j s) command lawful state_within.bounded apart copy.places verdict' in
    (taken.1, sym taken.0)
