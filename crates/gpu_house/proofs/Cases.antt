-- Which of two things a call did to the core, and of which stream.
use Rattle.std.proofs.Common.{◌≡◌, ℕ, Bool, true, false, ◌⊎◌, inl, inr, List, [], length, refl, sym, subst, ◌∙◌}
use Rattle.sync_core.specs.Standing.{is_open, IsKnown}
use Rattle.gpu_plan.specs.Plans.{PlansData}
use Rattle.gpu_journal.specs.declared.event.Event.TheVariants as event
use Rattle.gpu_journal.specs.declared.event.Why.TheVariants.{Memory}
use Rattle.gpu_journal.specs.Waits.{standing_of}
use Rattle.house_core.specs.declared.ends.Closing.{Closing}
use Rattle.house_core.specs.declared.ends.Closing.TheVariants.{Closed, Early, Lost}
use Rattle.gpu_cmd.specs.declared.error.CmdError.{CmdError}
use Rattle.step_parts.specs.declared.acted.Acted.{Acted}
use Rattle.house_core.specs.declared.steps.Stepped.{Stepped}
use Rattle.house_core.specs.declared.steps.Stepped.TheVariants as stepped
use Rattle.house_core.specs.Answers.{AnswersStep, IsStepDone, IsStepRefused}
use Rattle.house_core.specs.Desks.{RunData}
use Rattle.gpu_house.specs.declared.answers.Next.{Next}
use Rattle.gpu_house.specs.declared.answers.Next.TheVariants.{More, Paused, FlushEnd}
use Rattle.gpu_house.specs.Steps.{next_of}
use Rattle.house_core.specs.Core.{CoreData, Grows, Stays, KeepsJournal}

-- the first where a test holds, else the second
pub either_way : (G S : Type 0) (b : Bool) → (b ≡ true → G) → (b ≡ false → S) → G ⊎ S
either_way G S true grows stays = inl (grows refl)
either_way G S false grows stays = inr (stays refl)

-- a close of an open stream that was not early, or nothing
pub closes : (old new : CoreData) (s : ℕ) (answer : Closing) → (answer ≡ Closed → is_open (standing_of old.plans old.past s) ≡ true → Grows old new (event.Close s))
    → ((answer ≡ Closed → is_open (standing_of old.plans old.past s) ≡ true → ⊥) → Stays old new) → Grows old new (event.Close s) ⊎ Stays old new
closes old new s answer grows stays = by answer (is_open (standing_of old.plans old.past s)) grows stays
  where
    by : (r : Closing) (b : Bool) → (r ≡ Closed → b ≡ true → Grows old new (event.Close s)) → ((r ≡ Closed → b ≡ true → ⊥) → Stays old new) → Grows old new (event.Close s) ⊎ Stays old new
    by Closed true grows stays = inl (grows refl refl)
    by Closed false grows stays = inr (stays (λ e o. absurd (cc)))
    by Early b grows stays = inr (stays (λ e o. absurd (cc)))
    by Lost b grows stays = inr (stays (λ e o. absurd (cc)))

-- a loss of an open stream, or nothing
pub loses : (old new : CoreData) (s : ℕ) → (is_open (standing_of old.plans old.past s) ≡ true → Grows old new (event.Lost s Memory [])) → (is_open (standing_of old.plans old.past s) ≡ false → Stays old new)
    → Grows old new (event.Lost s Memory []) ⊎ Stays old new
loses old new s grows stays = either_way (Grows old new (event.Lost s Memory [])) (Stays old new) (is_open (standing_of old.plans old.past s)) grows stays

-- a loss of a run's open stream, or, where that has ended, its return alone
pub loses_run : (old new : CoreData) (s : ℕ) → (is_open (standing_of old.plans old.past s) ≡ true → Grows old new (event.Lost s Memory [])) → (is_open (standing_of old.plans old.past s) ≡ false → KeepsJournal old new)
    → Grows old new (event.Lost s Memory []) ⊎ ((is_open (standing_of old.plans old.past s) ≡ false) × KeepsJournal old new)
loses_run old new s grows stays =
    either_way (Grows old new (event.Lost s Memory [])) ((is_open (standing_of old.plans old.past s) ≡ false) × KeepsJournal old new) (is_open (standing_of old.plans old.past s)) grows (λ over. (over, stays over))

-- ---- the stream of a run

-- whether a run's stream is open, as it was asked
pub open_here : (core : CoreData) (t s : ℕ) (answer b : Bool) → t ≡ s → answer ≡ is_open (standing_of core.plans core.past t) → answer ≡ b → is_open (standing_of core.plans core.past s) ≡ b
open_here core t s answer b at is told = subst (λ (s : ℕ). is_open (standing_of core.plans core.past s) ≡ b) at (sym is ∙ told)

-- a run's stream is one of those that have results
pub known_here : {X : Type 0} (p : PlansData) (rows : List X) (t s : ℕ) → length rows ≡ length p.plans → t ≡ s → IsKnown (length p.plans) s → IsKnown (length rows) t
known_here p rows t s count at known = subst (λ (n : ℕ). IsKnown n t) (sym count) (subst (IsKnown (length p.plans)) (sym at) known)

-- ---- how a step was answered

module _ (old new : CoreData) (run left : RunData) (words : List (ℕ × ℕ)) (answer : Stepped) (is : AnswersStep old new run left words answer) where
  pub of_lost : answer ≡ stepped.Lost → AnswersStep old new run left words stepped.Lost
  of_lost e = subst (AnswersStep old new run left words) e is

  pub of_closed : answer ≡ stepped.Closed → AnswersStep old new run left words stepped.Closed
  of_closed e = subst (AnswersStep old new run left words) e is

  pub of_invalid : (error : CmdError) → answer ≡ stepped.Invalid error → IsStepRefused old new run left words error
  of_invalid error e = subst (AnswersStep old new run left words) e is

  pub of_done : (acted : Acted) → answer ≡ stepped.Done acted → IsStepDone old new run left words acted
  of_done acted e = subst (AnswersStep old new run left words) e is

-- what goes on after a step that was executed
pub goes_on : (P : Next → Type 0) (next : Next) (kept at_end : Bool) → next ≡ next_of kept at_end → (kept ≡ true → P Paused) → (kept ≡ false → P FlushEnd) → (kept ≡ false → P More) → P next
goes_on P next kept at_end e paused ended more = subst P (sym e) (by kept at_end paused ended more)
  where
    by : (kept at_end : Bool) → (kept ≡ true → P Paused) → (kept ≡ false → P FlushEnd) → (kept ≡ false → P More) → P (next_of kept at_end)
    by true at_end paused ended more = paused refl
    by false true paused ended more = ended refl
    by false false paused ended more = more refl
