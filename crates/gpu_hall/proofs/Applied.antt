-- What a hall shows whenever its lock is free, and what a commit makes of its journal, applied: if it said less, these cases could
-- not be shown.
use Rattle.std.proofs.Common.{◌≡◌, ◌⊎◌, ⊎_elim, ℕ, inl, inr, Bool, true, false, ◌||◌, Some, None, Err, List, [], ◌∷◌, ◌++◌, ap, subst}
use Rattle.std.specs.Prelude.{IsOk}
use Rattle.std.proofs.lemmas.Bool.{both_ways}
use Rattle.gpu_cmd.specs.declared.error.CmdError.{CmdError}
use Rattle.gpu_plan.specs.Plans.{PlansData}
use Rattle.sync_core.specs.Standing.{is_open, first_order}
use Rattle.gpu_journal.specs.declared.event.Event.{Event}
use Rattle.gpu_journal.specs.declared.event.Event.TheVariants as event
use Rattle.gpu_journal.specs.declared.event.Why.TheVariants.{Error, Memory}
use Rattle.gpu_journal.specs.Facts.{verdict_at}
use Rattle.gpu_journal.specs.Waits.{standing_of, left_of}
use Rattle.gpu_journal.specs.Complete.{IsComplete}
use Rattle.gpu_journal.specs.Serial.{is_runnable}
use Rattle.serial_laws.specs.Going.{IsIdle, CanGoOn}
use Rattle.serial_laws.specs.Runs.{step_keeps}
use Rattle.house_core.specs.Core.{out_at, is_home}
use Rattle.house_core.specs.Desks.{Out}
use Rattle.gpu_house.specs.Stuck.{IsLeastOf}
use Rattle.gpu_house.specs.Steps.{asked_at}
use Rattle.gpu_house.specs.Committing.{journal_stepped}
use Rattle.gpu_hall.specs.Outs.{RunsOn, IsDoneOrGoesOn}
use Rattle.gpu_hall.specs.Commits.{Return, WasOver, Waits, Ended, Invalid, Wanted, HasSteps, IsLostBy, CameHome}

-- where no number is left and no client can go on, all is done
all_done : (p : PlansData) (h : List Event) (outs : List Out) → IsDoneOrGoesOn p h outs → IsIdle p h → (CanGoOn p h → ⊥) → IsComplete p h
all_done p h outs on idle none = by on.way
  where
    by : IsComplete p h ⊎ (CanGoOn p h ⊎ ((s : ℕ) × (n : ℕ) × IsLeastOf p h s n × RunsOn p h outs s n)) → IsComplete p h
    by (inl complete) = complete
    by (inr (inl further)) = absurd (none further)
    by (inr (inr run)) = let first = run.2.first in let nothing : first_order (left_of p h run.0) ≡ None = ap first_order (idle run.0) in absurd (cc)

-- it is not so that work is left, no client can go on, no stream at home can run, and each run that is out is paused
never_still : (p : PlansData) (h : List Event) (outs : List Out) → IsDoneOrGoesOn p h outs → (IsComplete p h → ⊥) → (CanGoOn p h → ⊥)
    → ((s : ℕ) → is_home outs s ≡ true → is_runnable p h s ≡ false) → ((s n : ℕ) → first_order (left_of p h s) ≡ Some n → (out_at outs s).order ≡ n → (out_at outs s).paused ≡ true) → ⊥
never_still p h outs on left none home paused = ⊎_elim left (⊎_elim none (λ run. by run.0 run.1 run.2 run.3)) on.way
  where
    by : (s n : ℕ) → IsLeastOf p h s n → RunsOn p h outs s n → ⊥
    by s n least (inl at_home) = both_ways (is_runnable p h s) (home s at_home.0) at_home.1
    by s n least (inr out) = both_ways (out_at outs s).paused out.1 (paused s n least.first out.0)

-- ---- commits

-- a step that was committed is a valid command of an open stream, and its wait is kept exactly where the commit says so
one_step : (p : PlansData) (old new : List Event) (s : ℕ) (words : List (ℕ × ℕ)) (kept : Bool) → HasSteps p old new s (words ∷ []) kept
    → (is_open (standing_of p old s) ≡ true) × IsOk (verdict_at p old s words) × ((step_keeps p old s (asked_at p old s words) || false) ≡ kept) × (new ≡ event.Step s words ∷ old)
one_step p old new s words kept has = (has.still_open, has.valid.0, has.waits, has.steps)

-- where one command was committed and its stream is lost by an error, that is the verdict on this command
one_loss : (p : PlansData) (old new : List Event) (s : ℕ) (words : List (ℕ × ℕ)) (error : CmdError) → IsLostBy p old new s (words ∷ []) error
    → (verdict_at p old s words ≡ Err error) × (new ≡ event.Lost s (Error error) words ∷ old)
one_loss p old new s words error lost = by lost.first lost.those lost.verdict lost.loss
  where
    by : (first : List (List (ℕ × ℕ))) → words ∷ [] ≡ first ++ lost.words ∷ lost.rest → verdict_at p (journal_stepped s first old) s lost.words ≡ Err error
        → new ≡ event.Lost s (Error error) lost.words ∷ journal_stepped s first old → (verdict_at p old s words ≡ Err error) × (new ≡ event.Lost s (Error error) words ∷ old)
    by [] those verdict loss =
        let same : lost.words ≡ words = cc in
        (subst (λ (w : List (ℕ × ℕ)). verdict_at p old s w ≡ Err error) same verdict, subst (λ (w : List (ℕ × ℕ)). new ≡ event.Lost s (Error error) w ∷ old) same loss)
    by (one ∷ []) those verdict loss = absurd (cc)
    by (one ∷ other ∷ first) those verdict loss = absurd (cc)

-- a run of an open stream that came home from no command was finished, or lost as out of memory
none_made : (p : PlansData) (old new : List Event) (s n : ℕ) (how : Return) → is_open (standing_of p old s) ≡ true → CameHome p old new s n [] how
    → (new ≡ event.Finish s n ∷ old) ⊎ (new ≡ event.Lost s Memory [] ∷ old)
none_made p old new s n WasOver still came = absurd (both_ways (is_open (standing_of p old s)) came.over still)
none_made p old new s n Waits still came = let none = came.waits in absurd (cc)
none_made p old new s n Ended still came = inl came.finish
none_made p old new s n (Invalid error) still came = by came.first came.those
  where
    by : (first : List (List (ℕ × ℕ))) → [] ≡ first ++ came.words ∷ came.rest → (new ≡ event.Finish s n ∷ old) ⊎ (new ≡ event.Lost s Memory [] ∷ old)
    by [] those = absurd (cc)
    by (one ∷ first) those = absurd (cc)
none_made p old new s n Wanted still came = by came.first came.those came.loss
  where
    by : (first : List (List (ℕ × ℕ))) → [] ≡ first ++ came.rest → new ≡ event.Lost s Memory [] ∷ journal_stepped s first old → (new ≡ event.Finish s n ∷ old) ⊎ (new ≡ event.Lost s Memory [] ∷ old)
    by [] those loss = inr loss
    by (one ∷ first) those loss = absurd (cc)
