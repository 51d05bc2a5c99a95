-- The runs that are out of a hall, and how the history goes on by them.
use Rattle.std.specs.Prelude.{◌≡◌, ℕ, ◌⊎◌, true, false, List}
use Rattle.std.specs.List.{All}
use Rattle.gpu_plan.specs.Plans.{PlansData}
use Rattle.gpu_journal.specs.declared.event.Event.{Event}
use Rattle.gpu_journal.specs.Complete.{IsComplete}
use Rattle.gpu_journal.specs.Serial.{is_runnable}
use Rattle.serial_laws.specs.Going.{CanGoOn}
use Rattle.house_core.specs.Core.{out_at, is_home}
use Rattle.house_core.specs.Desks.{Out}
use Rattle.gpu_house.specs.Stuck.{IsLeastOf}

-- no run that is out is paused
abbrev pub NoneIsPaused : List Out → Type 0
NoneIsPaused outs = All (λ (out : Out). out.paused ≡ false) outs

-- stream s is at home and can run, or its run of number n is out and not paused
abbrev pub RunsOn : PlansData → List Event → List Out → ℕ → ℕ → Type 0
RunsOn p h outs s n = ((is_home outs s ≡ true) × (is_runnable p h s ≡ true)) ⊎ (((out_at outs s).order ≡ n) × ((out_at outs s).paused ≡ false))

-- the history is complete; or an open stream has a next flush to which its client can come, or may close; or the stream with the
-- least unprocessed number of all runs on
pub record IsDoneOrGoesOn (p : PlansData) (h : List Event) (outs : List Out) : Type 0 where
  pub way : IsComplete p h ⊎ (CanGoOn p h ⊎ ((s : ℕ) × (n : ℕ) × IsLeastOf p h s n × RunsOn p h outs s n))
