-- That nothing is stuck: where a number is unprocessed, some stream can go on.
use Rattle.std.specs.Prelude.{◌≡◌, ℕ, ◌⊎◌, true, List, length, Some}
use Rattle.gpu_plan.specs.Plans.{PlansData}
use Rattle.sync_core.specs.Standing.{IsKnown, first_order}
use Rattle.sync_core.specs.Laws.{IsLeast}
use Rattle.gpu_journal.specs.declared.event.Event.{Event}
use Rattle.gpu_journal.specs.Waits.{sync_of, left_of}
use Rattle.gpu_journal.specs.Serial.{is_runnable}
use Rattle.serial_laws.specs.Going.{IsIdle}
use Rattle.house_core.specs.Core.{out_at, is_home}
use Rattle.house_core.specs.Desks.{Out}

-- n is the first unprocessed number of stream s, and no stream has a lower one
pub record IsLeastOf (p : PlansData) (h : List Event) (s n : ℕ) : Type 0 where
  pub known : IsKnown (length p.plans) s
  pub first : first_order (left_of p h s) ≡ Some n
  pub least : IsLeast (sync_of p h) n

-- stream s, whose first unprocessed number is n, can run; it is at home, or its run of this number is out
pub record CanGo (p : PlansData) (h : List Event) (outs : List Out) (s n : ℕ) : Type 0 where
  pub runnable : is_runnable p h s ≡ true
  pub place : (is_home outs s ≡ true) ⊎ ((out_at outs s).order ≡ n)

-- no number is unprocessed, or the stream with the least one of all can run, and is at home or has its run out
abbrev pub IsNotStuck : PlansData → List Event → List Out → Type 0
IsNotStuck p h outs = IsIdle p h ⊎ ((s : ℕ) × (n : ℕ) × IsLeastOf p h s n × CanGo p h outs s n)
