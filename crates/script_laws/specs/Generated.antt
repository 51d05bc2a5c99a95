-- Laws of generated scripts, and what the line of a trial tells of lost streams.
use Rattle.std.specs.Prelude.{◌≡◌, ℕ, ◌≤◌, List, length, IsOkAnd}
use Rattle.std.specs.List.{count_by}
use Rattle.script_generator.specs.Generator.{generated}
use Rattle.script_generator.specs.declared.script.TheConstants.{MOST_SIZE}
use Rattle.gpu_plan.specs.Plans.{PlansData}
use Rattle.gpu_plan.specs.Script.{script_of}
use Rattle.gpu_plan.specs.declared.script.TheConstants.{MOST_BYTES}
use Rattle.gpu_journal.specs.declared.event.Event.{Event}
use Rattle.gpu_journal.specs.Waits.{standing_of}
use Rattle.gpu_journal.specs.Ended.{streams_of}
use Rattle.gpu_journal.specs.Legal.{IsLegal}
use Rattle.script_laws.specs.Trials.{losses}

-- the text generated from a size of at most MOST_SIZE and a seed is a script of version 1 with four streams
abbrev pub GeneratedIsScript : Type 0
GeneratedIsScript = (size seed : ℕ) → size ≤ MOST_SIZE → IsOkAnd (script_of (generated size seed)) (λ script. (script.version ≡ 1) × (length script.plans ≡ 4))

-- the text generated from a size of at most MOST_SIZE and a seed is no longer than a script may be
abbrev pub GeneratedIsShort : Type 0
GeneratedIsShort = (size seed : ℕ) → size ≤ MOST_SIZE → length (generated size seed) ≤ MOST_BYTES

-- how many streams of a script are lost after a history
abbrev pub lost_streams : PlansData → List Event → ℕ
lost_streams p h = count_by (λ s. (standing_of p h s).lost) (streams_of p)

-- a legal history has as many losses as lost streams: it loses no stream twice, and none but those of the script
abbrev pub LossesAreLostStreams : Type 0
LossesAreLostStreams = (p : PlansData) (h : List Event) → IsLegal p h → losses h ≡ lost_streams p h
