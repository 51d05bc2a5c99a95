-- The law of losses, on which no proof rests, applied once: if it said less, this could not be shown.
use Rattle.std.proofs.Common.{◌≡◌, List, sym, ◌∙◌}
use Rattle.gpu_plan.specs.Plans.{PlansData}
use Rattle.gpu_journal.specs.declared.event.Event.{Event}
use Rattle.gpu_journal.specs.Legal.{IsLegal}
use Rattle.script_laws.specs.Trials.{losses}
use Rattle.script_laws.specs.Generated.{lost_streams, LossesAreLostStreams}

-- a legal history without a loss has lost no stream
none_lost : LossesAreLostStreams → (p : PlansData) (h : List Event) → IsLegal p h → losses h ≡ 0 → lost_streams p h ≡ 0
none_lost law p h legal none = sym (law p h legal) ∙ none
