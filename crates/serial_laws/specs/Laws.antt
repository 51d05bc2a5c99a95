-- Laws of the rule for one thread, of its serial history, and of the end of every legal history.
use Rattle.std.specs.Prelude.{◌≡◌, ◌≤◌, ◌↔◌, false, List, ◌∷◌, length, None}
use Rattle.std.specs.List.{All}
use Rattle.gpu_plan.specs.Plans.{PlansData}
use Rattle.gpu_journal.specs.declared.event.Event.{Event}
use Rattle.gpu_journal.specs.Legal.{IsLegal}
use Rattle.gpu_journal.specs.Complete.{IsComplete}
use Rattle.gpu_journal.specs.Serial.{next, IsPlayed, IsSerial, most_events, serial}
use Rattle.serial_laws.specs.Scripts.{AreLawfulPlans}
use Rattle.serial_laws.specs.Going.{is_memory_loss, IsIdle, CanGoOn, CanBeFinished}

-- what is played is legal: each event that follows obeys its rules
abbrev pub PlayedIsLegal : Type 0
PlayedIsLegal = (p : PlansData) (h : List Event) → AreLawfulPlans p → IsPlayed p h → IsLegal p h

-- and it loses no stream as out of memory
abbrev pub PlayedWantsNoMemory : Type 0
PlayedWantsNoMemory = (p : PlansData) (h : List Event) → IsPlayed p h → All (λ event. is_memory_loss event ≡ false) h

-- after a legal history no event follows exactly where it is complete
abbrev pub EndsWhereComplete : Type 0
EndsWhereComplete = (p : PlansData) (h : List Event) → IsLegal p h → (next p h ≡ None) ↔ IsComplete p h

-- every legal history ends: it has no more events than this
abbrev pub LegalIsBounded : Type 0
LegalIsBounded = (p : PlansData) (h : List Event) → AreLawfulPlans p → IsLegal p h → length h ≤ most_events p

-- which is at most 100,000 flushes with 4,098 events each, and one end for each of 16 streams
abbrev pub MostEventsAreFew : Type 0
MostEventsAreFew = (p : PlansData) → AreLawfulPlans p → most_events p ≤ 409800016

-- the serial history is played to its end
abbrev pub SerialIsPlayed : Type 0
SerialIsPlayed = (p : PlansData) → AreLawfulPlans p → IsSerial p (serial p)

-- and no other history is
abbrev pub SerialIsAlone : Type 0
SerialIsAlone = (p : PlansData) (h : List Event) → AreLawfulPlans p → IsSerial p h → h ≡ serial p

-- the serial history is legal
abbrev pub SerialIsLegal : Type 0
SerialIsLegal = (p : PlansData) → AreLawfulPlans p → IsLegal p (serial p)

-- it is complete
abbrev pub SerialIsComplete : Type 0
SerialIsComplete = (p : PlansData) → AreLawfulPlans p → IsComplete p (serial p)

-- and it loses no stream as out of memory
abbrev pub SerialWantsNoMemory : Type 0
SerialWantsNoMemory = (p : PlansData) → AreLawfulPlans p → All (λ event. is_memory_loss event ≡ false) (serial p)

-- a legal history that is not complete, and in which no number is left, can go on
abbrev pub UnfinishedGoesOn : Type 0
UnfinishedGoesOn = (p : PlansData) (h : List Event) → AreLawfulPlans p → IsLegal p h → IsIdle p h → (IsComplete p h → ⊥) → CanGoOn p h

-- after every legal history that is not complete some event is legal that is no loss as out of memory
abbrev pub UnfinishedHasEvent : Type 0
UnfinishedHasEvent = (p : PlansData) (h : List Event) → AreLawfulPlans p → IsLegal p h → (IsComplete p h → ⊥) → (e : Event) × (is_memory_loss e ≡ false) × IsLegal p (e ∷ h)

-- so every legal history can be finished, and without any such loss
abbrev pub LegalCanBeFinished : Type 0
LegalCanBeFinished = (p : PlansData) (h : List Event) → AreLawfulPlans p → IsLegal p h → CanBeFinished p h
