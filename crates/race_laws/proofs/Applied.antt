-- Laws on which no other proof rests, each applied once: if one of them said less, its case here could not be shown.
use Rattle.std.proofs.Common.{◌≡◌, ℕ, eqb, Bool, true, false, cond, List, ◌∷◌, refl, sym, ap, ◌∙◌, arith}
use Rattle.gpu_store.specs.declared.rect.Rect.{Rect}
use Rattle.gpu_plan.specs.Plans.{PlansData}
use Rattle.gpu_journal.specs.declared.event.Event.{Event}
use Rattle.gpu_journal.specs.declared.event.Event.TheVariants.{Order}
use Rattle.gpu_journal.specs.World.{replay, stream_in, state_of}
use Rattle.gpu_journal.specs.Serial.{serial}
use Rattle.serial_laws.specs.Scripts.{AreLawfulPlans}
use Rattle.race_laws.specs.Works.{works, own_events, bare}
use Rattle.race_laws.specs.Touches.{Part, overlaps, Fits}
use Rattle.race_laws.specs.Laws.{StatesAreOwn, IsWhole, IsWithoutRace, ConflictsDecide, PremisesAgree, OverlapIsShared}
use Rattle.race_laws.proofs.Clashes.{inside}
use Rattle.race_laws.proofs.Texts.{serial_is_whole}

-- an event of another stream changes nothing of a state but its counts of errors
other_keeps : StatesAreOwn → (p : PlansData) (e : Event) (h : List Event) (s : ℕ) → eqb (stream_in e) s ≡ false → bare (state_of p (e ∷ h) s) ≡ bare (state_of p h s)
other_keeps law p e h s other = law p (e ∷ h) s ∙ ap (λ (b : Bool). bare (state_of p (cond b (e ∷ own_events h s) (own_events h s)) s)) other ∙ sym (law p h s)

-- an order leaves images and states as they were
order_leaves : ConflictsDecide → (p : PlansData) (h : List Event) (s n c : ℕ) → Fits h → (replay p (Order s n c ∷ h) ≡ replay p h) × ((t : ℕ) → state_of p (Order s n c ∷ h) t ≡ state_of p h t)
order_leaves law p h s n c fits =
    let same = law p h (Order s n c ∷ h) (λ t. by t (eqb s t)) fits (λ u t i j words others apart here there conflicts. (λ less. less, λ less. less)) in
    (same.images, same.states)
  where
    by : (t : ℕ) (b : Bool) → cond b (works h t) (works h t) ≡ works h t
    by t true = refl
    by t false = refl

-- a run with workers that shows no race tells of the run on one thread
tells_of_serial : PremisesAgree → (p : PlansData) (h : List Event) → AreLawfulPlans p → IsWhole p h → IsWithoutRace p h → IsWithoutRace p (serial p)
tells_of_serial law p h lawful whole none = law p h (serial p) lawful whole (serial_is_whole p lawful) none

-- an empty rectangle overlaps with no other
empty_overlaps : OverlapIsShared → (r q : Rect) → r.w ≡ 0 → overlaps (Part r) (Part q) ≡ true → ⊥
empty_overlaps law r q none over =
    let at = (law r q).0 over in
    let a = inside r at.0 at.1 at.2 in
    let left = a.left in
    let right = a.right in
    omega (arith, none, left, right)
