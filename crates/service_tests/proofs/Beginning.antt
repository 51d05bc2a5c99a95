-- What a house of one stream is made of.
use Rattle.std.proofs.Common.{◌≡◌, ℕ, ◌<◌, true, Some, None, List, [], ◌∷◌, length, get_or, map, refl, sym, ap, subst, ◌∙◌, arith}
use Rattle.std.proofs.lemmas.Option.{get_or_from_slice_get}
use Rattle.std.specs.Prelude.{slice_get}
use Rattle.atomic_table.specs.Seated.{TableId}
use Rattle.gpu_plan.specs.Plans.{PlansData, PlanData, plan_of, no_plan}
use Rattle.gpu_plan.specs.Passes.{flushes}
use Rattle.gpu_plan.specs.Places.{mark_of}
use Rattle.gpu_fetch.specs.Side.{SideData, fresh_side}
use Rattle.gpu_journal.specs.declared.event.Event.{Event}
use Rattle.gpu_journal.specs.World.{world}
use Rattle.gpu_house.specs.Making.{AreFreshSides, AreFreshResults}
use Rattle.service_tests.specs.Alone.{ordered}

-- before any event nothing is ordered
pub none_ordered : (p : PlansData) → ordered p [] ≡ 0
unfolding world
none_ordered p = refl

-- so the first flush of a plan that has one is next
pub first_next : (p plans : PlansData) (h : List Event) → plans ≡ p → h ≡ [] → 0 < flushes (plan_of plans 1).actions → ordered p h < flushes (plan_of p 1).actions
first_next p plans h same none some =
    let before : ordered p h ≡ 0 = ap (ordered p) none ∙ none_ordered p in
    let there : 0 < flushes (plan_of p 1).actions = subst (λ (q : PlansData). 0 < flushes (plan_of q 1).actions) same some in
    omega (arith, before, there)

pub first_marked : (p plans : PlansData) (h : List Event) (mark : ℕ) → plans ≡ p → h ≡ [] → mark ≡ mark_of (plan_of plans 1) 0 → mark ≡ mark_of (plan_of p 1) (ordered p h)
first_marked p plans h mark same none is =
    let before : ordered p h ≡ 0 = ap (ordered p) none ∙ none_ordered p in
    is ∙ ap (λ (q : PlansData). mark_of (plan_of q 1) 0) same ∙ sym (ap (mark_of (plan_of p 1)) before)

-- ---- the one plan

one_of : (plans : List PlanData) → length plans ≡ 1 → plans ≡ get_or plans 0 no_plan ∷ []
one_of [] e = absurd (cc)
one_of (x ∷ []) e = refl
one_of (x ∷ y ∷ xs) e = absurd (omega (arith, e))

pub one_plan : (p : PlansData) → length p.plans ≡ 1 → p.plans ≡ plan_of p 1 ∷ []
one_plan p one = one_of p.plans one

-- is what is read of it
pub first_plan : (p : PlansData) (plan : PlanData) → slice_get p.plans 0 ≡ Some plan → plan ≡ plan_of p 1
first_plan p plan e = sym (get_or_from_slice_get p.plans 0 plan no_plan e)

-- ---- what it is made of

pub fresh_sides : {Side : Type 0} (seen : Side → SideData) (table : Side → TableId) (p : PlansData) (words : List TableId) (side : Side) → length p.plans ≡ 1 → seen side ≡ fresh_side (plan_of p 1) → words ≡ table side ∷ [] → AreFreshSides seen table p.plans words (side ∷ [])
fresh_sides seen table p words side one e w = (ap (λ (x : SideData). x ∷ []) e ∙ sym (ap (map fresh_side) (one_plan p one)), sym w)

-- results of which nothing is known are fresh
pub fresh_results : (p : PlansData) (tables : ℕ → TableId) → length p.plans ≡ 1
    → AreFreshResults (λ (results : Unit {0}) (place : ℕ). true) (λ (results : Unit {0}). None) (λ (results : Unit {0}) (table : TableId). Unit {0}) tables 1 p.plans (tt ∷ [])
fresh_results p tables one =
    subst (λ (plans : List PlanData). AreFreshResults (λ (results : Unit {0}) (place : ℕ). true) (λ (results : Unit {0}). None) (λ (results : Unit {0}) (table : TableId). Unit {0}) tables 1 plans (tt ∷ [])) (sym (one_plan p one))
    (record { shared = tt; takes_all = λ place lt. refl; none_written = λ list e. absurd (cc) }, tt)
