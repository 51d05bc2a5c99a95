-- A legal history draws no more numbers than its script has flushes.
use Rattle.std.proofs.Common.{◌≡◌, ℕ, suc, ◌+◌, ◌-◌, ◌≤◌, ◌<◌, ◌⊎◌, inl, inr, eqb, Bool, true, false, List, [], ◌∷◌, length, refl, sym, ap, subst, ◌∙◌, arith}
use Rattle.std.proofs.lemmas.Bool.{ne_eqb, eqb-true}
use Rattle.std.specs.List.{count_by}
use Rattle.gpu_plan.specs.Plans.{PlansData, PlanData, plan_of, no_plan, is_flush, flushes_in}
use Rattle.stream_state.specs.declared.effect.Effect.{Effect}
use Rattle.stream_state.specs.declared.effect.Effect.TheVariants.{Nothing, Token, Release, Wait, WaitName, Pixels, Results}
use Rattle.sync_core.specs.Events as sync
use Rattle.gpu_plan.proofs.Counts.{flushes_counted}
use Rattle.gpu_journal.specs.declared.event.Event.{Event}
use Rattle.gpu_journal.specs.declared.event.Event.TheVariants.{Order, Step, Finish, Lost, Close}
use Rattle.gpu_journal.specs.World.{Known, World, world, stream_in, asked_by, known, known_after}
use Rattle.gpu_journal.specs.Waits.{deed, deed_asked, sync_of, drawn}
use Rattle.gpu_journal.specs.Legal.{IsLegal}
use Rattle.gpu_journal.proofs.Worlds.{world_none, sync_none, sync_then}
use Rattle.serial_laws.proofs.Others.{known_own, known_other}
use Rattle.serial_laws.proofs.Sums.{total, total_zero, total_more, total_within}
use Rattle.serial_laws.proofs.Spent.{obeys_known}
use Rattle.serial_laws.specs.Outs.{DrawnFew}
use Rattle.serial_laws.proofs.Fronts.{counts_within}

-- how many flushes the event orders
abbrev one : Event → ℕ
one (Order s n c) = 1
one _ = 0

drawn_then : (p : PlansData) (e : Event) (h : List Event) → drawn p (e ∷ h) ≡ drawn p h + one e
drawn_then p e h = ap sync.orders (sync_then p e h) ∙ by e
  where
    asked : (s : ℕ) (effect : Effect) → sync.orders (sync.happened s (deed_asked p effect) (sync_of p h)) ≡ drawn p h + 0
    asked s Nothing = omega arith
    asked s (Token token) = omega arith
    asked s (Release r) = omega arith
    asked s (Wait t r) = omega arith
    asked s (WaitName name r) = omega arith
    asked s (Pixels op) = omega arith
    asked s (Results write) = omega arith

    by : (e : Event) → sync.orders (sync.happened (stream_in e) (deed p e (world p h)) (sync_of p h)) ≡ drawn p h + one e
    by (Order s n c) = refl
    by (Step s words) = asked s (asked_by p s words (world p h))
    by (Finish s n) = omega arith
    by (Lost s why words) = omega arith
    by (Close s) = omega arith

ordered_own : (p : PlansData) (e : Event) (w : World) (k : Known) → (known_after p e w k).ordered ≡ k.ordered + one e
ordered_own p (Order s n c) w k = refl
ordered_own p (Step s words) w k = omega arith
ordered_own p (Finish s n) w k = omega arith
ordered_own p (Lost s why words) w k = omega arith
ordered_own p (Close s) w k = omega arith

abbrev ordered_at : PlansData → List Event → ℕ → ℕ
ordered_at p h k = (known p h (suc k)).ordered

own_then : (p : PlansData) (e : Event) (h : List Event) → (known p (e ∷ h) (stream_in e)).ordered ≡ (known p h (stream_in e)).ordered + one e
own_then p e h = ap (λ (k : Known). k.ordered) (known_own p e h) ∙ ordered_own p e (world p h) (known p h (stream_in e))

others_then : (p : PlansData) (e : Event) (h : List Event) (t : ℕ) → eqb (stream_in e) t ≡ false → (known p (e ∷ h) t).ordered ≡ (known p h t).ordered
others_then p e h t off = ap (λ (k : Known). k.ordered) (known_other p e h t off)

-- an event that orders none leaves the sum
none_more : (p : PlansData) (e : Event) (h : List Event) → one e ≡ 0 → total (length p.plans) (ordered_at p (e ∷ h)) ≡ total (length p.plans) (ordered_at p h)
none_more p e h none = λ i. total (length p.plans) (λ k. same (suc k) i)
  where
    same : (t : ℕ) → (known p (e ∷ h) t).ordered ≡ (known p h t).ordered
    same t = by (eqb (stream_in e) t) refl
      where
        by : (b : Bool) → eqb (stream_in e) t ≡ b → (known p (e ∷ h) t).ordered ≡ (known p h t).ordered
        by true q = subst (λ t. (known p (e ∷ h) t).ordered ≡ (known p h t).ordered) (eqb-true (stream_in e) t q) (let own = own_then p e h in omega (arith, own, none))
        by false q = others_then p e h t q

-- an order adds one to it
one_more : (p : PlansData) (e : Event) (h : List Event) → 0 < stream_in e → stream_in e ≤ length p.plans → one e ≡ 1 → total (length p.plans) (ordered_at p (e ∷ h)) ≡ total (length p.plans) (ordered_at p h) + 1
one_more p e h low high is =
    let i : suc (stream_in e - 1) ≡ stream_in e = omega arith in
    total_more (length p.plans) (stream_in e - 1) (ordered_at p h) (ordered_at p (e ∷ h)) (omega arith)
    (subst (λ (t : ℕ). (known p (e ∷ h) t).ordered ≡ (known p h t).ordered + 1) (sym i) (let own = own_then p e h in omega (arith, own, is)))
    (λ k differ. others_then p e h (suc k) (ne_eqb (stream_in e) (suc k) (λ same. differ (omega (arith, same)))))

-- as many numbers are drawn as flushes are ordered in all streams
pub all_drawn : (p : PlansData) (h : List Event) → IsLegal p h → drawn p h ≡ total (length p.plans) (λ k. (known p h (suc k)).ordered)
all_drawn p [] legal = ap sync.orders (sync_none p) ∙ sym (total_zero (length p.plans) (ordered_at p []) (λ k. ap (λ (w : World). (w.streams (suc k)).ordered) (world_none p)))
all_drawn p (e ∷ h) legal = by (all_drawn p h legal.1) (drawn_then p e h) (one_cases e)
  where
    one_cases : (e : Event) → (one e ≡ 0) ⊎ (one e ≡ 1)
    one_cases (Order s n c) = inr refl
    one_cases (Step s words) = inl refl
    one_cases (Finish s n) = inl refl
    one_cases (Lost s why words) = inl refl
    one_cases (Close s) = inl refl

    by : drawn p h ≡ total (length p.plans) (ordered_at p h) → drawn p (e ∷ h) ≡ drawn p h + one e → (one e ≡ 0) ⊎ (one e ≡ 1) → drawn p (e ∷ h) ≡ total (length p.plans) (ordered_at p (e ∷ h))
    by rest more (inl none) = let same = none_more p e h none in omega (arith, rest, more, none, same)
    by rest more (inr is) =
        let isknown = obeys_known p e h legal.1 legal.0 in
        let sum = one_more p e h isknown.0 isknown.1 is in
        omega (arith, rest, more, is, sum)

-- no more than the script has flushes
pub drawn_within : (p : PlansData) (h : List Event) → IsLegal p h → drawn p h ≤ flushes_in p.plans
drawn_within p h legal =
    let all = all_drawn p h legal in
    let most = total_within (λ (plan : PlanData). count_by is_flush plan.actions) p.plans no_plan (ordered_at p h) (λ k lt. few (suc k)) in
    omega (arith, all, most)
  where
    few : (s : ℕ) → (known p h s).ordered ≤ count_by is_flush (plan_of p s).actions
    few s = let a = (counts_within p h s legal).1 in let b = flushes_counted (plan_of p s).actions in omega (arith, a, b)

pub drawn_few : DrawnFew
drawn_few p h lawful legal = let a = drawn_within p h legal in let b = lawful.together.flushes in omega (arith, a, b)
