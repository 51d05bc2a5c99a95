-- A closed stream has ordered all its flushes, and no stream is both lost and closed.
use Rattle.std.proofs.Common.{◌≡◌, ℕ, ◌+◌, eqb, Bool, true, false, not, ◌&&◌, Some, List, [], ◌∷◌, refl, sym, ap, subst, ◌∙◌, arith}
use Rattle.std.proofs.lemmas.Bool.{eqb-true, and_from, not_from_false}
use Rattle.std.specs.Prelude.{slice_get}
use Rattle.gpu_plan.specs.declared.plan.Action.{Action}
use Rattle.gpu_plan.specs.Plans.{PlansData, plan_of}
use Rattle.gpu_plan.specs.Passes.{flushes}
use Rattle.gpu_plan.specs.Places.{flush_places}
use Rattle.stream_state.specs.declared.effect.Effect.{Effect}
use Rattle.stream_state.specs.declared.effect.Effect.TheVariants.{Nothing, Token, Release, Wait, WaitName, Pixels, Results}
use Rattle.sync_core.specs.Standing.{Standing, is_open}
use Rattle.sync_core.specs.Events as sync
use Rattle.gpu_journal.specs.declared.event.Event.{Event}
use Rattle.gpu_journal.specs.declared.event.Event.TheVariants.{Order, Step, Finish, Lost, Close}
use Rattle.gpu_journal.specs.declared.event.Why.TheVariants.{Error, Memory}
use Rattle.gpu_journal.specs.World.{Known, world, stream_in, asked_by, known, known_after}
use Rattle.gpu_journal.specs.Waits.{deed, deed_asked, standing_of, drawn}
use Rattle.gpu_journal.specs.Legal.{Obeys, IsLegal}
use Rattle.gpu_journal.proofs.Worlds.{sync_none}
use Rattle.serial_laws.proofs.Flushes.{flush_of_place}
use Rattle.serial_laws.proofs.Others.{moved_by, standing_own, standing_other, known_own, known_other}
use Rattle.serial_laws.proofs.Fronts.{left_open}

-- where a stream is closed, all its flushes are ordered and it is not lost
pub record Ends (actions : List Action) (k : Known) (x : Standing) : Type 0 where
  pub all : x.closed ≡ true → k.ordered ≡ flushes actions
  pub kept : x.closed ≡ true → x.lost ≡ false

abbrev pub EndsAt : PlansData → List Event → ℕ → Type 0
EndsAt p h s = Ends (plan_of p s).actions (known p h s) (standing_of p h s)

open_parts : (a b : Bool) → (not a && not b) ≡ true → (a ≡ false) × (b ≡ false)
open_parts true b e = absurd (cc)
open_parts false true e = absurd (cc)
open_parts false false e = (refl, refl)

-- a stream that is not closed keeps to both
not_closed : (actions : List Action) (k : Known) (x : Standing) → x.closed ≡ false → Ends actions k x
not_closed actions k x off = record { all = λ c. absurd (cc); kept = λ c. absurd (cc) }

-- ends by the parts that count
ends_same : (actions : List Action) (k l : Known) (x y : Standing) → l.ordered ≡ k.ordered → y.closed ≡ x.closed → y.lost ≡ x.lost → Ends actions k x → Ends actions l y
ends_same actions k l x y o c d was = record { all = λ q. o ∙ was.all (sym c ∙ q); kept = λ q. d ∙ was.kept (sym c ∙ q) }

-- what an event makes of its own stream
ends_own : (p : PlansData) (h : List Event) (e : Event) → IsLegal p h → Obeys p h e → EndsAt p h (stream_in e)
    → Ends (plan_of p (stream_in e)).actions (known_after p e (world p h) (known p h (stream_in e))) (moved_by (deed p e (world p h)) (drawn p h + 1) (standing_of p h (stream_in e)))
ends_own p h (Order s n c) legal o was = not_closed _ _ _ (open_parts (standing_of p h s).lost (standing_of p h s).closed o.rule_1.stays).1
ends_own p h (Step s words) legal o was = by (asked_by p s words (world p h))
  where
    k : Known
    k = known_after p (Step s words) (world p h) (known p h s)

    by : (effect : Effect) → Ends (plan_of p s).actions k (moved_by (deed_asked p effect) (drawn p h + 1) (standing_of p h s))
    by Nothing = ends_same (plan_of p s).actions (known p h s) k (standing_of p h s) (standing_of p h s) refl refl refl was
    by (Token token) = ends_same (plan_of p s).actions (known p h s) k (standing_of p h s) (standing_of p h s) refl refl refl was
    by (Pixels op) = ends_same (plan_of p s).actions (known p h s) k (standing_of p h s) (standing_of p h s) refl refl refl was
    by (Results write) = ends_same (plan_of p s).actions (known p h s) k (standing_of p h s) (standing_of p h s) refl refl refl was
    by (Release r) = ends_same (plan_of p s).actions (known p h s) k (standing_of p h s) _ refl refl refl was
    by (Wait t r) = ends_same (plan_of p s).actions (known p h s) k (standing_of p h s) _ refl refl refl was
    by (WaitName name r) = ends_same (plan_of p s).actions (known p h s) k (standing_of p h s) _ refl refl refl was
ends_own p h (Finish s n) legal o was = ends_same (plan_of p s).actions (known p h s) _ (standing_of p h s) _ refl refl refl was
ends_own p h (Lost s (Error error) words) legal o was = not_closed _ _ _ (open_parts (standing_of p h s).lost (standing_of p h s).closed (left_open p h s legal o.rule_4).0).1
ends_own p h (Lost s Memory words) legal o was = not_closed _ _ _ (open_parts (standing_of p h s).lost (standing_of p h s).closed o.rule_11.0.stays).1
ends_own p h (Close s) legal o was =
    record { all = λ c. o.rule_12.ordered; kept = λ c. (open_parts (standing_of p h s).lost (standing_of p h s).closed o.rule_12.still_open.stays).0 }

pub ends_at : (p : PlansData) (h : List Event) (s : ℕ) → IsLegal p h → EndsAt p h s
ends_at p [] s legal = not_closed (plan_of p s).actions (known p [] s) (standing_of p [] s) (ap (λ (g : List sync.SyncEvent). (sync.standing g s).closed) (sync_none p))
ends_at p (e ∷ h) s legal = by (λ t. ends_at p h t legal.1) (eqb (stream_in e) s) refl
  where
    own : EndsAt p h (stream_in e) → EndsAt p (e ∷ h) (stream_in e)
    own was =
        subst (λ (k : Known). Ends (plan_of p (stream_in e)).actions k (standing_of p (e ∷ h) (stream_in e))) (sym (known_own p e h))
        (subst (Ends (plan_of p (stream_in e)).actions (known_after p e (world p h) (known p h (stream_in e)))) (sym (standing_own p e h)) (ends_own p h e legal.1 legal.0 was))

    by : ((t : ℕ) → EndsAt p h t) → (b : Bool) → eqb (stream_in e) s ≡ b → EndsAt p (e ∷ h) s
    by was true q = subst (EndsAt p (e ∷ h)) (eqb-true (stream_in e) s q) (own (was (stream_in e)))
    by was false q =
        subst (λ (k : Known). Ends (plan_of p s).actions k (standing_of p (e ∷ h) s)) (sym (known_other p e h s q))
        (subst (Ends (plan_of p s).actions (known p h s)) (sym (standing_other p e h s q)) (was s))

-- a closed stream has all its flushes ordered
pub closed_ordered : (p : PlansData) (h : List Event) (s : ℕ) → IsLegal p h → (standing_of p h s).closed ≡ true → (known p h s).ordered ≡ flushes (plan_of p s).actions
closed_ordered p h s legal closed = (ends_at p h s legal).all closed

-- and is not lost
pub closed_kept : (p : PlansData) (h : List Event) (s : ℕ) → IsLegal p h → (standing_of p h s).closed ≡ true → (standing_of p h s).lost ≡ false
closed_kept p h s legal closed = (ends_at p h s legal).kept closed

-- a lost stream is not closed
pub lost_kept : (p : PlansData) (h : List Event) (s : ℕ) → IsLegal p h → (standing_of p h s).lost ≡ true → (standing_of p h s).closed ≡ false
lost_kept p h s legal lost = by (standing_of p h s).closed refl
  where
    by : (b : Bool) → (standing_of p h s).closed ≡ b → b ≡ false
    by true q = let off = closed_kept p h s legal q in absurd (cc)
    by false q = refl

-- a stream that is not lost and has a flush without an order is open
pub next_open : (p : PlansData) (h : List Event) (s c : ℕ) → IsLegal p h → slice_get (flush_places (plan_of p s).actions) (known p h s).ordered ≡ Some c → (standing_of p h s).lost ≡ false → is_open (standing_of p h s) ≡ true
next_open p h s c legal next kept = and_from _ _ (not_from_false _ kept) (not_from_false _ (by (standing_of p h s).closed refl))
  where
    by : (b : Bool) → (standing_of p h s).closed ≡ b → b ≡ false
    by true q =
        let all = closed_ordered p h s legal q in
        let less = flush_of_place (plan_of p s).actions (known p h s).ordered c next in
        absurd (omega (arith, all, less))
    by false q = refl
