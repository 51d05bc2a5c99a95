-- The marks of a house after an event: the endings that were there come first, and there is room for those that may come.
use Rattle.std.proofs.Common.{◌≡◌, ℕ, suc, ◌+◌, ◌≤◌, Bool, true, false, cond, Option, Some, None, List, [], ◌∷◌, ◌++◌, length, take, drop, map, refl, sym, ap, subst, ◌∙◌, arith, length-append}
use Rattle.std.specs.Prelude.{filter, nat_lt, slice_get}
use Rattle.std.specs.List.{All, position_or_len}
use Rattle.std.proofs.lemmas.List.{length-map, take-append-drop}
use Rattle.std.proofs.lemmas.List.Elements.{filter-append}
use Rattle.std.proofs.lemmas.List.Sums.{length-filter, count_by-le-length}
use Rattle.std.proofs.lemmas.Option.{slice_get_within, get_or_from_slice_get}
use Rattle.std.proofs.Math.Seq.{take-append_seam, take-length}
use Rattle.sync_core.specs.declared.wait.Wait.{Wait}
use Rattle.sync_core.specs.Standing.{Standing, front_of, IsKnown}
use Rattle.sync_core.specs.Events.{Deed, Ordered, Waited, Released, Finished, WasLost, WasClosed, SyncEvent, happened, orders, standing}
use Rattle.sync_core.specs.Pending.{is_kept, still, ends, ending_of, with_kept, placed, kept_fences, wait_of, pending, endings}
use Rattle.sync_core.proofs.Lists.{length-still_ends}
use Rattle.wait_hooks.specs.Marks.{Marks, mark}
use Rattle.gpu_plan.specs.declared.plan.Action.{Action}
use Rattle.gpu_plan.specs.declared.plan.Action.TheVariants as actions
use Rattle.gpu_plan.specs.Plans.{PlansData, plan_of, HasFewFences}
use Rattle.stream_state.specs.declared.effect.Effect.{Effect}
use Rattle.stream_state.specs.declared.effect.Effect.TheVariants.{Nothing, Token, Release, Wait as Waits, WaitName, Pixels, Results}
use Rattle.gpu_journal.specs.declared.event.Event.{Event}
use Rattle.gpu_journal.specs.declared.event.Event.TheVariants.{Order, Step}
use Rattle.gpu_journal.specs.World.{world, stream_in, asked_by}
use Rattle.gpu_journal.specs.Waits.{fences_in, deed, deed_asked, sync_of, pending_in, endings_in}
use Rattle.gpu_journal.proofs.Worlds.{sync_then}
use Rattle.serial_laws.specs.Scripts.{AreLawfulPlans}
use Rattle.serial_laws.proofs.Passed.{lawful_of}
use Rattle.house_core.specs.Core.{CoreData, Grows}
use Rattle.gpu_house.specs.Marks.{AreMarked, MayBeMarked}

-- ---- over sync events

-- how many waits a deed makes at most
abbrev makes : Deed → ℕ
makes (Ordered fences) = length fences
makes (Waited t r) = 1
makes (Released r) = 0
makes Finished = 0
makes WasLost = 0
makes WasClosed = 0

module _ {X : Type 0} (p : X → Bool) where
  -- the elements that pass a test are not more than all
  passing : (xs : List X) → length (filter p xs) ≤ length xs
  passing xs = subst (λ (n : ℕ). n ≤ length xs) (sym (length-filter p xs)) (count_by-le-length p xs)

  -- those of a list with more after it
  passing_more : (xs ys : List X) → length (filter p (xs ++ ys)) ≤ length (filter p xs) + length ys
  passing_more xs ys = let parts = ap length (filter-append p xs ys) ∙ length-append (filter p xs) (filter p ys) in let few = passing ys in omega (arith, parts, few)

  -- those of a list with one more within it
  passing_within : (before after : List X) (x : X) → length (filter p (before ++ x ∷ after)) ≤ length (filter p (before ++ after)) + 1
  passing_within before after x =
      let with_it = ap length (filter-append p before (x ∷ after)) ∙ length-append (filter p before) (filter p (x ∷ after)) in
      let without = ap length (filter-append p before after) ∙ length-append (filter p before) (filter p after) in
      let one = by (p x) in
      omega (arith, with_it, without, one)
    where
      by : (b : Bool) → length (cond b (x ∷ filter p after) (filter p after)) ≤ length (filter p after) + 1
      by true = omega arith
      by false = omega arith

-- the kept ones of some fences are not more than these
few_judged : (n : ℕ) (f : ℕ → Standing) (s m k : ℕ) (fences : List (ℕ × ℕ)) → length (kept_fences n f s m k fences) ≤ length fences
few_judged n f s m k [] = omega arith
few_judged n f s m k (x ∷ fences) = by (is_kept n f s m x.0 x.1) (few_judged n f s m (k + 1) fences)
  where
    by : (b : Bool) → length (kept_fences n f s m (k + 1) fences) ≤ length fences
        → length (cond b (record { stream = s; order = m; target = x.0; release = x.1; position = k } ∷ kept_fences n f s m (k + 1) fences) (kept_fences n f s m (k + 1) fences)) ≤ suc (length fences)
    by true le = omega arith
    by false le = omega arith

-- a deed adds no more waits than it makes
few_added : (test : Wait → Bool) (n s : ℕ) (d : Deed) (g : List SyncEvent) (ws : List Wait) → length (filter test (with_kept n s d g ws)) ≤ length (filter test ws) + makes d
few_added test n s (Ordered fences) g ws =
    let more = passing_more test ws (kept_fences n (standing g) s (orders g + 1) 0 fences) in
    let few = few_judged n (standing g) s (orders g + 1) 0 fences in
    omega (arith, more, few)
few_added test n s (Waited t r) g ws = by (is_kept n (standing g) s (front_of (standing g s).left) t r)
  where
    one : length (filter test (placed (wait_of (standing g s) s t r) ws)) ≤ length (filter test ws) + 1
    one =
        let v = wait_of (standing g s) s t r in
        let k = position_or_len (λ (u : Wait). nat_lt v.order u.order) ws in
        let whole = ap (λ (l : List Wait). length (filter test l)) (take-append-drop k ws) in
        let more = passing_within test (take k ws) (drop k ws) v in
        omega (arith, whole, more)

    by : (b : Bool) → length (filter test (cond b (placed (wait_of (standing g s) s t r) ws) ws)) ≤ length (filter test ws) + 1
    by true = one
    by false = omega arith
few_added test n s (Released r) g ws = omega arith
few_added test n s Finished g ws = omega arith
few_added test n s WasLost g ws = omega arith
few_added test n s WasClosed g ws = omega arith

-- the endings of a list begin with those of a shorter one, and the pending waits and the endings together grow by no more than what is made
pub record GrowsBy (n k : ℕ) (old new : List SyncEvent) : Type 0 where
  pub begins : take (length (endings n old)) (endings n new) ≡ endings n old
  pub few : length (endings n old) ≤ length (endings n new)
  pub room : length (endings n new) + length (pending n new) ≤ (length (endings n old) + length (pending n old)) + k

grows_event : (n : ℕ) (e : SyncEvent) (g : List SyncEvent) → GrowsBy n (makes e.1) g (e ∷ g)
grows_event n e g =
    let f = standing (e ∷ g) in
    let news = map (ending_of f) (filter (ends f) (pending n g)) in
    let all = length-append (endings n g) news in
    let parts = length-still_ends f (pending n g) in
    let more = few_added (still f) n e.0 e.1 g (pending n g) in
    record {
      begins = take-append_seam (endings n g) news;
      few = omega (arith, all);
      room = omega (arith, all, parts, more);
    }

grows_none : (n : ℕ) (g : List SyncEvent) → GrowsBy n 0 g g
grows_none n g = record { begins = take-length (endings n g); few = omega arith; room = omega arith }

-- how many waits come of what an event does
abbrev makes_by : Option Deed → ℕ
makes_by None = 0
makes_by (Some d) = makes d

grows_noted : (n s : ℕ) (d : Option Deed) (g : List SyncEvent) → GrowsBy n (makes_by d) g (happened s d g)
grows_noted n s None g = grows_none n g
grows_noted n s (Some d) g = grows_event n (s, d) g

-- ---- over a history

-- how many waits an event makes
abbrev pub waits_made : PlansData → Event → List Event → ℕ
waits_made p e h = makes_by (deed p e (world p h))

grows_history : (p : PlansData) (e : Event) (h : List Event) → GrowsBy (length p.plans) (waits_made p e h) (sync_of p h) (sync_of p (e ∷ h))
grows_history p e h =
    subst (λ (g : List SyncEvent). GrowsBy (length p.plans) (waits_made p e h) (sync_of p h) g) (sym (sync_then p e h)) (grows_noted (length p.plans) (stream_in e) (deed p e (world p h)) (sync_of p h))

-- a step makes at most one wait
pub step_makes : (p : PlansData) (h : List Event) (s : ℕ) (words : List (ℕ × ℕ)) → waits_made p (Step s words) h ≤ 1
step_makes p h s words = by (asked_by p s words (world p h))
  where
    by : (effect : Effect) → makes_by (deed_asked p effect) ≤ 1
    by Nothing = omega arith
    by (Token token) = omega arith
    by (Release r) = omega arith
    by (Waits t r) = omega arith
    by (WaitName name r) = omega arith
    by (Pixels op) = omega arith
    by (Results write) = omega arith

-- an order makes at most as many waits as a flush has fences
few_fences : (xs : List Action) (c : ℕ) → All HasFewFences xs → length (fences_in (slice_get xs c)) ≤ 16
few_fences xs c all = by (slice_get xs c) refl
  where
    of_action : (a : Action) → HasFewFences a → length (fences_in (Some a)) ≤ 16
    of_action (actions.Put place value) few = omega arith
    of_action (actions.Flush put fences) few = few
    of_action actions.Finish few = omega arith
    of_action (actions.Token token) few = omega arith
    of_action actions.Close few = omega arith

    by : (found : Option Action) → slice_get xs c ≡ found → length (fences_in found) ≤ 16
    by None e = omega arith
    by (Some a) e = of_action a (subst HasFewFences (get_or_from_slice_get xs c a a e) (all c a (slice_get_within xs c a e)))

pub order_makes : (p : PlansData) (h : List Event) (s n c : ℕ) → AreLawfulPlans p → IsKnown (length p.plans) s → waits_made p (Order s n c) h ≤ 16
order_makes p h s n c lawful known = few_fences (plan_of p s).actions c (lawful_of p s lawful known).fenced

-- ---- the marks

-- where the marks are all there and no event came, they may follow
pub may_stay : (p : PlansData) (base : ℕ) (h : List Event) (old new : Marks) → AreMarked p base h old → new.base ≡ old.base → new.marks ≡ old.marks → old.spare ≤ new.spare → MayBeMarked p base h new
may_stay p base h old new was based same spare =
    let all = same ∙ was.all in
    let count : length new.marks ≡ length (endings_in p h) = ap length all ∙ length-map (endings_in p h) (mark base) in
    let room = was.room in
    record {
      based = based ∙ was.based;
      so_far = all ∙ ap (map (mark base)) (sym (take-length (endings_in p h))) ∙ ap (λ (k : ℕ). map (mark base) (take k (endings_in p h))) (sym count);
      few = omega (arith, count);
      room = omega (arith, count, room, spare);
    }

-- after an event they may follow where there is room for the waits that it made
pub may_follow : (p : PlansData) (base : ℕ) (e : Event) (h : List Event) (old new : Marks) → AreMarked p base h old → new.base ≡ old.base → new.marks ≡ old.marks → length (pending_in p h) + waits_made p e h ≤ new.spare
    → MayBeMarked p base (e ∷ h) new
may_follow p base e h old new was based same spare =
    let grown = grows_history p e h in
    let all = same ∙ was.all in
    let count : length new.marks ≡ length (endings_in p h) = ap length all ∙ length-map (endings_in p h) (mark base) in
    record {
      based = based ∙ was.based;
      so_far = all ∙ ap (map (mark base)) (sym grown.begins) ∙ ap (λ (k : ℕ). map (mark base) (take k (endings_in p (e ∷ h)))) (sym count);
      few = (let few = grown.few in omega (arith, count, few));
      room = (let room = grown.room in omega (arith, count, room, spare));
    }

-- more room does no harm
pub marked_roomier : (p : PlansData) (base : ℕ) (h : List Event) (old new : Marks) → AreMarked p base h old → new.base ≡ old.base → new.marks ≡ old.marks → old.spare ≤ new.spare → AreMarked p base h new
marked_roomier p base h old new was based same spare = record { based = based ∙ was.based; all = same ∙ was.all; room = (let room = was.room in omega (arith, room, spare)) }

-- ---- a core that has one event more, or none

-- a core that has this event more lets them follow
pub grown_follow : (p : PlansData) (base : ℕ) (e : Event) (old new : CoreData) (was marks : Marks) → old.plans ≡ p → Grows old new e → AreMarked p base old.past was
    → marks.base ≡ was.base → marks.marks ≡ was.marks → length (pending_in p old.past) + waits_made p e old.past ≤ marks.spare → MayBeMarked new.plans marks.base new.past marks
grown_follow p base e old new was marks same grows all based kept spare =
    subst (λ (q : PlansData). MayBeMarked q marks.base new.past marks) (sym (grows.plans ∙ same))
    (subst (λ (h : List Event). MayBeMarked p marks.base h marks) (sym grows.past)
    (subst (λ (b : ℕ). MayBeMarked p b (e ∷ old.past) marks) (sym (based ∙ all.based)) (may_follow p base e old.past was marks all based kept spare)))

-- where the event makes no wait, there is room
pub grown_quietly : (p : PlansData) (base : ℕ) (e : Event) (old new : CoreData) (marks : Marks) → old.plans ≡ p → Grows old new e → AreMarked p base old.past marks → waits_made p e old.past ≡ 0 → MayBeMarked new.plans marks.base new.past marks
grown_quietly p base e old new marks same grows all none = grown_follow p base e old new marks marks same grows all refl refl (let room = all.room in omega (arith, none, room))

-- so does one that stays
pub stayed_follow : (p : PlansData) (base : ℕ) (old new : CoreData) (was marks : Marks) → old.plans ≡ p → new.plans ≡ old.plans → new.past ≡ old.past → AreMarked p base old.past was
    → marks.base ≡ was.base → marks.marks ≡ was.marks → was.spare ≤ marks.spare → MayBeMarked new.plans marks.base new.past marks
stayed_follow p base old new was marks same plans past all based kept spare =
    subst (λ (q : PlansData). MayBeMarked q marks.base new.past marks) (sym (plans ∙ same))
    (subst (λ (h : List Event). MayBeMarked p marks.base h marks) (sym past)
    (subst (λ (b : ℕ). MayBeMarked p b old.past marks) (sym (based ∙ all.based)) (may_stay p base old.past was marks all based kept spare)))

-- what follow leaves is what the house keeps
pub marked_again : (p plans : PlansData) (base from : ℕ) (h : List Event) (marks : Marks) → plans ≡ p → from ≡ base → AreMarked plans from h marks → AreMarked p base h marks
marked_again p plans base from h marks same based now = subst (λ (q : PlansData). AreMarked q base h marks) same (subst (λ (b : ℕ). AreMarked plans b h marks) based now)
