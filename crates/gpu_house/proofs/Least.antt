-- The stream with the least unprocessed number of all, and that no wait leads back.
use Rattle.std.proofs.Common.{◌≡◌, ◌⊎◌, inl, inr, ⊎_elim, ℕ, suc, ◌≤◌, ◌<◌, eqb, Bool, true, false, not, ◌&&◌, List, [], ◌∷◌, length, Some, IsSome, refl, sym, ap, subst, ◌∙◌, arith}
use Rattle.std.specs.Prelude.{is_some, All, map, ◌-◌, slice_index_or}
use Rattle.std.proofs.lemmas.Bool.{not_from_false, and_right, ne_eqb}
use Rattle.std.proofs.lemmas.Bool.Decides.{nat_tests}
use Rattle.std.proofs.lemmas.List.Folds.{list_any_none}
use Rattle.std.proofs.lemmas.List.Elements.{All-nil, All-cons, All-head, All-weaker, All-map, All-contains}
use Rattle.gpu_plan.specs.Plans.{PlansData}
use Rattle.sync_core.specs.declared.wait.Number.{Number}
use Rattle.sync_core.specs.declared.wait.Wait.{Wait}
use Rattle.sync_core.specs.Standing.{IsKnown, first_order, front_of}
use Rattle.sync_core.specs.Pending.{is_blocked, has_wait_of}
use Rattle.sync_core.specs.Laws.{Rank}
use Rattle.sync_core.proofs.Numbers.{Rises, left_rises}
use Rattle.gpu_journal.specs.declared.event.Event.{Event}
use Rattle.gpu_journal.specs.Waits.{sync_of, standing_of, left_of, front, pending_in}
use Rattle.gpu_journal.specs.Legal.{IsLegal}
use Rattle.gpu_journal.proofs.Worlds.{known_of_left}
use Rattle.serial_laws.specs.Going.{IsIdle}
use Rattle.serial_laws.proofs.Least.{Found, Empty, least_front}
use Rattle.serial_laws.specs.Runs.{MayGoOn}
use Rattle.serial_laws.proofs.Fronts.{left_open}
use Rattle.house_core.specs.Core.{CoreData, out_at, is_home}
use Rattle.house_core.specs.Desks.{Out, desk_at, no_desk}
use Rattle.house_core.specs.Invariant.{Parts, IsCore, DeskFits}
use Rattle.house_core.proofs.Rows.{desk_there, out_at_desk}
use Rattle.house_core.proofs.Held.{core_legal}
use Rattle.sync_core.proofs.Rows.{position_of}
use Rattle.gpu_house.specs.Waiting.{HaveTargets}
use Rattle.gpu_house.specs.Stuck.{IsLeastOf, CanGo, IsNotStuck}
use Rattle.gpu_house.specs.Laws.{LeastRuns, NoWayBack}

-- ---- waits

-- a number below which no stream has one is not above the first of any
above : (m : ℕ) (xs : List Number) (k : ℕ) → first_order xs ≡ Some k → All (λ j. m ≤ j) (map (λ (x : Number). x.order) xs) → m ≤ k
above m [] k e all = absurd (cc)
above m (x ∷ xs) k e all = let is : x.order ≡ k = cc in subst (λ (j : ℕ). m ≤ j) is (All-head (λ j. m ≤ j) x.order (map (λ (y : Number). y.order) xs) all)

pub least_runs : LeastRuns
least_runs p h s n targets is = runs (left_of p h s) is.first free
  where
    other : (w : Wait) → Rank (length p.plans) (sync_of p h) w → (eqb w.stream s && eqb w.order n) ≡ false
    other w rank =
        let low : n ≤ rank.named.0 = above n (standing_of p h w.target).left rank.named.0 rank.named.1 (is.least w.target) in
        let lower = rank.named.2 in
        and_right (eqb w.stream s) (eqb w.order n) (ne_eqb w.order n (λ same. absurd (omega arith)))

    free : has_wait_of s n (pending_in p h) ≡ false
    free =
        list_any_none (λ (w : Wait). eqb w.stream s && eqb w.order n) (pending_in p h)
        (All-weaker (Rank (length p.plans) (sync_of p h)) (λ (w : Wait). (eqb w.stream s && eqb w.order n) ≡ false) other (pending_in p h) targets)

    runs : (xs : List Number) → first_order xs ≡ Some n → has_wait_of s n (pending_in p h) ≡ false → (is_some (first_order xs) && not (is_blocked s xs (pending_in p h))) ≡ true
    runs [] e none = absurd (cc)
    runs (x ∷ xs) e none =
        let same : n ≡ x.order = cc in
        not_from_false (has_wait_of s x.order (pending_in p h)) (subst (λ (k : ℕ). has_wait_of s k (pending_in p h) ≡ false) same none)

pub no_way_back : NoWayBack
no_way_back p h w path none pending leads back =
    let lower : w.order < w.order = All-contains (λ (v : Wait). v.order < w.order) path w (none w path pending leads) back in
    absurd (omega (arith, lower))

-- ---- the least number of all

first_is : (xs : List Number) → 0 < length xs → first_order xs ≡ Some (front_of xs)
first_is [] some = absurd (omega arith)
first_is (x ∷ xs) some = refl

has_first : (xs : List Number) → 0 < length xs → IsSome (first_order xs)
has_first [] some = absurd (omega arith)
has_first (x ∷ xs) some = refl

-- the first of numbers that rise is the least
first_least : (m : ℕ) (xs : List Number) → Rises xs → (0 < length xs → m ≤ front_of xs) → All (λ (x : Number). m ≤ x.order) xs
first_least m [] up low = All-nil (λ (x : Number). m ≤ x.order)
first_least m (x ∷ xs) up low =
    let least : m ≤ x.order = low (omega arith) in
    All-cons (λ (y : Number). m ≤ y.order) x xs least (All-weaker (λ (y : Number). x.order < y.order) (λ (y : Number). m ≤ y.order) (λ y lt. omega arith) xs up.0)

least_found : (p : PlansData) (h : List Event) → IsLegal p h → (f : Found (left_of p h) (length p.plans)) → IsLeastOf p h f.0 (front p h f.0)
least_found p h legal f = record {
  known = (f.1, f.2);
  first = first_is (left_of p h f.0) f.3;
  least = λ t.
      All-map (λ k. front p h f.0 ≤ k) (λ (x : Number). x.order) (left_of p h t)
      (first_least (front p h f.0) (left_of p h t) (left_rises (sync_of p h) t)
      (λ some. let known = known_of_left p h t legal (has_first (left_of p h t) some) in f.4 t known.0 known.1 some));
}

-- no stream of a script has a number, so none has
none_found : (p : PlansData) (h : List Event) → IsLegal p h → Empty (left_of p h) (length p.plans) → IsIdle p h
none_found p h legal none t = by (left_of p h t) refl
  where
    by : (xs : List Number) → left_of p h t ≡ xs → xs ≡ []
    by [] e = refl
    by (x ∷ xs) e =
        let many : length (left_of p h t) ≡ suc (length xs) = ap length e in
        let known = known_of_left p h t legal (has_first (left_of p h t) (omega (arith, many))) in
        let nothing = none t known.0 known.1 in
        absurd (omega (arith, nothing, many))

-- ---- the run of its stream

-- a run that is out may go on
out_goes_on : (core : CoreData) (s : ℕ) → IsCore core → IsKnown (length core.plans.plans) s → 0 < (out_at core.outs s).order → MayGoOn core.plans core.past s (out_at core.outs s).order (out_at core.outs s).paused
out_goes_on core s is known =
    subst (λ (v : CoreData). IsKnown (length v.plans.plans) s → 0 < (out_at v.outs s).order → MayGoOn v.plans v.past s (out_at v.outs s).order (out_at v.outs s).paused) is.shown
    (λ known some. let desk = desk_fits known in subst (λ (out : Out). 0 < out.order → MayGoOn c.plans c.past s out.order out.paused) (sym (out_at_desk c.desks s)) desk.runs some) known
  where
    c : Parts
    c = is.parts

    desk_fits : IsKnown (length c.plans.plans) s → DeskFits c.plans c.past s (desk_at c.desks s)
    desk_fits known =
        let there : IsKnown (length c.desks) s = subst (λ (n : ℕ). IsKnown n s) (sym is.kept.many.desks) known in
        let at = position_of (length c.desks) s there in
        subst (DeskFits c.plans c.past s) (desk_there c.desks s no_desk there) (subst (λ (t : ℕ). DeskFits c.plans c.past t (slice_index_or c.desks (s - 1) no_desk)) at.0 (is.kept.states (s - 1) no_desk at.1))

-- the run of a stream with an unprocessed number that is out is of its first number
out_first : (core : CoreData) (s n : ℕ) → IsCore core → IsKnown (length core.plans.plans) s → first_order (left_of core.plans core.past s) ≡ Some n → (is_home core.outs s ≡ true) ⊎ ((out_at core.outs s).order ≡ n)
out_first core s n is known first = by (is_home core.outs s) refl
  where
    by : (home : Bool) → is_home core.outs s ≡ home → (is_home core.outs s ≡ true) ⊎ ((out_at core.outs s).order ≡ n)
    by true e = inl e
    by false e =
        let away : eqb (out_at core.outs s).order 0 ≡ false = e in
        let some : 0 < (out_at core.outs s).order = grind (arith, nat_tests) in
        let open' = (left_open core.plans core.past s (core_legal core is) (subst IsSome (sym first) refl)).0 in
        let same : Some n ≡ Some (out_at core.outs s).order = sym first ∙ (out_goes_on core s is known some).first open' in
        inr (cc)

pub not_stuck : (p : PlansData) (core : CoreData) → IsCore core → core.plans ≡ p → HaveTargets p core.past → IsNotStuck p core.past core.outs
not_stuck p core is plans targets =
    subst (λ (p : PlansData). HaveTargets p core.past → IsNotStuck p core.past core.outs) plans
    (λ targets. ⊎_elim (λ none. inl (none_found core.plans core.past (core_legal core is) none)) (λ f. inr (found targets f)) (least_front (left_of core.plans core.past) (length core.plans.plans))) targets
  where
    found : HaveTargets core.plans core.past → (f : Found (left_of core.plans core.past) (length core.plans.plans)) → (s : ℕ) × (n : ℕ) × IsLeastOf core.plans core.past s n × CanGo core.plans core.past core.outs s n
    found targets f =
        let least = least_found core.plans core.past (core_legal core is) f in (
          f.0,
          front core.plans core.past f.0,
          least,
          record {
            runnable = least_runs core.plans core.past f.0 (front core.plans core.past f.0) targets least;
            place = out_first core f.0 (front core.plans core.past f.0) is least.known least.first;
          },
        )
