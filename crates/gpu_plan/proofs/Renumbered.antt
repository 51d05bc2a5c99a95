-- Renumbered plans are as lawful as they were.
use Rattle.std.proofs.Common.{◌≡◌, ℕ, ◌+◌, ◌-◌, ◌<◌, Bool, cond, List, [], ◌∷◌, ◌++◌, length, map, take, drop, get_or, option_map, Option, refl, sym, ap, ◌∙◌, arith}
use Rattle.std.specs.List.{All, list_all, count_by, sum_by}
use Rattle.std.proofs.lemmas.List.{length-map, take-map, take_at, take_more, map-append}
use Rattle.std.proofs.lemmas.List.Sums.{sum_by-cons}
use Rattle.std.proofs.lemmas.List.Folds.{list_all-map}
use Rattle.std.proofs.lemmas.List.Elements.{All-map, All-weaker}
use Rattle.std.proofs.lemmas.Option.{slice_get-map}
use Rattle.gpu_cmd.specs.declared.areas.Areas.{Areas}
use Rattle.gpu_cmd.specs.declared.areas.Span.{Span}
use Rattle.gpu_cmd.specs.Lawful.{places_of}
use Rattle.gpu_plan.specs.declared.plan.Action.{Action}
use Rattle.gpu_plan.specs.declared.plan.Action.TheVariants.{Put, Flush, Finish, Token, Close}
use Rattle.gpu_plan.specs.Plans.{PlanData, IsWithin, HasFewFences, IsLawfulPlan, IsLawfulScript, IsDump, RiseFrom, stays_open, is_flush}
use Rattle.gpu_plan.specs.Named.{names_in}
use Rattle.gpu_plan.specs.Renumbered.{renumbered_fence, renumbered_note, renumbered_action, renumbered_plan}
use Rattle.gpu_plan.specs.Fencing.{fenced_from}
use Rattle.gpu_plan.proofs.Fencing.{moved_here}

-- what was written back into a whole list is the list that was lent, changed
pub written_back : {X : Type 0} (f : X → X) (n : ℕ) (old lent new : List X) → lent ≡ old → length lent ≡ n → new ≡ map f lent → take n (new ++ drop (length new) old) ≡ map f old
written_back f n old lent new same long is =
    let as_long : length new ≡ n = (let l = length-map lent f in let e = ap length is in omega arith) in
    take_at new (drop (length new) old) n as_long ∙ is ∙ ap (map f) same

-- one more number after those of the names before
pub numbers_go : {X : Type 0} (f : X → ℕ) (names : List X) (i : ℕ) (d : X) (numbers new : List ℕ) (number : ℕ) → numbers ≡ 0 ∷ map f (take i names) → i < length names → number ≡ f (get_or names i d) → new ≡ numbers ++ number ∷ [] → new ≡ 0 ∷ map f (take (i + 1) names)
numbers_go f names i d numbers new number before less is added =
    rw (added, before, is) (ap (λ ns. 0 ∷ ns) (sym (ap (map f) (take_more names i d less) ∙ map-append f (take i names) (get_or names i d ∷ []))))

-- a sum over what was changed, where no summand was
sum_same : {X : Type 0} (f : X → ℕ) (g : X → X) → ((x : X) → f (g x) ≡ f x) → (xs : List X) → sum_by f (map g xs) ≡ sum_by f xs
sum_same f g same [] = refl
sum_same f g same (x ∷ xs) =
    let new = sum_by-cons f (g x) (map g xs) in
    let old = sum_by-cons f x xs in
    let here = same x in
    let rest = sum_same f g same xs in
    omega arith

module _ (numbers : List ℕ) where
  stays_within : (places : ℕ) (action : Action) → IsWithin places action → IsWithin places (renumbered_action numbers action)
  stays_within places (Put place value) h = h
  stays_within places (Flush put fences) h = h
  stays_within places Finish h = h
  stays_within places (Token token) h = h
  stays_within places Close h = h

  stays_fenced : (action : Action) → HasFewFences action → HasFewFences (renumbered_action numbers action)
  stays_fenced (Put place value) h = h
  stays_fenced (Flush put fences) h = let same = length-map fences (renumbered_fence numbers) in omega arith
  stays_fenced Finish h = h
  stays_fenced (Token token) h = h
  stays_fenced Close h = h

  pub open_same : (action : Action) → stays_open (renumbered_action numbers action) ≡ stays_open action
  open_same (Put place value) = refl
  open_same (Flush put fences) = refl
  open_same Finish = refl
  open_same (Token token) = refl
  open_same Close = refl

  flush_same : (action : Action) → is_flush (renumbered_action numbers action) ≡ is_flush action
  flush_same (Put place value) = refl
  flush_same (Flush put fences) = refl
  flush_same Finish = refl
  flush_same (Token token) = refl
  flush_same Close = refl

  pub all_open : (actions : List Action) → list_all stays_open (map (renumbered_action numbers) actions) ≡ list_all stays_open actions
  all_open actions = list_all-map stays_open (renumbered_action numbers) actions ∙ ap (λ (p : Action → Bool). list_all p actions) (λ i action. open_same action i)

  lawful_actions : (areas : Areas) (actions : List Action) → IsLawfulPlan areas actions → IsLawfulPlan areas (map (renumbered_action numbers) actions)
  lawful_actions areas actions h =
      let long = length-map actions (renumbered_action numbers) in
      record {
        laid_out = h.laid_out;
        within = All-map (IsWithin (places_of areas)) (renumbered_action numbers) actions (All-weaker (IsWithin (places_of areas)) (λ action. IsWithin (places_of areas) (renumbered_action numbers action)) (stays_within (places_of areas)) actions h.within);
        fenced = All-map HasFewFences (renumbered_action numbers) actions (All-weaker HasFewFences (λ action. HasFewFences (renumbered_action numbers action)) stays_fenced actions h.fenced);
        closes_last = ap (λ n. list_all stays_open (take (n - 1) (map (renumbered_action numbers) actions))) long ∙ ap (list_all stays_open) (take-map (renumbered_action numbers) (length actions - 1) actions) ∙ all_open (take (length actions - 1) actions) ∙ h.closes_last;
        few = let few = h.few in omega arith;
      }

  dumps_same : (results : List (Option Span)) (actions : List Action) (dumps : List (ℕ × ℕ)) → All (IsDump results actions) dumps → All (IsDump results (map (renumbered_action numbers) actions)) dumps
  dumps_same results actions dumps h =
      All-weaker (IsDump results actions) (IsDump results (map (renumbered_action numbers) actions))
      (λ dump is. (slice_get-map (renumbered_action numbers) actions dump.0 ∙ ap (option_map (renumbered_action numbers)) is.0, is.1)) dumps h

  -- the invariant of a plan
  pub lawful_plan : (areas : Areas) (old new : List Action) (dumps : List (ℕ × ℕ)) (fenced moved : List (ℕ × List (ℕ × ℕ))) → new ≡ map (renumbered_action numbers) old → moved ≡ map (renumbered_note numbers) fenced
      → IsLawfulPlan areas old × All (IsDump areas.results old) dumps × RiseFrom 0 dumps × (fenced ≡ fenced_from 0 old) → IsLawfulPlan areas new × All (IsDump areas.results new) dumps × RiseFrom 0 dumps × (moved ≡ fenced_from 0 new)
  lawful_plan areas old new dumps fenced moved is noted h =
      rw is (lawful_actions areas old h.0, dumps_same areas.results old dumps h.1, h.2, moved_here numbers moved old (noted ∙ ap (map (renumbered_note numbers)) h.3))

  -- ---- whole scripts

  count_same : (plan : PlanData) → count_by is_flush (renumbered_plan numbers plan).actions ≡ count_by is_flush plan.actions
  count_same plan = sum_same (λ action. cond (is_flush action) 1 0) (renumbered_action numbers) (λ action. ap (λ b. cond b 1 0) (flush_same action)) plan.actions

  pub lawful_script : (plans : List PlanData) → IsLawfulScript plans → IsLawfulScript (map (renumbered_plan numbers) plans)
  lawful_script plans h = record {
    streams = let long = length-map plans (renumbered_plan numbers) in let few = h.streams in omega arith;
    actions = rw (sum_same (λ (plan : PlanData). length plan.actions) (renumbered_plan numbers) (λ plan. length-map plan.actions (renumbered_action numbers)) plans) h.actions;
    flushes = rw (sum_same (λ (plan : PlanData). count_by is_flush plan.actions) (renumbered_plan numbers) count_same plans) h.flushes;
  }

  pub names_same : (plans : List PlanData) → names_in (map (renumbered_plan numbers) plans) ≡ names_in plans
  names_same [] = refl
  names_same (plan ∷ plans) = ap (λ names. plan.name ∷ names) (names_same plans)
