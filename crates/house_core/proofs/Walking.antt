-- A walk over a client's actions goes on, and what it found still holds.
use Rattle.std.proofs.Common.{◌≡◌, ◌↔◌, ℕ, ◌+◌, ◌<◌, ◌≤◌, true, false, Option, Some, List, [], ◌∷◌, length, take, sym, ap, ◌∙◌, arith, IsTrue}
use Rattle.std.specs.Prelude.{slice_get}
use Rattle.std.proofs.Math.Nat.{le-max_right}
use Rattle.std.proofs.lemmas.Option.{slice_get_within}
use Rattle.gpu_plan.specs.declared.plan.Action.{Action}
use Rattle.gpu_plan.specs.declared.plan.Action.TheVariants.{Close}
use Rattle.gpu_plan.specs.Passes.{flush_count, flushes, passes, passes_behind, passes_if_there, bound}
use Rattle.gpu_plan.proofs.Passing.{flushes_one_further, flushes_within, bound_one_further, passes_below_bound, bound_grows_by_greatest}
use Rattle.stream_state.specs.declared.effect.Effect.{Effect}
use Rattle.stream_state.specs.declared.effect.Effect.TheVariants.{Nothing, Token, Release, Wait, WaitName, Pixels, Results}
use Rattle.gpu_journal.specs.World.{greatest_after}
use Rattle.house_core.specs.declared.walk.Walk.{Walk}
use Rattle.house_core.specs.Walks.{HasWalked}

-- where more is finished, or a greater token is set, a client comes no less far
pub walked_on : (actions : List Action) (f f' g g' : ℕ) (walk : Walk) → f ≤ f' → g ≤ g' → HasWalked actions f g walk → HasWalked actions f' g' walk
walked_on actions f f' g g' walk more greater was = record {
  below = let grows = bound_grows_by_greatest actions f f' g g' more greater in let below = was.below in omega arith;
  behind = was.behind;
}

pub greatest_grows : (effect : Effect) (g : ℕ) → g ≤ greatest_after effect g
greatest_grows Nothing g = omega arith
greatest_grows (Token token) g = le-max_right token g
greatest_grows (Release r) g = omega arith
greatest_grows (Wait t r) g = omega arith
greatest_grows (WaitName name r) g = omega arith
greatest_grows (Pixels op) g = omega arith
greatest_grows (Results write) g = omega arith

module _ (actions : List Action) (finished greatest : ℕ) (walk : Walk) (was : HasWalked actions finished greatest walk) where
  pub few_behind : walk.behind ≤ walk.upto
  few_behind = let few = flushes_within actions walk.upto in let b = was.behind in omega arith

  module _ (action : Action) (at : slice_get actions walk.upto ≡ Some action) where
    here : passes_behind walk.behind finished (greatest ∷ []) action ≡ passes actions walk.upto finished (greatest ∷ [])
    here =
        ap (λ n. passes_behind n finished (greatest ∷ []) action) was.behind
        ∙ ap (λ (o : Option Action). passes_if_there (flushes (take walk.upto actions)) finished (greatest ∷ []) o) (sym at)

    -- an action that passes is after the walk
    pub walked_more : (now : Walk) → passes_behind walk.behind finished (greatest ∷ []) action ≡ true → now.upto ≡ walk.upto + 1 → now.behind ≡ walk.behind + flush_count action → HasWalked actions finished greatest now
    walked_more now pass next more = record {
      below = let further = bound_one_further actions walk.upto finished (greatest ∷ []) was.below (sym here ∙ pass) in omega arith;
      behind = more ∙ ap (λ n. n + flush_count action) was.behind ∙ sym (flushes_one_further actions walk.upto action at) ∙ ap (λ n. flushes (take n actions)) (sym next);
    }

    -- one that does not pass is where the client comes to
    pub stops_here : passes_behind walk.behind finished (greatest ∷ []) action ≡ false → slice_get actions (bound actions finished (greatest ∷ [])) ≡ Some action
    stops_here stop =
        let not_here : passes actions walk.upto finished (greatest ∷ []) ≡ false = sym here ∙ stop in
        let not_further : walk.upto < bound actions finished (greatest ∷ []) → ⊥ = λ lt. let p = passes_below_bound actions walk.upto finished (greatest ∷ []) lt in cc in
        let below = was.below in
        let same : bound actions finished (greatest ∷ []) ≡ walk.upto = omega arith in
        ap (slice_get actions) same ∙ at

    pub closes_here : (close : _) → passes_behind walk.behind finished (greatest ∷ []) action ≡ false → (IsTrue close ↔ (action ≡ Close)) → IsTrue close ↔ (slice_get actions (bound actions finished (greatest ∷ [])) ≡ Some Close)
    closes_here close stop is = (
      λ yes. stops_here stop ∙ ap Some (is.0 yes),
      λ some. is.1 (let there = stops_here stop in let both : Some action ≡ Some Close = sym there ∙ some in cc),
    )

  -- after the last action there is no Close
  pub never_closes : length actions ≤ walk.upto → IsTrue false ↔ (slice_get actions (bound actions finished (greatest ∷ [])) ≡ Some Close)
  never_closes far = (
    λ yes. absurd (cc),
    λ some. let lt = slice_get_within actions (bound actions finished (greatest ∷ [])) Close some in let below = was.below in absurd (omega arith),
  )
