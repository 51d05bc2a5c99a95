-- What a client's pass keeps, before a step and after it.
use Rattle.std.proofs.Common.{◌≡◌, ℕ, ◌+◌, ◌<◌, true, false, nat_lt, get_or, List, length, take, Option, None, Some, refl, sym, ap, ◌∙◌, subst, arith}
use Rattle.std.specs.Prelude.{slice_get, IsTrue}
use Rattle.std.specs.Option.{IsSomeAnd}
use Rattle.std.proofs.lemmas.Option.{slice_get_within, slice_get_past, slice_get_read}
use Rattle.std.proofs.lemmas.Bool.Decides.{nat_tests}
use Rattle.atomic_table.specs.Seated.{TableId}
use Rattle.gpu_plan.specs.declared.plan.Action.{Action}
use Rattle.gpu_plan.specs.declared.plan.Action.TheVariants.{Put, Flush, Finish, Token, Close}
use Rattle.gpu_plan.specs.Plans.{PlanData, is_flush}
use Rattle.gpu_plan.specs.Passes.{flushes, flush_count}
use Rattle.gpu_plan.proofs.Passing.{flushes_one_further}
use Rattle.shm_words.specs.declared.view.ClientView.{ClientView}
use Rattle.shm_words.specs.declared.view.View.TheVariants.{Client}
use Rattle.shm_words.specs.Views.{WordSeat, client_of, client_next, flushes_of}
use Rattle.shm_words.specs.Seen.{ClientKeeps, IsClient}
use Rattle.shm_words.specs.Acts.{is_await}

pub client_still : (m m' : WordSeat) (c : ClientView) → IsClient m → m' ≡ (Client c, m.1) → IsClient m'
client_still m m' c was is = let c_is : client_of m'.0 ≡ c = ap (λ (x : WordSeat). client_of x.0) is in is ∙ (λ i. (Client (sym c_is i), (was i).1))

-- an await is no flush
pub await_counts : (a : Action) → is_await a ≡ true → flush_count a ≡ 0
await_counts (Put place value) e = refl
await_counts (Flush put fences) e = absurd (cc)
await_counts Finish e = refl
await_counts (Token token) e = refl
await_counts Close e = refl

module _ (plan : PlanData) (done f : ℕ) (t : TableId) (m : WordSeat) (kept : ClientKeeps plan done f t m) where
  pub next_there : (a : Action) → slice_get plan.actions done ≡ Some a → client_next (client_of m.0) ≡ Some a
  next_there a next = (λ i. slice_get (kept.plan_is i).actions (kept.done_is i)) ∙ next

  pub before_there : flushes_of (client_of m.0) ≡ f
  before_there = (λ i. flushes (take (kept.done_is i) (kept.plan_is i).actions)) ∙ sym kept.before_is

  -- one action more is done
  pub moved : (a : Action) (f' : ℕ) (t' : TableId) (m' : WordSeat) (c : ClientView) → slice_get plan.actions done ≡ Some a → f' ≡ f + flush_count a → t' ≡ t → m' ≡ (Client c, m.1) → c.plan ≡ (client_of m.0).plan → c.done ≡ (client_of m.0).done + 1
      → ClientKeeps plan (done + 1) f' t' m'
  moved a f' t' m' c next count same is same_plan one_more =
      let c_is : client_of m'.0 ≡ c = ap (λ (x : WordSeat). client_of x.0) is in
      let inside = slice_get_within plan.actions done a next in record {
        is = client_still m m' c kept.is is;
        plan_is = ap (λ (x : ClientView). x.plan) c_is ∙ same_plan ∙ kept.plan_is;
        done_is = ap (λ (x : ClientView). x.done) c_is ∙ one_more ∙ ap (λ (n : ℕ). n + 1) kept.done_is;
        wide = ap (λ (x : TableId). x.words) same ∙ kept.wide;
        lawful = kept.lawful;
        before_is = count ∙ ap (λ (n : ℕ). n + flush_count a) kept.before_is ∙ sym (flushes_one_further plan.actions done a next);
        within = omega arith;
      }

-- a client that stands at a flush has it next
flush_is : (o : Option Action) → IsSomeAnd o (λ action. IsTrue (is_flush action)) → (put : ℕ) × (fences : List (ℕ × ℕ)) × (o ≡ Some (Flush put fences))
flush_is None h = absurd h
flush_is (Some (Put place value)) h = absurd (cc)
flush_is (Some (Flush put fences)) h = (put, fences, refl)
flush_is (Some Finish) h = absurd (cc)
flush_is (Some (Token token)) h = absurd (cc)
flush_is (Some Close) h = absurd (cc)

pub flush_there : (actions : List Action) (done : ℕ) → IsSomeAnd (slice_get actions done) (λ action. IsTrue (is_flush action)) → (put : ℕ) × (fences : List (ℕ × ℕ)) × (slice_get actions done ≡ Some (Flush put fences))
flush_there actions done h = flush_is (slice_get actions done) h

pub stands_at_flush : (actions : List Action) (done put : ℕ) (fences : List (ℕ × ℕ)) → slice_get actions done ≡ Some (Flush put fences) → IsSomeAnd (slice_get actions done) (λ action. IsTrue (is_flush action))
stands_at_flush actions done put fences at = subst (λ (o : Option Action). IsSomeAnd o (λ action. IsTrue (is_flush action))) (sym at) refl

-- after the last action none is next
pub none_left : (actions : List Action) (done : ℕ) → nat_lt done (length actions) ≡ false → slice_get actions done ≡ None
none_left actions done h = slice_get_past actions done (grind (arith, nat_tests))

-- the action that was read is next
pub next_found : (seen actions : List Action) (done : ℕ) (found action : Action) → seen ≡ actions → done < length seen → ((d : Action) → found ≡ get_or seen done d) → found ≡ action → slice_get actions done ≡ Some action
next_found seen actions done found action all within read is = ap (λ (xs : List Action). slice_get xs done) (sym all) ∙ slice_get_read seen (length seen) done found refl within (read found) ∙ ap Some is
