-- The next action of a client.
use Rattle.std.proofs.Common.{◌≡◌, ℕ, ◌+◌, ◌<◌, true, List, Option, None, Some, length, take, get_or, refl, sym, ap, subst, ◌∙◌, arith}
use Rattle.std.specs.Prelude.{slice_get}
use Rattle.std.specs.Option.{IsSomeAnd}
use Rattle.std.proofs.lemmas.Option.{get_or_from_slice_get}
use Rattle.gpu_plan.specs.declared.plan.Action.{Action}
use Rattle.gpu_plan.specs.declared.plan.Action.TheVariants.{Put, Flush, Finish, Token, Close}
use Rattle.gpu_plan.specs.Plans.{PlanData}
use Rattle.gpu_plan.specs.Passes.{flush_count, flushes, passes_if_there, passes}
use Rattle.gpu_plan.proofs.Passing.{flushes_one_further, flushes_within}
use Rattle.serial_laws.proofs.Flushes.{within}
use Rattle.gpu_fetch.specs.Plain.{PlainData, one_further, IsAwait}
use Rattle.gpu_run.specs.Clients.{RunClientData, flushes_to, IsCounted}

-- what passes is there
pub next_action : (xs actions : List Action) (position done f : ℕ) (tokens : List ℕ) (a : Action) → actions ≡ xs → position ≡ done → passes xs done f tokens ≡ true → a ≡ get_or actions position a → slice_get xs done ≡ Some a
next_action xs actions position done f tokens a same at p read = by (slice_get xs done) refl p
  where
    by : (o : Option Action) → slice_get xs done ≡ o → passes_if_there (flushes (take done xs)) f tokens o ≡ true → slice_get xs done ≡ Some a
    by None e q = absurd (cc)
    by (Some b) e q =
        let here : a ≡ get_or xs done a = read ∙ ap (λ (l : List Action). get_or l position a) same ∙ ap (λ (k : ℕ). get_or xs k a) at in
        let is : a ≡ b = here ∙ get_or_from_slice_get xs done b a e in
        e ∙ ap Some (sym is)

-- what passes and is neither a put nor a flush is an await
pub is_await : (before f : ℕ) (tokens : List ℕ) (a : Action) → passes_if_there before f tokens (Some a) ≡ true → ((x y : ℕ) → a ≡ Put x y → ⊥) → ((x : ℕ) (y : List (ℕ × ℕ)) → a ≡ Flush x y → ⊥) → IsAwait a
is_await before f tokens (Put place value) p not_put not_flush = absurd (not_put place value refl)
is_await before f tokens (Flush put fences) p not_put not_flush = absurd (not_flush put fences refl)
is_await before f tokens Finish p not_put not_flush = tt
is_await before f tokens (Token token) p not_put not_flush = tt
is_await before f tokens Close p not_put not_flush = absurd (cc)

pub await_quiet : (a : Action) → IsAwait a → flush_count a ≡ 0
await_quiet (Put place value) is = absurd is
await_quiet (Flush put fences) is = absurd is
await_quiet Finish is = refl
await_quiet (Token token) is = refl
await_quiet Close is = absurd is

pub next_is : (Kind : Action → Type 0) (xs : List Action) (k : ℕ) (a : Action) → slice_get xs k ≡ Some a → Kind a → IsSomeAnd (slice_get xs k) Kind
next_is Kind xs k a e is = subst (λ (o : Option Action). IsSomeAnd o Kind) (sym e) is

-- a client counts on
pub counted_on : (w new : PlainData) (plan : PlanData) (position flushed more : ℕ) (a : Action) → plan ≡ w.plan → slice_get plan.actions w.done ≡ Some a → new ≡ one_further w → more ≡ flushed + flush_count a → IsCounted w position flushed → IsCounted new (position + 1) more
counted_on w new plan position flushed more a same e is sum old =
    let at : slice_get w.plan.actions w.done ≡ Some a = subst (λ (q : PlanData). slice_get q.actions w.done ≡ Some a) same e in
    let step = flushes_one_further w.plan.actions w.done a at in
    let place = old.place in
    let made = old.made in
    subst (λ (x : PlainData). IsCounted x (position + 1) more) (sym is) record { place = omega (arith, place); made = omega (arith, sum, made, step) }

-- it can count as far as there are actions
pub counts_fit : (w : PlainData) (plan : PlanData) (position flushed : ℕ) (a : Action) → plan ≡ w.plan → slice_get plan.actions w.done ≡ Some a → IsCounted w position flushed → flushed < length plan.actions
counts_fit w plan position flushed a same e old =
    let few = flushes_within w.plan.actions w.done in
    let made = old.made in
    let lt = within plan.actions w.done a e in
    omega (arith, few, made, lt)

pub flushes_next : (plan : PlanData) (done n : ℕ) (a : Action) → slice_get plan.actions done ≡ Some a → flush_count a ≡ n → flushes_to plan (done + 1) ≡ flushes_to plan done + n
flushes_next plan done n a e is = let step = flushes_one_further plan.actions done a e in omega (arith, step, is)

pub flushes_quiet : (plan : PlanData) (done : ℕ) (a : Action) → slice_get plan.actions done ≡ Some a → flush_count a ≡ 0 → flushes_to plan (done + 1) ≡ flushes_to plan done
flushes_quiet plan done a e is = let step = flushes_one_further plan.actions done a e in omega (arith, step, is)

-- the facts of the next action, of the client as it is seen and as its fields are
pub record Found (seen old : RunClientData) (plan : PlanData) (f : ℕ) (tokens : List ℕ) (a : Action) : Type 0 where
  pub same : plan ≡ seen.words.plan
  pub here : slice_get plan.actions seen.words.done ≡ Some a
  pub there : slice_get plan.actions old.words.done ≡ Some a
  pub passing : passes_if_there (flushes (take seen.words.done plan.actions)) f tokens (Some a) ≡ true

pub found_in : (seen old : RunClientData) (plan : PlanData) (actions : List Action) (position f : ℕ) (tokens : List ℕ) (a : Action) → seen ≡ old → plan ≡ old.words.plan → actions ≡ plan.actions → position ≡ seen.words.done
    → passes plan.actions old.words.done f tokens ≡ true → a ≡ get_or actions position a → Found seen old plan f tokens a
found_in seen old plan actions position f tokens a view same listed place p read =
    let passing : passes plan.actions seen.words.done f tokens ≡ true = subst (λ (x : RunClientData). passes plan.actions x.words.done f tokens ≡ true) (sym view) p in
    let here = next_action plan.actions actions position seen.words.done f tokens a listed place passing read in
    record {
      same = same ∙ ap (λ (x : RunClientData). x.words.plan) (sym view);
      here = here;
      there = subst (λ (x : RunClientData). slice_get plan.actions x.words.done ≡ Some a) view here;
      passing = ap (passes_if_there (flushes (take seen.words.done plan.actions)) f tokens) (sym here) ∙ passing;
    }
