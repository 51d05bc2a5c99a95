-- The runs that are out of a hall, after each call.
use Rattle.std.proofs.Common.{◌≡◌, ℕ, zero, suc, ◌-◌, Bool, true, false, List, [], ◌∷◌, refl, sym, ap, subst, ◌∙◌}
use Rattle.std.specs.Prelude.{replicate}
use Rattle.std.proofs.lemmas.List.{set-set}
use Rattle.std.proofs.lemmas.List.Elements.{All-nil, All-cons, All-set}
use Rattle.gpu_plan.specs.Plans.{PlansData}
use Rattle.gpu_fetch.specs.Side.{SideData}
use Rattle.house_core.specs.declared.ends.Closing.{Closing}
use Rattle.house_core.specs.declared.ends.Closing.TheVariants as closing
use Rattle.house_core.specs.Core.{with_out}
use Rattle.house_core.specs.Desks.{Out, RunData, at_home}
use Rattle.gpu_house.specs.declared.answers.Next.{Next}
use Rattle.gpu_house.specs.declared.answers.Next.TheVariants as next
use Rattle.gpu_house.specs.House.{OutData}
use Rattle.gpu_house.specs.Committing.{Stage, AreDone, HaveGone, GoneInPart, Commits}
use Rattle.gpu_hall.specs.Outs.{NoneIsPaused}

-- ---- none is paused

pub none_first : (n : ℕ) → NoneIsPaused (replicate n at_home)
none_first zero = All-nil (λ (out : Out). out.paused ≡ false)
none_first (suc n) = All-cons (λ (out : Out). out.paused ≡ false) at_home (replicate n at_home) refl (none_first n)

pub none_same : (outs now : List Out) → now ≡ outs → NoneIsPaused outs → NoneIsPaused now
none_same outs now same none = subst NoneIsPaused (sym same) none

-- a run went out or came home
pub none_set : (outs now : List Out) (s : ℕ) (out : Out) → now ≡ with_out outs s out → out.paused ≡ false → NoneIsPaused outs → NoneIsPaused now
none_set outs now s out is free none = none_same (with_out outs s out) now is (All-set (λ (out : Out). out.paused ≡ false) outs (s - 1) out free none)

-- the runs stay out whether the stream was open or not
pub outs_while : (outs now : List Out) (o : Bool) → (o ≡ true → now ≡ outs) → (o ≡ false → now ≡ outs) → now ≡ outs
outs_while outs now true event over = event refl
outs_while outs now false event over = over refl

pub outs_closed : (outs now : List Out) (answer : Closing) (o : Bool) → (answer ≡ closing.Closed → o ≡ true → now ≡ outs) → ((answer ≡ closing.Closed → o ≡ true → ⊥) → now ≡ outs) → now ≡ outs
outs_closed outs now closing.Closed true event same = event refl refl
outs_closed outs now closing.Closed false event same = same (λ a b. absurd (cc))
outs_closed outs now closing.Early o event same = same (λ a b. absurd (cc))
outs_closed outs now closing.Lost o event same = same (λ a b. absurd (cc))

-- ---- the run of a batch comes home

module _ {Side Note Results : Type 0} (side : Side → SideData) (mark : Note → ℕ) (p : PlansData) (old : Stage Side Note Results) where
  -- from this stage on, it is at home as from the one before the batch
  abbrev IsBack : Stage Side Note Results → Type 0
  IsBack mid = (g : List Out) → g ≡ with_out mid.house.core.outs mid.out.run.stream at_home → g ≡ with_out old.house.core.outs old.out.run.stream at_home

  back_done : (mid : Stage Side Note Results) (ws : List (List (ℕ × ℕ))) (paused : Bool) → AreDone side mark p old mid ws paused → IsBack mid
  back_done mid ws paused done g is =
      is ∙ ap (λ (s : ℕ). with_out mid.house.core.outs s at_home) done.moved.stream ∙ ap (λ (outs : List Out). with_out outs old.out.run.stream at_home) done.outs
      ∙ set-set old.house.core.outs (old.out.run.stream - 1) record { order = old.out.run.order; paused = paused } at_home

  back_gone : (mid : Stage Side Note Results) (ws : List (List (ℕ × ℕ))) → HaveGone side mark p old mid ws → IsBack mid
  back_gone mid [] still g is =
      is ∙ ap (λ (outs : List Out). with_out outs mid.out.run.stream at_home) still.house.outs ∙ ap (λ (o : OutData Side Note). with_out old.house.core.outs o.run.stream at_home) still.out
  back_gone mid (w ∷ ws) done g is = back_done mid (w ∷ ws) false done g is

  pub back_part : (new : Stage Side Note Results) (members : List (List (ℕ × ℕ))) → GoneInPart side mark p old new members → IsBack new
  back_part new members part = back_gone new part.first part.gone

  pub back_committed : (new : Stage Side Note Results) (members : List (List (ℕ × ℕ))) (answer : Next) → Commits side mark p old new members answer → IsBack new
  back_committed new members next.More done g is = back_done new members false done g is
  back_committed new members next.Paused done g is = back_done new members true done g is
  back_committed new members next.FlushEnd done g is = back_done new members false done g is
  back_committed new members (next.Invalid error) lost g is =
      back_gone lost.between lost.first lost.gone g
      (is ∙ ap (λ (r : RunData). with_out new.house.core.outs r.stream at_home) lost.refused.run ∙ ap (λ (outs : List Out). with_out outs lost.between.out.run.stream at_home) lost.refused.outs)
  back_committed new members next.Lost over g is = back_gone new [] over.still g is
  back_committed new members next.Closed over g is = back_gone new [] over.still g is
