-- A settled stream: its client changed no word in flight, and closed after its work.
use Rattle.std.specs.Prelude.{◌≡◌, ℕ, ◌<◌, ◌≤◌, List, [], ◌∷◌, Some, take, slice_get}
use Rattle.std.specs.List.{All}
use Rattle.gpu_plan.specs.declared.plan.Action.{Action}
use Rattle.gpu_plan.specs.declared.plan.Action.TheVariants as actions
use Rattle.gpu_plan.specs.Plans.{PlansData, plan_of}
use Rattle.gpu_plan.specs.Passes.{flushes}
use Rattle.gpu_plan.specs.Values.{value_at}
use Rattle.gpu_journal.specs.declared.event.Event.{Event}
use Rattle.gpu_journal.specs.Facts.{flush_of, reach}
use Rattle.gpu_journal.specs.Legal.{OfFetched}

-- a word that stream s fetches after g is the value of its place at every moment from the flush of its first number up to
-- the client's bound
abbrev pub IsStill : PlansData → List Event → ℕ → ℕ × ℕ → Type 0
IsStill p g s word = (k : ℕ) → flush_of p g s ≤ k → k ≤ reach p g s → value_at (plan_of p s).actions k word.0 ≡ word.1

-- where the event is a step of stream s, or a loss of it by an error, each of its words is so
abbrev pub FetchesStill : PlansData → List Event → ℕ → Event → Type 0
FetchesStill p g s e = OfFetched (λ t words. t ≡ s → All (IsStill p g s) words) e

-- the client of stream s changed no word in flight
abbrev pub NoneInFlight : PlansData → List Event → ℕ → Type 0
NoneInFlight p [] s = Unit {0}
NoneInFlight p (e ∷ g) s = FetchesStill p g s e × NoneInFlight p g s

-- a Finish stands before action c, with no flush between the two
pub record HasFinish (list : List Action) (c : ℕ) : Type 0 where
  pub place : ℕ
  pub before : place < c
  pub awaits : slice_get list place ≡ Some actions.Finish
  pub between : flushes (take place list) ≡ flushes (take c list)

-- before a Close stands such a Finish
abbrev pub ClosesFinished : List Action → Type 0
ClosesFinished list = (c : ℕ) → slice_get list c ≡ Some actions.Close → HasFinish list c

-- the client changed no word in flight, and closes its stream after its work, if it does so
pub record IsSettled (p : PlansData) (h : List Event) (s : ℕ) : Type 0 where
  pub still : NoneInFlight p h s
  pub closed : ClosesFinished (plan_of p s).actions
