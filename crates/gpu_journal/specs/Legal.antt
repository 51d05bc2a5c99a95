-- A legal history: each event obeys the twelve rules at the history before it. A rule that does not speak of an event
-- allows it.
use Rattle.std.specs.Prelude.{◌≡◌, ◌≢◌, ℕ, ◌+◌, ◌≤◌, false, List, [], ◌∷◌, Some, IsSome, IsOk, Err, slice_get}
use Rattle.std.specs.List.{All}
use Rattle.gpu_cmd.specs.Copied.{fetched_places, places_listed}
use Rattle.gpu_plan.specs.declared.plan.Action.TheVariants as actions
use Rattle.gpu_plan.specs.Plans.{PlansData, plan_of}
use Rattle.gpu_plan.specs.Passes.{flushes}
use Rattle.gpu_plan.specs.Places.{flush_places}
use Rattle.gpu_plan.specs.MayHold.{MayHold}
use Rattle.sync_core.specs.Standing.{first_order}
use Rattle.sync_core.specs.Pending.{is_blocked}
use Rattle.gpu_journal.specs.declared.event.Event.{Event}
use Rattle.gpu_journal.specs.declared.event.Event.TheVariants.{Order, Step, Finish, Lost, Close}
use Rattle.gpu_journal.specs.declared.event.Why.TheVariants.{Error, Memory}
use Rattle.gpu_journal.specs.World.{known}
use Rattle.gpu_journal.specs.Waits.{left_of, drawn, pending_in, IsOpen}
use Rattle.gpu_journal.specs.Facts.{flush_of, facts_at, verdict_at, reach}

-- ---- orders

-- 1: the stream of an order is one of the script, and is neither lost nor closed
abbrev pub OrdersOpenStream : PlansData → List Event → Event → Type 0
OrdersOpenStream p g (Order s n c) = IsOpen p g s
OrdersOpenStream p g _ = Unit {0}

-- 2: its number is one more than how many were drawn before
abbrev pub DrawsNextNumber : PlansData → List Event → Event → Type 0
DrawsNextNumber p g (Order s n c) = n ≡ drawn p g + 1
DrawsNextNumber p g _ = Unit {0}

-- 3: its action place is that of the stream's first flush without an order; flushes are ordered in their order
abbrev pub OrdersNextFlush : PlansData → List Event → Event → Type 0
OrdersNextFlush p g (Order s n c) = slice_get (flush_places (plan_of p s).actions) (known p g s).ordered ≡ Some c
OrdersNextFlush p g _ = Unit {0}

-- ---- what a run does: steps, finishes, and losses by an error

-- a rule for the stream of a step, of a finish or of a loss by an error; every other event obeys it
abbrev pub OfRun : (ℕ → Type 0) → Event → Type 0
OfRun rule (Step s words) = rule s
OfRun rule (Finish s n) = rule s
OfRun rule (Lost s (Error error) words) = rule s
OfRun rule _ = Unit {0}

-- a rule for the stream and the words of a step or of a loss by an error; every other event obeys it
abbrev pub OfFetched : (ℕ → List (ℕ × ℕ) → Type 0) → Event → Type 0
OfFetched rule (Step s words) = rule s words
OfFetched rule (Lost s (Error error) words) = rule s words
OfFetched rule _ = Unit {0}

-- 4: the stream has an unprocessed number; a finish is of the first
abbrev pub RunsFirstNumber : PlansData → List Event → Event → Type 0
RunsFirstNumber p g (Finish s n) = first_order (left_of p g s) ≡ Some n
RunsFirstNumber p g e = OfRun (λ s. IsSome (first_order (left_of p g s))) e

-- 5: no wait of the first number is pending
abbrev pub RunsUnblocked : PlansData → List Event → Event → Type 0
RunsUnblocked p g e = OfRun (λ s. is_blocked s (left_of p g s) (pending_in p g) ≡ false) e

-- 6: the client can have come to the flush of the first number
abbrev pub RunsReachedFlush : PlansData → List Event → Event → Type 0
RunsReachedFlush p g e = OfRun (λ s. flush_of p g s ≤ reach p g s) e

-- something is left of the flush, and the words are those of the places to be fetched
abbrev pub AreFetched : PlansData → List Event → ℕ → List (ℕ × ℕ) → Type 0
AreFetched p g s words = ((facts_at p g s).get ≢ (facts_at p g s).put) × (places_listed words ≡ fetched_places words (facts_at p g s))

-- 7: a command is fetched where something is left of the flush, from its places in their order
abbrev pub FetchesItsPlaces : PlansData → List Event → Event → Type 0
FetchesItsPlaces p g e = OfFetched (AreFetched p g) e

-- the word is the value of its place at some moment, from the flush of the first number up to the client's bound
abbrev pub MayHaveBeenPut : PlansData → List Event → ℕ → ℕ × ℕ → Type 0
MayHaveBeenPut p g s word = MayHold (plan_of p s).actions (flush_of p g s) (reach p g s) word.0 word.1

-- 8: each word is one that the client may have had there
abbrev pub FetchesWhatWasPut : PlansData → List Event → Event → Type 0
FetchesWhatWasPut p g e = OfFetched (λ s words. All (MayHaveBeenPut p g s) words) e

-- 9: the words of a step are a valid command; those of a loss have its error
abbrev pub JudgesTheCopy : PlansData → List Event → Event → Type 0
JudgesTheCopy p g (Step s words) = IsOk (verdict_at p g s words)
JudgesTheCopy p g (Lost s (Error error) words) = verdict_at p g s words ≡ Err error
JudgesTheCopy p g _ = Unit {0}

-- 10: a finish comes where nothing is left of the flush
abbrev pub FinishesAtPut : PlansData → List Event → Event → Type 0
FinishesAtPut p g (Finish s n) = (facts_at p g s).get ≡ (facts_at p g s).put
FinishesAtPut p g _ = Unit {0}

-- ---- other ends

-- 11: a stream that is lost for memory is one of the script, and neither lost nor closed before; the event carries no words
abbrev pub LosesOpenStream : PlansData → List Event → Event → Type 0
LosesOpenStream p g (Lost s Memory words) = IsOpen p g s × (words ≡ [])
LosesOpenStream p g _ = Unit {0}

-- the client has come to its Close, and each of its flushes is ordered
pub record MayClose (p : PlansData) (g : List Event) (s : ℕ) : Type 0 where
  pub still_open : IsOpen p g s
  pub ordered : (known p g s).ordered ≡ flushes (plan_of p s).actions
  pub reached : slice_get (plan_of p s).actions (reach p g s) ≡ Some actions.Close

-- 12: a stream closes where its client has come to its Close
abbrev pub ClosesAtClose : PlansData → List Event → Event → Type 0
ClosesAtClose p g (Close s) = MayClose p g s
ClosesAtClose p g _ = Unit {0}

-- ---- all of them

-- the event obeys every rule at the history before it
pub record Obeys (p : PlansData) (g : List Event) (e : Event) : Type 0 where
  pub rule_1 : OrdersOpenStream p g e
  pub rule_2 : DrawsNextNumber p g e
  pub rule_3 : OrdersNextFlush p g e
  pub rule_4 : RunsFirstNumber p g e
  pub rule_5 : RunsUnblocked p g e
  pub rule_6 : RunsReachedFlush p g e
  pub rule_7 : FetchesItsPlaces p g e
  pub rule_8 : FetchesWhatWasPut p g e
  pub rule_9 : JudgesTheCopy p g e
  pub rule_10 : FinishesAtPut p g e
  pub rule_11 : LosesOpenStream p g e
  pub rule_12 : ClosesAtClose p g e

-- every event obeys the rules at the history before it
abbrev pub IsLegal : PlansData → List Event → Type 0
IsLegal p [] = Unit {0}
IsLegal p (e ∷ h) = Obeys p h e × IsLegal p h
