-- The kept waits of a history, and what ended them.
use Rattle.std.specs.Prelude.{◌≡◌, ℕ, ◌+◌, ◌<◌, ◌≤◌, Bool, true, false, ◌&&◌, ◌==◌, List, ◌∷◌, ◌++◌, length, filter, All, Contains}
use Rattle.gpu_plan.specs.Plans.{PlansData}
use Rattle.sync_core.specs.declared.wait.Wait.{Wait}
use Rattle.sync_core.specs.declared.ending.Ending.{Ending}
use Rattle.sync_core.specs.declared.ending.How.{How}
use Rattle.sync_core.specs.declared.ending.How.TheVariants.{Release, Guard, Closed}
use Rattle.sync_core.specs.Standing.{Standing, has_below}
use Rattle.sync_core.specs.Events.{standing}
use Rattle.sync_core.specs.Pending.{kept_waits}
use Rattle.gpu_journal.specs.declared.event.Event.{Event}
use Rattle.gpu_journal.specs.declared.event.Event.TheVariants.{Close}
use Rattle.gpu_journal.specs.Waits.{sync_of, pending_in, endings_in}

-- every kept wait that was made, whether it is pending or not
abbrev pub kept_in : PlansData → List Event → List Wait
kept_in p h = kept_waits (length p.plans) (sync_of p h)

-- the wait is one of number n of stream s on stream t and release r
abbrev pub is_wait : ℕ → ℕ → ℕ → ℕ → Wait → Bool
is_wait s n t r w = (w.stream == s) && ((w.order == n) && ((w.target == t) && (w.release == r)))

-- the ending is that of such a wait
abbrev pub is_ending_of : ℕ → ℕ → ℕ → ℕ → Ending → Bool
is_ending_of s n t r e = (e.stream == s) && ((e.order == n) && ((e.target == t) && (e.release == r)))

-- each kept wait of number n of stream s has exactly one ending: of each stream and release there are as many of both
abbrev pub HaveEnded : PlansData → List Event → ℕ → ℕ → Type 0
HaveEnded p h s n = (t r : ℕ) → length (filter (is_ending_of s n t r) (endings_in p h)) ≡ length (filter (is_wait s n t r) (kept_in p h))

-- each kept wait of number n of stream s is pending or has ended: of each stream and release there are as many of both together
abbrev pub ArePendingOrEnded : PlansData → List Event → ℕ → ℕ → Type 0
ArePendingOrEnded p h s n = (t r : ℕ) → length (filter (is_wait s n t r) (kept_in p h))
    ≡ length (filter (is_wait s n t r) (pending_in p h)) + length (filter (is_ending_of s n t r) (endings_in p h))

-- no ending is of this wait
abbrev pub HasNotEnded : PlansData → List Event → Wait → Type 0
HasNotEnded p h w = All (λ ending. is_ending_of w.stream w.order w.target w.release ending ≡ false) (endings_in p h)

-- what an event does that ends a wait so, where f and g tell how its streams stand before and after it
--
-- - by release: the target comes to the release
-- - by guard: the target had an unprocessed number below the waiter's, and has none any more; it is not closed
-- - by close: it is the close of the target
abbrev pub EndsSo : Event → (ℕ → Standing) → (ℕ → Standing) → Wait → How → Type 0
EndsSo e f g w Release = ((f w.target).release < w.release) × (w.release ≤ (g w.target).release)
EndsSo e f g w Guard = (has_below w.order (f w.target).left ≡ true) × (has_below w.order (g w.target).left ≡ false) × ((g w.target).closed ≡ false)
EndsSo e f g w Closed = e ≡ Close w.target

-- the event of a history that made an ending: before it the wait was pending, and it ended that wait in the way told
pub record HasCause (p : PlansData) (h : List Event) (ending : Ending) : Type 0 where
  pub later : List Event
  pub event : Event
  pub before : List Event
  pub whole : later ++ event ∷ before ≡ h
  pub wait : Wait
  pub was : Contains (pending_in p before) wait
  pub told : ending ≡ record { stream = wait.stream; order = wait.order; target = wait.target; release = wait.release; how = ending.how }
  pub ended : EndsSo event (standing (sync_of p before)) (standing (sync_of p (event ∷ before))) wait ending.how
