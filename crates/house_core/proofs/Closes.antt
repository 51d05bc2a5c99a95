-- Whether a client has come to its Close, as its desk tells it.
use Rattle.std.proofs.Common.{◌≡◌, ◌↔◌, ℕ, ◌-◌, true, false, eqb, Bool, Some, List, [], ◌∷◌, length, get_or, sym, ap, ◌∙◌, IsTrue}
use Rattle.std.specs.Prelude.{slice_get, not, ◌&&◌}
use Rattle.gpu_plan.specs.declared.plan.Action.{Action}
use Rattle.gpu_plan.specs.declared.plan.Action.TheVariants as actions
use Rattle.gpu_plan.specs.Plans.{plan_of, is_closed}
use Rattle.gpu_plan.specs.Passes.{bound, flushes}
use Rattle.gpu_plan.proofs.Counts.{places_count}
use Rattle.sync_core.specs.Standing.{is_open}
use Rattle.gpu_journal.specs.World.{known}
use Rattle.gpu_journal.specs.Waits.{standing_of}
use Rattle.gpu_journal.specs.Facts.{reach}
use Rattle.gpu_journal.specs.Legal.{MayClose}
use Rattle.serial_laws.proofs.Tokens.{reach_is}
use Rattle.house_core.specs.Core.{is_done}
use Rattle.house_core.specs.Desks.{DeskData, desk_at}
use Rattle.house_core.specs.Invariant.{Parts}
use Rattle.house_core.proofs.Again.{Place}

module _ (c : Parts) (s : ℕ) (place : Place c s) (desk other : DeskData) (found : desk ≡ get_or c.desks (s - 1) other) where
  read : desk ≡ desk_at c.desks s
  read = found ∙ place.there other

  places : length desk.places ≡ flushes (plan_of c.plans s).actions
  places = ap (λ (desk : DeskData). length desk.places) read ∙ ap length place.fits.places ∙ places_count 0 (plan_of c.plans s).actions

  ordered : desk.ordered ≡ (known c.plans c.past s).ordered
  ordered = ap (λ (desk : DeskData). desk.ordered) read ∙ place.fits.ordered

  -- a client that may close has each flush ordered
  pub closes_ordered : MayClose c.plans c.past s → desk.ordered ≡ length desk.places
  closes_ordered may = ordered ∙ may.ordered ∙ sym places

  -- where each flush is ordered, a client may close exactly where its bound is its Close
  pub closes_reached : (all : List Action) (finished most : ℕ) (comes : Bool) → is_open (standing_of c.plans c.past s) ≡ true → desk.ordered ≡ length desk.places → all ≡ (plan_of c.plans s).actions → finished ≡ desk.finished → most ≡ desk.greatest
      → (IsTrue comes ↔ (slice_get all (bound all finished (most ∷ [])) ≡ Some actions.Close)) → (IsTrue comes ↔ MayClose c.plans c.past s)
  closes_reached all finished most comes stays done same f g test =
      let at : bound all finished (most ∷ []) ≡ reach c.plans c.past s =
      ap (λ (all : List Action). bound all finished (most ∷ [])) same
      ∙ ap (λ (n : ℕ). bound (plan_of c.plans s).actions n (most ∷ [])) (f ∙ ap (λ (desk : DeskData). desk.finished) read ∙ place.fits.finished)
      ∙ ap (λ (n : ℕ). bound (plan_of c.plans s).actions (known c.plans c.past s).finished (n ∷ [])) (g ∙ ap (λ (desk : DeskData). desk.greatest) read ∙ place.fits.greatest)
      ∙ sym (reach_is c.plans c.past s) in
      let there = ap (slice_get all) at ∙ ap (λ (all : List Action). slice_get all (reach c.plans c.past s)) same in (
        λ yes. record { still_open = record { known = place.plan; stays = stays }; ordered = sym ordered ∙ done ∙ places; reached = sym there ∙ test.0 yes },
        λ may. test.1 (there ∙ may.reached),
      )

  finished : desk.finished ≡ (known c.plans c.past s).finished
  finished = ap (λ (desk : DeskData). desk.finished) read ∙ place.fits.finished

  -- what the desk tells of a plan without a Close
  pub done_is : is_closed (plan_of c.plans s).actions ≡ false → (eqb desk.ordered (length desk.places) && eqb desk.finished (length desk.places)) ≡ is_done c.plans c.past s
  done_is closed =
      ap (λ (n : ℕ). eqb desk.ordered n && eqb desk.finished n) places
      ∙ ap (λ (n : ℕ). eqb n (flushes (plan_of c.plans s).actions) && eqb desk.finished (flushes (plan_of c.plans s).actions)) ordered
      ∙ ap (λ (n : ℕ). eqb (known c.plans c.past s).ordered (flushes (plan_of c.plans s).actions) && eqb n (flushes (plan_of c.plans s).actions)) finished
      ∙ sym (ap (λ (b : Bool). not b && (eqb (known c.plans c.past s).ordered (flushes (plan_of c.plans s).actions) && eqb (known c.plans c.past s).finished (flushes (plan_of c.plans s).actions))) closed)

  -- a plan with a Close is not done
  pub closed_is : is_closed (plan_of c.plans s).actions ≡ true → false ≡ is_done c.plans c.past s
  closed_is closed = sym (ap (λ (b : Bool). not b && (eqb (known c.plans c.past s).ordered (flushes (plan_of c.plans s).actions) && eqb (known c.plans c.past s).finished (flushes (plan_of c.plans s).actions))) closed)
