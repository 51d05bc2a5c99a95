-- A hall fits its journal again after each call.
use Rattle.std.proofs.Common.{◌≡◌, ⊎_elim, ℕ, Bool, true, false, Option, List, [], ◌∷◌, refl, sym, subst}
use Rattle.std.specs.Prelude.{IfSome}
use Rattle.atomic_table.specs.Seated.{TableId}
use Rattle.logbook.specs.Pages.{Book}
use Rattle.gpu_plan.specs.Plans.{PlansData}
use Rattle.flush_queue.specs.Seen.{EndData}
use Rattle.live_view.specs.Seen.{WriterData}
use Rattle.gpu_journal.specs.declared.event.Event.{Event}
use Rattle.gpu_journal.specs.declared.event.Event.TheVariants.{Lost, Close}
use Rattle.gpu_journal.specs.declared.event.Why.TheVariants.{Memory}
use Rattle.gpu_journal.specs.Serial.{order_event}
use Rattle.serial_laws.proofs.Passed.{is_order}
use Rattle.house_core.specs.declared.ends.Closing.{Closing}
use Rattle.house_core.specs.declared.ends.Closing.TheVariants as closing
use Rattle.gpu_hall.specs.Collecting.{OrderedOrLost}
use Rattle.gpu_hall.specs.Views.{ViewFits, IsSameView, HallFits}
use Rattle.gpu_hall.proofs.Takers.{takers_event}
use Rattle.gpu_hall.proofs.Viewed.{is_step, view_quiet, view_room}

module _ (p : PlansData) (words queues : List TableId) (view : Book) where
  abbrev Fits : List EndData → Option WriterData → List Event → Type 0
  Fits takers writer h = HallFits p words queues view h takers writer

  -- ---- no flush is taken

  module _ (takers : List EndData) (writer : Option WriterData) where
    pub fits_same : (h g : List Event) → g ≡ h → Fits takers writer h → Fits takers writer g
    fits_same h g is fit = subst (Fits takers writer) (sym is) fit

    -- by an event that is neither an order nor a step
    pub fits_event : (e : Event) (h g : List Event) → g ≡ e ∷ h → is_order e ≡ false → is_step e ≡ false → Fits takers writer h → Fits takers writer g
    fits_event e h g is not_order no_step fit = fits_same (e ∷ h) g is record {
      queues = takers_event p words queues takers e h not_order fit.queues;
      view = view_quiet p view e h writer no_step fit.view;
    }

    -- one that comes only while its stream is open
    pub fits_while : (e : Event) (h g : List Event) (o : Bool) → is_order e ≡ false → is_step e ≡ false → (o ≡ true → g ≡ e ∷ h) → (o ≡ false → g ≡ h) → Fits takers writer h → Fits takers writer g
    fits_while e h g true not_order no_step event over fit = fits_event e h g (event refl) not_order no_step fit
    fits_while e h g false not_order no_step event over fit = fits_same h g (over refl) fit

    pub fits_closed : (h g : List Event) (s : ℕ) (answer : Closing) (o : Bool) → (answer ≡ closing.Closed → o ≡ true → g ≡ Close s ∷ h)
        → ((answer ≡ closing.Closed → o ≡ true → ⊥) → g ≡ h) → Fits takers writer h → Fits takers writer g
    fits_closed h g s closing.Closed true event same fit = fits_event (Close s) h g (event refl refl) refl refl fit
    fits_closed h g s closing.Closed false event same fit = fits_same h g (same (λ a b. absurd (cc))) fit
    fits_closed h g s closing.Early o event same fit = fits_same h g (same (λ a b. absurd (cc))) fit
    fits_closed h g s closing.Lost o event same fit = fits_same h g (same (λ a b. absurd (cc))) fit

  -- ---- the view has room for more

  pub fits_room : (takers : List EndData) (h : List Event) (old new : Option WriterData) → IsSameView old new → Fits takers old h → Fits takers new h
  fits_room takers h old new same fit = record { queues = fit.queues; view = view_room p view h old new same fit.view }

  -- ---- a flush was taken and ordered, or its stream was lost

  pub view_came : (h g : List Event) (s : ℕ) (writer : Option WriterData) → OrderedOrLost p s h g → IfSome writer (ViewFits p view h) → IfSome writer (ViewFits p view g)
  view_came h g s writer came fit = ⊎_elim (λ is. by (order_event p h s) is refl) (λ is. by (Lost s Memory []) is refl) came
    where
      by : (e : Event) → g ≡ e ∷ h → is_step e ≡ false → IfSome writer (ViewFits p view g)
      by e is none = subst (λ (g : List Event). IfSome writer (ViewFits p view g)) (sym is) (view_quiet p view e h writer none fit)
