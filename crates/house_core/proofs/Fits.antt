-- A desk fits again after each event of its stream.
use Rattle.std.proofs.Common.{◌≡◌, ℕ, ◌+◌, ◌<◌, eqb, refl, true, false, List, ◌∷◌, sym, ap, ◌∙◌, arith}
use Rattle.gpu_plan.specs.Plans.{PlansData, plan_of}
use Rattle.gpu_plan.specs.Places.{flush_places}
use Rattle.gpu_plan.specs.Passes.{greatest}
use Rattle.sync_core.specs.Standing.{Standing}
use Rattle.gpu_journal.specs.declared.event.Event.{Event}
use Rattle.gpu_journal.specs.declared.event.Event.TheVariants.{Order, Finish, Lost, Close}
use Rattle.gpu_journal.specs.declared.event.Why.{Why}
use Rattle.gpu_journal.specs.World.{Known, stream_in, known}
use Rattle.gpu_journal.specs.Waits.{standing_of}
use Rattle.serial_laws.proofs.Others.{known_own, known_other, standing_own, standing_other}
use Rattle.serial_laws.specs.Runs.{MayGoOn}
use Rattle.serial_laws.proofs.Going.{other_goes_on, order_goes_on, lost_goes_on, close_goes_on}
use Rattle.house_core.specs.declared.walk.Walk.{Walk}
use Rattle.house_core.specs.Walks.{HasWalked}
use Rattle.house_core.specs.Desks.{Out, DeskData, at_home}
use Rattle.house_core.specs.Invariant.{DeskFits}
use Rattle.house_core.proofs.Walking.{walked_on}

-- all that a desk says of its stream
pub record Says (desk : DeskData) (k : Known) (x : Standing) : Type 0 where
  pub state : desk.state ≡ k.state
  pub ordered : desk.ordered ≡ k.ordered
  pub finished : desk.finished ≡ k.finished
  pub greatest : desk.greatest ≡ greatest k.tokens
  pub lost : desk.lost ≡ x.lost
  pub closed : desk.closed ≡ x.closed

-- a desk fits that says what a history says
pub fits_so : (p : PlansData) (h : List Event) (s : ℕ) (desk : DeskData) (k : Known) (x : Standing) → known p h s ≡ k → standing_of p h s ≡ x → Says desk k x
    → desk.places ≡ flush_places (plan_of p s).actions → HasWalked (plan_of p s).actions desk.finished desk.greatest desk.walk → (0 < desk.out.order → MayGoOn p h s desk.out.order desk.out.paused) → DeskFits p h s desk
fits_so p h s desk k x same stands says places walked runs = record {
  places = places;
  state = says.state ∙ ap (λ (k : Known). k.state) (sym same);
  ordered = says.ordered ∙ ap (λ (k : Known). k.ordered) (sym same);
  finished = says.finished ∙ ap (λ (k : Known). k.finished) (sym same);
  greatest = says.greatest ∙ ap (λ (k : Known). greatest k.tokens) (sym same);
  lost = says.lost ∙ ap (λ (x : Standing). x.lost) (sym stands);
  closed = says.closed ∙ ap (λ (x : Standing). x.closed) (sym stands);
  walked = walked;
  runs = runs;
}

says_of : (p : PlansData) (h : List Event) (s : ℕ) (desk : DeskData) → DeskFits p h s desk → Says desk (known p h s) (standing_of p h s)
says_of p h s desk was = record { state = was.state; ordered = was.ordered; finished = was.finished; greatest = was.greatest; lost = was.lost; closed = was.closed }

-- an event of another stream leaves it fitting
pub fits_other : (p : PlansData) (event : Event) (h : List Event) (t : ℕ) (desk : DeskData) → eqb (stream_in event) t ≡ false → DeskFits p h t desk → DeskFits p (event ∷ h) t desk
fits_other p event h t desk off was =
    fits_so p (event ∷ h) t desk (known p h t) (standing_of p h t) (known_other p event h t off) (standing_other p event h t off) (says_of p h t desk was) was.places was.walked
    (λ out. other_goes_on p event h t desk.out.order desk.out.paused off (was.runs out))

-- so does another run of it that may go on, or none
pub fits_out : (p : PlansData) (h : List Event) (s : ℕ) (desk : DeskData) (out : Out) → (0 < out.order → MayGoOn p h s out.order out.paused) → DeskFits p h s desk → DeskFits p h s (record desk { out = out })
fits_out p h s desk out runs was =
    fits_so p h s (record desk { out = out }) (known p h s) (standing_of p h s) refl refl
    (record { state = was.state; ordered = was.ordered; finished = was.finished; greatest = was.greatest; lost = was.lost; closed = was.closed }) was.places was.walked runs

-- an order
pub fits_order : (p : PlansData) (h : List Event) (s n c : ℕ) (desk : DeskData) → DeskFits p h s desk → DeskFits p (Order s n c ∷ h) s (record desk { ordered = desk.ordered + 1 })
fits_order p h s n c desk was =
    fits_so p (Order s n c ∷ h) s (record desk { ordered = desk.ordered + 1 }) _ _ (known_own p (Order s n c) h) (standing_own p (Order s n c) h)
    (record { state = was.state; ordered = ap (λ (n : ℕ). n + 1) was.ordered; finished = was.finished; greatest = was.greatest; lost = was.lost; closed = was.closed }) was.places was.walked
    (λ out. order_goes_on p h s n c desk.out.order desk.out.paused (was.runs out))

-- a finish, with which the run comes back
pub fits_finish : (p : PlansData) (h : List Event) (s n : ℕ) (desk : DeskData) → DeskFits p h s desk → DeskFits p (Finish s n ∷ h) s (record desk { finished = desk.finished + 1; out = at_home })
fits_finish p h s n desk was =
    fits_so p (Finish s n ∷ h) s (record desk { finished = desk.finished + 1; out = at_home }) _ _ (known_own p (Finish s n) h) (standing_own p (Finish s n) h)
    (record { state = was.state; ordered = was.ordered; finished = ap (λ (n : ℕ). n + 1) was.finished; greatest = was.greatest; lost = was.lost; closed = was.closed }) was.places
    (walked_on (plan_of p s).actions desk.finished (desk.finished + 1) desk.greatest desk.greatest desk.walk (omega arith) (omega arith) was.walked)
    (λ out. absurd (omega arith))

-- a loss
pub fits_lost : (p : PlansData) (h : List Event) (s : ℕ) (why : Why) (words : List (ℕ × ℕ)) (desk : DeskData) → DeskFits p h s desk → DeskFits p (Lost s why words ∷ h) s (record desk { lost = true })
fits_lost p h s why words desk was =
    fits_so p (Lost s why words ∷ h) s (record desk { lost = true }) _ _ (known_own p (Lost s why words) h) (standing_own p (Lost s why words) h)
    (record { state = was.state; ordered = was.ordered; finished = was.finished; greatest = was.greatest; lost = refl; closed = was.closed }) was.places was.walked
    (λ out. lost_goes_on p h s why words desk.out.order desk.out.paused)

-- a close
pub fits_close : (p : PlansData) (h : List Event) (s : ℕ) (desk : DeskData) → DeskFits p h s desk → DeskFits p (Close s ∷ h) s (record desk { closed = true })
fits_close p h s desk was =
    fits_so p (Close s ∷ h) s (record desk { closed = true }) _ _ (known_own p (Close s) h) (standing_own p (Close s) h)
    (record { state = was.state; ordered = was.ordered; finished = was.finished; greatest = was.greatest; lost = was.lost; closed = refl }) was.places was.walked
    (λ out. close_goes_on p h s desk.out.order desk.out.paused)

-- a walk on over the client's actions
pub fits_walk : (p : PlansData) (h : List Event) (s : ℕ) (desk : DeskData) (walk : Walk) → HasWalked (plan_of p s).actions desk.finished desk.greatest walk → DeskFits p h s desk → DeskFits p h s (record desk { walk = walk })
fits_walk p h s desk walk walked was =
    fits_so p h s (record desk { walk = walk }) (known p h s) (standing_of p h s) refl refl
    (record { state = was.state; ordered = was.ordered; finished = was.finished; greatest = was.greatest; lost = was.lost; closed = was.closed }) was.places walked was.runs
