-- What the halves of a stream's book say is what the journal says.
use Rattle.std.proofs.Common.{◌≡◌, ℕ, suc, ◌<◌, List, length, get_or, ap, ◌∙◌}
use Rattle.gpu_plan.specs.Plans.{PlansData}
use Rattle.stream_state.specs.State.{State}
use Rattle.gpu_journal.specs.declared.event.Event.{Event}
use Rattle.gpu_journal.specs.World.{known, state_of}
use Rattle.house_core.specs.Desks.{DeskData, book_numbers, kept_half}
use Rattle.house_core.specs.Invariant.{DeskFits, half_by}

book_told : (p : PlansData) (h : List Event) (s : ℕ) (desk : DeskData) → DeskFits p h s desk → kept_half desk ≡ half_by p h s desk
book_told p h s desk fits =
    ap (λ (state : State). record { book = desk.book; numbers = book_numbers state.entries state.fetched desk.finished desk.greatest desk.out }) fits.state
    ∙ ap (λ (n : ℕ). record { book = desk.book; numbers = book_numbers (state_of p h s).entries (state_of p h s).fetched n desk.greatest desk.out }) fits.finished
    ∙ ap (λ (n : ℕ). record { book = desk.book; numbers = book_numbers (state_of p h s).entries (state_of p h s).fetched (known p h s).finished n desk.out }) fits.greatest

-- of every desk that fits
pub books_told : (p : PlansData) (h : List Event) (desks : List DeskData) → ((k : ℕ) (other : DeskData) → k < length desks → DeskFits p h (suc k) (get_or desks k other))
    → (k : ℕ) (other : DeskData) → k < length desks → kept_half (get_or desks k other) ≡ half_by p h (suc k) (get_or desks k other)
books_told p h desks states k other low = book_told p h (suc k) (get_or desks k other) (states k other low)
