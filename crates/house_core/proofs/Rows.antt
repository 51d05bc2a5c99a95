-- Rows that begin with stream 1: what is at a stream, also after another one was set there.
use Rattle.std.proofs.Common.{◌≡◌, ◌≢◌, ℕ, zero, suc, ◌-◌, ◌<◌, eqb, Bool, true, false, List, length, get_or, set, refl, sym, ap, subst, ◌∙◌, arith, get_or-set_same, get_or-set_other}
use Rattle.std.proofs.lemmas.Bool.{eqb-false}
use Rattle.std.proofs.lemmas.Bool.Decides.{nat_tests}
use Rattle.std.proofs.lemmas.List.{length-set, map-set}
use Rattle.std.proofs.Math.ListN.{get_or-map}
use Rattle.std.proofs.Math.Seq.{map-set_same}
use Rattle.sync_core.specs.Standing.{IsKnown}
use Rattle.sync_core.proofs.Rows.{position_of, apart, row, row_is, row_same, row_other, row_there}
use Rattle.seq_sched.specs.declared.seat.Seat.{Seat}
use Rattle.seq_sched.specs.Seats.{empty_seat, seat_of}
use Rattle.house_core.specs.Desks.{DeskData, no_desk, desk_at}
use Rattle.house_core.specs.Core.{book_at, out_at, with_out, books_of, outs_of}

-- ---- of any kind

pub other_than : (s t : ℕ) → eqb s t ≡ false → t ≢ s
other_than s t off same = eqb-false s t off (sym same)

module _ {X : Type 0} (P Q : ℕ → X → Type 0) where
  -- in a row of such values one may be replaced
  pub each_set : (row : List X) (s : ℕ) (x : X) → IsKnown (length row) s → Q s x → ((t : ℕ) (y : X) → eqb s t ≡ false → P t y → Q t y)
      → ((k : ℕ) (other : X) → k < length row → P (suc k) (get_or row k other)) → (k : ℕ) (other : X) → k < length (set row (s - 1) x) → Q (suc k) (get_or (set row (s - 1) x) k other)
  each_set row s x known here others was k other low = by (eqb s (suc k)) refl
    where
      count : length (set row (s - 1) x) ≡ length row
      count = length-set row (s - 1) x

      at : (suc (s - 1) ≡ s) × (s - 1 < length row)
      at = position_of (length row) s known

      by : (b : Bool) → eqb s (suc k) ≡ b → Q (suc k) (get_or (set row (s - 1) x) k other)
      by true q =
          let is : s ≡ suc k = grind (arith, nat_tests) in
          let place : s - 1 ≡ k = omega (arith, is) in
          subst (λ (i : ℕ). Q (suc i) (get_or (set row (s - 1) x) i other)) place
          (subst (λ (t : ℕ). Q t (get_or (set row (s - 1) x) (s - 1) other)) (sym at.0)
          (subst (Q s) (sym (get_or-set_same row (s - 1) x other at.1)) here))
      by false q = subst (Q (suc k)) (sym (get_or-set_other row (s - 1) k x other (apart s k known.0 q))) (others (suc k) (get_or row k other) q (was k other (omega (arith, low, count))))

  -- and with none replaced
  pub each_kept : (row : List X) (s : ℕ) → ((y : X) → P s y → Q s y) → ((t : ℕ) (y : X) → eqb s t ≡ false → P t y → Q t y)
      → ((k : ℕ) (other : X) → k < length row → P (suc k) (get_or row k other)) → (k : ℕ) (other : X) → k < length row → Q (suc k) (get_or row k other)
  each_kept row s own others was k other low = by (eqb s (suc k)) refl
    where
      by : (b : Bool) → eqb s (suc k) ≡ b → Q (suc k) (get_or row k other)
      by true q = let is : s ≡ suc k = grind (arith, nat_tests) in subst (λ (t : ℕ). P t (get_or row k other) → Q t (get_or row k other)) is (own (get_or row k other)) (was k other low)
      by false q = others (suc k) (get_or row k other) q (was k other low)

-- ---- desks

desk_row : (desks : List DeskData) (s : ℕ) → desk_at desks s ≡ row no_desk desks s
desk_row = row_is no_desk desk_at (λ desks. refl) (λ desks k. refl)

pub desk_there : (desks : List DeskData) (s : ℕ) (other : DeskData) → IsKnown (length desks) s → get_or desks (s - 1) other ≡ desk_at desks s
desk_there desks s other known = row_there no_desk desks s other known ∙ sym (desk_row desks s)

pub desk_set_here : (desks : List DeskData) (s : ℕ) (desk : DeskData) → IsKnown (length desks) s → desk_at (set desks (s - 1) desk) s ≡ desk
desk_set_here desks s desk known = desk_row (set desks (s - 1) desk) s ∙ row_same no_desk desks s desk known

pub desk_set_other : (desks : List DeskData) (s t : ℕ) (desk : DeskData) → 0 < s → eqb s t ≡ false → desk_at (set desks (s - 1) desk) t ≡ desk_at desks t
desk_set_other desks s t desk low off = desk_row (set desks (s - 1) desk) t ∙ row_other no_desk desks s t desk low (other_than s t off) ∙ sym (desk_row desks t)

-- ---- seats

seat_row : (seats : List Seat) (s : ℕ) → seat_of seats s ≡ row empty_seat seats s
seat_row = row_is empty_seat seat_of (λ seats. refl) (λ seats k. refl)

pub seat_set_here : (seats : List Seat) (s : ℕ) (seat : Seat) → IsKnown (length seats) s → seat_of (set seats (s - 1) seat) s ≡ seat
seat_set_here seats s seat known = seat_row (set seats (s - 1) seat) s ∙ row_same empty_seat seats s seat known

pub seat_set_other : (seats : List Seat) (s t : ℕ) (seat : Seat) → 0 < s → eqb s t ≡ false → seat_of (set seats (s - 1) seat) t ≡ seat_of seats t
seat_set_other seats s t seat low off = seat_row (set seats (s - 1) seat) t ∙ row_other empty_seat seats s t seat low (other_than s t off) ∙ sym (seat_row seats t)

-- ---- what contracts see of the desks

pub book_at_desk : (desks : List DeskData) (s : ℕ) → book_at (books_of desks) s ≡ (desk_at desks s).book
book_at_desk desks zero = refl
book_at_desk desks (suc k) = get_or-map (λ (desk : DeskData). desk.book) desks k no_desk

pub out_at_desk : (desks : List DeskData) (s : ℕ) → out_at (outs_of desks) s ≡ (desk_at desks s).out
out_at_desk desks zero = refl
out_at_desk desks (suc k) = get_or-map (λ (desk : DeskData). desk.out) desks k no_desk

-- a desk with the same book leaves the books as they were
pub books_stay : (desks : List DeskData) (s : ℕ) (desk : DeskData) → IsKnown (length desks) s → desk.book ≡ (desk_at desks s).book → books_of (set desks (s - 1) desk) ≡ books_of desks
books_stay desks s desk known same =
    map-set_same (λ (desk : DeskData). desk.book) desks (s - 1) desk no_desk (same ∙ ap (λ (desk : DeskData). desk.book) (sym (desk_there desks s no_desk known)))

-- one with the same run leaves the runs as they were
pub outs_stay : (desks : List DeskData) (s : ℕ) (desk : DeskData) → IsKnown (length desks) s → desk.out ≡ (desk_at desks s).out → outs_of (set desks (s - 1) desk) ≡ outs_of desks
outs_stay desks s desk known same =
    map-set_same (λ (desk : DeskData). desk.out) desks (s - 1) desk no_desk (same ∙ ap (λ (desk : DeskData). desk.out) (sym (desk_there desks s no_desk known)))

-- and else the run of its stream is the new one
pub outs_set : (desks : List DeskData) (s : ℕ) (desk : DeskData) → outs_of (set desks (s - 1) desk) ≡ with_out (outs_of desks) s desk.out
outs_set desks s desk = map-set (λ (desk : DeskData). desk.out) desks (s - 1) desk
