-- Rows that begin with stream 1: one place has another value, and all others are the same.
use Rattle.std.proofs.Common.{◌≡◌, ℕ, suc, ◌-◌, ◌<◌, eqb, false, List, length, get_or, set, refl, sym, ap, subst, ◌∙◌}
use Rattle.sync_core.specs.Standing.{IsKnown}
use Rattle.sync_core.proofs.Rows.{position_of, row, row_is, row_same, row_other, row_there}
use Rattle.house_core.specs.Core.{out_at, is_home, with_out}
use Rattle.house_core.specs.Desks.{Out, at_home}
use Rattle.house_core.proofs.Rows.{other_than}
pub use Rattle.house_core.proofs.Rows.{each_set, each_kept}
use Rattle.gpu_house.specs.Slots.{SlotData, no_slot, slot_at, with_slot}

-- ---- slots

module _ {Side Note : Type 0} where
  pub slot_row : (slots : List (SlotData Side Note)) (s : ℕ) → slot_at slots s ≡ row no_slot slots s
  slot_row = row_is no_slot slot_at (λ slots. refl) (λ slots k. refl)

  pub slot_there : (slots : List (SlotData Side Note)) (s : ℕ) (other : SlotData Side Note) → IsKnown (length slots) s → get_or slots (s - 1) other ≡ slot_at slots s
  slot_there slots s other known = row_there no_slot slots s other known ∙ sym (slot_row slots s)

  pub slot_fits : (P : ℕ → SlotData Side Note → Type 0) (slots : List (SlotData Side Note)) (s : ℕ) → IsKnown (length slots) s → ((k : ℕ) (other : SlotData Side Note) → k < length slots → P (suc k) (get_or slots k other)) → P s (slot_at slots s)
  slot_fits P slots s known each =
      let at = position_of (length slots) s known in
      subst (P s) (slot_there slots s no_slot known) (subst (λ (t : ℕ). P t (get_or slots (s - 1) no_slot)) at.0 (each (s - 1) no_slot at.1))

  -- one slot is another now, as contracts see it
  pub slot_changed : (change : SlotData Side Note → SlotData Side Note) (slots seen : List (SlotData Side Note)) (s t : ℕ) (other slot : SlotData Side Note) → slots ≡ seen → t ≡ s → IsKnown (length slots) t → other ≡ get_or slots (t - 1) other → slot ≡ change other
      → set slots (t - 1) slot ≡ with_slot seen s (change (slot_at seen s))
  slot_changed change slots seen s t other slot same at known read is =
      ap (set slots (t - 1)) (is ∙ ap change (read ∙ slot_there slots t other known))
      ∙ ap (λ (row : List (SlotData Side Note)). with_slot row t (change (slot_at row t))) same
      ∙ ap (λ (u : ℕ). with_slot seen u (change (slot_at seen u))) at

-- ---- runs that are out

out_row : (outs : List Out) (s : ℕ) → out_at outs s ≡ row at_home outs s
out_row = row_is at_home out_at (λ outs. refl) (λ outs k. refl)

pub out_set_here : (outs : List Out) (s : ℕ) (out : Out) → IsKnown (length outs) s → out_at (with_out outs s out) s ≡ out
out_set_here outs s out known = out_row (with_out outs s out) s ∙ row_same at_home outs s out known

pub out_set_other : (outs : List Out) (s t : ℕ) (out : Out) → 0 < s → eqb s t ≡ false → out_at (with_out outs s out) t ≡ out_at outs t
out_set_other outs s t out low off = out_row (with_out outs s out) t ∙ row_other at_home outs s t out low (other_than s t off) ∙ sym (out_row outs t)

-- the home of another stream
pub home_other : (outs : List Out) (s t : ℕ) (out : Out) → 0 < s → eqb s t ≡ false → is_home (with_out outs s out) t ≡ is_home outs t
home_other outs s t out low off = ap (λ (o : Out). eqb o.order 0) (out_set_other outs s t out low off)
