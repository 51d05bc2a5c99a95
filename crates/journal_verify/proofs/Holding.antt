-- What a place may hold.
use Rattle.std.proofs.Common.{◌≡◌, ℕ, zero, suc, ◌+◌, ◌-◌, ◌≤◌, ◌⊎◌, inl, inr, Bool, true, false, cond, eqb, Some, List, length, refl, sym, ap, subst, ◌∙◌, arith, get_or, set}
use Rattle.std.specs.Prelude.{◌||◌, slice_get, slice_index}
use Rattle.std.specs.Bool.{Decides}
use Rattle.std.proofs.lemmas.Bool.{eq-eqb}
use Rattle.std.proofs.lemmas.Bool.Decides.{nat_tests}
use Rattle.std.proofs.lemmas.List.{get_or-set_same, get_or-set_other}
use Rattle.std.proofs.lemmas.Option.{slice_get_within, slice_get-get_or}
use Rattle.gpu_plan.specs.declared.plan.Action.{Action}
use Rattle.gpu_plan.specs.declared.plan.Action.TheVariants.{Put, Flush, Finish, Token, Close}
use Rattle.gpu_plan.specs.Plans.{IsWithin}
use Rattle.gpu_plan.specs.Values.{after, value_at}
use Rattle.gpu_plan.specs.MayHold.{MayHold}
use Rattle.gpu_plan.proofs.Holding.{value_one_further}
use Rattle.journal_verify.specs.Reached.{has_since, PutBetween}
use Rattle.journal_verify.specs.Held.{Held, stored, IsHeld}
use Rattle.journal_verify.specs.Client.{Client, may_have, IsClientOfActions}

-- ---- the values after one more action

stored_value : (action : Action) (values : List ℕ) (place : ℕ) → IsWithin (length values) action → slice_index (stored action values) place ≡ after place (slice_index values place) action
stored_value (Put p v) values place within = by (eqb p place) refl
  where
    by : (b : Bool) → eqb p place ≡ b → get_or (set values p v) place 0 ≡ cond b v (get_or values place 0)
    by true e = let same : p ≡ place = grind (arith, nat_tests) in subst (λ place. get_or (set values p v) place 0 ≡ v) same (get_or-set_same values p v 0 within.0)
    by false e = get_or-set_other values p place v 0 (λ same. let test : eqb p place ≡ true = grind (arith, nat_tests) in absurd (cc))
stored_value (Flush put fences) values place within = refl
stored_value Finish values place within = refl
stored_value (Token token) values place within = refl
stored_value Close values place within = refl

pub held_more : (actions : List Action) (action : Action) (old new : Held) → slice_get actions old.done ≡ Some action → IsWithin (length old.values) action → IsHeld actions old → new.done ≡ old.done + 1 → new.values ≡ stored action old.values → IsHeld actions new
held_more actions action old new at within held done values =
    let there = slice_get_within actions old.done action at in
    record {
      within = omega arith;
      values = λ place.
          ap (λ (values : List ℕ). slice_index values place) values ∙ stored_value action old.values place within ∙ ap (λ v. after place v action) (held.values place)
          ∙ sym (value_one_further actions old.done place action at) ∙ ap (λ n. value_at actions n place) (sym done);
    }

-- ---- either the place has the value from the least on, or the value is put later

-- the value after an action is that before it, or the action puts it
put_or_same : (actions : List Action) (m place value : ℕ) (action : Action) → slice_get actions m ≡ Some action → after place (value_at actions m place) action ≡ value → (value_at actions m place ≡ value) ⊎ (slice_get actions m ≡ Some (Put place value))
put_or_same actions m place value (Put p v) at e = by (eqb p place) refl e
  where
    by : (b : Bool) → eqb p place ≡ b → cond b v (value_at actions m place) ≡ value → (value_at actions m place ≡ value) ⊎ (slice_get actions m ≡ Some (Put place value))
    by true same e = let one : p ≡ place = grind (arith, nat_tests) in inr (at ∙ (λ i. Some (Put (one i) (e i))))
    by false other e = inl e
put_or_same actions m place value (Flush put fences) at e = inl e
put_or_same actions m place value Finish at e = inl e
put_or_same actions m place value (Token token) at e = inl e
put_or_same actions m place value Close at e = inl e

later_value : (actions : List Action) (least k place value : ℕ) → least + k ≤ length actions → value_at actions (least + k) place ≡ value → (value_at actions least place ≡ value) ⊎ PutBetween actions least (least + k) place value
later_value actions least zero place value within held = inl (ap (λ n. value_at actions n place) (omega arith) ∙ held)
later_value actions least (suc k) place value within held =
    let m = least + k in
    let action = get_or actions m Close in
    let next : least + suc k ≡ m + 1 = omega arith in
    let at : slice_get actions m ≡ Some action = slice_get-get_or actions m Close (omega arith) in
    let after_is = sym (value_one_further actions m place action at) ∙ ap (λ n. value_at actions n place) (sym next) ∙ held in
    elim (put_or_same actions m place value action at after_is) [
      | inl same ↦ elim (later_value actions least k place value (omega arith) same) [
        | inl before ↦ inl before
        | inr put ↦ let b = put.before in inr (record { at = put.at; since = put.since; before = omega arith; put = put.put })
      ]
      | inr put ↦ inr (record { at = m; since = omega arith; before = omega arith; put = put })
    ]

pub may_hold_cases : (actions : List Action) (least most place value : ℕ) → most ≤ length actions → MayHold actions least most place value → (value_at actions least place ≡ value) ⊎ PutBetween actions least most place value
may_hold_cases actions least most place value within m =
    let since = m.since in
    let until = m.until in
    let k : least + (m.done - least) ≡ m.done = omega arith in
    elim (later_value actions least (m.done - least) place value (omega arith) (ap (λ n. value_at actions n place) k ∙ m.held)) [
      | inl before ↦ inl before
      | inr put ↦ let b = put.before in inr (record { at = put.at; since = put.since; before = omega arith; put = put.put })
    ]

pub holds_at_least : (actions : List Action) (least most place value : ℕ) → least ≤ most → value_at actions least place ≡ value → MayHold actions least most place value
holds_at_least actions least most place value within held = record { done = least; since = omega arith; until = within; held = held }

pub holds_when_put : (actions : List Action) (least most place value : ℕ) → PutBetween actions least most place value → MayHold actions least most place value
holds_when_put actions least most place value put =
    let since = put.since in
    let before = put.before in
    record {
      done = put.at + 1;
      since = omega arith;
      until = omega arith;
      held = value_one_further actions put.at place (Put place value) put.put ∙ ap (λ (b : Bool). cond b value (value_at actions put.at place)) (eq-eqb place place refl);
    }

either_decides : {P A B : Type 0} (a b : Bool) → Decides a A → Decides b B → (A → P) → (B → P) → (P → A ⊎ B) → Decides (a || b) P
either_decides true b da db f g h = (λ e. f (da.0 refl), λ p. refl)
either_decides false b da db f g h = (λ e. g (db.0 e), λ p. elim (h p) [ inl x ↦ (let e : false ≡ true = da.1 x in absurd (cc)) | inr y ↦ db.1 y ])

eqb_decides : (m n : ℕ) → Decides (eqb m n) (m ≡ n)
eqb_decides m n = (λ e. grind (arith, nat_tests), λ e. grind (arith, nat_tests))

-- a place may have a value exactly where it has it after the least, or where it is put later
pub may_have_decides : (actions : List Action) (client : Client) (word : ℕ × ℕ) → IsClientOfActions actions client → client.held.done ≤ client.reached.upto → Decides (may_have client word) (MayHold actions client.held.done client.reached.upto word.0 word.1)
may_have_decides actions client word of within =
    either_decides (eqb (slice_index client.held.values word.0) word.1) (has_since client.held.done client.reached word.0 word.1)
    (eqb_decides (slice_index client.held.values word.0) word.1)
    (of.reached.puts client.held.done word.0 word.1 (omega arith))
    (λ same. holds_at_least actions client.held.done client.reached.upto word.0 word.1 within (sym (of.held.values word.0) ∙ same))
    (λ put. holds_when_put actions client.held.done client.reached.upto word.0 word.1 put)
    (λ m. elim (may_hold_cases actions client.held.done client.reached.upto word.0 word.1 of.reached.within m) [
      | inl held ↦ inl (of.held.values word.0 ∙ held)
      | inr found ↦ inr found
    ])

pub may_hold_decides : (actions : List Action) (client : Client) (place value : ℕ) (r : Bool) → r ≡ may_have client (place, value) → IsClientOfActions actions client → client.held.done ≤ client.reached.upto → Decides r (MayHold actions client.held.done client.reached.upto place value)
may_hold_decides actions client place value r is of within = subst (λ (r : Bool). Decides r (MayHold actions client.held.done client.reached.upto place value)) (sym is) (may_have_decides actions client (place, value) of within)
