-- What a line adds to a lawful plan leaves it lawful.
use Rattle.std.proofs.Common.{◌≡◌, ℕ, suc, ◌+◌, ◌≤◌, ◌<◌, ◌^◌, ◌-◌, Bool, true, false, cond, List, [], ◌∷◌, ◌++◌, length, map, take, Some, None, refl, ap, subst, arith, lit<, length-append}
use Rattle.std.specs.Prelude.{not, unwrap_or, nat_lt, replicate, zero}
use Rattle.std.specs.Str.Parse.{digits_value}
use Rattle.std.proofs.lemmas.Bool.{ltb-true, and_parts}
use Rattle.std.proofs.lemmas.List.{length-map, take_at, length_push}
use Rattle.std.proofs.lemmas.List.Folds.{list_all-append}
use Rattle.std.specs.List.{All, AllByRecursion, list_all}
use Rattle.std.proofs.lemmas.List.Elements.{All-append, All-nil, All-push, All-from_recursion}
use Rattle.gpu_cmd.specs.declared.areas.Areas.{Areas}
use Rattle.gpu_cmd.specs.Lawful.{IsLawfulAreas, places_of}
use Rattle.gpu_cmd.specs.Spans.{AreTiles, span_at}
use Rattle.gpu_cmd.specs.declared.areas.Span.{Span}
use Rattle.gpu_plan.specs.declared.plan.Action.{Action}
use Rattle.script_lines.specs.Numbers.{number_said, value_of}
use Rattle.gpu_plan.specs.Plans.{IsWithin, HasFewFences, stays_open, is_closed, IsLawfulPlan, ring_alone}
use Rattle.gpu_plan.specs.Adding.{puts}
use Rattle.gpu_plan.specs.declared.acting.TheConstants.{MOST_ACTIONS}

-- ---- puts

-- a value has 32 bits
below_limit : (test : Bool) (value limit : ℕ) → (test ≡ true → value < limit) → 0 < limit → unwrap_or (cond test (Some value) None) 0 < limit
below_limit true value limit small some = small refl
below_limit false value limit small some = some

value_small : (word : List ℕ) → value_of word < 2 ^ 32
unfolding number_said
value_small word = below_limit _ (digits_value 16 word) (2 ^ 32) (λ passes. ltb-true _ _ (and_parts _ (nat_lt (digits_value 16 word) (2 ^ 32)) passes).1) (lit< tt)

pub length-puts : (place : ℕ) (values : List ℕ) → length (puts place values) ≡ length values
length-puts place [] = refl
length-puts place (value ∷ values) = ap suc (length-puts (place + 1) values)

puts_step : (places place : ℕ) (words : List (List ℕ)) → place + length words ≤ places → AllByRecursion (IsWithin places) (puts place (map value_of words))
puts_step places place [] fits = tt
puts_step places place (word ∷ words) fits = ((omega arith, value_small word), puts_step places (place + 1) words (omega arith))

-- puts at places below the last one stay within it
puts_within : (places place : ℕ) (words : List (List ℕ)) → place + length words ≤ places → All (IsWithin places) (puts place (map value_of words))
puts_within places place words fits = All-from_recursion (IsWithin places) (puts place (map value_of words)) (puts_step places place words fits)

no_fence : (place : ℕ) (values : List ℕ) → AllByRecursion HasFewFences (puts place values)
no_fence place [] = tt
no_fence place (value ∷ values) = (tt, no_fence (place + 1) values)

no_close : (place : ℕ) (values : List ℕ) → list_all stays_open (puts place values) ≡ true
no_close place [] = refl
no_close place (value ∷ values) = no_close (place + 1) values

-- ---- closes

opened : (b : Bool) → not b ≡ false → b ≡ true
opened true e = refl
opened false e = absurd cc

all_of_front : {X : Type 0} (p : X → Bool) (n : ℕ) (xs : List X) → list_all p xs ≡ true → list_all p (take n xs) ≡ true
all_of_front p zero xs e = refl
all_of_front p (suc n) [] e = refl
all_of_front p (suc n) (x ∷ xs) e = let both = and_parts (p x) (list_all p xs) e in rw both.0 (all_of_front p n xs both.1)

-- after actions that are no Close, one more action closes at most last
closes_behind : (old : List Action) (action : Action) → is_closed old ≡ false → list_all stays_open (take (length (old ++ action ∷ []) - 1) (old ++ action ∷ [])) ≡ true
closes_behind old action unclosed =
    let n : length (old ++ action ∷ []) - 1 ≡ length old = omega (arith, length_push old action) in
    rw (n, take_at old (action ∷ []) (length old) refl) (opened _ unclosed)

none_closes : (old more : List Action) → is_closed old ≡ false → list_all stays_open more ≡ true → list_all stays_open (take (length (old ++ more) - 1) (old ++ more)) ≡ true
none_closes old more unclosed none = all_of_front stays_open (length (old ++ more) - 1) (old ++ more) (rw (list_all-append stays_open old more, opened _ unclosed, none) refl)

-- ---- plans

-- where no memory is declared, none is found
none_at : (count i : ℕ) → span_at (replicate count None) i ≡ None
none_at zero i = refl
none_at (suc count) zero = refl
none_at (suc count) (suc i) = none_at count i

none_found : {P : Type 0} (i : ℕ) (s : Span) → span_at (replicate 16 None) i ≡ Some s → P
none_found i s found = let none = none_at 16 i in absurd cc

no_tiles : (first : ℕ) → AreTiles first (replicate 16 None)
no_tiles first = record {
  filled = λ i s found. none_found i s found;
  begun = λ i s found. none_found i s found;
  ended = λ i s found. none_found i s found;
  apart = λ i j s t lt found other. none_found i s found;
  few = omega arith;
}

-- a ring alone is lawful, without actions
pub lawful_start : (areas : Areas) (ring : ℕ) (actions : List Action) → areas ≡ ring_alone ring → 16 ≤ ring → ring ≤ 4096 → actions ≡ [] → IsLawfulPlan areas actions
lawful_start areas ring actions alone low high none =
    rw (alone, none) (record {
      laid_out = record { ring_least = low; ring_most = high; memories = no_tiles ring; results = no_tiles 0 };
      within = All-nil (IsWithin (places_of (ring_alone ring)));
      fenced = All-nil HasFewFences;
      closes_last = refl;
      few = omega arith;
    })

-- a lawful stream has places for three bytes
pub few_places : (areas : Areas) (actions : List Action) → IsLawfulPlan areas actions → places_of areas ≤ 2 ^ 24
few_places areas actions h = let ring = h.laid_out.ring_most in let memories = h.laid_out.memories.few in omega arith

pub lawful_puts : (areas : Areas) (place : ℕ) (words : List (List ℕ)) (old new : List Action) → IsLawfulPlan areas old → is_closed old ≡ false → place + length words ≤ places_of areas → length old + length words ≤ MOST_ACTIONS
    → new ≡ old ++ puts place (map value_of words) → IsLawfulPlan areas new
lawful_puts areas place words old new h unclosed fits few added =
    let values = map value_of words in
    rw added (record {
      laid_out = h.laid_out;
      within = All-append (IsWithin (places_of areas)) old (puts place values) h.within (puts_within (places_of areas) place words fits);
      fenced = All-append HasFewFences old (puts place values) h.fenced (All-from_recursion HasFewFences (puts place values) (no_fence place values));
      closes_last = none_closes old (puts place values) unclosed (no_close place values);
      few = omega (arith, length-append old (puts place values), length-puts place values, length-map words value_of);
    })

pub lawful_action : (areas same : Areas) (action : Action) (old new : List Action) → same ≡ areas → IsLawfulPlan areas old → is_closed old ≡ false → length old < MOST_ACTIONS → IsWithin (places_of same) action → HasFewFences action
    → new ≡ old ++ action ∷ [] → IsLawfulPlan areas new
lawful_action areas same action old new is h unclosed few within fenced added =
    rw added (record {
      laid_out = h.laid_out;
      within = All-push (IsWithin (places_of areas)) old action h.within (subst (λ (a : Areas). IsWithin (places_of a) action) is within);
      fenced = All-push HasFewFences old action h.fenced fenced;
      closes_last = closes_behind old action unclosed;
      few = omega (arith, length_push old action);
    })

-- where nothing was done, other lawful areas are lawful too
pub lawful_areas : (areas : Areas) (actions : List Action) → IsLawfulAreas areas → actions ≡ [] → IsLawfulPlan areas actions
lawful_areas areas actions laid none =
    rw none (record {
      laid_out = laid;
      within = All-nil (IsWithin (places_of areas));
      fenced = All-nil HasFewFences;
      closes_last = refl;
      few = omega arith;
    })
