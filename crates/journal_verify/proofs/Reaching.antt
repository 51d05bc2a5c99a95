-- The record of a client's reach, one action further.
use Rattle.std.proofs.Common.{◌≡◌, ◌≢◌, ℕ, ◌+◌, ◌-◌, ◌≤◌, ◌<◌, ◌⊎◌, inl, inr, Bool, true, false, cond, eqb, ltb, leb, Option, Some, List, length, take, get_or, set, refl, sym, ap, subst, ◌∙◌, arith}
use Rattle.std.specs.Prelude.{◌&&◌, ◌||◌, slice_get, slice_index}
use Rattle.std.specs.Bool.{Decides}
use Rattle.std.specs.List.{All}
use Rattle.std.specs.Ordering.{is_eq}
use Rattle.std.proofs.Math.Nat.{eq-or-lt_of_le}
use Rattle.std.proofs.lemmas.Bool.{eq-eqb}
use Rattle.std.proofs.lemmas.Bool.Decides.{nat_tests}
use Rattle.std.proofs.lemmas.List.{get_or-set_same, get_or-set_other, length-set}
use Rattle.std.proofs.lemmas.Option.{slice_get_within}
use Rattle.gpu_plan.specs.declared.plan.Action.{Action}
use Rattle.gpu_plan.specs.declared.plan.Action.TheVariants.{Put, Flush, Finish, Token, Close}
use Rattle.gpu_plan.specs.Plans.{IsWithin}
use Rattle.gpu_plan.specs.Passes.{flush_count, flushes, passes, passes_behind, passes_if_there, bound}
use Rattle.gpu_plan.proofs.Passing.{flushes_one_further, flushes_within, bound_one_further, passes_below_bound, bound_within}
use Rattle.journal_verify.specs.Held.{stored}
use Rattle.journal_verify.specs.Reached.{Reached, pair_cmp, last_of, is_since, has_since, PutBetween, older_with, ends_after, older_after, IsTakenUp, IsReached}

-- ---- pairs of a place and a value

pub same_pair : (p v place value : ℕ) → is_eq (pair_cmp (p, v) (place, value)) ≡ (eqb p place && eqb v value)
same_pair p v place value = grind (arith, nat_tests)

-- ---- puts before a position and before the next one

shorter : (actions : List Action) (from upto place value : ℕ) → (slice_get actions upto ≡ Some (Put place value) → ⊥) → PutBetween actions from (upto + 1) place value → PutBetween actions from upto place value
shorter actions from upto place value other b =
    let before = b.before in
    let cases : (b.at ≡ upto) ⊎ (b.at < upto) = eq-or-lt_of_le (omega arith) in
    elim cases [
      | inl here ↦ absurd (other (ap (slice_get actions) (sym here) ∙ b.put))
      | inr less ↦ record { at = b.at; since = b.since; before = less; put = b.put }
    ]

longer : (actions : List Action) (from upto place value : ℕ) → PutBetween actions from upto place value → PutBetween actions from (upto + 1) place value
longer actions from upto place value b = record { at = b.at; since = b.since; before = (let before = b.before in omega arith); put = b.put }

put_here : (actions : List Action) (from upto place value : ℕ) → slice_get actions upto ≡ Some (Put place value) → from ≤ upto → PutBetween actions from (upto + 1) place value
put_here actions from upto place value at low = record { at = upto; since = low; before = omega arith; put = at }

nothing_behind : (actions : List Action) (from upto place value : ℕ) → upto ≤ from → PutBetween actions from upto place value → ⊥
nothing_behind actions from upto place value low b = let since = b.since in let before = b.before in omega arith

-- the put of another pair is not one of this
other_put : (p v place value : ℕ) → (eqb p place && eqb v value) ≡ false → (o : Option Action) → o ≡ Some (Put p v) → o ≡ Some (Put place value) → ⊥
other_put p v place value apart o first second =
    let same : Put p v ≡ Put place value = cc in
    let one : p ≡ place = cc in
    let two : v ≡ value = cc in
    let test : (eqb p place && eqb v value) ≡ true = grind (arith, nat_tests) in
    cc

same_puts : (actions : List Action) (from upto place value : ℕ) (b : Bool) → (slice_get actions upto ≡ Some (Put place value) → ⊥) → Decides b (PutBetween actions from upto place value) → Decides b (PutBetween actions from (upto + 1) place value)
same_puts actions from upto place value b other d = (λ e. longer actions from upto place value (d.0 e), λ put. d.1 (shorter actions from upto place value other put))

-- the action at hand is a put at the place
here_decides : (actions : List Action) (from upto p v value : ℕ) (old : Bool) → slice_get actions upto ≡ Some (Put p v) → Decides old (PutBetween actions from upto p value)
    → Decides ((eqb v value && ltb from (upto + 1)) || old) (PutBetween actions from (upto + 1) p value)
here_decides actions from upto p v value old at d = by (eqb v value) (ltb from (upto + 1)) refl refl
  where
    by : (a c : Bool) → eqb v value ≡ a → ltb from (upto + 1) ≡ c → Decides ((a && c) || old) (PutBetween actions from (upto + 1) p value)
    by true true ea ec =
        let same : v ≡ value = grind (arith, nat_tests) in
        let low : from ≤ upto = grind (arith, nat_tests) in
        (λ e. put_here actions from upto p value (at ∙ (λ i. Some (Put p (same i)))) low, λ put. refl)
    by true false ea ec =
        let far : upto + 1 ≤ from = grind (arith, nat_tests) in
        (λ e. longer actions from upto p value (d.0 e), λ put. absurd (nothing_behind actions from (upto + 1) p value far put))
    by false c ea ec =
        let apart : (eqb p p && eqb v value) ≡ false = grind (arith, nat_tests) in
        same_puts actions from upto p value old (λ q. other_put p v p value apart (slice_get actions upto) at q) d

-- ---- the record of the puts, one action further

-- the older put with the last one tells as much as both did
older_tells : (from done last end value : ℕ) (o : Option ℕ) → done ≤ from → ((eqb last value && ltb from end) || is_since from o ≡ true → from < end)
    → is_since from (cond (eqb last value && ltb done end) (Some (end - 1)) o) ≡ ((eqb last value && ltb from end) || is_since from o)
older_tells from done last end value o since below = by (eqb last value) (ltb done end) (ltb from end) (is_since from o) refl refl refl refl below
  where
    by : (a b c d : Bool) → eqb last value ≡ a → ltb done end ≡ b → ltb from end ≡ c → is_since from o ≡ d → ((a && c) || is_since from o ≡ true → from < end)
        → is_since from (cond (a && b) (Some (end - 1)) o) ≡ ((a && c) || is_since from o)
    by false b c d ea eb ec ed below = refl
    by true false true d ea eb ec ed below =
        let one : end ≤ done = grind (arith, nat_tests) in
        let two : from < end = grind (arith, nat_tests) in
        absurd (omega arith)
    by true false false d ea eb ec ed below = refl
    by true true true d ea eb ec ed below =
        let two : from < end = grind (arith, nat_tests) in
        let low : from ≤ end - 1 = omega arith in
        grind (arith, nat_tests)
    by true true false true ea eb ec ed below =
        let two : end ≤ from = grind (arith, nat_tests) in
        let less = below ed in
        absurd (omega arith)
    by true true false false ea eb ec ed below =
        let one : done < end = grind (arith, nat_tests) in
        let two : end ≤ from = grind (arith, nat_tests) in
        let high : end - 1 < from = omega arith in
        let no : leb from (end - 1) ≡ false = grind (arith, nat_tests) in
        no ∙ sym ed

-- the test of the puts at a place once this was put there
test_here : (done p v from value : ℕ) (old : Reached) → p < length old.values → p < length old.ends → done ≤ from → (has_since from old p value ≡ true → from < slice_index old.ends p)
    → ((eqb (get_or (set old.values p v) p 0) value && ltb from (get_or (set old.ends p (old.upto + 1)) p 0)) || is_since from (older_with done p old p value)) ≡ ((eqb v value && ltb from (old.upto + 1)) || has_since from old p value)
test_here done p v from value old valued ended since below =
    rw (get_or-set_same old.values p v 0 valued, get_or-set_same old.ends p (old.upto + 1) 0 ended, eq-eqb p p refl)
    (ap (λ (b : Bool). (eqb v value && ltb from (old.upto + 1)) || b) (older_tells from done (slice_index old.values p) (slice_index old.ends p) value (last_of old.older p value) since below))

-- and of those at another place
test_there : (done p v from place value : ℕ) (old : Reached) → place ≢ p → eqb p place ≡ false
    → ((eqb (get_or (set old.values p v) place 0) value && ltb from (get_or (set old.ends p (old.upto + 1)) place 0)) || is_since from (older_with done p old place value)) ≡ has_since from old place value
test_there done p v from place value old other apart =
    rw (get_or-set_other old.values p place v 0 other, get_or-set_other old.ends p place (old.upto + 1) 0 other, apart) refl

-- the test of the puts that are kept after one more action
abbrev tested : ℕ → Action → Reached → ℕ → ℕ → ℕ → Bool
tested done action old from place value = (eqb (slice_index (stored action old.values) place) value && ltb from (slice_index (ends_after action old.upto old.ends) place)) || is_since from (older_after action done old place value)

puts_more : (actions : List Action) (done : ℕ) (action : Action) (old : Reached) (from place value : ℕ) → slice_get actions old.upto ≡ Some action → IsWithin (length old.values) action → IsWithin (length old.ends) action
    → IsReached actions done old → done ≤ from → Decides (tested done action old from place value) (PutBetween actions from (old.upto + 1) place value)
puts_more actions done (Put p v) old from place value at valued ended is since = by (eqb p place) refl
  where
    by : (b : Bool) → eqb p place ≡ b → Decides (tested done (Put p v) old from place value) (PutBetween actions from (old.upto + 1) place value)
    by true e =
        let same : p ≡ place = grind (arith, nat_tests) in
        let d = is.puts from p value since in
        subst (λ place. Decides (tested done (Put p v) old from place value) (PutBetween actions from (old.upto + 1) place value)) same
        (subst (λ (b : Bool). Decides b (PutBetween actions from (old.upto + 1) p value)) (sym (test_here done p v from value old valued.0 ended.0 since (λ yes. is.last from p value (d.0 yes))))
        (here_decides actions from old.upto p v value (has_since from old p value) at d))
    by false e =
        let other : place ≢ p = λ same. let test : eqb p place ≡ true = grind (arith, nat_tests) in absurd (cc) in
        let apart : (eqb p place && eqb v value) ≡ false = grind (arith, nat_tests) in
        subst (λ (b : Bool). Decides b (PutBetween actions from (old.upto + 1) place value)) (sym (test_there done p v from place value old other e))
        (same_puts actions from old.upto place value (has_since from old place value) (λ q. other_put p v place value apart (slice_get actions old.upto) at q) (is.puts from place value since))
puts_more actions done (Flush put fences) old from place value at valued ended is since = same_puts actions from old.upto place value (has_since from old place value) (λ q. absurd (cc)) (is.puts from place value since)
puts_more actions done Finish old from place value at valued ended is since = same_puts actions from old.upto place value (has_since from old place value) (λ q. absurd (cc)) (is.puts from place value since)
puts_more actions done (Token token) old from place value at valued ended is since = same_puts actions from old.upto place value (has_since from old place value) (λ q. absurd (cc)) (is.puts from place value since)
puts_more actions done Close old from place value at valued ended is since = same_puts actions from old.upto place value (has_since from old place value) (λ q. absurd (cc)) (is.puts from place value since)

-- no put at a place stands after the last one
last_more : (actions : List Action) (done : ℕ) (action : Action) (old : Reached) (from place value : ℕ) → slice_get actions old.upto ≡ Some action → IsWithin (length old.ends) action → IsReached actions done old
    → PutBetween actions from (old.upto + 1) place value → from < slice_index (ends_after action old.upto old.ends) place
last_more actions done (Put p v) old from place value at ended is put = by (eqb p place) refl
  where
    by : (b : Bool) → eqb p place ≡ b → from < get_or (set old.ends p (old.upto + 1)) place 0
    by true e =
        let same : p ≡ place = grind (arith, nat_tests) in
        let since = put.since in
        let before = put.before in
        let here : get_or (set old.ends p (old.upto + 1)) place 0 ≡ old.upto + 1 = subst (λ place. get_or (set old.ends p (old.upto + 1)) place 0 ≡ old.upto + 1) same (get_or-set_same old.ends p (old.upto + 1) 0 ended.0) in
        omega arith
    by false e =
        let other : place ≢ p = λ same. let test : eqb p place ≡ true = grind (arith, nat_tests) in absurd (cc) in
        let apart : (eqb p place && eqb v value) ≡ false = grind (arith, nat_tests) in
        rw (get_or-set_other old.ends p place (old.upto + 1) 0 other)
        (is.last from place value (shorter actions from old.upto place value (λ q. other_put p v place value apart (slice_get actions old.upto) at q) put))
last_more actions done (Flush put fences) old from place value at ended is b = is.last from place value (shorter actions from old.upto place value (λ q. absurd (cc)) b)
last_more actions done Finish old from place value at ended is b = is.last from place value (shorter actions from old.upto place value (λ q. absurd (cc)) b)
last_more actions done (Token token) old from place value at ended is b = is.last from place value (shorter actions from old.upto place value (λ q. absurd (cc)) b)
last_more actions done Close old from place value at ended is b = is.last from place value (shorter actions from old.upto place value (λ q. absurd (cc)) b)

-- ---- one action further

pub length-stored : (action : Action) (values : List ℕ) → length (stored action values) ≡ length values
length-stored (Put p v) values = length-set values p v
length-stored (Flush put fences) values = refl
length-stored Finish values = refl
length-stored (Token token) values = refl
length-stored Close values = refl

length-ends_after : (action : Action) (at : ℕ) (ends : List ℕ) → length (ends_after action at ends) ≡ length ends
length-ends_after (Put p v) at ends = length-set ends p (at + 1)
length-ends_after (Flush put fences) at ends = refl
length-ends_after Finish at ends = refl
length-ends_after (Token token) at ends = refl
length-ends_after Close at ends = refl

pub reached_more : (actions : List Action) (done : ℕ) (action : Action) (old new : Reached) → slice_get actions old.upto ≡ Some action → IsWithin (length old.values) action → IsWithin (length old.ends) action
    → IsReached actions done old → IsTakenUp done action old new → IsReached actions done new
reached_more actions done action old new at valued ended reached taken =
    let there = slice_get_within actions old.upto action at in
    let next = taken.upto in
    record {
      within = omega arith;
      behind = taken.behind ∙ ap (λ n. n + flush_count action) reached.behind ∙ sym (flushes_one_further actions old.upto action at) ∙ ap (λ n. flushes (take n actions)) (sym taken.upto);
      valued = subst (λ n. All (IsWithin n) actions) (sym (ap length taken.values ∙ length-stored action old.values)) reached.valued;
      ended = subst (λ n. All (IsWithin n) actions) (sym (ap length taken.ends ∙ length-ends_after action old.upto old.ends)) reached.ended;
      last = λ from place value put.
          rw (taken.ends) (last_more actions done action old from place value at ended reached (subst (λ n. PutBetween actions from n place value) taken.upto put));
      puts = λ from place value since.
          rw (taken.values, taken.ends, taken.older place value, taken.upto) (puts_more actions done action old from place value at valued ended reached since);
    }

-- the record is so where the client has done more, too
pub reached_later : (actions : List Action) (done to : ℕ) (reached : Reached) → done ≤ to → IsReached actions done reached → IsReached actions to reached
reached_later actions done to reached later is = record {
  within = is.within;
  behind = is.behind;
  valued = is.valued;
  ended = is.ended;
  last = is.last;
  puts = λ from place value since. is.puts from place value (omega arith);
}

pub few_behind : (actions : List Action) (done : ℕ) (reached : Reached) → IsReached actions done reached → reached.behind ≤ reached.upto
few_behind actions done reached is = let few = flushes_within actions reached.upto in let b = is.behind in omega arith

passes_here : (actions : List Action) (done : ℕ) (reached : Reached) (finished : ℕ) (tokens : List ℕ) (action : Action) → slice_get actions reached.upto ≡ Some action → IsReached actions done reached
    → passes_behind reached.behind finished tokens action ≡ passes actions reached.upto finished tokens
passes_here actions done reached finished tokens action at is =
    ap (λ n. passes_behind n finished tokens action) is.behind ∙ ap (λ (o : Option Action). passes_if_there (flushes (take reached.upto actions)) finished tokens o) (sym at)

-- where the action at hand passes, the bound lies after it
pub bound_behind_passed : (actions : List Action) (done : ℕ) (reached : Reached) (finished : ℕ) (tokens : List ℕ) (action : Action) → slice_get actions reached.upto ≡ Some action → IsReached actions done reached
    → reached.upto ≤ bound actions finished tokens → passes_behind reached.behind finished tokens action ≡ true → reached.upto + 1 ≤ bound actions finished tokens
bound_behind_passed actions done reached finished tokens action at is below pass = bound_one_further actions reached.upto finished tokens below (sym (passes_here actions done reached finished tokens action at is) ∙ pass)

-- and where it does not, the bound is there
pub bound_at_stop : (actions : List Action) (done : ℕ) (reached : Reached) (finished : ℕ) (tokens : List ℕ) (action : Action) → slice_get actions reached.upto ≡ Some action → IsReached actions done reached
    → reached.upto ≤ bound actions finished tokens → passes_behind reached.behind finished tokens action ≡ false → reached.upto ≡ bound actions finished tokens
bound_at_stop actions done reached finished tokens action at is below stop =
    let here : passes actions reached.upto finished tokens ≡ false = sym (passes_here actions done reached finished tokens action at is) ∙ stop in
    let not_further : reached.upto < bound actions finished tokens → ⊥ = λ lt. let p = passes_below_bound actions reached.upto finished tokens lt in cc in
    omega arith

pub bound_at_end : (actions : List Action) (reached : Reached) (finished : ℕ) (tokens : List ℕ) → length actions ≤ reached.upto → reached.upto ≤ bound actions finished tokens → reached.upto ≡ bound actions finished tokens
bound_at_end actions reached finished tokens far below = let within = bound_within actions finished tokens in omega arith
