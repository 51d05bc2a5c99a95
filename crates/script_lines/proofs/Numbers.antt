-- Names keep their numbers while more are put after them.
use Rattle.std.proofs.Common.{◌≡◌, ℕ, zero, suc, ◌≤◌, Bool, true, false, cond, not, ◌||◌, nat_lt, ◌+◌, List, [], ◌∷◌, ◌++◌, length, map, Some, None, refl, sym, ap, ◌∙◌, arith}
use Rattle.std.specs.Prelude.{slice_index}
use Rattle.std.specs.List.{list_any, position_or_len}
use Rattle.std.specs.Option.{option_map_or}
use Rattle.std.proofs.lemmas.Bool.Decides.{nat_tests}
use Rattle.gpu_cmd.specs.declared.name.Name.{Name}
use Rattle.script_lines.specs.Names.{is_name, with_name, number_in}

-- ---- numbers by recursion

abbrev further : ℕ → ℕ
further zero = 0
further (suc k) = suc (suc k)

-- the number of a name: 1 where it is the first, and else one more than its number in the rest
abbrev counted : List Name → Name → ℕ
counted [] name = 0
counted (n ∷ names) name = cond (is_name name n) 1 (further (counted names name))

number_step : (same : Bool) (at next long longer : ℕ) → next ≡ suc at → longer ≡ suc long → option_map_or suc (cond (nat_lt (cond (not same) next 0) longer) (Some (cond (not same) next 0)) None) 0 ≡ cond same 1 (further (option_map_or suc (cond (nat_lt at long) (Some at) None) 0))
number_step true at next long longer e f = let less : nat_lt 0 longer ≡ true = grind (arith, nat_tests) in rw less refl
number_step false at next long longer e f = let less : nat_lt next longer ≡ nat_lt at long = grind (arith, nat_tests) in rw (less, e) (by_bool (nat_lt at long))
  where
    by_bool : (b : Bool) → option_map_or suc (cond b (Some (suc at)) None) 0 ≡ further (option_map_or suc (cond b (Some at) None) 0)
    by_bool true = refl
    by_bool false = refl

by_recursion : (names : List Name) (name : Name) → number_in names name ≡ counted names name
by_recursion [] name = refl
by_recursion (n ∷ names) name = number_step (is_name name n) (position_or_len (is_name name) names) (1 + position_or_len (is_name name) names) (length names) (length (n ∷ names)) (omega arith) (omega arith) ∙ ap (λ k. cond (is_name name n) 1 (further k)) (by_recursion names name)

-- ---- more names

counted_before : (names more : List Name) (name : Name) → 1 ≤ counted names name → counted (names ++ more) name ≡ counted names name
counted_before [] more name h = absurd (omega arith)
counted_before (n ∷ names) more name h = by_first (is_name name n) (counted names name) (counted (names ++ more) name) h (counted_before names more name)
  where
    by_first : (same : Bool) (k m : ℕ) → 1 ≤ cond same 1 (further k) → (1 ≤ k → m ≡ k) → cond same 1 (further m) ≡ cond same 1 (further k)
    by_first true k m h rest = refl
    by_first false zero m h rest = absurd (omega arith)
    by_first false (suc k) m h rest = ap further (rest (omega arith))

counted_among : (names : List Name) (name : Name) → list_any (is_name name) names ≡ true → 1 ≤ counted names name
counted_among [] name h = absurd cc
counted_among (n ∷ names) name h = by_first (is_name name n) (list_any (is_name name) names) (counted names name) h (counted_among names name)
  where
    by_first : (same any : Bool) (k : ℕ) → (same || any) ≡ true → (any ≡ true → 1 ≤ k) → 1 ≤ cond same 1 (further k)
    by_first true any k h rest = omega arith
    by_first false any zero h rest = rest h
    by_first false any (suc k) h rest = omega arith

-- a name is found at itself
pub itself : (name : Name) → is_name name name ≡ true
itself name = grind (arith, nat_tests)

or_true : (b : Bool) → (b || true) ≡ true
or_true true = refl
or_true false = refl

among_last : (names : List Name) (name : Name) → list_any (is_name name) (names ++ name ∷ []) ≡ true
among_last [] name = rw (itself name) refl
among_last (n ∷ names) name = rw (among_last names name) (or_true (is_name name n))

-- the names of the one list have the same numbers in the other
abbrev pub Keeps : List Name → List Name → Type 0
Keeps names more = (name : Name) → 1 ≤ number_in names name → number_in more name ≡ number_in names name

pub keeps_all : (names : List Name) → Keeps names names
keeps_all names name h = refl

pub keeps_both : (a b c : List Name) → Keeps a b → Keeps b c → Keeps a c
keeps_both a b c ab bc name h =
    let first = ab name h in
    bc name (omega arith) ∙ first

either : (P : List Name → Type 0) (b : Bool) (names more : List Name) → (b ≡ true → P names) → (b ≡ false → P more) → P (cond b names more)
either P true names more h k = h refl
either P false names more h k = k refl

pub keeps_more : (names : List Name) (name : Name) → Keeps names (with_name names name)
keeps_more names name = either (Keeps names) (list_any (is_name name) names) names (names ++ name ∷ []) (λ b. keeps_all names)
    (λ b other h. by_recursion (names ++ name ∷ []) other ∙ counted_before names (name ∷ []) other (let same = by_recursion names other in omega arith) ∙ sym (by_recursion names other))

-- a name that was mentioned has a number
pub mentioned : (names : List Name) (name : Name) → 1 ≤ number_in (with_name names name) name
mentioned names name = either (λ (now : List Name). 1 ≤ number_in now name) (list_any (is_name name) names) names (names ++ name ∷ [])
    (λ b. let same = by_recursion names name in let there = counted_among names name b in omega arith)
    (λ b. let same = by_recursion (names ++ name ∷ []) name in let there = counted_among (names ++ name ∷ []) name (among_last names name) in omega arith)

-- ---- what stands at a name's number

one : (a b : Name) → is_name a b ≡ true → b ≡ a
one a b h =
    let space : b.namespace ≡ a.namespace = grind (arith, nat_tests) in
    let id : b.id ≡ a.id = grind (arith, nat_tests) in
    λ i. record { namespace = space i; id = id i }

counted_at : (f : Name → ℕ) (names : List Name) (name : Name) → 1 ≤ counted names name → slice_index (0 ∷ map f names) (counted names name) ≡ f name
counted_at f [] name h = absurd (omega arith)
counted_at f (n ∷ names) name h = by_first (is_name name n) refl (counted names name) h (counted_at f names name)
  where
    by_first : (same : Bool) → is_name name n ≡ same → (k : ℕ) → 1 ≤ cond same 1 (further k) → (1 ≤ k → slice_index (0 ∷ map f names) k ≡ f name) → slice_index (0 ∷ f n ∷ map f names) (cond same 1 (further k)) ≡ f name
    by_first true is k h rest = ap f (one name n is)
    by_first false is zero h rest = absurd (omega arith)
    by_first false is (suc k) h rest = rest (omega arith)

-- in a list of what a function says of each name, what it says of one stands at the name's number
pub said_at : (f : Name → ℕ) (names : List Name) (name : Name) → 1 ≤ number_in names name → slice_index (0 ∷ map f names) (number_in names name) ≡ f name
said_at f names name h = ap (slice_index (0 ∷ map f names)) (by_recursion names name) ∙ counted_at f names name (let same = by_recursion names name in omega arith)
