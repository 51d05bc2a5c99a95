-- The head of a journal text.
use Rattle.verify_input.proofs.Names.{◌≡◌, ◌≢◌, ℕ, zero, suc, ◌+◌, ◌-◌, ◌%◌, ◌/◌, ◌<◌, ◌≤◌, Bool, true, false, not, ltb, Option, Some, None, MatchOption, Bor, List, [], ◌∷◌, ◌++◌, length, refl, sym, ap, subst, ◌∙◌, arith, codes, list_all, concat, and_parts, not-true, nat_tests, All-nil, All-cons, All-append, ends_line, PlansData, digits_within, numeral, number_text, journal_head, name_text, HasNoFeed, IsFirstBad, whole_lines, IsLine, head_of, IsFirstOther, heads}
use Rattle.gpu_cmd.specs.declared.name.Name.{Name}
use Rattle.verify_input.proofs.Wholes.{concat_whole, few_whole, line_first}

-- ---- the lines of a head are lines

abbrev IsOther : ℕ → Type 0
IsOther byte = ends_line byte ≡ false

-- no byte of the text is a line feed
pub record Plain (text : List ℕ) : Type 0 where
  pub none : HasNoFeed text

pub letters : (text : List ℕ) → list_all (λ byte. not (ends_line byte)) text ≡ true → Plain text
letters [] e = record { none = All-nil IsOther }
letters (byte ∷ text) e =
    let parts = and_parts (not (ends_line byte)) (list_all (λ byte. not (ends_line byte)) text) e in
    record { none = All-cons IsOther byte text (not-true (ends_line byte) parts.0) (letters text parts.1).none }

pub both : {a b : List ℕ} → Plain a → Plain b → Plain (a ++ b)
both {a} {b} one other = record { none = All-append IsOther a b one.none other.none }

digit_other : (digit : ℕ) → ends_line (48 + digit) ≡ false
digit_other digit = grind (arith, nat_tests)

-- one digit more, or the last
no_feed_next : (b : Bool) (front : List ℕ) (number last : ℕ) → HasNoFeed front → HasNoFeed (elim b [ true ↦ (48 + number) ∷ [] | false ↦ front ++ (48 + last) ∷ [] ])
no_feed_next true front number last none = All-cons IsOther (48 + number) [] (digit_other number) (All-nil IsOther)
no_feed_next false front number last none = All-append IsOther front ((48 + last) ∷ []) none (All-cons IsOther (48 + last) [] (digit_other last) (All-nil IsOther))

no_feed_digits : (count number : ℕ) → HasNoFeed (digits_within count number)
no_feed_digits zero number = All-nil IsOther
no_feed_digits (suc count) number = no_feed_next (ltb number 10) (digits_within count (number / 10)) number (number % 10) (no_feed_digits count (number / 10))

-- a number after a text
pub number : {a : List ℕ} → Plain a → (n : ℕ) → Plain (a ++ number_text n)
unfolding numeral
number {a} front n = both {a = a} {b = number_text n} front (record { none = All-cons IsOther 32 (digits_within (suc n) n) refl (no_feed_digits (suc n) n) })

pub line : {own text : List ℕ} → Plain own → text ≡ own ++ 10 ∷ [] → IsLine text
line {own} plain e = record { line = own; none = plain.none; is = e }

pub head_line : IsLine journal_head
head_line = line (letters (codes "gpu-journal 2") refl) refl

pub name_line : (stream : ℕ) (name : Name) → IsLine (name_text stream name)
unfolding name_text
name_line stream name = line (number (number (number (letters (codes "name") refl) stream) name.namespace) name.id) refl

-- ---- a text that begins with a line, or does not

other_line : (text line : List ℕ) → ((rest : List ℕ) → text ≢ line ++ rest) → IsFirstOther (line ∷ []) (whole_lines text) 0
other_line text line none = by (whole_lines text) refl
  where
    by : (lines : List (List ℕ)) → whole_lines text ≡ lines → IsFirstOther (line ∷ []) lines 0
    by [] e = tt
    by (first ∷ lines) e = λ same. none (concat lines) (sym (concat_whole text) ∙ ap concat e ∙ ap (λ (first : List ℕ). first ++ concat lines) same)

-- what a prefix that is cut off says, where it is a line
pub stripped : (text line : List ℕ) (rest : Option (Bor (List ℕ))) → IsLine line → MatchOption rest ((behind : List ℕ) → text ≢ line ++ behind) (λ behind. text ≡ line ++ behind.now)
    → MatchOption rest (IsFirstOther (line ∷ []) (whole_lines text) 0) (λ behind. whole_lines text ≡ line ∷ whole_lines behind.now)
stripped text line None one none = other_line text line none
stripped text line (Some behind) one is = ap whole_lines is ∙ line_first line behind.now one

-- ---- the first line that is another

bad_behind : (heads lines : List (List ℕ)) (k : ℕ) → IsFirstBad lines k → IsFirstOther heads (heads ++ lines) (length heads + k)
bad_behind [] lines k bad = let same : 0 + k ≡ k = omega arith in subst (λ k. IsFirstOther [] lines k) (sym same) bad
bad_behind (head ∷ heads) lines k bad =
    let next : suc (length heads) + k ≡ suc (length heads + k) = omega arith in
    subst (λ k. IsFirstOther (head ∷ heads) (head ∷ (heads ++ lines)) k) (sym next) (refl, bad_behind heads lines k bad)

bad_within : (lines : List (List ℕ)) (k : ℕ) → IsFirstBad lines k → k < length lines
bad_within [] k bad = absurd bad
bad_within (line ∷ lines) zero bad = omega arith
bad_within (line ∷ lines) (suc k) bad = let less = bad_within lines k bad.1 in omega arith

other_within : (heads lines : List (List ℕ)) (k : ℕ) → IsFirstOther heads lines k → k ≤ length lines
other_within [] lines k other = let less = bad_within lines k other in omega arith
other_within (head ∷ heads) [] zero other = omega arith
other_within (head ∷ heads) [] (suc k) other = absurd other
other_within (head ∷ heads) (line ∷ lines) zero other = omega arith
other_within (head ∷ heads) (line ∷ lines) (suc k) other = let less = other_within heads lines k other.1 in omega arith

pub bad_early : (text : List ℕ) (k : ℕ) → IsFirstBad (whole_lines text) k → k < length text
bad_early text k bad = omega (arith, bad_within (whole_lines text) k bad, few_whole text)

pub other_early : (heads : List (List ℕ)) (text : List ℕ) (k : ℕ) → IsFirstOther heads (whole_lines text) k → k ≤ length text
other_early heads text k other = omega (arith, other_within heads (whole_lines text) k other, few_whole text)

-- ---- the head, line by line

pub second : (p : PlansData) → p.version ≡ 2 → head_of p ≡ heads p
second p two = rw two refl

-- after the head
pub bad_behind_head : (p : PlansData) (text rest : List ℕ) (k : ℕ) → whole_lines text ≡ head_of p ++ whole_lines rest → IsFirstBad (whole_lines rest) k → IsFirstOther (head_of p) (whole_lines text) (length (head_of p) + k)
bad_behind_head p text rest k lines bad =
    subst (λ (lines : List (List ℕ)). IsFirstOther (head_of p) lines (length (head_of p) + k)) (sym lines) (bad_behind (head_of p) (whole_lines rest) k bad)
