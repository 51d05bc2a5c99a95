-- What a text begins with, and what its pieces say.
use Rattle.std.proofs.Common.{◌≡◌, ℕ, ◌+◌, ◌^◌, ◌<◌, ◌≤◌, true, false, Option, Some, None, List, [], ◌∷◌, ◌++◌, map, length, length-append, take, drop, get_or, inl, inr, refl, sym, ap, subst, ◌∙◌, append_assoc, arith}
use Rattle.std.specs.Prelude.{position}
use Rattle.std.specs.Char.{digit_value}
use Rattle.std.specs.List.{All, slice_split}
use Rattle.std.specs.Str.Parse.{AllDigits}
use Rattle.std.proofs.lemmas.Bool.{cases_lt}
use Rattle.std.proofs.lemmas.Bool.Decides.{nat_tests}
use Rattle.std.proofs.lemmas.Fmt.{decimal_is_IsNumeral}
use Rattle.std.proofs.lemmas.List.{append-nil, take-append-drop, drop_more, take_at, drop_at, get_or_at, get_or_append_left, length-take}
use Rattle.std.proofs.lemmas.List.Elements.{All-nil, All-cons, All-head}
use Rattle.std.proofs.lemmas.List.Quantifiers.{position-Some}
use Rattle.std.proofs.lemmas.List.Splits.{slice_split_none, slice_split_at, slice_split-cons_yes}
use Rattle.journal_text.specs.Digits.{numeral, hex8}
use Rattle.journal_text.proofs.Numerals.{numeral_decimal}
use Rattle.journal_text.proofs.Lengths.{length-hex8}
use Rattle.verify_input.specs.Said.{is_space, pieces_of, own_number, own_value, words_said}
use Rattle.verify_input.specs.Reading.{IsWord}
use Rattle.verify_input.specs.Fronts.{IsCut, is_colon, HasValue, HasWord, HasNoWord}
use Rattle.script_lines.proofs.Cuts.{split_found, none_passes}
use Rattle.verify_input.proofs.Cuts.{space_cut}
use Rattle.verify_input.proofs.Absent.{none_before}
use Rattle.verify_input.proofs.Lines.{ink_word, no_space}
use Rattle.verify_input.proofs.Numbers.{number_told_own, own_number_there, value_told_own, own_value_there}
use Rattle.verify_input.proofs.Words.{with_front, front_none, front_more, word_piece, word_there, words_told}

-- ---- the first colon

abbrev IsOther : ℕ → Type 0
IsOther byte = is_colon byte ≡ false

other_digits : (ds : List ℕ) → AllDigits 10 ds → All IsOther ds
other_digits [] are = All-nil IsOther
other_digits (c ∷ cs) are =
    let small : digit_value c < 10 = are.0 in
    let other : is_colon c ≡ false = grind (arith, nat_tests) in
    All-cons IsOther c cs other (other_digits cs are.1)

other_number : (n : ℕ) → n < 2 ^ 32 → All IsOther (numeral n)
other_number n small = rw (numeral_decimal n (omega arith)) (other_digits _ (decimal_is_IsNumeral n (omega arith)).0.1)

colon_first : (a b : List ℕ) → All IsOther a → position is_colon (a ++ 58 ∷ b) ≡ Some (length a)
colon_first a b others = by (position is_colon (a ++ 58 ∷ b)) refl
  where
    here : is_colon (get_or (a ++ 58 ∷ b) (length a) 0) ≡ true
    here = ap is_colon (get_or_at a 58 b 0 (length a) refl)

    within : length a < length (a ++ 58 ∷ b)
    within = omega (arith, length-append a (58 ∷ b))

    by : (o : Option ℕ) → position is_colon (a ++ 58 ∷ b) ≡ o → position is_colon (a ++ 58 ∷ b) ≡ Some (length a)
    by None e = let none = none_before is_colon (a ++ 58 ∷ b) e (length a) within in let test = here in absurd (cc)
    by (Some at) e =
        let found = position-Some is_colon (a ++ 58 ∷ b) at 0 e in
        elim (cases_lt at (length a)) [
          | inl less ↦ (let other = others at 0 less in let same = get_or_append_left a (58 ∷ b) 0 at less in let test = found.1 in absurd (cc))
          | inr low ↦ elim (cases_lt (length a) at) [
            | inl less ↦ (let other = found.2 (length a) less in let test = here in absurd (cc))
            | inr high ↦ (let same : at ≡ length a = omega arith in e ∙ ap Some same)
          ]
        ]

-- what stands before the colon of a word, and after it
pub word_cut_at : (text : List ℕ) (word : ℕ × ℕ) (rest : List ℕ) (at : ℕ) → HasWord text word rest → position is_colon text ≡ Some at → (take at text ≡ numeral word.0) × (drop (at + 1) text ≡ hex8 word.1 ++ rest)
word_cut_at text word rest at has e =
    let a = numeral word.0 in
    let b = hex8 word.1 ++ rest in
    let first : position is_colon text ≡ Some (length a) = ap (position is_colon) has.is ∙ colon_first a b (other_number word.0 has.small.0) in
    let same : at ≡ length a = cc in
    let behind : length (a ++ 58 ∷ []) ≡ at + 1 = omega (arith, length-append a (58 ∷ [])) in (
      ap (take at) has.is ∙ take_at a (58 ∷ b) at (sym same),
      ap (drop (at + 1)) has.is ∙ ap (drop (at + 1)) (sym (append_assoc a (58 ∷ []) b)) ∙ drop_at (a ++ 58 ∷ []) b (at + 1) behind,
    )

pub no_colon : (text : List ℕ) (word : ℕ × ℕ) (rest : List ℕ) → HasWord text word rest → position is_colon text ≡ None → ⊥
no_colon text word rest has e =
    let first : position is_colon text ≡ Some (length (numeral word.0)) = ap (position is_colon) has.is ∙ colon_first (numeral word.0) (hex8 word.1 ++ rest) (other_number word.0 has.small.0) in
    cc

pub no_number : (text : List ℕ) (word : ℕ × ℕ) (rest : List ℕ) (at : ℕ) → HasWord text word rest → position is_colon text ≡ Some at → own_number (take at text) ≡ None → ⊥
no_number text word rest at has e none =
    let cut = word_cut_at text word rest at has e in
    let there = ap own_number cut.0 ∙ own_number_there word.0 has.small.0 in
    cc

pub value_behind : (text : List ℕ) (word : ℕ × ℕ) (rest : List ℕ) (at : ℕ) → HasWord text word rest → position is_colon text ≡ Some at → HasValue (drop (at + 1) text) word.1 rest
value_behind text word rest at has e = record { is = (word_cut_at text word rest at has e).1; small = has.small.1; cut = has.cut }

pub word_front : (text : List ℕ) (at place value : ℕ) (rest : List ℕ) → position is_colon text ≡ Some at → own_number (take at text) ≡ Some place → HasValue (drop (at + 1) text) value rest → HasWord text (place, value) rest
word_front text at place value rest e n has =
    let found = position-Some is_colon text at 0 e in
    let byte : get_or text at 0 ≡ 58 = let test = found.1 in grind (arith, nat_tests) in
    let number = number_told_own (take at text) place n in
    record {
      is = sym (take-append-drop at text)
          ∙ ap (λ (rest : List ℕ). take at text ++ rest) (drop_more text at 0 found.0 ∙ ap (λ b. b ∷ drop (at + 1) text) byte)
          ∙ (λ i. number.0 i ++ 58 ∷ has.is i);
      small = (number.1, has.small);
      cut = has.cut;
    }

-- ---- values

pub value_short : (text : List ℕ) (value : ℕ) (rest : List ℕ) → HasValue text value rest → length text < 8 → ⊥
value_short text value rest has short = omega (arith, ap length has.is, length-append (hex8 value) rest, length-hex8 value)

pub value_cut : (text : List ℕ) (value : ℕ) (rest : List ℕ) → HasValue text value rest → IsCut (drop 8 text)
value_cut text value rest has = subst IsCut (sym (ap (drop 8) has.is ∙ drop_at (hex8 value) rest 8 (length-hex8 value))) has.cut

pub no_value : (text : List ℕ) (value : ℕ) (rest : List ℕ) → HasValue text value rest → own_value (take 8 text) ≡ None → ⊥
no_value text value rest has none =
    let there = ap own_value (ap (take 8) has.is ∙ take_at (hex8 value) rest 8 (length-hex8 value)) ∙ own_value_there value has.small in
    cc

pub value_front : (text : List ℕ) (value : ℕ) → 8 ≤ length text → own_value (take 8 text) ≡ Some value → IsCut (drop 8 text) → HasValue text value (drop 8 text)
value_front text value long e cut =
    let hex = value_told_own (take 8 text) value (omega (arith, length-take 8 text)) e in
    record { is = sym (take-append-drop 8 text) ∙ ap (λ (front : List ℕ). front ++ drop 8 text) hex.0; small = hex.1; cut = cut }

-- ---- what the pieces of a text say

split_cut : (piece rest : List ℕ) → All (λ byte. is_space byte ≡ false) piece → IsCut rest → slice_split is_space (piece ++ rest) ≡ piece ∷ pieces_of rest
split_cut piece [] ink cut = ap (slice_split is_space) (append-nil piece) ∙ slice_split_none is_space piece ink
split_cut piece (byte ∷ more) ink cut =
    let test : is_space byte ≡ true = ap is_space cut in
    slice_split_at is_space piece byte more ink test ∙ ap (λ (pieces : List (List ℕ)). piece ∷ drop 1 pieces) (sym (slice_split-cons_yes is_space byte more test))

pub pieces_behind : (rest : List ℕ) (byte : ℕ) (text : List ℕ) → rest ≡ byte ∷ text → IsCut rest → pieces_of rest ≡ slice_split is_space text
pieces_behind rest byte text e cut =
    let space : byte ≡ 32 = subst IsCut e cut in
    ap pieces_of e ∙ ap (drop 1) (slice_split-cons_yes is_space byte text (ap is_space space))

pub word_is_said : (text : List ℕ) (word : ℕ × ℕ) (rest : List ℕ) → HasWord text word rest → words_said (slice_split is_space text) ≡ with_front (word ∷ []) (words_said (pieces_of rest))
word_is_said text word rest has =
    let whole : text ≡ word_piece word ++ rest = has.is ∙ sym (append_assoc (numeral word.0) (58 ∷ hex8 word.1) rest) in
    let split = ap (slice_split is_space) whole ∙ split_cut (word_piece word) rest (no_space (word_piece word) (ink_word word has.small)) has.cut in
    ap words_said split ∙ front_none (words_said (word_piece word ∷ pieces_of rest)) ∙ front_more [] word (word_piece word) (pieces_of rest) (word_there word has.small)

word_told_first : (text piece rest : List ℕ) (pieces : List (List ℕ)) (words : List (ℕ × ℕ)) → text ≡ piece ++ rest → IsCut rest → slice_split is_space text ≡ piece ∷ pieces → words_said (slice_split is_space text) ≡ Some words
    → HasNoWord text → ⊥
word_told_first text piece rest pieces words whole cut split said never = by words (words_told (piece ∷ pieces) words (ap words_said (sym split) ∙ said))
  where
    by : (words : List (ℕ × ℕ)) → (piece ∷ pieces ≡ map word_piece words) × All IsWord words → ⊥
    by [] told = let e = told.0 in cc
    by (word ∷ more) told =
        let e = told.0 in
        let same : piece ≡ word_piece word = cc in
        never word rest (record {
          is = whole ∙ ap (λ (front : List ℕ). front ++ rest) same ∙ append_assoc (numeral word.0) (58 ∷ hex8 word.1) rest;
          small = All-head IsWord word more told.1;
          cut = cut;
        })

pub nothing_is_said : (text : List ℕ) → HasNoWord text → words_said (slice_split is_space text) ≡ None
nothing_is_said text never = by (words_said (slice_split is_space text)) (position is_space text) refl refl
  where
    by : (said : Option (List (ℕ × ℕ))) (place : Option ℕ) → words_said (slice_split is_space text) ≡ said → position is_space text ≡ place → words_said (slice_split is_space text) ≡ None
    by None place e p = e
    by (Some words) None e p = absurd (word_told_first text text [] [] words (sym (append-nil text)) tt (none_passes is_space text p) e never)
    by (Some words) (Some at) e p =
        absurd (word_told_first text (take at text) (drop at text) (slice_split is_space (drop (at + 1) text)) words (sym (take-append-drop at text)) (space_cut text at p) (split_found is_space text at p) e never)

-- ---- words collected one after the other

front_twice : (words : List (ℕ × ℕ)) (word : ℕ × ℕ) (said : Option (List (ℕ × ℕ))) → with_front words (with_front (word ∷ []) said) ≡ with_front (words ++ word ∷ []) said
front_twice words word None = refl
front_twice words word (Some more) = ap Some (sym (append_assoc words (word ∷ []) more))

pub collect_more : (words : List (ℕ × ℕ)) (rest : List ℕ) (byte : ℕ) (text : List ℕ) (word : ℕ × ℕ) (more : List ℕ) → rest ≡ byte ∷ text → IsCut rest → HasWord text word more
    → with_front words (words_said (pieces_of rest)) ≡ with_front (words ++ word ∷ []) (words_said (pieces_of more))
collect_more words rest byte text word more e cut has =
    ap (λ (pieces : List (List ℕ)). with_front words (words_said pieces)) (pieces_behind rest byte text e cut)
    ∙ ap (with_front words) (word_is_said text word more has)
    ∙ front_twice words word (words_said (pieces_of more))

pub collect_none : (words : List (ℕ × ℕ)) (rest : List ℕ) (byte : ℕ) (text : List ℕ) → rest ≡ byte ∷ text → IsCut rest → HasNoWord text
    → with_front words (words_said (pieces_of rest)) ≡ None
collect_none words rest byte text e cut never =
    ap (λ (pieces : List (List ℕ)). with_front words (words_said pieces)) (pieces_behind rest byte text e cut)
    ∙ ap (with_front words) (nothing_is_said text never)
