-- Words that were fetched, as a line says them.
use Rattle.std.proofs.Common.{◌≡◌, ℕ, ◌+◌, ◌-◌, ◌<◌, Bool, true, false, cond, ltb, eqb, eq-eqb, Option, Some, None, List, [], ◌∷◌, ◌++◌, map, length, length-append, take, drop, get_or, refl, sym, ap, subst, ◌∙◌, append_assoc, arith}
use Rattle.std.specs.Prelude.{option_map, ◌&&◌, slice_index}
use Rattle.std.specs.List.{All}
use Rattle.std.proofs.lemmas.Bool.{ltb-true, lt-ltb}
use Rattle.std.proofs.lemmas.Bool.Decides.{nat_tests}
use Rattle.std.proofs.lemmas.Fmt.{decimal_nonempty}
use Rattle.std.proofs.lemmas.List.{append-nil, take-append-drop, take_at, drop_at, drop_more, get_or_at, length-drop}
use Rattle.std.proofs.lemmas.List.Elements.{All-nil, All-cons, All-head, All-tail}
use Rattle.journal_text.specs.Digits.{numeral, hex8}
use Rattle.journal_text.proofs.Numerals.{numeral_decimal}
use Rattle.journal_text.proofs.Lengths.{length-hex8}
use Rattle.verify_input.specs.Said.{◌>>=◌, own_number, own_value, word_said, words_said}
use Rattle.verify_input.specs.Reading.{IsWord}
use Rattle.verify_input.proofs.Numbers.{number_told_own, own_number_there, value_told_own, own_value_there}

-- the words so far with the words that are said after them, if these are words
abbrev pub with_front : List (ℕ × ℕ) → Option (List (ℕ × ℕ)) → Option (List (ℕ × ℕ))
with_front words said = option_map (λ more. words ++ more) said

pub front_none : (said : Option (List (ℕ × ℕ))) → said ≡ with_front [] said
front_none None = refl
front_none (Some more) = refl

-- one word more
pub front_more : (words : List (ℕ × ℕ)) (word : ℕ × ℕ) (piece : List ℕ) (pieces : List (List ℕ)) → word_said piece ≡ Some word
    → with_front words (words_said (piece ∷ pieces)) ≡ with_front (words ++ word ∷ []) (words_said pieces)
unfolding words_said
front_more words word piece pieces e = rw (e) (by (words_said pieces))
  where
    by : (said : Option (List (ℕ × ℕ))) → with_front words (said >>= (λ more. Some (word ∷ more))) ≡ with_front (words ++ word ∷ []) said
    by None = refl
    by (Some more) = ap Some (sym (append_assoc words (word ∷ []) more))

-- a piece that is no word
pub front_bad : (words : List (ℕ × ℕ)) (piece : List ℕ) (pieces : List (List ℕ)) → word_said piece ≡ None → with_front words (words_said (piece ∷ pieces)) ≡ None
unfolding words_said
front_bad words piece pieces e = rw (e) refl

-- no piece is left
pub front_all : (words : List (ℕ × ℕ)) → with_front words (words_said []) ≡ Some words
unfolding words_said
front_all words = ap Some (append-nil words)

-- ---- the spelling of a word

-- a place, a colon and a value
abbrev pub word_piece : ℕ × ℕ → List ℕ
word_piece word = numeral word.0 ++ 58 ∷ hex8 word.1

-- a list is what stands before its last nine elements, the first of them, and the other eight
nine_last : (word : List ℕ) → 9 < length word → eqb (slice_index word (length word - 9)) 58 ≡ true → word ≡ take (length word - 9) word ++ 58 ∷ drop (length word - 8) word
nine_last word long colon =
    let at : length word - 9 + 1 ≡ length word - 8 = omega arith in
    let byte : get_or word (length word - 9) 0 ≡ 58 = grind (arith, nat_tests) in
    sym (take-append-drop (length word - 9) word)
    ∙ ap (λ (rest : List ℕ). take (length word - 9) word ++ rest) (drop_more word (length word - 9) 0 (omega arith))
    ∙ rw (byte, at) refl

pub word_told : (piece : List ℕ) (word : ℕ × ℕ) → word_said piece ≡ Some word → (piece ≡ word_piece word) × IsWord word
unfolding word_said
word_told piece word e = by (ltb 9 (length piece)) (eqb (slice_index piece (length piece - 9)) 58) (own_number (take (length piece - 9) piece)) (own_value (drop (length piece - 8) piece)) refl refl refl refl e
  where
    by : (long colon : Bool) (place value : Option ℕ) → ltb 9 (length piece) ≡ long → eqb (slice_index piece (length piece - 9)) 58 ≡ colon
        → own_number (take (length piece - 9) piece) ≡ place → own_value (drop (length piece - 8) piece) ≡ value
        → cond (long && colon) (place >>= (λ p. value >>= (λ v. Some (p, v)))) None ≡ Some word → (piece ≡ word_piece word) × IsWord word
    by true true (Some p) (Some v) el ec ep ev e =
        let long : 9 < length piece = ltb-true _ _ el in
        let eight : length (drop (length piece - 8) piece) ≡ 8 = omega (arith, length-drop (length piece - 8) piece) in
        let number = number_told_own (take (length piece - 9) piece) p ep in
        let hex = value_told_own (drop (length piece - 8) piece) v eight ev in
        let is : (p, v) ≡ word = cc in
        let whole : piece ≡ word_piece (p, v) = nine_last piece long ec ∙ rw (number.0, hex.0) refl in
        subst (λ (w : ℕ × ℕ). (piece ≡ word_piece w) × IsWord w) is (whole, (number.1, hex.1))
    by true true (Some p) None el ec ep ev e = absurd (cc)
    by true true None value el ec ep ev e = absurd (cc)
    by true false place value el ec ep ev e = absurd (cc)
    by false colon place value el ec ep ev e = absurd (cc)

word_cut : (a b : List ℕ) (p v : ℕ) → 0 < length a → length b ≡ 8 → own_number a ≡ Some p → own_value b ≡ Some v → word_said (a ++ 58 ∷ b) ≡ Some (p, v)
unfolding word_said
word_cut a b p v some eight ep ev =
    let word = a ++ 58 ∷ b in
    let count : length word ≡ length a + 9 = omega (arith, length-append a (58 ∷ b)) in
    let from : length word - 9 ≡ length a = omega arith in
    let behind : length word - 8 ≡ length a + 1 = omega arith in
    let long : ltb 9 (length word) ≡ true = lt-ltb _ _ (omega arith) in
    let byte : slice_index word (length a) ≡ 58 = get_or_at a 58 b 0 (length a) refl in
    let colon : eqb (slice_index word (length a)) 58 ≡ true = eq-eqb _ _ byte in
    let front : take (length a) word ≡ a = take_at a (58 ∷ b) (length a) refl in
    let more : drop (length a + 1) word ≡ b = ap (drop (length a + 1)) (sym (append_assoc a (58 ∷ []) b)) ∙ drop_at (a ++ 58 ∷ []) b (length a + 1) (length-append a (58 ∷ [])) in
    rw (from, behind, long, colon, front, more, ep, ev) refl

pub word_there : (word : ℕ × ℕ) → IsWord word → word_said (word_piece word) ≡ Some word
word_there word is =
    let some : 0 < length (numeral word.0) = rw (numeral_decimal word.0 (omega (arith, is.0))) (decimal_nonempty word.0 (omega (arith, is.0))) in
    word_cut (numeral word.0) (hex8 word.1) word.0 word.1 some (length-hex8 word.1) (own_number_there word.0 is.0) (own_value_there word.1 is.1)

-- ---- lists of words

pub words_told : (pieces : List (List ℕ)) (words : List (ℕ × ℕ)) → words_said pieces ≡ Some words → (pieces ≡ map word_piece words) × All IsWord words
unfolding words_said
words_told [] words e =
    let none : [] ≡ words = cc in
    subst (λ (ws : List (ℕ × ℕ)). ([] ≡ map word_piece ws) × All IsWord ws) none (refl, All-nil IsWord)
words_told (piece ∷ pieces) words e = by (words_told pieces) (word_said piece) (words_said pieces) refl refl e
  where
    by : ((ws : List (ℕ × ℕ)) → words_said pieces ≡ Some ws → (pieces ≡ map word_piece ws) × All IsWord ws) → (first : Option (ℕ × ℕ)) (more : Option (List (ℕ × ℕ))) → word_said piece ≡ first → words_said pieces ≡ more → (first >>= (λ w. more >>= (λ ws. Some (w ∷ ws)))) ≡ Some words
        → (piece ∷ pieces ≡ map word_piece words) × All IsWord words
    by further (Some w) (Some ws) ef em e =
        let one = word_told piece w ef in
        let rest = further ws em in
        let is : w ∷ ws ≡ words = cc in
        let same : piece ∷ pieces ≡ word_piece w ∷ map word_piece ws = λ i. one.0 i ∷ rest.0 i in
        subst (λ (ws : List (ℕ × ℕ)). (piece ∷ pieces ≡ map word_piece ws) × All IsWord ws) is (same, All-cons IsWord w ws one.1 rest.1)
    by further (Some w) None ef em e = absurd (cc)
    by further None more ef em e = absurd (cc)

pub words_there : (words : List (ℕ × ℕ)) → All IsWord words → words_said (map word_piece words) ≡ Some words
unfolding words_said
words_there [] are = refl
words_there (word ∷ words) are = rw (word_there word (All-head IsWord word words are), words_there words (All-tail IsWord word words are)) refl
