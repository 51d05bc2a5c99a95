-- Lines that end no part, by the bytes that they begin with.
use Rattle.verify_input.proofs.Names.{◌≡◌, ℕ, ◌<◌, Bool, false, not, List, [], ◌∷◌, length, get_or, refl, sym, ap, subst, ◌∙◌, arith, filter, onto_first, slice_split, ne_eqb, slice_split-cons_no, is_blank, is_empty, words_of, is_journal, begins_part}

-- the pieces that are words
abbrev words_in : List (List ℕ) → List (List ℕ)
words_in pieces = filter (λ run. not (is_empty run)) pieces

is_filled : (b : ℕ) (piece : List ℕ) → is_empty (b ∷ piece) ≡ false
is_filled b piece = ne_eqb (length (b ∷ piece)) 0 (λ e. omega arith)

-- a line that begins with a letter, by what holds of words of which the first does
letter_line : (f : List (List ℕ) → Bool) (b : ℕ) → is_blank b ≡ false → ((word : List ℕ) (words : List (List ℕ)) → f ((b ∷ word) ∷ words) ≡ false) → (line : List ℕ) → 0 < length line → get_or line 0 0 ≡ b → f (words_of line) ≡ false
unfolding words_of
letter_line f b black each [] some e = absurd (omega arith)
letter_line f b black each (first ∷ more) some e =
    subst (λ (first : ℕ). f (words_of (first ∷ more)) ≡ false) (sym e) (ap (λ (pieces : List (List ℕ)). f (words_in pieces)) (slice_split-cons_no is_blank b more black) ∙ by (slice_split is_blank more))
  where
    by : (pieces : List (List ℕ)) → f (words_in (onto_first b pieces)) ≡ false
    by [] = each [] []
    by (piece ∷ pieces) = rw (is_filled b piece) (each piece (words_in pieces))

-- ---- lines of a script: the codes of `p` and `f` are 112 and 102

no_journal_p : (word : List ℕ) (words : List (List ℕ)) → is_journal ((112 ∷ word) ∷ words) ≡ false
no_journal_p word [] = refl
no_journal_p word (next ∷ words) = refl

no_journal_f : (word : List ℕ) (words : List (List ℕ)) → is_journal ((102 ∷ word) ∷ words) ≡ false
no_journal_f word [] = refl
no_journal_f word (next ∷ words) = refl

pub p_line : (line : List ℕ) → 0 < length line → get_or line 0 0 ≡ 112 → is_journal (words_of line) ≡ false
p_line line some e = letter_line is_journal 112 refl no_journal_p line some e

pub f_line : (line : List ℕ) → 0 < length line → get_or line 0 0 ≡ 102 → is_journal (words_of line) ≡ false
f_line line some e = letter_line is_journal 102 refl no_journal_f line some e

-- ---- lines of a journal text: the codes of `s`, `t`, `e` and `o` are 115, 116, 101 and 111

step_on : (more : List ℕ) → begins_part (words_of (115 ∷ 116 ∷ 101 ∷ more)) ≡ false
unfolding words_of
step_on more = by (slice_split is_blank more)
  where
    by : (pieces : List (List ℕ)) → begins_part (words_in (onto_first 115 (onto_first 116 (onto_first 101 pieces)))) ≡ false
    by [] = refl
    by (piece ∷ pieces) = rw (is_filled 115 (116 ∷ 101 ∷ piece)) refl

pub step_line : (line : List ℕ) → 2 < length line → get_or line 0 0 ≡ 115 → get_or line 1 0 ≡ 116 → get_or line 2 0 ≡ 101 → begins_part (words_of line) ≡ false
step_line [] some ea eb ec = absurd (omega arith)
step_line (a ∷ []) some ea eb ec = absurd (omega arith)
step_line (a ∷ b ∷ []) some ea eb ec = absurd (omega arith)
step_line (a ∷ b ∷ c ∷ more) some ea eb ec = (λ i. begins_part (words_of (ea i ∷ eb i ∷ ec i ∷ more))) ∙ step_on more

pub order_line : (line : List ℕ) → 2 < length line → get_or line 0 0 ≡ 111 → begins_part (words_of line) ≡ false
order_line line some e = letter_line begins_part 111 refl (λ word words. refl) line (omega arith) e

pub finish_line : (line : List ℕ) → 2 < length line → get_or line 0 0 ≡ 102 → begins_part (words_of line) ≡ false
finish_line line some e = letter_line begins_part 102 refl (λ word words. refl) line (omega arith) e
