-- Lines and words, cut at the first line feed or blank.
use Rattle.std.proofs.Common.{◌≡◌, ℕ, ◌+◌, ◌<◌, ◌≤◌, Bool, true, false, not, cond, ltb, eqb, List, [], ◌∷◌, length, get_or, take, drop, Option, Some, None, refl, sym, ap, ◌∙◌, arith}
use Rattle.std.specs.Prelude.{position}
use Rattle.std.specs.List.{slice_split, onto_first, position_or_len}
use Rattle.std.proofs.lemmas.Bool.{ltb-true, ltb-false, ne_eqb, lt-ltb, le-ltb, false_from_ne_true}
use Rattle.std.proofs.lemmas.Option.{cond_some}
use Rattle.std.proofs.lemmas.List.{nil_from_length}
use Rattle.std.proofs.lemmas.List.Sums.{fails_before_first, position_or_len_is, count_by-le-length}
use Rattle.std.proofs.lemmas.List.Splits.{slice_split_first, slice_split_none, length-slice_split}
use Rattle.memchr.specs.Find.{IsFirstByte, is_byte}
use Rattle.script_lines.specs.Text.{ends_line, is_blank, is_empty, without_empty_last, lines_of, words_of}

not_choice : (b : Bool) (x y : List (List ℕ)) → cond (not b) x y ≡ cond b y x
not_choice true x y = refl
not_choice false x y = refl

split_is_cons : (p : ℕ → Bool) (xs : List ℕ) → (part : List ℕ) × (parts : List (List ℕ)) × (slice_split p xs ≡ part ∷ parts)
split_is_cons p [] = ([], [], refl)
split_is_cons p (x ∷ xs) =
    elim (p x) as (λ b. (part : List ℕ) × (parts : List (List ℕ)) × (cond b ([] ∷ slice_split p xs) (onto_first x (slice_split p xs)) ≡ part ∷ parts)) [
      | true ↦ ([], slice_split p xs, refl)
      | false ↦ let r = split_is_cons p xs in (x ∷ r.0, r.1, ap (onto_first x) r.2)
    ]

-- where it is found, the list is cut there
pub split_found : (p : ℕ → Bool) (xs : List ℕ) (end : ℕ) → position p xs ≡ Some end → slice_split p xs ≡ take end xs ∷ slice_split p (drop (end + 1) xs)
split_found p xs end e =
    let f = cond_some (ltb (position_or_len p xs) (length xs)) (position_or_len p xs) end e in
    slice_split_first p xs 0 (ltb-true _ _ f.0) ∙ ap (λ n. take n xs ∷ slice_split p (drop (n + 1) xs)) f.1

-- the first place that passes, from the facts of the places up to it
pub found_at : (p : ℕ → Bool) (xs : List ℕ) (i : ℕ) → i < length xs → ((k : ℕ) → k < i → p (get_or xs k 0) ≡ false) → p (get_or xs i 0) ≡ true → position p xs ≡ Some i
found_at p xs i lt before here =
    let at : position_or_len p xs ≡ i = position_or_len_is p xs i 0 (omega arith) before (λ within. here) in
    rw (at, lt-ltb i (length xs) lt) refl

pub found_nowhere : (p : ℕ → Bool) (xs : List ℕ) → ((k : ℕ) → k < length xs → p (get_or xs k 0) ≡ false) → position p xs ≡ None
found_nowhere p xs none =
    let at : position_or_len p xs ≡ length xs = position_or_len_is p xs (length xs) 0 (omega arith) none (λ within. absurd (omega arith)) in
    rw (at, le-ltb (length xs) (length xs) (omega arith)) refl

-- the first line feed, as a search for a byte tells it
pub first_line_feed : (text : List ℕ) (r : Option ℕ) → IsFirstByte (is_byte 10) text r → r ≡ position ends_line text
first_line_feed text None h = sym (found_nowhere ends_line text (λ k lt. false_from_ne_true _ (h k (omega arith) lt)))
first_line_feed text (Some i) h = sym (found_at ends_line text i h.0.high (λ k lt. false_from_ne_true _ (h.0.before k (omega arith) lt)) h.1)

-- p passes nowhere
pub not_found : (b : Bool) (n : ℕ) → cond b (Some n) None ≡ None → b ≡ false
not_found true n e = absurd cc
not_found false n e = refl

pub none_passes : (p : ℕ → Bool) (xs : List ℕ) → position p xs ≡ None → slice_split p xs ≡ xs ∷ []
none_passes p xs e =
    let far : length xs ≤ position_or_len p xs = ltb-false _ _ (not_found (ltb (position_or_len p xs) (length xs)) (position_or_len p xs) e) in
    slice_split_none p xs (λ k d lt. fails_before_first p xs k d (omega arith))

-- a piece with pieces after it is a line
line_first : (piece : List ℕ) (text : List ℕ) → without_empty_last (piece ∷ slice_split ends_line text) ≡ piece ∷ without_empty_last (slice_split ends_line text)
line_first piece text = let r = split_is_cons ends_line text in rw r.2 refl

pub lines_none : (text : List ℕ) → length text ≡ 0 → lines_of text ≡ []
unfolding lines_of
lines_none text e = rw (nil_from_length text e) refl

pub lines_found : (text : List ℕ) (end : ℕ) → position ends_line text ≡ Some end → lines_of text ≡ take end text ∷ lines_of (drop (end + 1) text)
unfolding lines_of
lines_found text end e = ap without_empty_last (split_found ends_line text end e) ∙ line_first (take end text) (drop (end + 1) text)

pub lines_last : (text : List ℕ) → position ends_line text ≡ None → 0 < length text → lines_of text ≡ text ∷ []
unfolding lines_of
lines_last text e some = rw (none_passes ends_line text e, ne_eqb (length text) 0 (omega arith)) refl

pub words_none : (line : List ℕ) → length line ≡ 0 → words_of line ≡ []
unfolding words_of
words_none line e = rw (nil_from_length line e) refl

words_at : (line : List ℕ) (end : ℕ) → position is_blank line ≡ Some end → words_of line ≡ cond (is_empty (take end line)) (words_of (drop (end + 1) line)) (take end line ∷ words_of (drop (end + 1) line))
unfolding words_of
words_at line end e = rw (split_found is_blank line end e) (not_choice (is_empty (take end line)) _ _)

pub words_found : (line : List ℕ) (end : ℕ) (word : List ℕ) → position is_blank line ≡ Some end → word ≡ take end line → eqb (length word) 0 ≡ false → words_of line ≡ word ∷ words_of (drop (end + 1) line)
words_found line end word e w some = words_at line end e ∙ rw (← w, some) refl

pub words_skip : (line : List ℕ) (end : ℕ) (word : List ℕ) → position is_blank line ≡ Some end → word ≡ take end line → eqb (length word) 0 ≡ true → words_of (drop (end + 1) line) ≡ words_of line
words_skip line end word e w none = sym (words_at line end e ∙ rw (← w, none) refl)

pub words_last : (line : List ℕ) → position is_blank line ≡ None → words_of line ≡ cond (is_empty line) [] (line ∷ [])
unfolding words_of
words_last line e = rw (none_passes is_blank line e) (not_choice (is_empty line) _ _)

-- a text has at most one line more than it has bytes
shorter : (pieces : List (List ℕ)) → length (without_empty_last pieces) ≤ length pieces
shorter [] = omega arith
shorter (piece ∷ []) = elim (is_empty piece) as (λ b. length (cond b [] (piece ∷ [])) ≤ 1) [ true ↦ omega arith | false ↦ omega arith ]
shorter (piece ∷ next ∷ more) = let h = shorter (next ∷ more) in omega arith

pub few_lines : (text : List ℕ) → length (lines_of text) ≤ length text + 1
unfolding lines_of
few_lines text = omega (arith, shorter (slice_split ends_line text), length-slice_split ends_line text, count_by-le-length ends_line text)
