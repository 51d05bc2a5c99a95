-- A line that is made of words, and the lines and words of a text that begins with it.
use Rattle.std.proofs.Common.{◌≡◌, ℕ, ◌<◌, Bool, true, false, cond, not, ◌&&◌, List, [], ◌∷◌, ◌++◌, length, filter, refl, ap, ◌∙◌, arith, append-nil, append_assoc}
use Rattle.std.specs.Prelude.{codes}
use Rattle.std.specs.List.{All, AllByRecursion, list_all, flat_map, slice_split}
use Rattle.std.proofs.lemmas.Bool.{and_parts, and_from, not-true}
use Rattle.std.proofs.lemmas.List.Folds.{list_all-append}
use Rattle.std.proofs.lemmas.List.Elements.{All-from_recursion}
use Rattle.std.proofs.lemmas.List.Splits.{slice_split_at, slice_split_none, length-slice_split}
use Rattle.script_lines.specs.Text.{ends_line, is_blank, is_empty, without_empty_last, lines_of, words_of}

-- a byte of a word
abbrev pub is_plain : ℕ → Bool
is_plain byte = not (is_blank byte) && not (ends_line byte)

-- one byte or more, none of which is a blank or ends a line
abbrev pub is_word : List ℕ → Bool
is_word word = not (is_empty word) && list_all is_plain word

-- a word after a space
abbrev pub spaced : List ℕ → List ℕ
spaced word = codes " " ++ word

-- a word, and words after it
abbrev pub line_text : List ℕ → List (List ℕ) → List ℕ
line_text word words = word ++ flat_map spaced words

no_blank : (bytes : List ℕ) → list_all is_plain bytes ≡ true → AllByRecursion (λ byte. is_blank byte ≡ false) bytes
no_blank [] e = tt
no_blank (byte ∷ bytes) e =
    let both = and_parts (is_plain byte) (list_all is_plain bytes) e in
    (not-true (is_blank byte) (and_parts (not (is_blank byte)) (not (ends_line byte)) both.0).0, no_blank bytes both.1)

-- ---- words

none_blank : (word : List ℕ) → is_word word ≡ true → All (λ byte. is_blank byte ≡ false) word
none_blank word e = All-from_recursion (λ byte. is_blank byte ≡ false) word (no_blank word (and_parts (not (is_empty word)) (list_all is_plain word) e).1)

split_words : (word : List ℕ) (words : List (List ℕ)) → list_all is_word (word ∷ words) ≡ true → slice_split is_blank (line_text word words) ≡ word ∷ words
split_words word [] e = ap (slice_split is_blank) (append-nil word) ∙ slice_split_none is_blank word (none_blank word (and_parts (is_word word) true e).0)
split_words word (next ∷ more) e =
    let both = and_parts (is_word word) (list_all is_word (next ∷ more)) e in
    slice_split_at is_blank word 32 (line_text next more) (none_blank word both.0) refl ∙ ap (λ parts. word ∷ parts) (split_words next more both.1)

all_kept : (words : List (List ℕ)) → list_all is_word words ≡ true → filter (λ run. not (is_empty run)) words ≡ words
all_kept [] e = refl
all_kept (word ∷ words) e =
    let both = and_parts (is_word word) (list_all is_word words) e in
    let kept = (and_parts (not (is_empty word)) (list_all is_plain word) both.0).0 in
    ap (λ (b : Bool). cond b (word ∷ filter (λ run. not (is_empty run)) words) (filter (λ run. not (is_empty run)) words)) kept ∙ ap (λ more. word ∷ more) (all_kept words both.1)

-- a line that is made of words has these words
pub words_of_line : (word : List ℕ) (words : List (List ℕ)) → list_all is_word (word ∷ words) ≡ true → words_of (line_text word words) ≡ word ∷ words
unfolding words_of
words_of_line word words e = ap (filter (λ run. not (is_empty run))) (split_words word words e) ∙ all_kept (word ∷ words) e

-- ---- lines

abbrev stays : ℕ → Bool
stays byte = not (ends_line byte)

plain_stays : (bytes : List ℕ) → list_all is_plain bytes ≡ true → list_all stays bytes ≡ true
plain_stays [] e = refl
plain_stays (byte ∷ bytes) e =
    let both = and_parts (is_plain byte) (list_all is_plain bytes) e in
    and_from (stays byte) (list_all stays bytes) (and_parts (not (is_blank byte)) (not (ends_line byte)) both.0).1 (plain_stays bytes both.1)

word_stays : (word : List ℕ) → is_word word ≡ true → list_all stays word ≡ true
word_stays word e = plain_stays word (and_parts (not (is_empty word)) (list_all is_plain word) e).1

words_stay : (words : List (List ℕ)) → list_all is_word words ≡ true → list_all stays (flat_map spaced words) ≡ true
words_stay [] e = refl
words_stay (word ∷ words) e =
    let both = and_parts (is_word word) (list_all is_word words) e in
    list_all-append stays (spaced word) (flat_map spaced words) ∙ and_from (list_all stays (spaced word)) (list_all stays (flat_map spaced words)) (word_stays word both.0) (words_stay words both.1)

no_end : (bytes : List ℕ) → list_all stays bytes ≡ true → AllByRecursion (λ byte. ends_line byte ≡ false) bytes
no_end [] e = tt
no_end (byte ∷ bytes) e = let both = and_parts (stays byte) (list_all stays bytes) e in (not-true (ends_line byte) both.0, no_end bytes both.1)

line_stays : (word : List ℕ) (words : List (List ℕ)) → list_all is_word (word ∷ words) ≡ true → list_all stays (line_text word words) ≡ true
line_stays word words e =
    let both = and_parts (is_word word) (list_all is_word words) e in
    list_all-append stays word (flat_map spaced words) ∙ and_from (list_all stays word) (list_all stays (flat_map spaced words)) (word_stays word both.0) (words_stay words both.1)

-- a piece with pieces after it is a line
line_first : (piece : List ℕ) (pieces : List (List ℕ)) → 0 < length pieces → without_empty_last (piece ∷ pieces) ≡ piece ∷ without_empty_last pieces
line_first piece [] some = absurd (omega arith)
line_first piece (next ∷ more) some = refl

-- a text that begins with a line of words, and ends it, has that line first
pub lines_of_text : (word : List ℕ) (words : List (List ℕ)) (rest : List ℕ) → list_all is_word (word ∷ words) ≡ true → lines_of ((line_text word words ++ codes "\n") ++ rest) ≡ line_text word words ∷ lines_of rest
unfolding lines_of
lines_of_text word words rest e =
    let none = All-from_recursion (λ byte. ends_line byte ≡ false) (line_text word words) (no_end (line_text word words) (line_stays word words e)) in
    ap lines_of (append_assoc (line_text word words) (codes "\n") rest)
    ∙ ap without_empty_last (slice_split_at ends_line (line_text word words) 10 rest none refl)
    ∙ line_first (line_text word words) (slice_split ends_line rest) (omega (arith, length-slice_split ends_line rest))
