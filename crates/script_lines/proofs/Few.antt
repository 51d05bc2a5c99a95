-- A line has few words.
use Rattle.std.proofs.Common.{ℕ, ◌+◌, ◌≤◌, List, [], ◌∷◌, length, not, cond, Bool, true, false, arith}
use Rattle.std.specs.Prelude.{filter}
use Rattle.std.specs.List.{slice_split}
use Rattle.std.proofs.lemmas.List.Sums.{count_by-le-length}
use Rattle.std.proofs.lemmas.List.Splits.{length-slice_split}
use Rattle.script_lines.specs.Text.{is_blank, is_empty, words_of}

fewer : (keeps : List ℕ → Bool) (pieces : List (List ℕ)) → length (filter keeps pieces) ≤ length pieces
fewer keeps [] = omega arith
fewer keeps (piece ∷ pieces) =
    let rest = fewer keeps pieces in
    elim (keeps piece) as (λ b. length (cond b (piece ∷ filter keeps pieces) (filter keeps pieces)) ≤ length (piece ∷ pieces)) [ true ↦ omega arith | false ↦ omega arith ]

pub few_words : (line : List ℕ) → length (words_of line) ≤ length line + 1
unfolding words_of
few_words line = omega (arith, fewer (λ run. not (is_empty run)) (slice_split is_blank line), length-slice_split is_blank line, count_by-le-length is_blank line)
