-- How many viewers the view lines of a text are of.
use Rattle.verify_input.proofs.Names.{◌≡◌, ℕ, ◌+◌, ◌≤◌, min, cond, List, ◌∷◌, ap, ◌∙◌, arith, count_by, words_of, whole_lines, words_on, IsFirstLine, begins_view}
use Rattle.std.proofs.lemmas.List.Sums.{sum_by-cons}
use Rattle.verify_input.proofs.Wholes.{starts}

-- how many of the lines are view lines
abbrev pub views_in : List (List ℕ) → ℕ
views_in lines = count_by (λ line. begins_view (words_on line)) lines

-- so many of the view lines of a text are noted before the rest of it, and no more than there is room for
pub record IsNoted (text rest : List ℕ) (count : ℕ) : Type 0 where
  pub room : count ≤ 68
  pub all : min 68 (count + views_in (whole_lines rest)) ≡ min 68 (views_in (whole_lines text))

pub one_more : (line : List ℕ) (lines : List (List ℕ)) (words : List (List ℕ)) → words_on line ≡ words → views_in (line ∷ lines) ≡ cond (begins_view words) 1 0 + views_in lines
one_more line lines words e =
    sum_by-cons (λ (line : List ℕ). cond (begins_view (words_on line)) 1 0) line lines ∙ ap (λ (ws : List (List ℕ)). cond (begins_view ws) 1 0 + views_in lines) e

pub noted_more : (text rest line more : List ℕ) (count next : ℕ) → IsNoted text rest count → IsFirstLine rest line more → next ≡ min 68 (count + cond (begins_view (words_of line)) 1 0) → IsNoted text more next
noted_more text rest line more count next noted cut is =
    let first = starts rest line more cut in
    let views : views_in (whole_lines rest) ≡ cond (begins_view (words_of line)) 1 0 + views_in (whole_lines more) =
    ap views_in first.lines ∙ one_more first.whole (whole_lines more) (words_of line) first.words in
    let before = noted.all in
    record { room = omega (arith, is); all = omega (arith, is, views, before) }
