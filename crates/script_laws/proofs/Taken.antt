-- Texts whose lines are taken up, one after the other.
use Rattle.std.proofs.Common.{◌≡◌, ℕ, ◌+◌, true, List, [], ◌∷◌, ◌++◌, map, Ok, refl, sym, ap, ◌∙◌, append_assoc}
use Rattle.std.specs.Prelude.{codes}
use Rattle.std.specs.List.{list_all}
use Rattle.script_lines.specs.Text.{lines_of, words_of}
use Rattle.gpu_plan.specs.Adding.{Draft}
use Rattle.gpu_plan.specs.Script.{numbered, from_body}
use Rattle.gpu_plan.proofs.Whole.{body_goes}
use Rattle.script_laws.proofs.Words.{is_word, line_text, words_of_line, lines_of_text}

-- in version 1 the lines of a text make this draft of that one, whatever their numbers are and whatever text follows
abbrev pub Takes : Draft → List ℕ → Draft → Type 0
Takes d text e = (n : ℕ) (rest : List ℕ) → (m : ℕ) × (from_body 1 [] n d (map words_of (lines_of (text ++ rest))) ≡ from_body 1 [] m e (map words_of (lines_of rest)))

pub takes_line : (word : List ℕ) (words : List (List ℕ)) (d e : Draft) → list_all is_word (word ∷ words) ≡ true → ((n : ℕ) → numbered 1 [] n (word ∷ words) d ≡ Ok e) → Takes d (line_text word words ++ codes "\n") e
takes_line word words d e good taken n rest =
    let text : List ℕ = (line_text word words ++ codes "\n") ++ rest in
    let step : numbered 1 [] n (words_of (line_text word words)) d ≡ Ok e = ap (λ line. numbered 1 [] n line d) (words_of_line word words good) ∙ taken n in
    (n + 1, sym (body_goes 1 [] n d e (lines_of text) (lines_of rest) (line_text word words) (from_body 1 [] n d (map words_of (lines_of text))) (lines_of_text word words rest good) step refl))

pub takes_both : (d e f : Draft) (s t : List ℕ) → Takes d s e → Takes e t f → Takes d (s ++ t) f
takes_both d e f s t first second n rest =
    let one = first n (t ++ rest) in
    let two = second one.0 rest in
    (two.0, ap (λ text. from_body 1 [] n d (map words_of (lines_of text))) (append_assoc s t rest) ∙ one.1 ∙ two.1)
