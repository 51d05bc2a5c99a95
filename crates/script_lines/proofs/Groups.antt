-- Words in pairs and in triples are known by their count.
use Rattle.std.proofs.Common.{◌≡◌, ◌%◌, ℕ, eqb, List, [], ◌∷◌, length, refl, ap, ◌∙◌, arith}
use Rattle.script_lines.specs.Said.{are_pairs, are_triples}

pub pairs_counted : (words : List (List ℕ)) → are_pairs words ≡ eqb (length words % 2) 0
pairs_counted [] = refl
pairs_counted (t ∷ []) = refl
pairs_counted (t ∷ r ∷ words) =
    let same : length words % 2 ≡ length (t ∷ r ∷ words) % 2 = omega arith in
    pairs_counted words ∙ ap (λ left. eqb left 0) same

pub triples_counted : (words : List (List ℕ)) → are_triples words ≡ eqb (length words % 3) 0
triples_counted [] = refl
triples_counted (n ∷ []) = refl
triples_counted (n ∷ i ∷ []) = refl
triples_counted (n ∷ i ∷ r ∷ words) =
    let same : length words % 3 ≡ length (n ∷ i ∷ r ∷ words) % 3 = omega arith in
    triples_counted words ∙ ap (λ left. eqb left 0) same
