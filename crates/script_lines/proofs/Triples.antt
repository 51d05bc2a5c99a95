-- Triples read one after the other.
use Rattle.std.proofs.Common.{◌≡◌, ℕ, List, [], ◌∷◌, ◌++◌, Result, Ok, Err, refl, sym, ap, ◌∙◌}
use Rattle.std.proofs.lemmas.List.{append-nil}
use Rattle.gpu_cmd.specs.declared.name.Name.{Name}
use Rattle.script_lines.specs.declared.fault.Kind.{Kind}
use Rattle.script_lines.specs.declared.fault.Kind.TheVariants.{Word}
use Rattle.script_lines.specs.declared.fault.LineError.{LineError}
use Rattle.script_lines.specs.declared.fault.LineError.TheVariants as errors
use Rattle.script_lines.specs.Outcome.{Fails}
use Rattle.script_lines.specs.Said.{named_fence, triples_of}
use Rattle.script_lines.proofs.Pairs.{with_front, regroup}

module _ (names : List Name) (front : List (ℕ × ℕ)) where
  pub goes_on : (all mid last rest : List (List ℕ)) (n i r : List ℕ) (fence : ℕ × ℕ) (total : Result (List (ℕ × ℕ)) Kind) → all ≡ n ∷ mid → mid ≡ i ∷ last → last ≡ r ∷ rest → named_fence names n i r ≡ Ok fence
      → with_front front (triples_of names all) ≡ total → with_front (front ++ fence ∷ []) (triples_of names rest) ≡ total
  unfolding triples_of
  goes_on all mid last rest n i r fence total e f g h so_far =
      let one : with_front front (triples_of names all) ≡ with_front (front ++ fence ∷ []) (triples_of names rest) = rw (e, f, g, h) (regroup front fence (triples_of names rest)) in
      sym one ∙ so_far

  pub ends_fence : (e : LineError) (all mid last rest : List (List ℕ)) (n i r : List ℕ) (total : Result (List (ℕ × ℕ)) Kind) → all ≡ n ∷ mid → mid ≡ i ∷ last → last ≡ r ∷ rest → Fails e (named_fence names n i r)
      → with_front front (triples_of names all) ≡ total → Fails e total
  unfolding triples_of
  ends_fence (errors.Memory refusal) all mid last rest n i r total e f g h so_far = tt
  ends_fence (errors.Refused k) all mid last rest n i r total e f g h so_far =
      let one : with_front front (triples_of names all) ≡ Err k = rw (e, f, g, h) refl in
      sym so_far ∙ one

  pub one_left : (all mid : List (List ℕ)) (n : List ℕ) (total : Result (List (ℕ × ℕ)) Kind) → all ≡ n ∷ mid → mid ≡ [] → with_front front (triples_of names all) ≡ total → total ≡ Err Word
  unfolding triples_of
  one_left all mid n total e f so_far =
      let one : with_front front (triples_of names all) ≡ Err Word = rw (e, f) refl in
      sym so_far ∙ one

  pub two_left : (all mid last : List (List ℕ)) (n i : List ℕ) (total : Result (List (ℕ × ℕ)) Kind) → all ≡ n ∷ mid → mid ≡ i ∷ last → last ≡ [] → with_front front (triples_of names all) ≡ total → total ≡ Err Word
  unfolding triples_of
  two_left all mid last n i total e f g so_far =
      let one : with_front front (triples_of names all) ≡ Err Word = rw (e, f, g) refl in
      sym so_far ∙ one

  pub is_done : (all : List (List ℕ)) (total : Result (List (ℕ × ℕ)) Kind) → all ≡ [] → with_front front (triples_of names all) ≡ total → total ≡ Ok front
  unfolding triples_of
  is_done all total e so_far =
      let one : with_front front (triples_of names all) ≡ Ok front = rw e (ap (λ (xs : List (ℕ × ℕ)). Ok xs) (append-nil front)) in
      sym so_far ∙ one
