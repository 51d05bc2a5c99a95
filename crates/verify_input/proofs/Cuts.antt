-- A line, cut at its spaces.
use Rattle.std.proofs.Common.{◌≡◌, ℕ, ◌+◌, List, [], ◌∷◌, take, drop, get_or, Some, None, sym, ap, subst, ◌∙◌, arith}
use Rattle.std.specs.Prelude.{position}
use Rattle.std.specs.List.{slice_split}
use Rattle.std.proofs.lemmas.Bool.Decides.{nat_tests}
use Rattle.std.proofs.lemmas.List.{drop_more}
use Rattle.std.proofs.lemmas.List.Quantifiers.{position-Some}
use Rattle.std.proofs.lemmas.List.Splits.{slice_split-cons_yes}
use Rattle.script_lines.proofs.Cuts.{split_found, none_passes}
use Rattle.verify_input.specs.Said.{is_space, pieces_of}
use Rattle.verify_input.specs.Fronts.{IsCut}

-- a space is what stands at its place
pub at_space : (text : List ℕ) (at : ℕ) → position is_space text ≡ Some at → slice_split is_space (drop at text) ≡ [] ∷ slice_split is_space (drop (at + 1) text)
at_space text at e =
    let found = position-Some is_space text at 0 e in
    rw (drop_more text at 0 found.0) (slice_split-cons_yes is_space (get_or text at 0) (drop (at + 1) text) found.1)

pub cut_found : (text piece rest : List ℕ) (at : ℕ) → position is_space text ≡ Some at → piece ≡ take at text → rest ≡ drop at text → slice_split is_space text ≡ piece ∷ pieces_of rest
cut_found text piece rest at e p r = rw (p, r) (split_found is_space text at e ∙ ap (λ (parts : List (List ℕ)). take at text ∷ drop 1 parts) (sym (at_space text at e)))

pub cut_none : (text : List ℕ) → position is_space text ≡ None → slice_split is_space text ≡ text ∷ pieces_of []
cut_none text e = none_passes is_space text e

pub next_found : (text behind piece : List ℕ) (more : List (List ℕ)) (at : ℕ) → position is_space text ≡ Some at → behind ≡ drop (at + 1) text → slice_split is_space behind ≡ piece ∷ more → pieces_of text ≡ piece ∷ more
next_found text behind piece more at e b s = ap (drop 1) (split_found is_space text at e) ∙ ap (slice_split is_space) (sym b) ∙ s

pub next_none : (text : List ℕ) → position is_space text ≡ None → pieces_of text ≡ []
next_none text e = ap (drop 1) (none_passes is_space text e)

-- what stands from the first space on
pub space_cut : (text : List ℕ) (at : ℕ) → position is_space text ≡ Some at → IsCut (drop at text)
space_cut text at e =
    let found = position-Some is_space text at 0 e in
    let byte : get_or text at 0 ≡ 32 = let test = found.1 in grind (arith, nat_tests) in
    subst IsCut (sym (drop_more text at 0 found.0)) byte

pub space_pieces : (text : List ℕ) (at : ℕ) → position is_space text ≡ Some at → pieces_of (drop at text) ≡ pieces_of text
space_pieces text at e = ap (drop 1) (at_space text at e) ∙ sym (ap (drop 1) (split_found is_space text at e))
