-- Fences whose names are numbered in another list.
use Rattle.std.proofs.Common.{◌≡◌, ℕ, ◌≤◌, Bool, true, false, cond, ◌==◌, List, [], ◌∷◌, map, Result, Ok, Err, refl, sym, ap, ◌∙◌, arith}
use Rattle.std.proofs.lemmas.List.{map-id}
use Rattle.gpu_cmd.specs.declared.name.Name.{Name}
use Rattle.script_lines.specs.Names.{number_in}
use Rattle.script_lines.proofs.Numbers.{Keeps, keeps_all, mentioned}
use Rattle.script_lines.specs.Numbers.{decimal_of}
use Rattle.script_lines.specs.declared.fault.Kind.{Kind}
use Rattle.script_lines.specs.declared.fault.Kind.TheVariants.{Word, Number}
use Rattle.script_lines.specs.Outcome.{◌>>=◌, or_error, unless}
use Rattle.script_lines.specs.Said.{named_fence, are_triples, are_fences, triples_of, pairs_of, flush_said}
use Rattle.script_lines.specs.Mentioned.{fence_said, with_fence, mentioned_by, mentioned_behind}
use Rattle.script_lines.proofs.Mentions.{fence_in, named_is, keeps_words}
use Rattle.script_lines.proofs.Steps.{shown_by, same_step, shown_step, test_step}

-- a fence on the stream of another number
abbrev pub moved : (ℕ → ℕ) → ℕ × ℕ → ℕ × ℕ
moved f fence = (f fence.0, fence.1)

-- the fences of a flush, moved
abbrev pub moved_flush : (ℕ → ℕ) → ℕ × List (ℕ × ℕ) → ℕ × List (ℕ × ℕ)
moved_flush f said = (said.0, map (moved f) said.1)

-- two lists of names, and how the numbers of the names in the first become those in the second
module _ (first second : List Name) (f : ℕ → ℕ) (agrees : (name : Name) → 1 ≤ number_in first name → number_in second name ≡ f (number_in first name)) where
  said_moved : (names : List Name) (said : Result (Name × ℕ) Kind) → Keeps (with_fence names said) first → (said >>= λ s. Ok (fence_in second s)) ≡ shown_by (moved f) (said >>= λ s. Ok (fence_in first s))
  said_moved names (Ok s) keeps =
      let new = mentioned names s.0 in
      let same = keeps s.0 new in
      ap (λ k. Ok (k, s.1)) (agrees s.0 (omega arith))
  said_moved names (Err k) keeps = refl

  fence_moved : (names : List Name) (n i r : List ℕ) → Keeps (with_fence names (fence_said n i r)) first → named_fence second n i r ≡ shown_by (moved f) (named_fence first n i r)
  fence_moved names n i r keeps = named_is second n i r ∙ said_moved names (fence_said n i r) keeps ∙ ap (shown_by (moved f)) (sym (named_is first n i r))

  pub triples_moved : (names : List Name) (words : List (List ℕ)) → Keeps (mentioned_by names words) first → triples_of second words ≡ shown_by (map (moved f)) (triples_of first words)
  unfolding triples_of mentioned_by
  triples_moved names [] keeps = refl
  triples_moved names (n ∷ []) keeps = refl
  triples_moved names (n ∷ i ∷ []) keeps = refl
  triples_moved names (n ∷ i ∷ r ∷ words) keeps =
      let next = with_fence names (fence_said n i r) in
      shown_step (map (moved f)) (moved f) (named_fence second n i r) (named_fence first n i r) _ _
      (fence_moved names n i r (λ name h. let one = keeps_words next words name h in let two = keeps name (omega arith) in omega arith))
      (λ fence. shown_step (map (moved f)) (map (moved f)) (triples_of second words) (triples_of first words) _ _ (triples_moved next words keeps) (λ fences. refl))

  pub flush_moved : (names : List Name) (words : List (List ℕ)) → Keeps (mentioned_behind 2 names words) first → flush_said 2 second words ≡ shown_by (moved_flush f) (flush_said 2 first words)
  unfolding flush_said mentioned_behind
  flush_moved names [] keeps = refl
  flush_moved names (p ∷ words) keeps =
      test_step (moved_flush f) Word (are_triples words) (are_triples words) _ _ refl
      (same_step (moved_flush f) (or_error Number (decimal_of p)) _ _
      (λ put. shown_step (moved_flush f) (map (moved f)) (triples_of second words) (triples_of first words) _ _ (triples_moved names words keeps) (λ fences. refl)))

not_shown : (r : Result (List (ℕ × ℕ)) Kind) → shown_by (map (moved (λ n. n))) r ≡ r
not_shown (Ok fences) = ap (λ xs. Ok xs) (map-id fences)
not_shown (Err k) = refl

fences_stay : (two : Bool) (names total : List Name) (words : List (List ℕ)) → Keeps (cond two (mentioned_by names words) names) total
    → cond two (triples_of (cond two (mentioned_by names words) names) words) (pairs_of words) ≡ cond two (triples_of total words) (pairs_of words)
fences_stay true names total words keeps =
    let now = mentioned_by names words in
    sym (triples_moved now total (λ n. n) keeps names words (keeps_all now) ∙ not_shown (triples_of now words))
fences_stay false names total words keeps = refl

-- words after `flush` say the same where more names are mentioned
pub flush_stays : (version : ℕ) (names total : List Name) (words : List (List ℕ)) → Keeps (mentioned_behind version names words) total → flush_said version (mentioned_behind version names words) words ≡ flush_said version total words
unfolding flush_said mentioned_behind
flush_stays version names total [] keeps = refl
flush_stays version names total (p ∷ words) keeps =
    ap (λ (fences : Result (List (ℕ × ℕ)) Kind). unless (are_fences version words) Word >>= λ _. or_error Number (decimal_of p) >>= λ put. fences >>= λ fs. behind put fs) (fences_stay (version == 2) names total words keeps)
  where
    behind : ℕ → List (ℕ × ℕ) → Result (ℕ × List (ℕ × ℕ)) Kind
    behind put fs = Ok (put, fs)
