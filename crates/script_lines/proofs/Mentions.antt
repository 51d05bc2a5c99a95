-- Names mentioned one after the other.
use Rattle.std.proofs.Common.{◌≡◌, ℕ, Bool, true, false, cond, ◌==◌, ◌≤◌, List, [], ◌∷◌, Result, Ok, Err, refl, sym, subst, ◌∙◌}
use Rattle.gpu_cmd.specs.declared.name.Name.{Name}
use Rattle.script_lines.specs.Names.{with_name, number_in}
use Rattle.script_lines.proofs.Numbers.{Keeps, keeps_all, keeps_both, keeps_more, mentioned}
use Rattle.script_lines.specs.Numbers.{decimal_of, long_decimal_of}
use Rattle.script_lines.specs.declared.fault.Kind.{Kind}
use Rattle.script_lines.specs.declared.fault.Kind.TheVariants.{Number}
use Rattle.script_lines.specs.declared.fault.LineError.{LineError}
use Rattle.script_lines.specs.declared.fault.LineError.TheVariants as errors
use Rattle.script_lines.specs.Outcome.{◌>>=◌, or_error, Fails}
use Rattle.script_lines.specs.Said.{named_fence}
use Rattle.script_lines.specs.Mentioned.{fence_said, with_fence, mentioned_by, mentioned_behind}

-- the fence that a name and a release make
abbrev pub fence_in : List Name → Name × ℕ → ℕ × ℕ
fence_in names said = (number_in names said.0, said.1)

abbrev of_parts : ℕ → ℕ → ℕ → Name × ℕ
of_parts namespace id release = (record { namespace = namespace; id = id }, release)

-- a fence has the number of the name that it mentions
pub named_is : (names : List Name) (n i r : List ℕ) → named_fence names n i r ≡ (fence_said n i r >>= λ said. Ok (fence_in names said))
unfolding named_fence fence_said
named_is names n i r = by_parts (or_error Number (decimal_of n)) (or_error Number (long_decimal_of i)) (or_error Number (long_decimal_of r))
  where
    by_parts : (a b c : Result ℕ Kind) → (a >>= λ x. b >>= λ y. c >>= λ z. Ok (fence_in names (of_parts x y z))) ≡ ((a >>= λ x. b >>= λ y. c >>= λ z. Ok (of_parts x y z)) >>= λ said. Ok (fence_in names said))
    by_parts (Ok x) (Ok y) (Ok z) = refl
    by_parts (Ok x) (Ok y) (Err k) = refl
    by_parts (Ok x) (Err k) c = refl
    by_parts (Err k) b c = refl

pub named_fails : (e : LineError) (names : List Name) (n i r : List ℕ) → Fails e (fence_said n i r) → Fails e (named_fence names n i r)
named_fails (errors.Memory refusal) names n i r h = tt
named_fails (errors.Refused k) names n i r h = named_is names n i r ∙ rw h refl

keeps_fence : (names : List Name) (said : Result (Name × ℕ) Kind) → Keeps names (with_fence names said)
keeps_fence names (Ok said) = keeps_more names said.0
keeps_fence names (Err k) = keeps_all names

pub keeps_words : (names : List Name) (words : List (List ℕ)) → Keeps names (mentioned_by names words)
unfolding mentioned_by
keeps_words names [] = keeps_all names
keeps_words names (n ∷ []) = keeps_all names
keeps_words names (n ∷ i ∷ []) = keeps_all names
keeps_words names (n ∷ i ∷ r ∷ words) =
    let next = with_fence names (fence_said n i r) in
    keeps_both names next (mentioned_by next words) (keeps_fence names (fence_said n i r)) (keeps_words next words)

pub keeps_behind : (version : ℕ) (names : List Name) (words : List (List ℕ)) → Keeps names (mentioned_behind version names words)
unfolding mentioned_behind
keeps_behind version names [] = keeps_all names
keeps_behind version names (p ∷ words) = by_version (version == 2)
  where
    by_version : (two : Bool) → Keeps names (cond two (mentioned_by names words) names)
    by_version true = keeps_words names words
    by_version false = keeps_all names

pub mention_goes : (names next : List Name) (all mid last rest : List (List ℕ)) (n i r : List ℕ) (said : Name × ℕ) (total : List Name) → all ≡ n ∷ mid → mid ≡ i ∷ last → last ≡ r ∷ rest → fence_said n i r ≡ Ok said → next ≡ with_name names said.0
    → mentioned_by names all ≡ total → mentioned_by next rest ≡ total
unfolding mentioned_by
mention_goes names next all mid last rest n i r said total e f g h new so_far =
    let one : mentioned_by names all ≡ mentioned_by next rest = rw (e, f, g, h, new) refl in
    sym one ∙ so_far

pub mention_done : (names : List Name) (all : List (List ℕ)) (total : List Name) → all ≡ [] → mentioned_by names all ≡ total → names ≡ total
unfolding mentioned_by
mention_done names all total e so_far =
    let one : mentioned_by names all ≡ names = rw e refl in
    sym one ∙ so_far

-- the number that a name has when it is mentioned is its number among all names
pub mention_named : (names next total : List Name) (rest : List (List ℕ)) (n i r : List ℕ) (said : Name × ℕ) (number : ℕ) → fence_said n i r ≡ Ok said → next ≡ with_name names said.0 → number ≡ number_in next said.0 → mentioned_by next rest ≡ total
    → named_fence total n i r ≡ Ok (number, said.1)
mention_named names next total rest n i r said number h new is so_far =
    let keeps : Keeps next total = subst (Keeps next) so_far (keeps_words next rest) in
    let there = subst (λ (ns : List Name). 1 ≤ number_in ns said.0) (sym new) (mentioned names said.0) in
    let same : number_in total said.0 ≡ number = keeps said.0 there ∙ sym is in
    named_is total n i r ∙ rw (h, same) refl
