-- Writes one after the other.
use Rattle.std.proofs.Common.{ℕ, List, ◌++◌, Option, Some, None, ap, ◌∙◌, append_assoc}
use Rattle.std.specs.Io.KnownBytes.{Appends}

-- what is written after what was written is written as one
pub Appends-then : (a b c : Option (List ℕ)) (xs ys : List ℕ) → Appends a b xs → Appends b c ys → Appends a c (xs ++ ys)
Appends-then None b c xs ys h k = tt
Appends-then (Some xa) None c xs ys h k = absurd h
Appends-then (Some xa) (Some xb) None xs ys h k = absurd k
Appends-then (Some xa) (Some xb) (Some xc) xs ys h k = k ∙ ap (λ r. r ++ ys) h ∙ append_assoc xa xs ys
