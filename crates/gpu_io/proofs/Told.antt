-- Reads of what was reported.
use Rattle.std.proofs.Common.{◌≡◌, ℕ, ◌<◌, List, ◌++◌, Option, Some, None, length, length-append, sym, ap, ◌∙◌, arith}
use Rattle.std.specs.Prelude.{IfSome}
use Rattle.std.proofs.lemmas.List.{append-nil}
use Rattle.std.specs.Io.KnownBytes.{Consumes, IsAtEnd}

-- what is read to the end is all that was known
pub all_told : (old new : Option (List ℕ)) (bytes : List ℕ) → Consumes old new bytes → IsAtEnd new → IfSome old (λ b. bytes ≡ b)
all_told None new bytes h k = tt
all_told (Some xa) None bytes h k = absurd h
all_told (Some xa) (Some xb) bytes h k = sym (h ∙ ap (λ r. bytes ++ r) k ∙ append-nil bytes)

-- where more than a given number of bytes was read, the input has more than that
pub more_told : (old new : Option (List ℕ)) (bytes : List ℕ) (most : ℕ) → Consumes old new bytes → most < length bytes → IfSome old (λ b. most < length b)
more_told None new bytes most h lt = tt
more_told (Some xa) None bytes most h lt = absurd h
more_told (Some xa) (Some xb) bytes most h lt = omega (arith, length-append bytes xb, ap length h)
