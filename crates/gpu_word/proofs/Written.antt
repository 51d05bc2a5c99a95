-- Lists of what was written, one after the other.
use Rattle.std.proofs.Common.{◌≡◌, ℕ, ◌+◌, cond, List, [], ◌∷◌, ◌++◌, refl}
use Rattle.std.proofs.lemmas.List.Sums.{sum_by-append}
use Rattle.gpu_word.specs.Results.{Written, is_finish, finishes_in, after_written, last_or}

-- what both leave at a place is what the second leaves there of what the first left
pub last_of_both : (i v : ℕ) (first second : List Written) → last_or i v (first ++ second) ≡ last_or i (last_or i v first) second
last_of_both i v [] second = refl
last_of_both i v (member ∷ first) second = last_of_both i (after_written i v member) first second

pub finishes_of_both : (first second : List Written) → finishes_in (first ++ second) ≡ finishes_in first + finishes_in second
finishes_of_both first second = sum_by-append (λ member. cond (is_finish member) 1 0) first second
