-- How lists of written members are named by numbers, so that they can be compared.
use Rattle.std.specs.Prelude.{◌≡◌, ℕ, List, Option, Some, None, refl}
use Rattle.std.specs.Coded.{Coded, code_by, coded×, coded_ℕ, coded_list, coded_option}
use Rattle.gpu_word.specs.Results.{Written, Write, Finish}

-- the place and the value of a write, or none for a finish
abbrev pub pair_of : Written → Option (ℕ × ℕ)
pair_of (Write place value) = Some (place, value)
pair_of Finish = None

-- and back
abbrev pub written_of : Option (ℕ × ℕ) → Written
written_of (Some pair) = Write pair.0 pair.1
written_of None = Finish

pub written_back : (member : Written) → written_of (pair_of member) ≡ member
written_back (Write place value) = refl
written_back Finish = refl

-- a list of members told as a list of such pairs
abbrev pub written_list_coded : Coded (List Written)
written_list_coded = coded_list (code_by (Option (ℕ × ℕ)) (coded_option (coded× coded_ℕ coded_ℕ)) pair_of written_of written_back)
