-- Where nothing is found.
use Rattle.std.proofs.Common.{◌≡◌, ℕ, ◌<◌, ◌≤◌, Bool, false, ltb, None, List, length, get_or, arith}
use Rattle.std.specs.Prelude.{position}
use Rattle.std.specs.List.{position_or_len}
use Rattle.std.proofs.lemmas.Bool.{ltb-false}
use Rattle.std.proofs.lemmas.List.Sums.{fails_before_first}
use Rattle.script_lines.proofs.Cuts.{not_found}

-- no byte passes where none is found
pub none_before : (p : ℕ → Bool) (text : List ℕ) → position p text ≡ None → (k : ℕ) → k < length text → p (get_or text k 0) ≡ false
none_before p text e k lt =
    let far : length text ≤ position_or_len p text = ltb-false _ _ (not_found (ltb (position_or_len p text) (length text)) (position_or_len p text) e) in
    fails_before_first p text k 0 (omega arith)
