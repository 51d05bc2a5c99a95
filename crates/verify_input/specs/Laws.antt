-- Laws of findings.
use Rattle.std.specs.Prelude.{◌≡◌, ℕ, List}
use Rattle.verify_input.specs.Found.{Finds}
use Rattle.verify_input.specs.Whole.{FindsWhole}
use Rattle.verify_input.specs.declared.finding.Finding.{Finding}

-- one finding alone is that of an input
abbrev pub FindingIsOne : Type 0
FindingIsOne = (input : List ℕ) (one other : Finding) → Finds input one → Finds input other → one ≡ other

-- one finding alone is that of an input with a whole output, with marks over a base
abbrev pub WholeFindingIsOne : Type 0
WholeFindingIsOne = (base : ℕ) (input : List ℕ) (one other : Finding)
    → FindsWhole base input one → FindsWhole base input other → one ≡ other
