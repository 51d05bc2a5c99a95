-- Lines of the output, one after the other.
use Rattle.std.specs.Prelude.{ℕ, List}

-- the bytes of the lines, and up to how many of them another line may be begun
pub record SheetData : Type 0 where
  pub bytes : List ℕ
  pub limit : ℕ
