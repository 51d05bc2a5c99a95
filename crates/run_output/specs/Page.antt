-- The text gathered before it goes to a sink.
use Rattle.std.specs.Prelude.{ℕ, List, []}

-- the bytes that are gathered, and at how many they go to the sink
pub record PageData : Type 0 where
  pub gathered : List ℕ
  pub limit : ℕ

-- nothing is gathered, and 64 KiB go to the sink
abbrev pub blank_page : PageData
blank_page = record { gathered = []; limit = 65536 }
