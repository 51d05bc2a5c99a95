-- What is seen of the sources and sinks over the system's readers and writers.
use Rattle.std.specs.Prelude.{ℕ, List, Option}

-- a source over a reader: the bytes left, where the reader tells what it still has, and the faults
pub record RealSourceData : Type 0 where
  pub left : Option (List ℕ)
  pub faults : ℕ

-- a sink over a writer: the bytes written, where the writer tells what it holds, and the faults
pub record RealSinkData : Type 0 where
  pub written : Option (List ℕ)
  pub faults : ℕ
