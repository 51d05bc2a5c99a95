-- What sources and sinks in memory are.
use Rattle.std.specs.Prelude.{◌≡◌, ℕ, ◌-◌, List, length, Contains}
use Rattle.gpu_io.specs.Faults.{one_fault_more}

-- how many calls were made, and the numbers of those that fail
pub record CallsData : Type 0 where
  pub made : ℕ
  pub fails : List ℕ

-- the same calls, and one more
abbrev pub with_call : CallsData → CallsData
with_call calls = record calls { made = one_fault_more calls.made }

-- the call that was made last is one of those that fail
abbrev pub IsFailing : CallsData → Type 0
IsFailing calls = Contains calls.fails calls.made

-- bytes in a room, and how many it holds at most
pub record BoundedData : Type 0 where
  pub bytes : List ℕ
  pub room : ℕ

-- no byte more fits into the room
abbrev pub IsFull : BoundedData → Type 0
IsFull written = length written.bytes ≡ written.room

-- how many bytes more the room takes
abbrev pub free_room : BoundedData → ℕ
free_room written = written.room - length written.bytes

-- a source in memory: the bytes left, how many a read moves at most, the calls and the faults
pub record MemorySourceData : Type 0 where
  pub left : List ℕ
  pub piece : ℕ
  pub calls : CallsData
  pub faults : ℕ

-- a sink in memory: the bytes written and their room, how many a write moves at most, the calls and the faults
pub record MemorySinkData : Type 0 where
  pub written : BoundedData
  pub piece : ℕ
  pub calls : CallsData
  pub faults : ℕ

-- a steady sink: the bytes written and their room, and the faults
pub record SteadySinkData : Type 0 where
  pub written : BoundedData
  pub faults : ℕ
