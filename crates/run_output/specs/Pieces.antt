-- Texts that go to a sink, also in pieces: lines are gathered, and given away from time to time.
use Rattle.std.specs.Prelude.{◌≡◌, ℕ, ◌≤◌, List, ◌++◌, Option, Result, OnOk, OnErr}
use Rattle.std.specs.Io.KnownBytes.{Appends}
use Rattle.gpu_io.specs.Faults.{HasRisen}

-- a front of the bytes was appended
abbrev pub AppendsFront : Option (List ℕ) → Option (List ℕ) → List ℕ → Type 0
AppendsFront old new bytes = (front : List ℕ) × (rest : List ℕ) × (front ++ rest ≡ bytes) × Appends old new front

-- a text was added to a sink, of which written tells the bytes and faults the count; after a fault a front of it was
pub record Adds {K T E : Type 0} (written : K → Option (List ℕ)) (faults : K → ℕ) (old new : K) (result : Result T E)
    (text : List ℕ) : Type 0 where
  pub all : OnOk result (Appends (written old) (written new) text)
  pub front : OnErr result (AppendsFront (written old) (written new) text)
  pub fault : OnErr result (HasRisen (faults old) (faults new))
  pub later : faults old ≤ faults new

-- the text was put after what was gathered: a first part of both was written, and the rest of both is gathered now
pub record IsTextPut (written : Option (List ℕ)) (gathered : List ℕ) (written_then : Option (List ℕ))
    (gathered_then text : List ℕ) : Type 0 where
  pub given : List ℕ
  pub whole : given ++ gathered_then ≡ gathered ++ text
  pub appended : Appends written written_then given

-- a text was put after what was gathered; after a fault a front of what was gathered and of the text was written
pub record Puts {K T E : Type 0} (written : K → Option (List ℕ)) (faults : K → ℕ) (old : K) (gathered : List ℕ)
    (new : K) (gathered_then : List ℕ) (result : Result T E) (text : List ℕ) : Type 0 where
  pub all : OnOk result (IsTextPut (written old) gathered (written new) gathered_then text)
  pub front : OnErr result (AppendsFront (written old) (written new) (gathered ++ text))
  pub fault : OnErr result (HasRisen (faults old) (faults new))
  pub later : faults old ≤ faults new
