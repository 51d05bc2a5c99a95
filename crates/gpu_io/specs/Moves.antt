-- What one call of a source or of a sink moves.
use Rattle.std.specs.Prelude.{◌≡◌, ℕ, ◌<◌, ◌≤◌, List, length, take, Option, Result, IfOk, OnOk, OnErr}
use Rattle.std.specs.Io.KnownBytes.{Appends, Consumes, IsAtEnd, Keeps}
use Rattle.gpu_io.specs.Faults.{HasRisen}
use Rattle.gpu_io.specs.declared.failed.Failed.{Failed}

-- a source gave bytes into the front of a buffer, none only where none is left, or kept what it has left, and its count of
-- faults rose
pub record SourceGives (left left_then : Option (List ℕ)) (faults faults_then : ℕ) (buffer : List ℕ)
    (result : Result ℕ Failed) : Type 0 where
  pub bound : IfOk result (λ n. n ≤ length buffer)
  pub taken : IfOk result (λ n. Consumes left left_then (take n buffer))
  pub end : IfOk result (λ n. n ≡ 0 → IsAtEnd left_then)
  pub kept : OnErr result (Keeps left left_then)
  pub faultless : OnOk result (faults_then ≡ faults)
  pub cause : OnErr result (HasRisen faults faults_then)
  pub later : faults ≤ faults_then

-- a sink took bytes from the front of these, at least one, or kept what is written, and its count of faults rose
pub record SinkTakes (written written_then : Option (List ℕ)) (faults faults_then : ℕ) (bytes : List ℕ)
    (result : Result ℕ Failed) : Type 0 where
  pub some : IfOk result (λ n. 0 < n)
  pub bound : IfOk result (λ n. n ≤ length bytes)
  pub appended : IfOk result (λ n. Appends written written_then (take n bytes))
  pub kept : OnErr result (Keeps written written_then)
  pub faultless : OnOk result (faults_then ≡ faults)
  pub cause : OnErr result (HasRisen faults faults_then)
  pub later : faults ≤ faults_then
