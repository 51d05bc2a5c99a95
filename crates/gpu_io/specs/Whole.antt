-- A whole text that is read from a source.
use Rattle.std.specs.Prelude.{◌≡◌, ℕ, ◌+◌, ◌<◌, ◌≤◌, List, length, Option, Some, Result, IfOk, IfSome, IsErrOf, MatchResult, OnOk, Vec, vec_items}
use Rattle.std.specs.Io.KnownBytes.{Consumes, IsAtEnd}
use Rattle.std.specs.declared.alloc.Global.{Global}
use Rattle.gpu_io.specs.Faults.{HasRisen}
use Rattle.gpu_io.specs.declared.reading.ReadError.{ReadError}
use Rattle.gpu_io.specs.declared.reading.ReadError.TheVariants as errors

-- these bytes were read, and they were all that was left
abbrev pub ReadsAll : Option (List ℕ) → Option (List ℕ) → List ℕ → Type 0
ReadsAll old new bytes = Consumes old new bytes × IsAtEnd new

-- no more bytes were read than are allowed
abbrev pub ReadsAtMost : ℕ → Option (List ℕ) → Option (List ℕ) → Type 0
ReadsAtMost most old new = (bytes : List ℕ) × Consumes old new bytes × (length bytes ≤ most)

-- more bytes were read than are allowed, by one
abbrev pub ReadsMoreThan : ℕ → Option (List ℕ) → Option (List ℕ) → Type 0
ReadsMoreThan most old new = (bytes : List ℕ) × Consumes old new bytes × (length bytes ≡ most + 1)

-- what an input of a given number of known bytes may be answered where no fault rose: that it is too long, or out of
-- memory
abbrev pub IsExcused : ReadError → ℕ → ℕ → Type 0
IsExcused errors.Fault most count = ⊥
IsExcused errors.TooLong most count = most < count
IsExcused (errors.Memory refusal) most count = Unit {0}

-- what reading a source to its end, within a limit, answers. The source has these bytes left and this count of faults before
-- and after
-- - all, short, told: on Ok the bytes are all that was left, within the limit
-- - too_long, told_long: TooLong, where one byte more than the limit was read
-- - fault, early: Fault, where a read failed before a byte too many
-- - later, faultless, unfailed: no fault goes away, and none rose on Ok and TooLong
-- - complete: where the bytes are known and no fault rose, Ok comes only within the limit, TooLong only past it, and Fault
--   never
pub record ReadsWithin (most : ℕ) (left left_then : Option (List ℕ)) (faults faults_then : ℕ)
    (result : Result (Vec ℕ Global) ReadError) : Type 0 where
  pub all : IfOk result (λ bytes. ReadsAll left left_then (vec_items bytes))
  pub short : IfOk result (λ bytes. length (vec_items bytes) ≤ most)
  pub told : IfOk result (λ bytes. IfSome left (λ text. vec_items bytes ≡ text))
  pub too_long : IsErrOf result errors.TooLong → ReadsMoreThan most left left_then
  pub told_long : IsErrOf result errors.TooLong → IfSome left (λ text. most < length text)
  pub fault : IsErrOf result errors.Fault → HasRisen faults faults_then
  pub early : IsErrOf result errors.Fault → ReadsAtMost most left left_then
  pub later : faults ≤ faults_then
  pub faultless : OnOk result (faults_then ≡ faults)
  pub unfailed : IsErrOf result errors.TooLong → faults_then ≡ faults
  pub complete : (text : List ℕ) → left ≡ Some text → ¬ HasRisen faults faults_then
      → MatchResult result (λ _. length text ≤ most) (λ error. IsExcused error most (length text))
