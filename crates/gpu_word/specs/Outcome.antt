-- Tests in order: the first that fails decides.
use Rattle.std.specs.Prelude.{Bool, true, false, Option, Some, None, Result, Ok, Err}

-- the second is asked where the first passed; the first that is refused is the answer
infixl 10 ◌>>=◌
abbrev pub ◌>>=◌ : {A B F : Type 0} → Result A F → (A → Result B F) → Result B F
(Ok x) >>= f = f x
(Err e) >>= f = Err e

-- this refusal, unless the test holds
abbrev pub unless : {F : Type 0} → Bool → F → Result (Unit {0}) F
unless true refusal = Ok tt
unless false refusal = Err refusal

-- the value, or this refusal where there is none
abbrev pub or_error : {A F : Type 0} → F → Option A → Result A F
or_error refusal None = Err refusal
or_error refusal (Some x) = Ok x

-- the value, where the test holds
abbrev pub when : {A : Type 0} → Bool → A → Option A
when true x = Some x
when false x = None
