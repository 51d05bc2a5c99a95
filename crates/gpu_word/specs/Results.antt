-- What the service writes into a client's result words, and what the client reads there.
use Rattle.std.specs.Prelude.{◌≡◌, ℕ, ◌≤◌, ◌==◌, Bool, true, false, List, [], ◌∷◌, take, map, count_by, if◌then◌else◌}
use Rattle.std.specs.List.{All}

-- a member of the list of results and finishes: a value written to a result place, or one more finish
pub data Written : Type 0 where
  Write : ℕ → ℕ → Written
  Finish : Written

-- the writes of places and values, in order
abbrev pub writes_listed : List (ℕ × ℕ) → List Written
writes_listed pairs = map (λ pair. Write pair.0 pair.1) pairs

abbrev pub is_finish : Written → Bool
is_finish (Write place value) = false
is_finish Finish = true

-- how many finishes a list has
abbrev pub finishes_in : List Written → ℕ
finishes_in list = count_by is_finish list

-- what a member makes of the value at a place
abbrev pub after_written : ℕ → ℕ → Written → ℕ
after_written i v (Write place value) = if place == i then value else v
after_written i v Finish = v

-- the last value that a list writes to a place, or v where there is none
abbrev pub last_or : ℕ → ℕ → List Written → ℕ
last_or i v [] = v
last_or i v (member ∷ list) = last_or i (after_written i v member) list

-- the last value written to a place, or 0 where there is none
abbrev pub last_written : List Written → ℕ → ℕ
last_written list i = last_or i 0 list

-- the value is the last one written to the place, or 0, in a first part of the list that has at least a given number of
-- finishes
pub record WasLast (list : List Written) (place at_least value : ℕ) : Type 0 where
  pub length : ℕ
  pub enough : at_least ≤ finishes_in (take length list)
  pub last : last_written (take length list) place ≡ value

-- the sentence of settle: each read, given as its place, the finishes that it asked for and its value, is such a value
abbrev pub Settles : List Written → List (ℕ × ℕ × ℕ) → Type 0
Settles list reads = All (λ read. WasLast list read.0 read.1 read.2) reads
