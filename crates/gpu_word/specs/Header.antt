-- The header split: a command's first entry carries its size and its id.
use Rattle.std.specs.Prelude.{◌≡◌, ℕ, ◌+◌, ◌*◌, ◌/◌, ◌%◌, ◌^◌, ◌<◌}

-- the size is the low 21 bits
abbrev pub size_of : ℕ → ℕ
size_of entry = entry % 2 ^ 21

-- the id is what stands above them
abbrev pub id_of : ℕ → ℕ
id_of entry = entry / 2 ^ 21

-- the header of a size and an id splits into these two
abbrev pub SplitsJoined : Type 0
SplitsJoined = (size id : ℕ) → size < 2 ^ 21 → (size_of (size + id * 2 ^ 21) ≡ size) × (id_of (size + id * 2 ^ 21) ≡ id)

-- the size and the id of a header make this header again
abbrev pub JoinsSplit : Type 0
JoinsSplit = (entry : ℕ) → size_of entry + id_of entry * 2 ^ 21 ≡ entry
