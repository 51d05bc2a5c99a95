-- Counts of faults.
use Rattle.std.specs.Prelude.{◌≡◌, ◌⊎◌, ℕ, ◌+◌, ◌-◌, ◌^◌, ◌<◌, min}

-- the last value of a count of 64 bits
abbrev pub last_count : ℕ
last_count = 2 ^ 64 - 1

-- the count after one more, which stays at its last value
abbrev pub one_fault_more : ℕ → ℕ
one_fault_more count = min (count + 1) last_count

-- the count rose, or stands at its last value
abbrev pub HasRisen : ℕ → ℕ → Type 0
HasRisen old new = (old < new) ⊎ (new ≡ last_count)
