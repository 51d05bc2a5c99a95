-- What a step writes to the result places of its stream.
use Rattle.std.specs.Prelude.{ℕ, ◌+◌, ◌*◌, ◌/◌, ◌^◌, ◌==◌, nat_lt, max, List, [], ◌∷◌, length, map, slice_index, if◌then◌else◌}
use Rattle.std.specs.List.{range_with_len}

-- places with the values that are written to them
abbrev pub Writes : Type 0
Writes = List (ℕ × ℕ)

-- the little-endian word of the four bytes from an offset on; bytes that are missing count as 0
abbrev pub word_from : List ℕ → ℕ → ℕ
word_from bytes offset =
    slice_index bytes offset + slice_index bytes (offset + 1) * 2 ^ 8 + slice_index bytes (offset + 2) * 2 ^ 16 + slice_index bytes (offset + 3) * 2 ^ 24

-- the first words of bytes, at places that follow one another
unfoldable pub first_words : ℕ → List ℕ → ℕ → Writes
first_words place bytes count = map (λ i. (place + i, word_from bytes (4 * i))) (range_with_len 0 count)

-- bytes as whole words, at places that follow one another
abbrev pub words_written : ℕ → List ℕ → Writes
words_written place bytes = first_words place bytes ((length bytes + 3) / 4)

-- one more write in the rising order of places; a place that is written already keeps its value
abbrev pub with_write : ℕ × ℕ → Writes → Writes
with_write write [] = write ∷ []
with_write write (first ∷ rest) =
    if nat_lt write.0 first.0 then write ∷ first ∷ rest
    else if write.0 == first.0 then first ∷ rest
    else first ∷ with_write write rest

-- the last value that writes in order leave at a place, from the value that was there before
abbrev pub left_by_writes : Writes → ℕ → ℕ → ℕ
left_by_writes [] place before = before
left_by_writes (write ∷ writes) place before = left_by_writes writes place (if write.0 == place then write.1 else before)

-- the place after the greatest that is written
abbrev pub end_of_writes : Writes → ℕ
end_of_writes [] = 0
end_of_writes (write ∷ writes) = max (write.0 + 1) (end_of_writes writes)

-- the values of the result places up to the greatest that was ever written, after further writes in order
unfoldable pub after_writes : Writes → List ℕ → List ℕ
after_writes writes values = map (λ place. left_by_writes writes place (slice_index values place)) (range_with_len 0 (max (length values) (end_of_writes writes)))
