-- The values of words, and their bytes.
use Rattle.std.specs.Prelude.{ℕ, List, map}
use Rattle.std.specs.List.{flat_map}
use Rattle.byteorder.specs.Endian.{little_bytes}

-- the values of words that stand at places, in their order
abbrev pub values_of : List (ℕ × ℕ) → List ℕ
values_of words = map (λ word. word.1) words

-- the four bytes of each word, the lowest first, one word after the other
abbrev pub bytes_of : List ℕ → List ℕ
bytes_of words = flat_map (little_bytes 4) words
