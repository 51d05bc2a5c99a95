-- The bytes of a part of some words.
use Rattle.std.proofs.Common.{◌≡◌, ℕ, zero, suc, ◌+◌, ◌-◌, ◌*◌, ◌≤◌, List, [], ◌∷◌, ◌++◌, length, take, drop, refl, sym, ap, ◌∙◌, arith}
use Rattle.std.proofs.lemmas.List.{take-append-le, take-take, drop-drop, drop-take, length-drop, take-map, drop-map}
use Rattle.byteorder.specs.Endian.{little_bytes}
use Rattle.std.proofs.lemmas.Grind.{common_steps}
use Rattle.gpu_word.specs.Bytes.{values_of, bytes_of}

-- after the bytes of n words stand those of the words after them
pub drop-bytes_of : (n : ℕ) (words : List ℕ) → drop (4 * n) (bytes_of words) ≡ bytes_of (drop n words)
drop-bytes_of zero words = refl
drop-bytes_of (suc n) [] = grind (arith, common_steps)
drop-bytes_of (suc n) (word ∷ words) =
    let four : 4 * suc n ≡ suc (suc (suc (suc (4 * n)))) = omega arith in
    rw four (drop-bytes_of n words)

-- the bytes of n words come first
pub take-bytes_of : (n : ℕ) (words : List ℕ) → take (4 * n) (bytes_of words) ≡ bytes_of (take n words)
take-bytes_of zero words = refl
take-bytes_of (suc n) [] = grind (arith, common_steps)
take-bytes_of (suc n) (word ∷ words) =
    let four : 4 * suc n ≡ suc (suc (suc (suc (4 * n)))) = omega arith in
    rw four (ap (λ (rest : List ℕ). little_bytes 4 word ++ rest) (take-bytes_of n words))

pub length-bytes_of : (words : List ℕ) → length (bytes_of words) ≡ 4 * length words
length-bytes_of [] = refl
length-bytes_of (word ∷ words) = let rest = length-bytes_of words in omega arith

-- a given number of bytes of words
pub bytes_counted : (words : List ℕ) (from count : ℕ) → from + count ≤ 4 * length words → length (take count (drop from (bytes_of words))) ≡ count
bytes_counted words from count h =
    let all : length (bytes_of words) ≡ 4 * length words = length-bytes_of words in
    let rest : count ≤ length (drop from (bytes_of words)) = omega (arith, length-drop from (bytes_of words)) in
    grind (arith, common_steps)

-- the values of a part of words are that part of the values
pub values_within : (first many : ℕ) (words : List (ℕ × ℕ)) → values_of (take many (drop first words)) ≡ take many (drop first (values_of words))
values_within first many words = sym (ap (take many) (drop-map (λ word. word.1) first words) ∙ take-map (λ word. word.1) many (drop first words))

-- whole words are cut out, and then a part of their bytes
pub bytes_within : (words : List ℕ) (first many lead count : ℕ) → first + many ≤ length words → lead + count ≤ 4 * many
    → take count (drop lead (bytes_of (take many (drop first words))) ++ take lead (bytes_of (take many (drop first words)))) ≡ take count (drop (4 * first + lead) (bytes_of words))
bytes_within words first many lead count inside fits =
    let part = bytes_of (take many (drop first words)) in
    let all = bytes_of (drop first words) in
    let long : length part ≡ 4 * many = length-bytes_of (take many (drop first words)) ∙ ap (λ n. 4 * n) (grind (arith, common_steps)) in
    let enough : count ≤ length (drop lead part) = omega (arith, length-drop lead part) in
    let whole : 4 * many ≡ lead + (4 * many - lead) = omega arith in
    take-append-le count (drop lead part) (take lead part) enough
    ∙ ap (λ bytes. take count (drop lead bytes)) (sym (take-bytes_of many (drop first words)) ∙ ap (λ n. take n all) whole)
    ∙ ap (take count) (drop-take lead (4 * many - lead) all)
    ∙ take-take count (4 * many - lead) (drop lead all) (omega arith)
    ∙ ap (λ bytes. take count (drop lead bytes)) (sym (drop-bytes_of first words))
    ∙ ap (take count) (drop-drop lead (4 * first) (bytes_of words))
