-- How long the texts are.
use Rattle.std.proofs.Common.{◌≡◌, ℕ, zero, suc, ◌+◌, ◌*◌, ◌^◌, ◌<◌, ◌≤◌, List, [], ◌∷◌, ◌++◌, length, get_or, take, length-append, refl, arith}
use Rattle.std.specs.Prelude.{codes}
use Rattle.std.specs.List.{flat_map, All}
use Rattle.std.proofs.lemmas.Fmt.{length-decimal-le}
use Rattle.std.proofs.lemmas.List.Elements.{All-get_or}
use Rattle.journal_text.specs.Digits.{numeral, hex8}
use Rattle.journal_text.specs.Text.{word_text}
use Rattle.journal_text.proofs.Numerals.{numeral_decimal}
use Rattle.journal_text.specs.declared.sheet.TheConstants.{MOST_EVENT_WORDS}

within : (most n : ℕ) → 0 < most → n < 10 ^ most → n < 2 ^ 64 → length (numeral n) ≤ most
within most n some low small = rw (numeral_decimal n small) (length-decimal-le most n some low small)

pub numeral_few : (n : ℕ) → n < 2 ^ 64 → length (numeral n) ≤ 20
numeral_few n small = within 20 n (omega arith) (omega arith) small

pub place_few : (n : ℕ) → n < 2 ^ 32 → length (numeral n) ≤ 10
place_few n small = within 10 n (omega arith) (omega arith) (omega arith)

pub length-hex8 : (n : ℕ) → length (hex8 n) ≡ 8
unfolding hex8
length-hex8 n = refl

pub length-word : (place value : ℕ) → length (word_text (place, value)) ≡ length (numeral place) + 10
length-word place value = omega (arith, length-append (numeral place ++ codes ":") (hex8 value), length-append (numeral place) (codes ":"), length-hex8 value)

-- the text of one item more is longer by the text of that item
pub length-take_more : {A : Type 0} (f : A → List ℕ) (xs : List A) (i : ℕ) (d : A) → i < length xs → length (flat_map f (take (i + 1) xs)) ≡ length (flat_map f (take i xs)) + length (f (get_or xs i d))
length-take_more f [] i d lt = absurd (omega arith)
length-take_more f (x ∷ xs) zero d lt = omega (arith, length-append (f x) [])
length-take_more f (x ∷ xs) (suc i) d lt =
    let next : suc i + 1 ≡ suc (i + 1) = omega arith in
    rw next (omega (arith, length-append (f x) (flat_map f (take (i + 1) xs)), length-append (f x) (flat_map f (take i xs)), length-take_more f xs i d (omega arith)))

-- words whose places have at most a given number of digits
pub length-words : (most : ℕ) (words : List (ℕ × ℕ)) → ((k : ℕ) → k < length words → length (numeral (get_or words k (0, 0)).0) ≤ most) → length (flat_map word_text words) ≤ (most + 10) * length words
length-words most [] short = omega arith
length-words most (word ∷ words) short =
    let first : length (numeral word.0) ≤ most = short 0 (omega arith) in
    let rest : length (flat_map word_text words) ≤ (most + 10) * length words = length-words most words (λ k lt. short (suc k) (omega arith)) in
    omega (arith, length-append (word_text word) (flat_map word_text words), length-word word.0 word.1)

-- words at places of a stream
pub length-near : (words : List (ℕ × ℕ)) → All (λ word. word.0 < MOST_EVENT_WORDS) words → length (flat_map word_text words) ≤ 15 * length words
length-near words near =
    length-words 5 words (λ k lt.
    let at : (get_or words k (0, 0)).0 < MOST_EVENT_WORDS = All-get_or (λ (word : ℕ × ℕ). word.0 < MOST_EVENT_WORDS) words k (0, 0) lt near in
    within 5 (get_or words k (0, 0)).0 (omega arith) (omega arith) (omega arith))
