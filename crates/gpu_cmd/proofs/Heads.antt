-- What checks 1 to 5 leave for those that follow.
use Rattle.std.proofs.Common.{◌≡◌, ℕ, ◌+◌, ◌-◌, ◌<◌, ◌≤◌, ◌^◌, Bool, true, false, Option, Some, None, Result, Ok, List, length, refl, ap, ◌∙◌, arith, IsTrue, IsSomeAnd, IsOkAnd, IfSome}
use Rattle.std.specs.Prelude.{◌==◌, nat_le, nat_lt, if◌then◌else◌, slice_index}
use Rattle.std.proofs.lemmas.Bool.Decides.{nat_tests}
use Rattle.std.proofs.lemmas.List.{length-map}
use Rattle.gpu_word.specs.Header.{size_of, id_of}
use Rattle.gpu_word.specs.Bytes.{values_of}
use Rattle.gpu_cmd.specs.declared.command.Command.{Command}
use Rattle.gpu_cmd.specs.declared.error.CmdError.{CmdError}
use Rattle.gpu_cmd.specs.declared.error.CmdError.TheVariants.{InvalidSize, OutOfBounds, UnknownCommand, InvalidArguments, Quota}
use Rattle.gpu_cmd.specs.declared.facts.StreamFacts.{StreamFacts}
use Rattle.gpu_cmd.specs.declared.shape.Shape.{Shape}
use Rattle.gpu_cmd.specs.Lawful.{room}
use Rattle.gpu_word.specs.Outcome.{◌>>=◌, unless, or_error}
use Rattle.gpu_cmd.specs.Table.{Row, row_of, fits, ring_words_of, argument}
use Rattle.gpu_cmd.specs.Checks.{headed, checked, decoded, is_within_quota}

-- what five checks in order leave where all pass
record Passed (a b : Bool) (o : Option Row) (fit : Row → Bool) (c : Bool) (shape : Shape) (P : Shape → Type 0) : Type 0 where
  first : IsTrue a
  second : IsTrue b
  third : IsSomeAnd o (λ row. IsTrue (fit row))
  fifth : IsTrue c
  said : P shape

five : Bool → Bool → Option Row → (Row → Bool) → Bool → Shape → Result Shape CmdError
five a b o fit c shape = unless a InvalidSize >>= λ _. unless b OutOfBounds >>= λ _. or_error UnknownCommand o >>= λ row. unless (fit row) InvalidArguments >>= λ _. unless c Quota >>= λ _. Ok shape

five_passed : (a b : Bool) (o : Option Row) (fit : Row → Bool) (c : Bool) (shape : Shape) (P : Shape → Type 0) → IsOkAnd (five a b o fit c shape) P → Passed a b o fit c shape P
unfolding five
five_passed false b o fit c shape P h = absurd h
five_passed true false o fit c shape P h = absurd h
five_passed true true None fit c shape P h = absurd h
five_passed true true (Some row) fit c shape P h =
    let p = last_two (fit row) c shape P h in
    record { first = refl; second = refl; third = p.0; fifth = p.1; said = p.2 }
  where
    last_two : (f c : Bool) (shape : Shape) (P : Shape → Type 0) → IsOkAnd (unless f InvalidArguments >>= λ _. unless c Quota >>= λ _. Ok shape) P → IsTrue f × IsTrue c × P shape
    last_two false c shape P h = absurd h
    last_two true false shape P h = absurd h
    last_two true true shape P h = (refl, refl, h)

-- the shape that a header has, where it passes
abbrev shape_of : ℕ → Shape
shape_of entry = record { id = id_of entry; size = size_of entry; ring_words = ring_words_of (id_of entry) (size_of entry) }

-- a header that passed
headed_passed : (entry : ℕ) (facts : StreamFacts) (P : Shape → Type 0) → IsOkAnd (headed entry facts) P → Passed (nat_le 1 (size_of entry)) (nat_le (size_of entry) (room facts)) (row_of (id_of entry)) (λ row. fits row (size_of entry)) (is_within_quota (facts.fetched + ring_words_of (id_of entry) (size_of entry))) (shape_of entry) P
unfolding headed five
headed_passed entry facts P h = five_passed (nat_le 1 (size_of entry)) (nat_le (size_of entry) (room facts)) (row_of (id_of entry)) (λ row. fits row (size_of entry)) (is_within_quota (facts.fetched + ring_words_of (id_of entry) (size_of entry))) (shape_of entry) P h

-- by whether the id is that of a Noop
fits_by_id : (b : Bool) (id size : ℕ) → (id == 0) ≡ b → IsSomeAnd (row_of id) (λ row. IsTrue (fits row size)) → IsSomeAnd (row_of id) (λ row. IsTrue (fits row (if b then 1 else size)))
unfolding row_of
fits_by_id true id size e h = let zero_id : id ≡ 0 = grind (arith, nat_tests) in rw zero_id refl
fits_by_id false id size e h = h

-- a header that passed has a row, which as many entries as its ring words fit
pub headed_fits : (entry : ℕ) (facts : StreamFacts) (n : ℕ) → IsOkAnd (headed entry facts) (λ shape. n ≡ shape.ring_words) → IsSomeAnd (row_of (id_of entry)) (λ row. IsTrue (fits row n))
headed_fits entry facts n h =
    let p = headed_passed entry facts (λ shape. n ≡ shape.ring_words) h in
    rw p.said (fits_by_id (id_of entry == 0) (id_of entry) (size_of entry) refl p.third)

some_by_id : (b : Bool) (size : ℕ) → IsTrue (nat_le 1 size) → 0 < (if b then 1 else size)
some_by_id true size h = omega arith
some_by_id false size h = grind (arith, nat_tests)

-- a header that passed has at least one ring word
pub headed_some : (entry : ℕ) (facts : StreamFacts) (n : ℕ) → IsOkAnd (headed entry facts) (λ shape. n ≡ shape.ring_words) → 0 < n
headed_some entry facts n h =
    let p = headed_passed entry facts (λ shape. n ≡ shape.ring_words) h in
    rw p.said (some_by_id (id_of entry == 0) (size_of entry) p.first)

few_by_id : (b : Bool) (entry : ℕ) → (if b then 1 else size_of entry) < 2 ^ 21
few_by_id true entry = omega arith
few_by_id false entry = omega arith

-- and fewer than 2 ^ 21
pub headed_few : (entry : ℕ) (facts : StreamFacts) (n : ℕ) → IsOkAnd (headed entry facts) (λ shape. n ≡ shape.ring_words) → n < 2 ^ 21
headed_few entry facts n h =
    let p = headed_passed entry facts (λ shape. n ≡ shape.ring_words) h in
    rw p.said (few_by_id (id_of entry == 0) entry)

-- the checks of a command are those of its row
by_row : (o : Option Row) (words : List ℕ) (command : Command) (facts : StreamFacts) → IsSomeAnd o (λ row. IsTrue (fits row (length words))) → IfSome o (λ row. command ≡ row.command (argument words)) → (or_error UnknownCommand o >>= λ row. checked (length words) (row.command (argument words)) facts) ≡ checked (length words) command facts
by_row None words command facts h e = absurd h
by_row (Some row) words command facts h e = rw e refl

-- what the decoder says, by the command of the row
pub decoded_by_row : (id : ℕ) (words : List (ℕ × ℕ)) (command : Command) (facts : StreamFacts) → id ≡ id_of (slice_index (values_of words) 0) → IsSomeAnd (row_of id) (λ row. IsTrue (fits row (length words))) → IfSome (row_of id) (λ row. command ≡ row.command (argument (values_of words))) → decoded (values_of words) facts ≡ checked (length words) command facts
unfolding decoded
decoded_by_row id words command facts e h k =
    let long : length (values_of words) ≡ length words = length-map words (λ word. word.1) in
    rw (← e) (by_row (row_of id) (values_of words) command facts (rw long h) k ∙ ap (λ n. checked n command facts) long)

words_by_id : (b : Bool) (size : ℕ) → IsTrue (nat_le 1 size) → (if b then 1 else size) ≤ size
words_by_id true size h = grind (arith, nat_tests)
words_by_id false size h = omega arith

-- the entries of a command end at the latest where its segment does
room_ends : (b : Bool) (size get put ring : ℕ) → nat_lt get put ≡ b → get < ring → put < ring → IsTrue (nat_le size ((if b then put else ring) - get)) → get + size ≤ ring
room_ends true size get put ring e g p h = grind (arith, nat_tests)
room_ends false size get put ring e g p h = grind (arith, nat_tests)

-- the entries of a header that passed are some, and end at the latest where the ring does
pub headed_room : (entry : ℕ) (facts : StreamFacts) (P : Shape → Type 0) → facts.get < facts.areas.ring → facts.put < facts.areas.ring → IsOkAnd (headed entry facts) P → (1 ≤ size_of entry) × (facts.get + size_of entry ≤ facts.areas.ring)
headed_room entry facts P g r h =
    let p = headed_passed entry facts P h in
    let some : IsTrue (nat_le 1 (size_of entry)) = p.first in
    (grind (arith, nat_tests), room_ends (nat_lt facts.get facts.put) (size_of entry) facts.get facts.put facts.areas.ring refl g r p.second)

-- its ring words too
pub headed_within : (entry : ℕ) (facts : StreamFacts) (n : ℕ) → facts.get < facts.areas.ring → facts.put < facts.areas.ring → IsOkAnd (headed entry facts) (λ shape. n ≡ shape.ring_words) → facts.get + n ≤ facts.areas.ring
headed_within entry facts n g r h =
    let p = headed_passed entry facts (λ shape. n ≡ shape.ring_words) h in
    let few : ring_words_of (id_of entry) (size_of entry) ≤ size_of entry = words_by_id (id_of entry == 0) (size_of entry) p.first in
    let ends : facts.get + size_of entry ≤ facts.areas.ring = (headed_room entry facts (λ shape. n ≡ shape.ring_words) g r h).1 in
    let words : n ≡ ring_words_of (id_of entry) (size_of entry) = p.said in
    omega arith
