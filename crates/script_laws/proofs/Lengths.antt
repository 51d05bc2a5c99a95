-- A generated script is short: each line of it has few bytes.
use Rattle.std.proofs.Common.{◌≡◌, ℕ, zero, suc, ◌+◌, ◌-◌, ◌*◌, ◌%◌, ◌^◌, ◌≤◌, ◌<◌, true, List, [], ◌∷◌, ◌++◌, length, length-append, refl, arith}
use Rattle.std.specs.Prelude.{codes}
use Rattle.std.specs.Fmt.{digits}
use Rattle.std.specs.List.{flat_map, list_all}
use Rattle.std.proofs.lemmas.Bool.{ltb-true, and_parts}
use Rattle.script_generator.specs.Draws.{after_draws}
use Rattle.script_generator.specs.Generator.{spaced_number, value_text, base_of, block, round_text, rounds, start_text, stream_script, stream_scripts, generated}
use Rattle.script_laws.proofs.Values.{hex, is_small, few_digits}
use Rattle.script_laws.proofs.Rounds.{drawn_small, block_small, by_parity}
use Rattle.script_laws.proofs.Streams.{values_small}

-- ---- values

length-value : (value : ℕ) → value < 2 ^ 32 → length (value_text value) ≤ 9
length-value value small = omega (arith, few_digits value small, length-append (codes " ") (hex value))

length-values : (values : List ℕ) → list_all is_small values ≡ true → length (flat_map value_text values) ≤ 9 * length values
length-values [] small = omega arith
length-values (value ∷ values) small =
    let both = and_parts (is_small value) (list_all is_small values) small in
    let first = length-value value (ltb-true _ _ both.0) in
    let rest = length-values values both.1 in
    omega (arith, first, rest, length-append (value_text value) (flat_map value_text values))

-- ---- rounds

base_short : (round : ℕ) → length (spaced_number (base_of round)) ≤ 3
unfolding digits
base_short round = by_parity (λ n. length (spaced_number (32 * n)) ≤ 3) (omega arith) (omega arith) (round % 2) (omega arith)

left_short : (round : ℕ) → length (spaced_number (32 - base_of round)) ≤ 3
unfolding digits
left_short round = by_parity (λ n. length (spaced_number (32 - 32 * n)) ≤ 3) (omega arith) (omega arith) (round % 2) (omega arith)

eight : (put base values fill uploaded flush left finish : List ℕ)
    → length (put ++ base ++ values ++ fill ++ uploaded ++ flush ++ left ++ finish) ≡ length put + length base + length values + length fill + length uploaded + length flush + length left + length finish
eight put base values fill uploaded flush left finish = simp length-append refl

round_short : (stream round state : ℕ) → stream ≤ 4 → round ≤ 2000 → length (round_text stream round state) ≤ 400
unfolding round_text
round_short stream round state known within =
    let words = block stream round state in
    let uploaded = after_draws 7 state in
    let values : length (flat_map value_text words) ≤ 9 * 32 = length-values words (block_small stream round state known within) in
    let word = length-value uploaded (drawn_small (after_draws 6 state)) in
    omega (arith, base_short round, left_short round, values, word, eight (codes "put") (spaced_number (base_of round)) (flat_map value_text words) (codes "\nfill 0 0") (value_text uploaded) (codes "\nflush") (spaced_number (32 - base_of round)) (codes "\nfinish\n"))

rounds_short : (size stream round state : ℕ) → stream ≤ 4 → round + size ≤ 2001 → length (rounds size stream round state) ≤ 400 * size
unfolding rounds
rounds_short zero stream round state known within = omega arith
rounds_short (suc more) stream round state known within =
    let first = round_short stream round state known (omega arith) in
    let rest = rounds_short more stream (round + 1) (after_draws 7 state) known (omega arith) in
    omega (arith, first, rest, length-append (round_text stream round state) (rounds more stream (round + 1) (after_draws 7 state)))

-- ---- streams

seven : (head number space priority put values finish : List ℕ)
    → length (head ++ number ++ space ++ priority ++ put ++ values ++ finish) ≡ length head + length number + length space + length priority + length put + length values + length finish
seven head number space priority put values finish = simp length-append refl

start_short : (priority : List ℕ) (stream : ℕ) → stream ≤ 4 → length priority ≤ 6 → length (spaced_number stream) ≤ 2 → length (start_text priority stream) ≤ 200
unfolding start_text
start_short priority stream known named short =
    let values = 0x20400004 ∷ stream ∷ 16 ∷ 16 ∷ 28 ∷ [] in
    let made : length (flat_map value_text values) ≤ 9 * 5 = length-values values (values_small stream known) in
    omega (arith, named, short, made, seven (codes "stream") (spaced_number stream) (codes " ") priority (codes " 64\nmemory 0 16\nput 0") (flat_map value_text values) (codes "\nflush 32\nfinish\n"))

stream_short : (priority : List ℕ) (size stream state : ℕ) → size ≤ 2000 → stream ≤ 4 → length priority ≤ 6 → length (spaced_number stream) ≤ 2 → length (stream_script priority size stream state) ≤ 200 + 400 * size
stream_short priority size stream state within known named short =
    let first = start_short priority stream known named short in
    let rest = rounds_short size stream 1 state known (omega arith) in
    omega (arith, first, rest, length-append (start_text priority stream) (rounds size stream 1 state))

pub generated_is_short : (size seed : ℕ) → size ≤ 2000 → length (generated size seed) ≤ 16777216
unfolding generated stream_scripts digits
generated_is_short size seed within =
    let second_state = after_draws (7 * size) seed in
    let third_state = after_draws (7 * size) second_state in
    let fourth_state = after_draws (7 * size) third_state in
    let first = stream_script (codes "low") size 1 seed in
    let second = stream_script (codes "low") size 2 second_state in
    let third = stream_script (codes "normal") size 3 third_state in
    let fourth = stream_script (codes "high") size 4 fourth_state in
    omega (
      arith,
      within,
      stream_short (codes "low") size 1 seed within (omega arith) (omega arith) (omega arith),
      stream_short (codes "low") size 2 second_state within (omega arith) (omega arith) (omega arith),
      stream_short (codes "normal") size 3 third_state within (omega arith) (omega arith) (omega arith),
      stream_short (codes "high") size 4 fourth_state within (omega arith) (omega arith) (omega arith),
      length-append (codes "gpu-script 1\n") (first ++ (second ++ (third ++ (fourth ++ [])))),
      length-append first (second ++ (third ++ (fourth ++ []))),
      length-append second (third ++ (fourth ++ [])),
      length-append third (fourth ++ []),
      length-append fourth [],
    )
