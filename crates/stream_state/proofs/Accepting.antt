-- What an accepted command finds: its words are its ring words and then its transfer words, and say what it is.
use Rattle.std.proofs.Common.{◌≡◌, ℕ, zero, suc, ◌+◌, ◌<◌, ◌≤◌, Bool, true, false, Option, Some, None, Result, Ok, Err, List, [], ◌∷◌, ◌++◌, length, map, take, refl, sym, ap, subst, ◌∙◌, ⊎_elim, arith, IsTrue, IsOkAnd, IsSomeAnd, length-append}
use Rattle.std.specs.Prelude.{◌==◌, ◌&&◌, nat_le, slice_index, if◌then◌else◌}
use Rattle.std.specs.Option.{option_map_or}
use Rattle.std.specs.List.{range_with_len, AllByRecursion}
use Rattle.std.specs.List.Sorted.{IsStrictlyIncreasing}
use Rattle.std.proofs.lemmas.Bool.{and_parts, cases_lt}
use Rattle.std.proofs.lemmas.Bool.Decides.{nat_tests}
use Rattle.std.proofs.lemmas.List.{length-map, map-append}
use Rattle.std.proofs.lemmas.List.Kept.{AllPairs-from_increasing}
use Rattle.std.proofs.lemmas.List.FromFn.{length-range_with_len}
use Rattle.std.proofs.Math.Seq.{take-append_seam}
use Rattle.gpu_word.specs.Header.{size_of, id_of}
use Rattle.gpu_cmd.specs.declared.command.Command.{Command}
use Rattle.gpu_cmd.specs.declared.command.Command.TheVariants.{Noop}
use Rattle.gpu_cmd.specs.declared.error.CmdError.{CmdError}
use Rattle.gpu_cmd.specs.declared.error.CmdError.TheVariants.{InvalidSize, OutOfBounds, UnknownCommand, InvalidArguments, Quota}
use Rattle.gpu_cmd.specs.declared.facts.StreamFacts.{StreamFacts}
use Rattle.gpu_cmd.specs.declared.shape.Shape.{Shape}
use Rattle.gpu_cmd.specs.declared.decoded.Decoded.{Decoded}
use Rattle.gpu_cmd.specs.Lawful.{IsLawfulFacts, room}
use Rattle.gpu_word.specs.Outcome.{◌>>=◌, unless, or_error}
use Rattle.gpu_cmd.specs.Table.{Row, row_of, fits, ring_words_of, argument, command_by_row, command_said}
use Rattle.gpu_cmd.specs.Ranges.{transfer_places}
use Rattle.gpu_cmd.specs.Checks.{headed, checked, decoded, has_format, has_slot, has_data, has_aligned_results, has_arguments, has_memories, is_within_quota}
use Rattle.gpu_cmd.specs.Copied.{copied, fetched_places, judged, places_headed, places_decoded, ring_places, value_in, places_listed, IsCopy}
use Rattle.gpu_cmd.proofs.Heads.{headed_some, headed_fits}
use Rattle.gpu_cmd.proofs.Copies.{judged_out, places_in, judged_headed, judged_in}
use Rattle.gpu_cmd.proofs.Rising.{places_rise}
use Rattle.stream_state.specs.Steps.{values_of, header_in, ring_words_in, command_in}

-- ---- the values of words at rising places

same_place : (word : ℕ × ℕ) (words : List (ℕ × ℕ)) → value_in (word ∷ words) word.0 ≡ word.1
same_place word words = let e : (word.0 == word.0) ≡ true = grind (arith, nat_tests) in rw e refl

behind : (word : ℕ × ℕ) (words : List (ℕ × ℕ)) (places : List ℕ) → AllByRecursion (λ place. word.0 < place) places → map (value_in (word ∷ words)) places ≡ map (value_in words) places
behind word words [] h = refl
behind word words (place ∷ places) h =
    let below : word.0 < place = h.0 in
    let other : (word.0 == place) ≡ false = grind (arith, nat_tests) in
    let first : value_in (word ∷ words) place ≡ value_in words place = rw other refl in
    let rest = behind word words places h.1 in
    cc

-- each place is below all later ones
abbrev Rises : List ℕ → Type 0
Rises places = (i j : ℕ) → i < j → j < length places → slice_index places i < slice_index places j

by_index : (P : ℕ → Type 0) (places : List ℕ) → ((j : ℕ) → j < length places → P (slice_index places j)) → AllByRecursion P places
by_index P [] h = tt
by_index P (place ∷ places) h = (h zero (omega arith), by_index P places (λ j lt. h (suc j) (omega arith)))

-- words at rising places are the values at these places
values_kept : (words : List (ℕ × ℕ)) → Rises (places_listed words) → map (value_in words) (places_listed words) ≡ values_of words
values_kept [] h = refl
values_kept (word ∷ words) h =
    let first = same_place word words in
    let rest = behind word words (places_listed words) (by_index (λ place. word.0 < place) (places_listed words) (λ j lt. h zero (suc j) (omega arith) (omega arith))) in
    let kept = values_kept words (λ i j lt l. h (suc i) (suc j) (omega arith) (omega arith)) in
    cc

rising_values : (words : List (ℕ × ℕ)) → IsStrictlyIncreasing (places_listed words) → map (value_in words) (places_listed words) ≡ values_of words
rising_values words h = values_kept words (λ i j lt l. AllPairs-from_increasing (places_listed words) h i j 0 lt l)

-- ---- what checks 1 to 5 answer

abbrev shape_of : ℕ → Shape
shape_of entry = record { id = id_of entry; size = size_of entry; ring_words = ring_words_of (id_of entry) (size_of entry) }

five_told : (a b : Bool) (o : Option Row) (fit : Row → Bool) (c : Bool) (said shape : Shape) → (unless a InvalidSize >>= λ _. unless b OutOfBounds >>= λ _. or_error UnknownCommand o >>= λ row. unless (fit row) InvalidArguments >>= λ _. unless c Quota >>= λ _. Ok said) ≡ Ok shape → said ≡ shape
five_told false b o fit c said shape h = cc
five_told true false o fit c said shape h = cc
five_told true true None fit c said shape h = cc
five_told true true (Some row) fit c said shape h = last_two (fit row) c said shape h
  where
    last_two : (f c : Bool) (said shape : Shape) → (unless f InvalidArguments >>= λ _. unless c Quota >>= λ _. Ok said) ≡ Ok shape → said ≡ shape
    last_two false c said shape h = cc
    last_two true false said shape h = cc
    last_two true true said shape h = cc

headed_told : (entry : ℕ) (facts : StreamFacts) (shape : Shape) → headed entry facts ≡ Ok shape → shape_of entry ≡ shape
unfolding headed
headed_told entry facts shape h = five_told (nat_le 1 (size_of entry)) (nat_le (size_of entry) (room facts)) (row_of (id_of entry)) (λ row. fits row (size_of entry)) (is_within_quota (facts.fetched + ring_words_of (id_of entry) (size_of entry))) (shape_of entry) shape h

-- ---- what checks 6 to 10 answer

-- a command that passed, with its transfer places
pub record Passed (ring_words : ℕ) (command : Command) (facts : StreamFacts) (found : Decoded) : Type 0 where
  pub format : IsTrue (has_format command)
  pub slot : IsTrue (has_slot command)
  pub bytes : IsTrue (has_data ring_words command && has_aligned_results command)
  pub memories : IsTrue (has_memories facts.areas command)
  pub same : found.command ≡ command
  pub count : found.count ≡ (transfer_places facts.areas command).count

abbrev answer_of : Command → StreamFacts → Decoded
answer_of command facts = record { command = command; from = (transfer_places facts.areas command).from; count = (transfer_places facts.areas command).count }

record Three (a m : Bool) (said found : Decoded) : Type 0 where
  first : IsTrue a
  second : IsTrue m
  answer : said ≡ found

three_passed : (a m q : Bool) (said found : Decoded) → (unless a InvalidArguments >>= λ _. unless m OutOfBounds >>= λ _. unless q Quota >>= λ _. Ok said) ≡ Ok found → Three a m said found
three_passed false m q said found h = absurd (cc)
three_passed true false q said found h = absurd (cc)
three_passed true true false said found h = absurd (cc)
three_passed true true true said found h = record { first = refl; second = refl; answer = cc }

checked_passed : (ring_words : ℕ) (command : Command) (facts : StreamFacts) (found : Decoded) → checked ring_words command facts ≡ Ok found → Passed ring_words command facts found
unfolding checked
checked_passed ring_words command facts found h =
    let p = three_passed (has_arguments ring_words command) (has_memories facts.areas command) (is_within_quota (facts.fetched + ring_words + (transfer_places facts.areas command).count)) (answer_of command facts) found h in
    let arguments = and_parts (has_format command) (has_slot command && (has_data ring_words command && has_aligned_results command)) p.first in
    let rest = and_parts (has_slot command) (has_data ring_words command && has_aligned_results command) arguments.1 in
    record {
      format = arguments.0;
      slot = rest.0;
      bytes = rest.1;
      memories = p.second;
      same = ap (λ d. d.command) (sym p.answer);
      count = ap (λ d. d.count) (sym p.answer);
    }

-- the command of ring words, by the row of its id
abbrev command_by : Option Row → List ℕ → Command
command_by row values = option_map_or (λ row. row.command (argument values)) row Noop

by_row : (row : Option Row) (values : List ℕ) (facts : StreamFacts) (found : Decoded) → (or_error UnknownCommand row >>= λ row. checked (length values) (row.command (argument values)) facts) ≡ Ok found → Passed (length values) (command_by row values) facts found
by_row None values facts found h = absurd (cc)
by_row (Some row) values facts found h = checked_passed (length values) (row.command (argument values)) facts found h

decoded_passed : (values : List ℕ) (facts : StreamFacts) (found : Decoded) → decoded values facts ≡ Ok found → Passed (length values) (command_by (row_of (id_of (slice_index values 0))) values) facts found
unfolding decoded
decoded_passed values facts found h = by_row (row_of (id_of (slice_index values 0))) values facts found h

-- ---- the words of a command that was accepted

-- the values are those of the ring words and then of the transfer words; the ring words give the command, which passed
pub record Told (words : List (ℕ × ℕ)) (facts : StreamFacts) (command : Command) : Type 0 where
  pub ring : List ℕ
  pub transfer : List ℕ
  pub found : Decoded
  pub values : values_of words ≡ ring ++ transfer
  pub header : slice_index ring 0 ≡ value_in words facts.get
  pub some : 0 < length ring
  pub ring_words : length ring ≡ ring_words_of (id_of (value_in words facts.get)) (size_of (value_in words facts.get))
  pub count : length transfer ≡ found.count
  pub fitting : IsSomeAnd (row_of (id_of (value_in words facts.get))) (λ row. IsTrue (fits row (length ring)))
  pub passed : Passed (length ring) (command_by (row_of (id_of (slice_index ring 0))) ring) facts found
  pub same : found.command ≡ command

first_of_range : (m : ℕ → ℕ) (from count : ℕ) → 0 < count → slice_index (map m (range_with_len from count)) 0 ≡ m from
first_of_range m from zero h = absurd (omega arith)
first_of_range m from (suc count) h = refl

by_decoder : (words : List (ℕ × ℕ)) (facts : StreamFacts) (command : Command) (shape : Shape) (answer : Result Decoded CmdError)
    → decoded (map (value_in words) (ring_places facts shape)) facts ≡ answer → shape_of (value_in words facts.get) ≡ shape → 0 < shape.ring_words
    → IsSomeAnd (row_of (id_of (value_in words facts.get))) (λ row. IsTrue (fits row shape.ring_words))
    → (answer >>= λ found. Ok found.command) ≡ Ok command → values_of words ≡ map (value_in words) (ring_places facts shape ++ places_decoded answer) → Told words facts command
by_decoder words facts command shape (Err error) d s some f j v = absurd (cc)
by_decoder words facts command shape (Ok found) d s some f j v =
    let m : ℕ → ℕ = value_in words in
    let all : length (map m (ring_places facts shape)) ≡ shape.ring_words = length-map (ring_places facts shape) m ∙ length-range_with_len facts.get shape.ring_words in
    record {
      ring = map m (ring_places facts shape);
      transfer = map m (range_with_len found.from found.count);
      found = found;
      values = v ∙ map-append m (ring_places facts shape) (range_with_len found.from found.count);
      header = first_of_range m facts.get shape.ring_words some;
      some = omega (arith, all);
      ring_words = all ∙ ap (λ (x : Shape). x.ring_words) (sym s);
      fitting = subst (λ n. IsSomeAnd (row_of (id_of (value_in words facts.get))) (λ row. IsTrue (fits row n))) (sym all) f;
      count = length-map (range_with_len found.from found.count) m ∙ length-range_with_len found.from found.count;
      passed = decoded_passed (map m (ring_places facts shape)) facts found d;
      same = cc;
    }

by_head : (words : List (ℕ × ℕ)) (facts : StreamFacts) (command : Command) (head : Result Shape CmdError)
    → headed (value_in words facts.get) facts ≡ head → judged_headed (value_in words) facts head ≡ Ok command
    → values_of words ≡ map (value_in words) (places_headed (value_in words) facts head) → Told words facts command
by_head words facts command (Err error) e j v = absurd (cc)
by_head words facts command (Ok shape) e j v =
    let passed : IsOkAnd (headed (value_in words facts.get) facts) (λ s. shape.ring_words ≡ s.ring_words) = rw e refl in
    by_decoder words facts command shape (decoded (map (value_in words) (ring_places facts shape)) facts) refl (headed_told (value_in words facts.get) facts shape e)
    (headed_some (value_in words facts.get) facts shape.ring_words passed)
    (headed_fits (value_in words facts.get) facts shape.ring_words passed) j v

pub told : (words : List (ℕ × ℕ)) (facts : StreamFacts) (command : Command) → IsLawfulFacts facts → IsCopy words facts (Ok command) → Told words facts command
unfolding copied fetched_places
told words facts command lawful copy = ⊎_elim in_range out_of_range (cases_lt facts.put facts.areas.ring)
  where
    in_range : facts.put < facts.areas.ring → Told words facts command
    in_range r =
        let m : ℕ → ℕ = value_in words in
        let judged_ok : judged_headed m facts (headed (m facts.get) facts) ≡ Ok command = sym (judged_in m facts r) ∙ copy.verdict in
        let places : places_listed words ≡ places_headed m facts (headed (m facts.get) facts) = copy.places ∙ places_in m facts r in
        let rising : IsStrictlyIncreasing (places_listed words) = subst IsStrictlyIncreasing (sym copy.places) (places_rise words facts lawful) in
        by_head words facts command (headed (m facts.get) facts) refl judged_ok (sym (rising_values words rising) ∙ ap (map m) places)

    out_of_range : facts.areas.ring ≤ facts.put → Told words facts command
    out_of_range r = let wrong : judged (value_in words) facts ≡ Err OutOfBounds = judged_out (value_in words) facts r in let right : judged (value_in words) facts ≡ Ok command = copy.verdict in absurd (cc)

-- ---- the definitions of a step's words

front_first : (xs ys : List ℕ) → 0 < length xs → slice_index (xs ++ ys) 0 ≡ slice_index xs 0
front_first [] ys h = absurd (omega arith)
front_first (x ∷ xs) ys h = refl

-- what ring words say by a row is the command by it
said_fitting : (row : Option Row) (ring : List ℕ) → IsSomeAnd row (λ row. IsTrue (fits row (length ring))) → command_by_row row ring ≡ Some (command_by row ring)
said_fitting None ring h = absurd h
said_fitting (Some row) ring h = by_test (fits row (length ring)) h
  where
    by_test : (b : Bool) → IsTrue b → (if b then Some (row.command (argument ring)) else None) ≡ Some (row.command (argument ring))
    by_test true h = refl
    by_test false h = absurd (cc)

-- the words say their header, their number of ring words and their command
pub record Says (words : List (ℕ × ℕ)) (facts : StreamFacts) (command : Command) : Type 0 where
  pub header : header_in words ≡ value_in words facts.get
  pub ring : ring_words_in words + (transfer_places facts.areas command).count ≡ length words
  pub some : 0 < ring_words_in words
  pub same : command_in words ≡ command
  pub said : command_said (values_of words) ≡ Some command
  pub passed : (found : Decoded) × Passed (ring_words_in words) command facts found

pub says : (words : List (ℕ × ℕ)) (facts : StreamFacts) (command : Command) → Told words facts command → Says words facts command
unfolding command_in
says words facts command t =
    let header : header_in words ≡ value_in words facts.get = ap (λ values. slice_index values 0) t.values ∙ front_first t.ring t.transfer t.some ∙ t.header in
    let ring : ring_words_in words ≡ length t.ring = ap (λ entry. ring_words_of (id_of entry) (size_of entry)) header ∙ sym t.ring_words in
    let front : take (ring_words_in words) (values_of words) ≡ t.ring = ap (λ n. take n (values_of words)) ring ∙ ap (take (length t.ring)) t.values ∙ take-append_seam t.ring t.transfer in
    let id : id_of (header_in words) ≡ id_of (slice_index t.ring 0) = ap id_of (header ∙ sym t.header) in
    let by_words : command_in words ≡ command_by (row_of (id_of (slice_index t.ring 0))) t.ring = ap (λ values. command_by (row_of (id_of (header_in words))) values) front ∙ ap (λ i. command_by (row_of i) t.ring) id in
    let same : command_by (row_of (id_of (slice_index t.ring 0))) t.ring ≡ command = sym t.passed.same ∙ t.same in
    let passed : Passed (ring_words_in words) command facts t.found = subst (λ n. Passed n command facts t.found) (sym ring) (subst (λ c. Passed (length t.ring) c facts t.found) same t.passed) in
    let said : command_said (values_of words) ≡ Some command =
    ap (command_by_row (row_of (id_of (header_in words)))) front ∙ ap (λ i. command_by_row (row_of i) t.ring) id
    ∙ said_fitting (row_of (id_of (slice_index t.ring 0))) t.ring (subst (λ (i : ℕ). IsSomeAnd (row_of i) (λ row. IsTrue (fits row (length t.ring)))) (ap id_of (sym t.header)) t.fitting)
    ∙ ap Some same in
    let all : length words ≡ length (t.ring ++ t.transfer) = sym (length-map words (λ word. word.1)) ∙ ap length t.values in
    record {
      header = header;
      ring = omega (arith, length-append t.ring t.transfer, t.count, passed.count);
      some = omega (arith, t.some);
      same = by_words ∙ same;
      said = said;
      passed = (t.found, passed);
    }
