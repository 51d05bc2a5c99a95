-- What a step writes lies in the result memories that it names.
use Rattle.std.proofs.Common.{◌≡◌, ℕ, zero, suc, ◌+◌, ◌*◌, ◌/◌, ◌%◌, ◌<◌, ◌≤◌, Bool, true, false, Option, Some, None, List, [], ◌∷◌, length, map, take, drop, refl, arith, IsTrue}
use Rattle.std.specs.Prelude.{◌==◌, nat_lt, nat_le, unwrap_or, if◌then◌else◌}
use Rattle.std.specs.Option.{option_map_or}
use Rattle.std.specs.List.{range_with_len, All}
use Rattle.std.proofs.lemmas.Bool.{and_parts}
use Rattle.std.proofs.lemmas.Bool.Decides.{nat_tests}
use Rattle.std.proofs.lemmas.List.{length-take}
use Rattle.std.proofs.lemmas.List.Elements.{All-nil, All-cons}
use Rattle.gpu_word.specs.Header.{size_of}
use Rattle.gpu_cmd.specs.declared.command.Command.{Command}
use Rattle.gpu_cmd.specs.declared.command.Command.TheVariants.{GetBucketStart, GetBucketData}
use Rattle.gpu_cmd.specs.declared.areas.Areas.{Areas}
use Rattle.gpu_cmd.specs.declared.areas.Span.{Span}
use Rattle.gpu_cmd.specs.declared.range.Range.{Range}
use Rattle.gpu_cmd.specs.Spans.{span_at, words_in}
use Rattle.gpu_cmd.specs.Lawful.{IsLawfulAreas}
use Rattle.gpu_cmd.specs.Checks.{has_aligned_results, has_memories, is_aligned, lies_in}
use Rattle.stream_state.specs.Blocks.{bytes_in, part}
use Rattle.stream_state.specs.Writes.{Writes, word_from, first_words, words_written, with_write}
use Rattle.stream_state.specs.State.{State}
use Rattle.stream_state.specs.Steps.{header_in, command_in, place_at, writes_of, writes}
use Rattle.stream_state.specs.Laws.{WritesAreThere}
use Rattle.stream_state.proofs.Finding.{finds}

-- all places lie below an end
Below : ℕ → Writes → Type 0
Below end [] = Unit {0}
Below end (write ∷ ws) = (write.0 < end) × Below end ws

all_below : (end : ℕ) (ws : Writes) → Below end ws → All (λ write. write.0 < end) ws
unfolding Below
all_below end [] h = All-nil (λ (write : ℕ × ℕ). write.0 < end)
all_below end (write ∷ ws) h = All-cons (λ (write : ℕ × ℕ). write.0 < end) write ws h.0 (all_below end ws h.1)

words_below : (end place : ℕ) (bytes : List ℕ) (first count : ℕ) → (0 < count → place + first + count ≤ end) → Below end (map (λ i. (place + i, word_from bytes (4 * i))) (range_with_len first count))
unfolding Below
words_below end place bytes first zero h = tt
words_below end place bytes first (suc count) h =
    let ends : place + first + suc count ≤ end = h (omega arith) in
    (omega arith, words_below end place bytes (first + 1) count (λ more. omega arith))

first_words_below : (end place : ℕ) (bytes : List ℕ) (count : ℕ) → (0 < count → place + count ≤ end) → Below end (first_words place bytes count)
unfolding first_words
first_words_below end place bytes count h = words_below end place bytes 0 count (λ some. let ends = h some in omega arith)

joined_by_order : (b c : Bool) (end : ℕ) (write first : ℕ × ℕ) (rest : Writes) → write.0 < end → Below end (first ∷ rest) → Below end (with_write write rest)
    → Below end (if b then write ∷ first ∷ rest else if c then first ∷ rest else first ∷ with_write write rest)
unfolding Below
joined_by_order true c end write first rest l h k = (l, h)
joined_by_order false true end write first rest l h k = h
joined_by_order false false end write first rest l h k = (h.0, k)

joined_below : (end : ℕ) (write : ℕ × ℕ) (ws : Writes) → write.0 < end → Below end ws → Below end (with_write write ws)
unfolding Below
joined_below end write [] l h = (l, tt)
joined_below end write (first ∷ rest) l h = joined_by_order (nat_lt write.0 first.0) (write.0 == first.0) end write first rest l h (joined_below end write rest l h.1)

-- the words of a range of a result memory end within it
by_span : (areas : Areas) (span : Option Span) (range : Range) → IsLawfulAreas areas → span_at areas.results range.memory ≡ span → IsTrue (option_map_or (λ (s : Span). nat_le (range.offset + range.bytes) (4 * s.words)) span false) → IsTrue (is_aligned range)
    → option_map_or (λ (s : Span). s.base + range.offset / 4) span 0 + (range.bytes + 3) / 4 ≤ words_in areas.results
by_span areas None range lawful e b a = absurd (cc)
by_span areas (Some span) range lawful e b a =
    let ends : span.base + span.words ≤ 0 + words_in areas.results = lawful.results.ended range.memory span e in
    let room : range.offset + range.bytes ≤ 4 * span.words = grind (arith, nat_tests) in
    let even : range.offset % 4 ≡ 0 = grind (arith, nat_tests) in
    omega arith

range_ends : (areas : Areas) (range : Range) → IsLawfulAreas areas → IsTrue (lies_in areas.results range) → IsTrue (is_aligned range) → place_at areas range.memory range.offset + (range.bytes + 3) / 4 ≤ words_in areas.results
range_ends areas range lawful b a = by_span areas (span_at areas.results range.memory) range lawful refl b a

-- so do words of no more bytes
few_below : (areas : Areas) (range : Range) (bytes : List ℕ) → IsLawfulAreas areas → IsTrue (lies_in areas.results range) → IsTrue (is_aligned range) → length bytes ≤ range.bytes → Below (words_in areas.results) (words_written (place_at areas range.memory range.offset) bytes)
few_below areas range bytes lawful b a few =
    let ends = range_ends areas range lawful b a in
    first_words_below (words_in areas.results) (place_at areas range.memory range.offset) bytes ((length bytes + 3) / 4) (λ some. omega arith)

taken_few : (n : ℕ) (bytes : List ℕ) → length (take n bytes) ≤ n
taken_few n bytes = omega (arith, length-take n bytes)

-- the bytes of a start
data_below : (areas : Areas) (none : Bool) (bytes : List ℕ) (range : Range) → IsLawfulAreas areas → (range.bytes == 0) ≡ none → IsTrue (option_map_or (lies_in areas.results) (if none then None else Some range) true) → IsTrue (option_map_or is_aligned (if none then None else Some range) true)
    → Below (words_in areas.results) (words_written (place_at areas range.memory range.offset) (take range.bytes bytes))
data_below areas true bytes range lawful e b a =
    let zero_bytes : range.bytes ≡ 0 = grind (arith, nat_tests) in
    let few = taken_few range.bytes bytes in
    first_words_below (words_in areas.results) (place_at areas range.memory range.offset) (take range.bytes bytes) ((length (take range.bytes bytes) + 3) / 4) (λ some. absurd (omega arith))
data_below areas false bytes range lawful e b a = few_below areas range (take range.bytes bytes) lawful b a (taken_few range.bytes bytes)

command_below : (areas : Areas) (command : Command) (state : State) → IsLawfulAreas areas → IsTrue (has_memories areas command) → IsTrue (has_aligned_results command) → Below (words_in areas.results) (unwrap_or (writes_of areas command state) [])
unfolding Below
command_below areas (GetBucketStart bucket result_memory result_offset data_size data_memory data_offset) state lawful m a =
    let size : Range = record { memory = result_memory; offset = result_offset; bytes = 4 } in
    let front : Range = record { memory = data_memory; offset = data_offset; bytes = data_size } in
    let data_lies : Bool = option_map_or (lies_in areas.results) (if data_size == 0 then None else Some front) true in
    let data_aligned : Bool = option_map_or is_aligned (if data_size == 0 then None else Some front) true in
    let lies = and_parts (lies_in areas.results size) data_lies m in
    let aligned = and_parts (is_aligned size) data_aligned a in
    let ends = range_ends areas size lawful lies.0 aligned.0 in
    joined_below (words_in areas.results) (place_at areas result_memory result_offset, length (bytes_in state.buckets bucket)) (words_written (place_at areas data_memory data_offset) (take data_size (bytes_in state.buckets bucket))) (omega arith)
    (data_below areas (data_size == 0) (bytes_in state.buckets bucket) front lawful refl lies.1 aligned.1)
command_below areas (GetBucketData bucket offset size memory memory_offset) state lawful m a =
    few_below areas (record { memory = memory; offset = memory_offset; bytes = size }) (part (bytes_in state.buckets bucket) offset size) lawful m a (taken_few size (drop offset (bytes_in state.buckets bucket)))
command_below areas _ state lawful m a = tt

pub writes_are_there : WritesAreThere
unfolding writes
writes_are_there areas words state lawful bounded taken =
    let f = finds areas words state (command_in words) (size_of (header_in words)) lawful bounded taken.accepted in
    all_below (words_in areas.results) (unwrap_or (writes_of areas (command_in words) state) []) (command_below areas (command_in words) state lawful f.memories f.aligned)
