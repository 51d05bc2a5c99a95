-- Steps one by one: what each leaves of the state, and what all leave.
use Rattle.std.proofs.Common.{◌≡◌, ℕ, zero, suc, ◌+◌, ◌*◌, ◌/◌, ◌<◌, ◌≤◌, max, Bool, true, false, Option, Some, None, List, [], ◌∷◌, ◌++◌, length, map, take, get_or, refl, sym, ap, ◌∙◌, ⊎_elim, arith, add-one}
use Rattle.std.specs.Prelude.{◌==◌, nat_lt, if◌then◌else◌, unwrap_or}
use Rattle.std.specs.Option.{option_map_or}
use Rattle.std.specs.List.{range_with_len}
use Rattle.std.specs.List.Sorted.{IsStrictlyIncreasing}
use Rattle.std.proofs.lemmas.Bool.{cases_lt}
use Rattle.std.proofs.lemmas.Bool.Decides.{nat_tests}
use Rattle.std.proofs.lemmas.List.{get_or_past}
use Rattle.std.proofs.lemmas.List.FromFn.{get_or-map-range_with_len, length-map-range_with_len}
use Rattle.gpu_cmd.specs.declared.areas.Areas.{Areas}
use Rattle.gpu_cmd.specs.declared.command.Command.{Command}
use Rattle.gpu_cmd.specs.declared.command.Command.TheVariants.{GetBucketStart, GetBucketData}
use Rattle.stream_state.specs.Blocks.{bytes_in, part}
use Rattle.gpu_store.specs.declared.op.Answer.{Answer}
use Rattle.gpu_word.specs.Header.{size_of}
use Rattle.stream_state.specs.Writes.{Writes, word_from, first_words, with_write, left_by_writes, end_of_writes, after_writes}
use Rattle.stream_state.specs.State.{State, IsBounded, first_state, noted}
use Rattle.stream_state.specs.Steps.{header_in, command_in, place_at, writes_of, acted, stepped, writes, token_after, release_after, buckets_after, buffers_after, results_after, Step, stream_of}
use Rattle.stream_state.specs.Laws.{StepIsBounded, StepsMoveOn, StatesAreBounded, all_written, ResultsAreLastWritten, WritesRise}
use Rattle.stream_state.proofs.Writings.{last_past}
use Rattle.stream_state.proofs.Finding.{finds}

-- ---- the state after one step, part by part

pub stream_of_none : (areas : Areas) → stream_of areas [] ≡ first_state
unfolding stream_of
stream_of_none areas = refl

pub stream_of_step : (areas : Areas) (step : Step) (steps : List Step) → stream_of areas (step ∷ steps) ≡ noted step.answer (stepped areas step.words (stream_of areas steps))
unfolding stream_of
stream_of_step areas step steps = refl

pub stepped_entries : (areas : Areas) (words : List (ℕ × ℕ)) (state : State) → (stepped areas words state).entries ≡ state.entries + size_of (header_in words)
unfolding stepped acted
stepped_entries areas words state = refl

pub stepped_fetched : (areas : Areas) (words : List (ℕ × ℕ)) (state : State) → (stepped areas words state).fetched ≡ state.fetched + length words
unfolding stepped acted
stepped_fetched areas words state = refl

pub stepped_token : (areas : Areas) (words : List (ℕ × ℕ)) (state : State) → (stepped areas words state).token ≡ token_after (command_in words) state.token
unfolding stepped acted
stepped_token areas words state = refl

pub stepped_release : (areas : Areas) (words : List (ℕ × ℕ)) (state : State) → (stepped areas words state).release ≡ release_after (command_in words) state.release
unfolding stepped acted
stepped_release areas words state = refl

pub stepped_buckets : (areas : Areas) (words : List (ℕ × ℕ)) (state : State) → (stepped areas words state).buckets ≡ buckets_after (command_in words) words state.buckets
unfolding stepped acted
stepped_buckets areas words state = refl

pub stepped_buffers : (areas : Areas) (words : List (ℕ × ℕ)) (state : State) → (stepped areas words state).buffers ≡ buffers_after (command_in words) words state.buffers
unfolding stepped acted
stepped_buffers areas words state = refl

pub stepped_errors : (areas : Areas) (words : List (ℕ × ℕ)) (state : State) → (stepped areas words state).errors ≡ state.errors
unfolding stepped acted
stepped_errors areas words state = refl

pub stepped_results : (areas : Areas) (words : List (ℕ × ℕ)) (state : State) → (stepped areas words state).results ≡ results_after areas (command_in words) state
unfolding stepped acted
stepped_results areas words state = refl

-- ---- the bounds hold after every step

noted_bounded : (answer : Answer) (state : State) → IsBounded state → IsBounded (noted answer state)
noted_bounded answer state h = record { fetched = h.fetched; entries = h.entries }

pub step_is_bounded : StepIsBounded
step_is_bounded areas words state lawful bounded taken =
    let f = finds areas words state (command_in words) (size_of (header_in words)) lawful bounded taken.accepted in
    let old : state.entries ≤ 4096 * state.fetched = bounded.entries in
    record {
      fetched = rw (stepped_fetched areas words state) f.quota;
      entries = rw (stepped_fetched areas words state) (rw (stepped_entries areas words state) (omega (arith, f.few, f.some)));
    }

pub steps_move_on : StepsMoveOn
steps_move_on areas words state lawful bounded taken =
    let f = finds areas words state (command_in words) (size_of (header_in words)) lawful bounded taken.accepted in
    record {
      entries = rw (stepped_entries areas words state) (omega (arith, f.entry));
      fetched = rw (stepped_fetched areas words state) (omega (arith, f.some));
    }

pub states_are_bounded : StatesAreBounded
unfolding stream_of
states_are_bounded areas [] lawful taken = record { fetched = omega arith; entries = omega arith }
states_are_bounded areas (step ∷ steps) lawful taken = noted_bounded step.answer (stepped areas step.words (stream_of areas steps)) (step_is_bounded areas step.words (stream_of areas steps) lawful (states_are_bounded areas steps lawful taken.1) taken.0)

-- ---- a result place has the last value that was written to it

-- a value after writes
abbrev left_at : Writes → List ℕ → ℕ → ℕ
left_at ws values k = left_by_writes ws k (get_or values k 0)

pub value_after : (ws : Writes) (values : List ℕ) (place : ℕ) → get_or (after_writes ws values) place 0 ≡ left_by_writes ws place (get_or values place 0)
unfolding after_writes
value_after ws values place = ⊎_elim within behind (cases_lt place (max (length values) (end_of_writes ws)))
  where
    within : place < max (length values) (end_of_writes ws) → get_or (map (left_at ws values) (range_with_len 0 (max (length values) (end_of_writes ws)))) place 0 ≡ left_at ws values place
    within h = get_or-map-range_with_len (left_at ws values) 0 (max (length values) (end_of_writes ws)) place place 0 h (omega arith)

    behind : max (length values) (end_of_writes ws) ≤ place → get_or (map (left_at ws values) (range_with_len 0 (max (length values) (end_of_writes ws)))) place 0 ≡ left_at ws values place
    behind h =
        get_or_past (map (left_at ws values) (range_with_len 0 (max (length values) (end_of_writes ws)))) place 0 (omega (arith, length-map-range_with_len (left_at ws values) 0 (max (length values) (end_of_writes ws))))
        ∙ sym (get_or_past values place 0 (omega arith)) ∙ sym (last_past ws place (get_or values place 0) (omega arith))

last_of_both : (first second : Writes) (place before : ℕ) → left_by_writes (first ++ second) place before ≡ left_by_writes second place (left_by_writes first place before)
last_of_both [] second place before = refl
last_of_both (write ∷ first) second place before = last_of_both first second place (if write.0 == place then write.1 else before)

result_after : (ws : Option Writes) (values : List ℕ) (place : ℕ) → get_or (option_map_or (λ (w : Writes). after_writes w values) ws values) place 0 ≡ left_by_writes (unwrap_or ws []) place (get_or values place 0)
result_after None values place = refl
result_after (Some ws) values place = value_after ws values place

pub results_are_last_written : ResultsAreLastWritten
unfolding stream_of all_written writes stepped acted
results_are_last_written areas [] place = refl
results_are_last_written areas (step ∷ steps) place =
    let before : State = stream_of areas steps in
    result_after (writes_of areas (command_in step.words) before) before.results place
    ∙ ap (left_by_writes (unwrap_or (writes_of areas (command_in step.words) before) []) place) (results_are_last_written areas steps place)
    ∙ sym (last_of_both (all_written areas steps) (unwrap_or (writes_of areas (command_in step.words) before) []) place 0)

-- ---- the writes of a step rise

-- the places rise strictly from a first one on
Rise : ℕ → Writes → Type 0
Rise low [] = Unit {0}
Rise low (write ∷ ws) = (low ≤ write.0) × Rise (write.0 + 1) ws

lower : (low middle : ℕ) (ws : Writes) → low ≤ middle → Rise middle ws → Rise low ws
unfolding Rise
lower low middle [] l h = tt
lower low middle (write ∷ ws) l h = let least : middle ≤ write.0 = h.0 in (omega arith, h.1)

words_rise : (place : ℕ) (bytes : List ℕ) (first count : ℕ) → Rise (place + first) (map (λ i. (place + i, word_from bytes (4 * i))) (range_with_len first count))
unfolding Rise
words_rise place bytes first zero = tt
words_rise place bytes first (suc count) =
    (omega arith, lower (place + first + 1) (place + (first + 1)) (map (λ i. (place + i, word_from bytes (4 * i))) (range_with_len (first + 1) count)) (omega arith) (words_rise place bytes (first + 1) count))

first_words_rise : (place : ℕ) (bytes : List ℕ) (count : ℕ) → Rise 0 (first_words place bytes count)
unfolding first_words
first_words_rise place bytes count = lower 0 (place + 0) (map (λ i. (place + i, word_from bytes (4 * i))) (range_with_len 0 count)) (omega arith) (words_rise place bytes 0 count)

joined_by_order : (b c : Bool) (write first : ℕ × ℕ) (rest : Writes) (low : ℕ) → nat_lt write.0 first.0 ≡ b → (write.0 == first.0) ≡ c → low ≤ write.0 → Rise low (first ∷ rest)
    → (first.0 + 1 ≤ write.0 → Rise (first.0 + 1) (with_write write rest)) → Rise low (if b then write ∷ first ∷ rest else if c then first ∷ rest else first ∷ with_write write rest)
unfolding Rise
joined_by_order true c write first rest low e d l h k = let below : write.0 < first.0 = grind (arith, nat_tests) in (l, (omega arith, h.1))
joined_by_order false true write first rest low e d l h k = h
joined_by_order false false write first rest low e d l h k = let above : first.0 + 1 ≤ write.0 = grind (arith, nat_tests) in (h.0, k above)

joined_rise : (write : ℕ × ℕ) (ws : Writes) (low : ℕ) → low ≤ write.0 → Rise low ws → Rise low (with_write write ws)
unfolding Rise
joined_rise write [] low l h = (l, tt)
joined_rise write (first ∷ rest) low l h = joined_by_order (nat_lt write.0 first.0) (write.0 == first.0) write first rest low refl refl l h (λ above. joined_rise write rest (first.0 + 1) above h.1)

increasing : (low : ℕ) (ws : Writes) → Rise low ws → IsStrictlyIncreasing (map (λ write. write.0) ws)
unfolding Rise
increasing low [] h k lt = absurd (omega arith)
increasing low (write ∷ []) h k lt = absurd (omega arith)
increasing low (write ∷ next ∷ ws) h zero lt = let above : write.0 + 1 ≤ next.0 = h.1.0 in omega arith
increasing low (write ∷ next ∷ ws) h (suc k) lt = rw add-one (rw add-one at (increasing (write.0 + 1) (next ∷ ws) h.1 k (omega arith)))

command_rise : (areas : Areas) (command : Command) (state : State) → Rise 0 (unwrap_or (writes_of areas command state) [])
unfolding Rise
command_rise areas (GetBucketStart bucket result_memory result_offset data_size data_memory data_offset) state =
    let bytes : List ℕ = take data_size (bytes_in state.buckets bucket) in
    joined_rise (place_at areas result_memory result_offset, length (bytes_in state.buckets bucket)) (first_words (place_at areas data_memory data_offset) bytes ((length bytes + 3) / 4)) 0 (omega arith) (first_words_rise (place_at areas data_memory data_offset) bytes ((length bytes + 3) / 4))
command_rise areas (GetBucketData bucket offset size memory memory_offset) state =
    let bytes : List ℕ = part (bytes_in state.buckets bucket) offset size in
    first_words_rise (place_at areas memory memory_offset) bytes ((length bytes + 3) / 4)
command_rise areas _ state = tt

pub writes_rise : WritesRise
unfolding writes
writes_rise areas words state = increasing 0 (unwrap_or (writes_of areas (command_in words) state) []) (command_rise areas (command_in words) state)
