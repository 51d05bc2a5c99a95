-- The state of a stream: what its steps have left.
use Rattle.std.specs.Prelude.{ℕ, ◌+◌, ◌*◌, ◌%◌, ◌≤◌, List, [], slice_index}
use Rattle.gpu_store.specs.declared.op.Answer.{Answer}
use Rattle.gpu_store.specs.declared.op.Answer.TheVariants.{Done, InvalidValue, InvalidOperation, OutOfTexels}
use Rattle.gpu_cmd.specs.declared.areas.Areas.{Areas}
use Rattle.gpu_cmd.specs.declared.areas.TheConstants.{MOST_RING}
use Rattle.gpu_cmd.specs.declared.facts.StreamFacts.{StreamFacts}
use Rattle.gpu_cmd.specs.declared.facts.TheConstants.{MOST_FETCHED}
use Rattle.stream_state.specs.Blocks.{Blocks, no_blocks}

-- how many answers of each kind other than Done the image operations of the steps got
pub record Errors : Type 0 where
  pub invalid_value : ℕ
  pub invalid_operation : ℕ
  pub out_of_texels : ℕ

-- the entries consumed, the words of executed commands, the release count, the last token, the buckets, the buffers,
-- the errors, and the values of the result places up to the greatest that was written
pub record State : Type 0 where
  pub entries : ℕ
  pub fetched : ℕ
  pub release : ℕ
  pub token : ℕ
  pub buckets : Blocks
  pub buffers : Blocks
  pub errors : Errors
  pub results : List ℕ

-- no error
abbrev pub no_errors : Errors
no_errors = record { invalid_value = 0; invalid_operation = 0; out_of_texels = 0 }

-- nothing consumed, no bucket, no buffer, nothing written
abbrev pub first_state : State
first_state = record { entries = 0; fetched = 0; release = 0; token = 0; buckets = no_blocks; buffers = no_blocks; errors = no_errors; results = [] }

-- a stream fetches no more words than it may, and each of its steps consumes at most a whole ring and fetches at least a word
pub record IsBounded (state : State) : Type 0 where
  pub fetched : state.fetched ≤ MOST_FETCHED
  pub entries : state.entries ≤ MOST_RING * state.fetched

-- the facts that the checks of the next command read
abbrev pub facts_of : Areas → ℕ → State → StreamFacts
facts_of areas put state = record { areas = areas; get = state.entries % areas.ring; put = put; fetched = state.fetched }

-- the value of a result place: 0 where no step wrote it
abbrev pub result_of : State → ℕ → ℕ
result_of state place = slice_index state.results place

-- one more answer of its kind; Done counts nothing
abbrev pub counted : Answer → Errors → Errors
counted Done errors = errors
counted InvalidValue errors = record errors { invalid_value = errors.invalid_value + 1 }
counted InvalidOperation errors = record errors { invalid_operation = errors.invalid_operation + 1 }
counted OutOfTexels errors = record errors { out_of_texels = errors.out_of_texels + 1 }

-- the state with one more answer counted
abbrev pub noted : Answer → State → State
noted answer state = record state { errors = counted answer state.errors }
