-- The commands that a step takes, and what it finds in their words.
use Rattle.std.specs.Prelude.{◌≡◌, ◌≢◌, ℕ, ◌+◌, ◌-◌, ◌*◌, ◌%◌, ◌≤◌, ◌<◌, Bool, List, length, Ok, IfSome}
use Rattle.gpu_word.specs.Header.{size_of}
use Rattle.gpu_cmd.specs.declared.command.Command.{Command}
use Rattle.gpu_cmd.specs.declared.areas.Areas.{Areas}
use Rattle.gpu_cmd.specs.Ranges.{named}
use Rattle.gpu_cmd.specs.Copied.{value_in, IsCopy}
use Rattle.gpu_store.specs.Images.{HasItsTexels}
use Rattle.stream_state.specs.declared.effect.Effect.{Effect}
use Rattle.stream_state.specs.declared.effect.Effect.TheVariants.{Pixels}
use Rattle.stream_state.specs.State.{State, facts_of}
use Rattle.stream_state.specs.Steps.{ring_words_in, work}

-- for some put, the words are those to be fetched by the facts of the state, checks 1 to 10 make them this command, and
-- the command's header has this size
pub record IsAccepted (areas : Areas) (words : List (ℕ × ℕ)) (state : State) (command : Command) (size : ℕ) : Type 0 where
  pub put : ℕ
  pub more : (facts_of areas put state).get ≢ put
  pub copy : IsCopy words (facts_of areas put state) (Ok command)
  pub sized : size ≡ size_of (value_in words (facts_of areas put state).get)

-- the transfer words hold a given number of bytes from an offset on
pub record HasTransfer (words : List (ℕ × ℕ)) (offset count : ℕ) : Type 0 where
  pub some : 0 < length words
  pub ring : ring_words_in words ≤ length words
  pub enough : 0 < count → offset % 4 + count ≤ 4 * (length words - ring_words_in words)

-- the words hold the bytes that the command reads of them
abbrev pub HoldItsBytes : List (ℕ × ℕ) → Command → Type 0
HoldItsBytes words command =
    IfSome (named command).transfer_range (λ range. HasTransfer words range.offset range.bytes) × IfSome (named command).immediate_size (λ size. size ≤ 4 * (length words - 4))

-- an upload that is asked for brings as many texels as its rectangle has
abbrev pub BringsItsTexels : Effect → Type 0
BringsItsTexels (Pixels op) = HasItsTexels op
BringsItsTexels _ = Unit {0}

-- a step of the command may need memory; no other ever does
abbrev pub takes_memory : Command → Bool
takes_memory command = (work command).memory
