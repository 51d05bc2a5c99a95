-- What the program does with its source and its sink: the theorem.
use Rattle.std.specs.Prelude.{◌≡◌, ◌≢◌, ◌⊎◌, ◌↔◌, ℕ, true, false, List, Option, Some, None}
use Rattle.gpu_io.specs.Faults.{HasRisen}
use Rattle.gpu_io.specs.Whole.{ReadsAtMost, ReadsMoreThan}
use Rattle.script_answers.specs.declared.command.Command.{Command}
use Rattle.script_answers.specs.declared.status.Status.{Status}
use Rattle.script_answers.specs.declared.status.Status.TheVariants as status
use Rattle.script_answers.specs.Statuses.{speaks, tells_all}
use Rattle.script_answers.specs.Says.{reads, most_bytes}
use Rattle.script_answers.specs.Tells.{HasTold, HasBegun, held, IsAnswer}

-- what is seen of a source and of a sink: the bytes left and the bytes written, where these are told, and how often a
-- call has failed
pub record Edges (S K : Type 0) : Type 0 where
  pub left : S → Option (List ℕ)
  pub read_faults : S → ℕ
  pub written : K → Option (List ℕ)
  pub write_faults : K → ℕ

-- the words of the program are a command, or none, and its marks are over a base. It left its source as source_then and
-- its sink as sink_then, and ended so.
-- - usage: it ends with Usage exactly where its words are no command
-- what it wrote:
-- - said: where the status speaks of the input, the text that goes with it was written
-- - front: after WriteFault a prefix of such a text was written
-- - nothing: after a status that writes no text, and is not WriteFault, the sink is as it was
-- what it read:
-- - unread: a command that does not read leaves the source as it was
-- - only: TooLong and ReadFault come only of a command that reads
-- why it ended so:
-- - too_long: more bytes were read than the command may have
-- - read_fault, early: a read failed, before a byte too many
-- - write_fault: a write failed
-- - complete: where the input is known and no call failed, the status is one of that input, or NoMemory
pub record Conducts {S K : Type 0} (edges : Edges S K) (words : Option Command) (base : ℕ)
    (source source_then : S) (sink sink_then : K) (ending : Status) : Type 0 where
  pub usage : (ending ≡ status.Usage) ↔ (words ≡ None)
  pub said : speaks ending ≡ true
      → HasTold words base (edges.left source) (edges.left source_then) ending
      (edges.written sink) (edges.written sink_then)
  pub front : ending ≡ status.WriteFault
      → HasBegun words base (edges.left source) (edges.left source_then)
      (edges.written sink) (edges.written sink_then)
  pub nothing : tells_all ending ≡ false → ending ≢ status.WriteFault → sink_then ≡ sink
  pub unread : reads words ≡ false → source_then ≡ source
  pub only : (ending ≡ status.TooLong) ⊎ (ending ≡ status.ReadFault) → reads words ≡ true
  pub too_long : ending ≡ status.TooLong
      → ReadsMoreThan (most_bytes words) (edges.left source) (edges.left source_then)
  pub read_fault : ending ≡ status.ReadFault
      → HasRisen (edges.read_faults source) (edges.read_faults source_then)
  pub early : ending ≡ status.ReadFault
      → ReadsAtMost (most_bytes words) (edges.left source) (edges.left source_then)
  pub write_fault : ending ≡ status.WriteFault
      → HasRisen (edges.write_faults sink) (edges.write_faults sink_then)
  pub complete : (command : Command) (input : List ℕ) → words ≡ Some command
      → held (reads (Some command)) (edges.left source) ≡ Some input
      → ¬ HasRisen (edges.read_faults source) (edges.read_faults source_then)
      → ¬ HasRisen (edges.write_faults sink) (edges.write_faults sink_then)
      → IsAnswer command base input ending
