-- What a worked case says: all that a run on one thread writes.
use Rattle.std.specs.Prelude.{ℕ, ◌+◌, ◌*◌, ◌++◌, List, Result, Ok, Err}
use Rattle.sync_core.specs.declared.ending.Ending.{Ending}
use Rattle.sync_core.specs.declared.ending.How.{How}
use Rattle.sync_core.specs.declared.ending.How.TheVariants.{Release, Guard, Closed}
use Rattle.gpu_plan.specs.Plans.{PlansData}
use Rattle.gpu_journal.specs.Serial.{serial}
use Rattle.journal_text.specs.Output.{output, dump_lines}

abbrev kind : How → ℕ
kind Release = 0
kind Guard = 1
kind Closed = 2

-- the marks of these cases, whose numbers are small
abbrev mark : Ending → ℕ
mark ending = 1000 + 4 * ending.order + kind ending.how

-- the output of the serial history and its dump lines, or what is wrong with the script
abbrev pub told : {F : Type 0} → Result PlansData F → Result (List ℕ) F
told (Ok plans) = Ok (output plans mark (serial plans) ++ dump_lines plans (serial plans))
told (Err wrong) = Err wrong
