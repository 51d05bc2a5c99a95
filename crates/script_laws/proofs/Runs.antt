-- The serial history of every script is legal and complete.
use Rattle.std.proofs.Common.{ℕ, Result, Ok, Err, IfOk}
use Rattle.script_lines.specs.declared.fault.Kind.{Kind}
use Rattle.gpu_plan.specs.Plans.{PlansData}
use Rattle.gpu_plan.specs.Script.{script_of}
use Rattle.serial_laws.specs.Scripts.{AreLawfulPlans}
use Rattle.serial_laws.proofs.Bounded.{serial_is_legal, serial_is_complete}
use Rattle.script_laws.specs.Laws.{ScriptsRunLegally, ScriptsRunToTheEnd}
use Rattle.script_laws.proofs.Scripts.{scripts_are_lawful}

if_ok : {P : PlansData → Type 0} (r : Result PlansData (ℕ × Kind)) → ((p : PlansData) → AreLawfulPlans p → P p) → IfOk r AreLawfulPlans → IfOk r P
if_ok (Ok p) f lawful = f p lawful
if_ok (Err e) f lawful = tt

pub scripts_run_legally : ScriptsRunLegally
scripts_run_legally text = if_ok (script_of text) serial_is_legal (scripts_are_lawful text)

pub scripts_run_to_the_end : ScriptsRunToTheEnd
scripts_run_to_the_end text = if_ok (script_of text) serial_is_complete (scripts_are_lawful text)
