-- What the worked cases share: streams with a ring of 16 entries, and scripts whose plans are lawful.
use Rattle.std.proofs.Common.{◌≡◌, ℕ, List, [], Result, Ok, subst, IfOk}
use Rattle.script_lines.specs.declared.fault.Kind.{Kind}
use Rattle.gpu_cmd.specs.declared.priority.Priority.TheVariants.{Normal}
use Rattle.gpu_plan.specs.declared.plan.Action.{Action}
use Rattle.gpu_plan.specs.Plans.{PlanData, PlansData, ring_alone}
use Rattle.gpu_plan.specs.Script.{script_of}
use Rattle.serial_laws.specs.Scripts.{AreLawfulPlans}
use Rattle.script_laws.proofs.Scripts.{scripts_are_lawful}

-- stream s of a script of version 1, with a ring of 16 entries
abbrev pub stream_of : ℕ → List Action → PlanData
stream_of s list = record { name = record { namespace = 0; id = s }; areas = ring_alone 16; priority = Normal; actions = list; dumps = [] }

pub lawful_from : (text : List ℕ) (p : PlansData) → script_of text ≡ Ok p → AreLawfulPlans p
lawful_from text p is = subst (λ (said : Result PlansData (ℕ × Kind)). IfOk said AreLawfulPlans) is (scripts_are_lawful text)
