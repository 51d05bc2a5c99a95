use Rattle.std.proofs.Common.{arith}
use Rattle.gpu_plan.specs.Plans.{number_of}
use Rattle.gpu_plan.proofs.Renumbered.{numbers_go}
use Rattle.gpu_plan.proofs.renumbering.numbers_of.Goals as goal

pub loop-name-preserved : goal.loop-name-preserved
loop-name-preserved c = numbers_go (number_of c.args.plans.now) c.as_slice-names.result.now c.loop-name.name-index (record { namespace = 0; id = 0 }) c.loop-name.numbers.items c.push-in-loop-name.new.self.items c.number_of.result c.loop-name.invariant (omega arith) c.number_of.ensures c.in_ok-push-2.ensures.items
