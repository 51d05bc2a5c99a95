use Rattle.verify_input.proofs.Names.{flat_map, streams_of, dumps_due, past_of}
use Rattle.verify_input.proofs.Dues.{IsTaking}
use Rattle.verify_input.proofs.Lefts.{all_dumps_left}
use Rattle.verify_input.proofs.sections.take_dumps.Given as goal

abbrev pub invariant-loop-index : goal.invariant-loop-index
invariant-loop-index l =
    IsTaking l.history.plans.now (past_of l.history) (flat_map (dumps_due l.history.plans.now (past_of l.history)) (streams_of l.history.plans.now))
    (all_dumps_left l.history.plans.now (past_of l.history) l.index) l.fn.rest l.rest 0
