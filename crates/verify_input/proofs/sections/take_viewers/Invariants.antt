use Rattle.verify_input.proofs.Names.{flat_map, range_with_len, looks_due, past_of}
use Rattle.verify_input.proofs.Dues.{IsTaking}
use Rattle.verify_input.proofs.Lefts.{viewers_left}
use Rattle.verify_input.proofs.sections.take_viewers.Given as goal

abbrev pub invariant-loop-index : goal.invariant-loop-index
invariant-loop-index l = IsTaking l.history.plans.now (past_of l.history) (flat_map looks_due (range_with_len 1 l.viewers)) (viewers_left l.viewers l.index) l.fn.rest l.rest 0
