use Rattle.verify_input.proofs.Names.{looks_due, past_of}
use Rattle.verify_input.proofs.Dues.{IsTaking}
use Rattle.verify_input.proofs.Lefts.{looks_left}
use Rattle.verify_input.proofs.sections.take_viewer.Given as goal

abbrev pub invariant-loop-look : goal.invariant-loop-look
invariant-loop-look l = IsTaking l.history.plans.now (past_of l.history) (looks_due l.viewer) (looks_left l.viewer l._look) l.fn.rest l.rest l.least
