use Rattle.verify_input.proofs.Names.{List, drop, PlansData, Event, same_lines}
use Rattle.verify_input.proofs.Dues.{IsTaking}
use Rattle.verify_input.proofs.rest.Rest.take_all.Given as goal

abbrev pub invariant-loop-index : goal.invariant-loop-index
invariant-loop-index g l = (p : PlansData) (h : List Event) → IsTaking p h (same_lines l.what (g.L.Lines.lines l.lines)) (same_lines l.what (drop l.index (g.L.Lines.lines l.lines))) l.fn.self l.self 0
