use Rattle.std.specs.Prelude.{IfSome}
use Rattle.gpu_hall.specs.Ready.{IsReadyRun}
use Rattle.gpu_threads.proofs.chain.serve_on.Given as goal

abbrev pub invariant-loop : goal.invariant-loop
invariant-loop g l = record {
  can_next : (goal.iterator-loop g).can_next l.iterator';
  is_finite : (goal.iterator-loop g).is_finite l.iterator';
  ready : IfSome l.out (IsReadyRun g.N.Naming.plans g.N.Naming.words g.N.Naming.books);
}
