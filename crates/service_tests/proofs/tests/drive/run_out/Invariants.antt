use Rattle.service_tests.specs.Alone.{IsOutAlone}
use Rattle.service_tests.proofs.tests.drive.run_out.Given as goal

abbrev pub invariant-loop-turn : goal.invariant-loop-turn
invariant-loop-turn g l = IsOutAlone g.P.ServiceSide.belongs g.P.ServiceSide.note_belongs g.P.ServiceSide.results_belong g.P.ServiceSide.side l.words l.house l.out
