use Rattle.std.proofs.Common.{not, sym, ap, ◌∙◌}
use Rattle.std.specs.Prelude.{is_some}
use Rattle.std.proofs.lemmas.Bool.{and_right}
use Rattle.sync_core.specs.Standing.{first_order}
use Rattle.gpu_journal.specs.Waits.{left_of}
use Rattle.service_tests.proofs.tests.promises.is_held.Goals as goal

pub returns : goal.returns
returns g c held = and_right (is_some (first_order (left_of g.N.Naming.plans c.args.hall.now.past c.args.stream))) _ (ap not (sym c.waits.ensures.blocked ∙ held))
