use Rattle.std.proofs.Common.{sym}
use Rattle.run_output.proofs.run.RunOutput.write.Goals as goal

pub returns : goal.returns
returns g c = rw (sym c.self.view_is) c.write_output-written.ensures
