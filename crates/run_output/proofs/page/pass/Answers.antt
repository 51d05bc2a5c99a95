use Rattle.run_output.proofs.Pieces.{puts_behind, failed_before}
use Rattle.run_output.proofs.page.pass.Goals as goal

pub returns-clause-puts : goal.returns-clause-puts
returns-clause-puts g c = puts_behind _ _ _ _ _ _ _ _ _ _ c.in_ok-give.ensures.empty c.in_ok-give.ensures.adds c.write_all.ensures.adds

pub returns-in_err-give-clause-puts : goal.returns-in_err-give-clause-puts
returns-in_err-give-clause-puts g c = failed_before _ _ _ _ _ _ _ _ _ c.from_residual.ensures.0 c.in_err-give.ensures.adds
