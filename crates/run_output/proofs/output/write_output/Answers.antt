use Rattle.run_output.proofs.Pieces.{puts_away, failed_away}
use Rattle.run_output.proofs.output.write_output.Goals as goal

pub returns-in_err-put_sections : goal.returns-in_err-put_sections
returns-in_err-put_sections g c = failed_away _ _ _ _ _ _ _ _ _ c.requires c.from_residual.ensures.0 c.in_err-put_sections.ensures

pub returns : goal.returns
returns g c = puts_away _ _ _ _ _ _ _ _ _ _ c.requires c.in_ok-put_sections.ensures c.give.ensures.adds
