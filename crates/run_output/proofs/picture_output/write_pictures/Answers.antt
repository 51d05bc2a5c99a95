use Rattle.run_output.proofs.Pieces.{puts_away, failed_away}
use Rattle.run_output.proofs.picture_output.write_pictures.Goals as goal

pub returns-in_err-put_pictures : goal.returns-in_err-put_pictures
returns-in_err-put_pictures g c = failed_away _ _ _ _ _ _ _ _ _ c.requires c.from_residual.ensures.0 c.in_err-put_pictures.ensures

pub returns : goal.returns
returns g c = puts_away _ _ _ _ _ _ _ _ _ _ c.requires c.in_ok-put_pictures.ensures c.give.ensures.adds
