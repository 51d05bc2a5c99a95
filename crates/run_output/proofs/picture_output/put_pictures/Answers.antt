use Rattle.run_output.proofs.Pieces.{puts_then, puts_failed}
use Rattle.run_output.proofs.picture_output.put_pictures.Goals as goal

pub returns-in_err-put_text : goal.returns-in_err-put_text
returns-in_err-put_text g c = puts_failed _ _ _ _ _ _ _ _ _ _ _ c.from_residual.ensures.0 c.in_err-put_text.ensures.puts

pub returns : goal.returns
returns g c = puts_then _ _ _ _ _ _ _ _ _ _ _ _ c.in_ok-put_text.ensures.puts c.put_images.ensures
