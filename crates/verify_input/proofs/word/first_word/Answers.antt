use Rattle.std.proofs.Common.{sym}
use Rattle.verify_input.proofs.Fronts.{no_colon}
use Rattle.verify_input.proofs.word.first_word.Goals as goal

pub returns-in_err-colon : goal.returns-in_err-colon
returns-in_err-colon c = rw c.from_residual.ensures (λ word rest has. no_colon c.args.text.now word rest has (sym c.in_err-colon.ensures))
