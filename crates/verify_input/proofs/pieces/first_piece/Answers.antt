use Rattle.std.proofs.Common.{sym, ◌∙◌}
use Rattle.verify_input.proofs.Cuts.{cut_found}
use Rattle.verify_input.proofs.pieces.first_piece.Goals as goal

pub returns-in-Some : goal.returns-in-Some
returns-in-Some c = cut_found c.args.text.now c.split_at.result.0.now c.split_at.result.1.now c.in-Some.at (sym c.space_in.ensures ∙ c.in-Some.is) c.split_at.ensures.front c.split_at.ensures.back
