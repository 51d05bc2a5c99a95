use Rattle.std.proofs.Common.{sym, ap, subst, ◌∙◌}
use Rattle.verify_input.specs.Said.{pieces_of}
use Rattle.verify_input.specs.Fronts.{IsCut}
use Rattle.verify_input.proofs.Cuts.{next_none, space_cut, space_pieces}
use Rattle.verify_input.proofs.pieces.Pieces.from_space.Goals as goal

pub returns-in-Some-clause-cut : goal.returns-in-Some-clause-cut
returns-in-Some-clause-cut c = subst IsCut (sym c.split_at.ensures.back) (space_cut c.args.self.rest.now c.in-Some.at (sym c.in-Some.ensures))

pub returns-in-Some-clause-pieces : goal.returns-in-Some-clause-pieces
returns-in-Some-clause-pieces c = ap pieces_of c.split_at.ensures.back ∙ space_pieces c.args.self.rest.now c.in-Some.at (sym c.in-Some.ensures)

pub returns-in-None-clause-pieces : goal.returns-in-None-clause-pieces
returns-in-None-clause-pieces c = sym (next_none c.args.self.rest.now (sym c.in-None.ensures))
