use Rattle.verify_input.proofs.Names.{Decides-eqb, strip_prefix_is}
use Rattle.verify_input.proofs.Heads.{stripped}
use Rattle.verify_input.proofs.cut.behind_line.Goals as goal

pub returns-clause-lines : goal.returns-clause-lines
returns-clause-lines c =
    stripped c.args.text.now c.args.line.now c.strip_prefix.result c.requires (strip_prefix_is Decides-eqb c.args.text.now c.args.line.now c.strip_prefix.result c.strip_prefix.ensures.cases)
