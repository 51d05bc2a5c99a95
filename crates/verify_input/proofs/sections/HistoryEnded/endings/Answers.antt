use Rattle.verify_input.proofs.Names.{◌∙◌}
use Rattle.verify_input.proofs.Histories.{endings_kept}
use Rattle.verify_input.proofs.sections.HistoryEnded.endings.Goals as goal

pub returns : goal.returns
returns c = c.endings.ensures ∙ endings_kept c.args.self.now c.requires
