use Rattle.std.proofs.Common.{sym, ◌∙◌}
use Rattle.journal_text.proofs.Parts.{length-streams}
use Rattle.journal_text.proofs.stream_lines.StreamLinesLines.count.Goals as goal

pub returns : goal.returns
returns g c = c.args.self.now.counted ∙ sym (length-streams (g.E.Ended.plans c.args.self.now.run.now) (g.E.Ended.past c.args.self.now.run.now))
