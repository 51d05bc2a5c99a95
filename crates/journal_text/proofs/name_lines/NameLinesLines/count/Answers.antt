use Rattle.std.proofs.Common.{arith}
use Rattle.journal_text.proofs.Parts.{length-heads}
use Rattle.journal_text.proofs.name_lines.NameLinesLines.count.Goals as goal

pub returns : goal.returns
returns c = omega (arith, length-heads c.args.self.now.plans.now, c.args.self.now.counted)
