use Rattle.std.proofs.Common.{sym}
use Rattle.journal_text.proofs.Parts.{length-image}
use Rattle.journal_text.proofs.image_lines.ImageLinesLines.count.Goals as goal

pub returns : goal.returns
returns c = sym (length-image c.args.self.now.image c.args.self.now.height _ c.args.self.now.there)
