use Rattle.std.proofs.Common.{◌-◌, arith}
use Rattle.journal_text.proofs.Parts.{length-image, row_within, row_at}
use Rattle.journal_text.proofs.image_lines.ImageLinesLines.make.Goals as goal

pub overflow_cast-index : goal.overflow_cast-index
overflow_cast-index c = omega (arith, c.args.self.now.small, length-image c.args.self.now.image c.args.self.now.height _ c.args.self.now.there, c.requires.within)

pub put_row-requires-clause-there : goal.put_row-requires-clause-there
put_row-requires-clause-there c = row_within c.args.self.now.height (c.args.index - 1) _ c.args.self.now.there (omega (arith, length-image c.args.self.now.image c.args.self.now.height _ c.args.self.now.there, c.requires.within, c.if-index-eq0.false))

pub returns-else-index-eq0-clause-bytes : goal.returns-else-index-eq0-clause-bytes
returns-else-index-eq0-clause-bytes c =
    row_at c.args.self.now.image c.args.self.now.height c.args.index _ c.args.sheet.now.bytes c.put_row.new.self.bytes c.args.self.now.there (omega (arith, c.if-index-eq0.false)) (omega (arith, length-image c.args.self.now.image c.args.self.now.height _ c.args.self.now.there, c.requires.within)) c.put_row.ensures.bytes
