use Rattle.std.proofs.Common.{List, ℕ, ◌++◌, ap, arith, sym, ◌∙◌}
use Rattle.journal_text.proofs.Parts.{length-heads, head_at}
use Rattle.journal_text.proofs.name_lines.NameLinesLines.make.Goals as goal

pub overflow_cast-stream : goal.overflow_cast-stream
overflow_cast-stream c = omega (arith, length-heads c.args.self.now.plans.now, c.args.self.now.counted, c.args.self.now.few, c.requires.within)

pub name-requires-clause-last : goal.name-requires-clause-last
name-requires-clause-last c = omega (arith, length-heads c.args.self.now.plans.now, c.requires.within)

pub returns-else-index-eq0-clause-bytes : goal.returns-else-index-eq0-clause-bytes
returns-else-index-eq0-clause-bytes c =
    c.put_name.ensures.bytes ∙ ap (λ (line : List ℕ). c.args.sheet.now.bytes ++ line) (sym (head_at c.args.self.now.plans.now c.args.index c.name.result (omega (arith, c.if-index-eq0.false)) (omega (arith, length-heads c.args.self.now.plans.now, c.requires.within)) c.name.ensures.value))
