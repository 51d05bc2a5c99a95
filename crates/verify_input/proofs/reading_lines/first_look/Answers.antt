use Rattle.std.proofs.Common.{◌∙◌}
use Rattle.verify_input.proofs.Looking.{look_first, no_look}
use Rattle.verify_input.proofs.reading_lines.first_look.Goals as goal

pub returns-in-Some : goal.returns-in-Some
returns-in-Some c = λ look begins. c.look_on.ensures ∙ look_first c.args.text.now c.in-Some.line.now c.in-Some.field-0-1.now look c.in-Some.ensures begins

pub returns-in-None : goal.returns-in-None
returns-in-None c = λ look begins. absurd (no_look c.args.text.now look c.in-None.ensures begins)
