use Rattle.std.proofs.Common.{◌∙◌, ap, arith}
use Rattle.std.specs.Char.{digit_value}
use Rattle.script_lines.proofs.Table.{value_there}
use Rattle.script_lines.proofs.digit.digit_of.Goals as goal

pub returns : goal.returns
returns c = c.from-2.ensures ∙ value_there c.from.result _ (omega arith) ∙ ap digit_value c.from.ensures
