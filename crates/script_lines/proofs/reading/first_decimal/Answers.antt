use Rattle.script_lines.proofs.Read.{short_decimal}
use Rattle.script_lines.proofs.reading.first_decimal.Goals as goal

pub returns-in-Some : goal.returns-in-Some
returns-in-Some c = short_decimal c.args.line.now c.in-Some.rest.now c.in-Some.number c.in-Some.ensures
