use Rattle.std.proofs.Common.{arith}
use Rattle.script_lines.proofs.Read.{one_unbroken, one_read}
use Rattle.script_lines.proofs.reading.one_digit.Goals as goal

pub behind_word-requires-clause-unbroken : goal.behind_word-requires-clause-unbroken
behind_word-requires-clause-unbroken c = one_unbroken c.args.line.now c.digit_of-digit.result (omega arith) c.digit_of-digit.ensures (omega arith)

pub returns : goal.returns
returns c = one_read c.args.line.now c.digit_of-digit.result (omega arith) c.digit_of-digit.ensures (omega arith) c.in_ok-rest.rest.now c.in_ok-rest.ensures
