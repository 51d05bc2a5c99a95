use Rattle.std.proofs.Common.{arith}
use Rattle.script_lines.proofs.Read.{front_unbroken, short_read}
use Rattle.script_lines.proofs.reading.short_number.Goals as goal

pub behind_word-requires-clause-unbroken : goal.behind_word-requires-clause-unbroken
behind_word-requires-clause-unbroken c =
    let read = c.leading_digits-value in
    front_unbroken c.args.line.now c.first_eight.result.now read.result.1 c.first_eight.ensures.front read.ensures.within c.args.radix c.requires.sixteen read.ensures.digits

pub returns : goal.returns
returns c =
    let read = c.leading_digits-value in
    short_read c.args.line.now c.first_eight.result.now read.result.1 c.first_eight.ensures.front read.ensures.within c.args.radix read.result.0 c.in_ok-rest.rest.now c.requires.sixteen (omega arith) read.ensures.digits read.ensures.value c.in_ok-rest.ensures
