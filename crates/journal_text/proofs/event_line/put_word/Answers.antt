use Rattle.std.proofs.Common.{rules, arith}
use Rattle.journal_text.specs.Digits.{hex8}
use Rattle.journal_text.proofs.Numerals.{numeral_of_one, numeral_of_two}
use Rattle.journal_text.proofs.event_line.put_word.Goals as goal

pub returns-then-near-lt10-clause-text : goal.returns-then-near-lt10-clause-text
unfolding hex8
returns-then-near-lt10-clause-text c = record { items = rw (numeral_of_one c.args.place (omega arith)) (search (rules)); room = omega arith }

pub returns-clause-text : goal.returns-clause-text
unfolding hex8
returns-clause-text c = record { items = rw (numeral_of_two c.args.place (omega arith) (omega arith)) (search (rules)); room = omega arith }
