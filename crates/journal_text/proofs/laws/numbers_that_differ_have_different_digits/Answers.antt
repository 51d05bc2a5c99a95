use Rattle.journal_text.proofs.Numerals.{different_numbers, different_values}
use Rattle.journal_text.proofs.laws.numbers_that_differ_have_different_digits.Goals as goal

pub returns-clause-decimal : goal.returns-clause-decimal
returns-clause-decimal c = different_numbers

pub returns-clause-hexadecimal : goal.returns-clause-hexadecimal
returns-clause-hexadecimal c = different_values
