use Rattle.journal_text.proofs.Telling.{events_are_apart, output_tells}
use Rattle.journal_text.proofs.Others.{others_begin}
use Rattle.journal_text.proofs.laws.the_output_tells_the_history.Goals as goal

pub returns-clause-apart : goal.returns-clause-apart
returns-clause-apart c = events_are_apart

pub returns-clause-others : goal.returns-clause-others
returns-clause-others c = others_begin

pub returns-clause-tells : goal.returns-clause-tells
returns-clause-tells c = output_tells
