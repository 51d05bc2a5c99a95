use Rattle.journal_text.proofs.Telling.{different_texts}
use Rattle.journal_text.proofs.laws.histories_that_differ_have_different_texts.Goals as goal

pub returns : goal.returns
returns c = different_texts
