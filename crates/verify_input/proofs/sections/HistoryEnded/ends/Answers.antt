use Rattle.verify_input.proofs.sections.HistoryEnded.ends.Goals as goal

pub returns : goal.returns
returns c = c.requires.ends
