use Rattle.journal_verify.proofs.Keeping.{noted_none}
use Rattle.journal_verify.proofs.ruling.note_wished.Goals as goal

pub returns-in_default : goal.returns-in_default
returns-in_default c = noted_none c.args.events c.args.followed.now
