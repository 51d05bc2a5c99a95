use Rattle.journal_verify.proofs.Small.{from_some}
use Rattle.journal_verify.proofs.dumped.Dumped.had.Goals as goal

pub returns-clause-small : goal.returns-clause-small
returns-clause-small c = λ other from. c.last_with.ensures.small other (from_some _ _ from)
