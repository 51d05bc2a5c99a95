use Rattle.journal_verify.proofs.Holding.{may_hold_decides}
use Rattle.journal_verify.proofs.client.Client.may_hold.Goals as goal

pub returns-clause-decides : goal.returns-clause-decides
returns-clause-decides c = λ actions is within. may_hold_decides actions c.args.self.now c.args.place c.args.value c.has.result c.has.ensures is within
