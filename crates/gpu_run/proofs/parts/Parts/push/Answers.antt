use Rattle.gpu_run.proofs.Starting.{one_more}
use Rattle.gpu_run.proofs.parts.Parts.push.Goals as goal

pub returns : goal.returns
returns c = λ plans was. one_more plans c.args.plan.now c.args.self.now _ c.in_ok-client.client c.in_ok-client.side tt c.in_ok-book.book c.in_ok-client.ensures.client c.in_ok-client.ensures.side record { kept = c.in_ok-book.ensures.kept; out = c.in_ok-book.ensures.out }
    c.in_ok-push-4.ensures.items c.in_ok-push-3.ensures.items c.in_ok-push-2.ensures.items c.in_ok-push.ensures.items was
