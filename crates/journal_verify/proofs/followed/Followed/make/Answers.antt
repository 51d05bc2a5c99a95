use Rattle.journal_verify.specs.Followed.{FollowedData}
use Rattle.journal_verify.proofs.Keeping.{followed_none}
use Rattle.journal_verify.proofs.followed.Followed.make.Goals as goal

pub returns-clause-followed : goal.returns-clause-followed
returns-clause-followed c =
    let followed : FollowedData = record { judge = c.in_ok-judge.judge; dumped = c.in_ok-dumped.dumped.items; sums = c.new.result.items } in
    followed_none c.args.plans.now followed c.in_ok-judge.ensures.follows c.in_ok-dumped.ensures c.new.ensures.items
