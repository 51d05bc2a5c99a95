use Rattle.std.proofs.Common.{ap, ◌∙◌}
use Rattle.journal_verify.specs.Faults.{finished_in}
use Rattle.journal_verify.specs.Followed.{FollowedData, dumped_of}
use Rattle.journal_verify.proofs.Small.{told_small, none_told}
use Rattle.journal_verify.proofs.followed.Followed.may_be_told.Goals as goal

pub returns-in-Some-clause-small : goal.returns-in-Some-clause-small
returns-in-Some-clause-small c =
    let now = c.args.self.now in
    let s = c.args.stream in
    told_small (dumped_of now.dumped s) c.in-Some.dumped.now c.finished.result (finished_in now.judge s) c.args.place c.args.least c.in-Some.ensures (c.finished.ensures ∙ ap (λ (f : FollowedData). finished_in f.judge s) c.self.view_is) c.had.ensures.small

pub returns-in-None-clause-small : goal.returns-in-None-clause-small
returns-in-None-clause-small c = λ other told.
    let now = c.args.self.now in
    none_told (dumped_of now.dumped c.args.stream) (finished_in now.judge c.args.stream) c.args.place c.args.least other c.in-None.ensures told
