use Rattle.std.proofs.Common.{refl, ap, ◌∙◌, replicate}
use Rattle.stream_state.specs.State.{first_state}
use Rattle.journal_verify.specs.Kept.{JudgeData}
use Rattle.journal_verify.proofs.Ending.{first_follows, first_counted}
use Rattle.journal_verify.proofs.judge.Judge.make.Goals as goal

pub returns-clause-follows : goal.returns-clause-follows
returns-clause-follows c =
    let p = c.args.plans.now in
    let judge : JudgeData = record { drawn = 0; core = c.in_ok-sync.sync; images = c.make-images.result; states = c.in_ok-states.states.items; watches = c.in_ok-watches.watches.items } in
    first_follows p judge refl c.in_ok-sync.ensures.drawn (c.in_ok-sync.ensures.count ∙ c.count-count.ensures.count) c.in_ok-sync.ensures.stands c.make-images.ensures
    (c.in_ok-states.ensures ∙ ap (λ n. replicate n first_state) c.count-count.ensures.count) c.in_ok-watches.ensures.count c.in_ok-watches.ensures.first

pub returns-clause-counted : goal.returns-clause-counted
returns-clause-counted c =
    let p = c.args.plans.now in
    let judge : JudgeData = record { drawn = 0; core = c.in_ok-sync.sync; images = c.make-images.result; states = c.in_ok-states.states.items; watches = c.in_ok-watches.watches.items } in
    first_counted p judge refl c.in_ok-watches.ensures.first
