use Rattle.std.proofs.Common.{reverse, ◌∙◌, sym, arith}
use Rattle.std.proofs.lemmas.List.{length-reverse}
use Rattle.journal_verify.proofs.Ensuing.{counted_within}
use Rattle.journal_verify.proofs.Taking.{taken_none, taken_wrong, taken_more, taken_whole, taken_unfinished}
use Rattle.journal_verify.proofs.verifying.verify.Goals as goal

pub take-requires-clause-counted : goal.take-requires-clause-counted
take-requires-clause-counted c = counted_within c.loop-index.index 4294967294 c.loop-index.judge (omega arith) c.loop-index.invariant.counted

pub loop-index-init : goal.loop-index-init
loop-index-init c = taken_none c.args.plans.now (reverse c.args.journal.now.events) c.in_ok-judge.judge c.in_ok-judge.ensures.follows c.in_ok-judge.ensures.counted

pub returns-in-Some : goal.returns-in-Some
returns-in-Some c =
    let many = length-reverse c.args.journal.now.events in
    taken_wrong c.args.plans.now (reverse c.args.journal.now.events) c.loop-index.index c.in-Some.rule c.event.result c.loop-index.judge c.plans_are_lawful.ensures c.loop-index.invariant (omega arith) c.event.ensures
    (sym c.in_ok-rule.ensures.fault ∙ c.in-Some.is)

pub loop-index-preserved : goal.loop-index-preserved
loop-index-preserved c =
    let many = length-reverse c.args.journal.now.events in
    taken_more c.args.plans.now (reverse c.args.journal.now.events) c.loop-index.index c.event.result c.loop-index.judge c.take.new.self c.plans_are_lawful.ensures c.loop-index.invariant (omega arith) c.event.ensures
    (sym c.in_ok-rule.ensures.fault ∙ c.in_default.is) (c.in_ok-rule.ensures.entered c.in_default.is) c.in_ok-rule.ensures.fits

pub returns-then-is_complete : goal.returns-then-is_complete
returns-then-is_complete c =
    let many = length-reverse c.args.journal.now.events in
    let all = taken_whole c.args.plans.now (reverse c.args.journal.now.events) c.loop-index.index c.loop-index.judge c.loop-index.invariant (omega arith) (omega arith) (c.is_complete.ensures.settled c.if-is_complete.true) in
    (all.0, c.into_images.ensures ∙ all.1)

pub returns : goal.returns
returns c =
    let many = length-reverse c.args.journal.now.events in
    taken_unfinished c.args.plans.now (reverse c.args.journal.now.events) c.loop-index.index c.loop-index.judge c.loop-index.invariant (omega arith) (omega arith) (c.is_complete.ensures.open c.if-is_complete.false)
