use Rattle.std.proofs.Common.{◌+◌, reverse, sym, ◌∙◌, arith}
use Rattle.std.proofs.lemmas.List.{length-reverse}
use Rattle.journal_verify.proofs.Ensuing.{counted_within}
use Rattle.journal_verify.proofs.Taking.{taken_wrong, taken_unfinished}
use Rattle.journal_verify.proofs.Keeping.{way_taken, way_none, way_more, way_noted, way_whole}
use Rattle.journal_verify.proofs.ruling.follow.Goals as goal

pub take-requires-clause-counted : goal.take-requires-clause-counted
take-requires-clause-counted c = counted_within c.loop-index.index 4294967294 c.loop-index.followed.judge (omega arith) c.loop-index.invariant.counted

pub loop-index-init : goal.loop-index-init
loop-index-init c =
    let events = reverse c.args.journal.now.events in
    let none = way_none c.args.plans.now events c.in_ok-followed.followed c.in_ok-followed.ensures.followed c.in_ok-followed.ensures.counted in
    way_noted c.args.plans.now events 0 c.in_ok-followed.followed c.note_wished.new.followed (omega arith) none c.in_ok-note_wished.ensures

pub returns-in-Some : goal.returns-in-Some
returns-in-Some c =
    let events = reverse c.args.journal.now.events in
    let many = length-reverse c.args.journal.now.events in
    taken_wrong c.args.plans.now events c.loop-index.index c.in-Some.rule c.event.result c.loop-index.followed.judge c.plans_are_lawful.ensures
    (way_taken c.args.plans.now events c.loop-index.index c.loop-index.followed c.loop-index.invariant) (omega arith) c.event.ensures
    (sym c.in_ok-rule.ensures.fault ∙ c.in-Some.is)

pub loop-index-preserved : goal.loop-index-preserved
loop-index-preserved c =
    let p = c.args.plans.now in
    let events = reverse c.args.journal.now.events in
    let many = length-reverse c.args.journal.now.events in
    let index = c.loop-index.index in
    let more = way_more p events index c.event.result c.loop-index.followed c.take.new.self c.plans_are_lawful.ensures c.loop-index.invariant (omega arith) c.event.ensures
    (sym c.in_ok-rule.ensures.fault ∙ c.in_default.is) (c.in_ok-rule.ensures.followed c.in_default.is) c.in_ok-rule.ensures.fits in
    way_noted p events (index + 1) c.take.new.self c.note_wished-in-loop-index.new.followed (omega arith) more c.in_ok-note_wished-2.ensures

pub returns-then-is_complete : goal.returns-then-is_complete
returns-then-is_complete c =
    let many = length-reverse c.args.journal.now.events in
    way_whole c.args.plans.now (reverse c.args.journal.now.events) c.loop-index.index c.loop-index.followed c.loop-index.invariant (omega arith) (omega arith) (c.is_complete.ensures.settled c.if-is_complete.true)

pub returns : goal.returns
returns c =
    let events = reverse c.args.journal.now.events in
    let many = length-reverse c.args.journal.now.events in
    taken_unfinished c.args.plans.now events c.loop-index.index c.loop-index.followed.judge
    (way_taken c.args.plans.now events c.loop-index.index c.loop-index.followed c.loop-index.invariant) (omega arith) (omega arith) (c.is_complete.ensures.open c.if-is_complete.false)
