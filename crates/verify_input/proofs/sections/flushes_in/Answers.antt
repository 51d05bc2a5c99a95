use Rattle.verify_input.proofs.Names.{length, refl, ap, ◌∙◌, arith, take_all, slice_get_read, flushes, flushes_one_further, flush_count_most}
use Rattle.verify_input.proofs.sections.flushes_in.Goals as goal

pub loop-action-preserved : goal.loop-action-preserved
loop-action-preserved c =
    let actions = c.args.actions.now in
    let index = c.loop-action.action-index in
    let more = flushes_one_further actions index c.action-item.result (slice_get_read actions (length actions) index c.action-item.result refl c.loop-action-test.true c.action-item.is) in
    let one = c.flush_count-count.ensures in
    let value = c.loop-action.invariant.value in
    let few = c.loop-action.invariant.few in
    record { value = omega (arith, more, one, value); few = (let most = flush_count_most c.action-item.result in omega (arith, one, few, most)) }

pub returns-clause-value : goal.returns-clause-value
returns-clause-value c = c.loop-action.invariant.value ∙ ap flushes (take_all c.loop-action.action-index c.args.actions.now (omega arith))
