use Rattle.std.proofs.Common.{arith}
use Rattle.script_generator.proofs.Joining.{block_said}
use Rattle.script_generator.proofs.script.put_block.Goals as goal

pub returns-clause-text : goal.returns-clause-text
returns-clause-text c =
    let items =
    block_said c.args.out.now.items c.put_wait.new.out.items c.put_clear.new.out.items c.put_copy.new.out.items c.put_upload.new.out.items c.put_fence.new.out.items
    c.args.stream c.args.round c.args.state c.drawn-d1.result c.drawn-d2.result c.drawn-d3.result c.drawn-d4.result c.drawn-d5.result c.drawn-d6.result
    c.below-other.result c.below.result c.below-2.result c.below-3.result c.below-4.result
    c.drawn-d1.ensures c.drawn-d2.ensures c.drawn-d3.ensures c.drawn-d4.ensures c.drawn-d5.ensures c.drawn-d6.ensures
    c.below-other.ensures.drawn c.below.ensures.drawn c.below-2.ensures.drawn c.below-3.ensures.drawn c.below-4.ensures.drawn
    c.put_wait.ensures.items c.put_clear.ensures.items c.put_copy.ensures.items c.put_upload.ensures.items c.put_fence.ensures.items in
    record { items = items; few = omega arith; room = omega arith }
