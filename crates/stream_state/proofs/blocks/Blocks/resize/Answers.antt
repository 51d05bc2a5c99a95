use Rattle.std.proofs.Common.{◌≡◌, Some, ap, sym, ◌∙◌}
use Rattle.stream_state.specs.Blocks.{block_of, sized}
use Rattle.stream_state.proofs.Stores.{sized_same}
use Rattle.stream_state.proofs.blocks.Blocks.resize.Goals as goal

pub returns-then-bytes-size-clause-made : goal.returns-then-bytes-size-clause-made
returns-then-bytes-size-clause-made c =
    let there : block_of c.args.self.now c.args.number ≡ Some c.in-Some.bytes.now = sym c.in-Some.ensures.bytes in
    sym (sized_same c.args.self.now c.args.number c.in-Some.bytes.now there) ∙ ap (sized c.args.self.now c.args.number) c.if-bytes-size.true
