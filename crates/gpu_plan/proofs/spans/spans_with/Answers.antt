use Rattle.std.proofs.Common.{◌+◌, arith, rules}
use Rattle.gpu_plan.proofs.Tiled.{tiles_grow}
use Rattle.gpu_plan.proofs.spans.spans_with.Goals as goal

pub returns-clause-tiles : goal.returns-clause-tiles
returns-clause-tiles c =
    let before = c.words_in-before.ensures in
    tiles_grow c.args.first c.args.spans.now c.args.memory (record { base = c.args.first + c.words_in-before.result; words = c.args.words }) c.requires.tiles (search rules) (omega arith) (search rules) (omega arith) (omega arith) (omega arith)
