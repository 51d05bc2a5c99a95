-- The test computes what says whether areas are lawful.
use Rattle.std.proofs.Common.{rules}
use Rattle.gpu_cmd.proofs.Tiles.{lawful_tested}
use Rattle.gpu_cmd.proofs.areas.Areas.is_lawful.Goals as goal

pub returns-then-are_tiles : goal.returns-then-are_tiles
returns-then-are_tiles c = lawful_tested c.args.self.now c.are_tiles-then-are_tiles.result (search rules)

pub returns-else-are_tiles : goal.returns-else-are_tiles
returns-else-are_tiles c = lawful_tested c.args.self.now c.if-self-le-MOST_RING.value (search rules)
