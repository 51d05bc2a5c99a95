use Rattle.std.proofs.Common.{arith}
use Rattle.gpu_house.proofs.Cuts.{parts_seen}
use Rattle.gpu_house.proofs.batch.Batch.count.Goals as goal

pub returns-clause-count : goal.returns-clause-count
returns-clause-count c =
    let many = parts_seen c.self.inside.list.items c.self.inside.parts.items c.args.self.now c.self.view_is in
    omega (arith, c.len.ensures, many, c.self.inside.parts.ok.0)
