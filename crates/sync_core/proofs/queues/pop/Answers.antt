use Rattle.std.proofs.Common.{ℕ, ◌<◌, length, List, [], subst, arith}
use Rattle.std.specs.Prelude.{IfSome}
use Rattle.sync_core.specs.Lines.{Loses}
use Rattle.sync_core.proofs.Counted.{read_any}
use Rattle.sync_core.proofs.Leading.{shorter}
use Rattle.sync_core.proofs.queues.pop.Goals as goal

pub returns-clause-fewer : goal.returns-clause-fewer
returns-clause-fewer c =
    let within : c.args.target < length c.args.lines.now.items = let past = c.if-len-target.false in let len = c.len.ensures in omega (arith, past, len) in
    let is = read_any c.args.lines.now.items c.args.target c.index_mut.result.now [] within c.index_mut.ensures.value in
    shorter c.args.limit c.args.lines.now.items c.args.target c.pop.new.self c.pop.result within (subst (λ (l : List (ℕ × ℕ)). IfSome c.pop.result (Loses c.args.limit l c.pop.new.self)) is c.pop.ensures.some)
