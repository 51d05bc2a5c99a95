use Rattle.std.proofs.Common.{◌≡◌, length, subst, arith, rules}
use Rattle.gpu_threads.specs.Over.{AreOver}
use Rattle.gpu_threads.proofs.Complete.{complete, one_more_over}
use Rattle.gpu_threads.proofs.over.all_over.Goals as goal

pub returns-else-not-is_over-clause-complete : goal.returns-else-not-is_over-clause-complete
returns-else-not-is_over-clause-complete g c t =
    let p = g.N.Naming.plans in
    let h = c.args.hall.now.past in
    let s = c.loop-stream.stream in
    let last : s ≡ length p.plans = search rules in
    let over = one_more_over p h s (omega (arith, c.loop-stream.auto.stream)) c.loop-stream.invariant (c.if-not-is_over.ensures.over t) in
    complete p h (subst (AreOver p h) last over)
