use Rattle.std.proofs.Common.{◌≡◌, sym, ap, subst, arith}
use Rattle.gpu_plan.specs.Plans.{PlanData}
use Rattle.gpu_fetch.specs.Plain.{PlainData, IsNext, IsFlush, IsBeside, IsNoteBeside}
use Rattle.gpu_fetch.proofs.Beside.{after_flush, with_note}
use Rattle.gpu_fetch.proofs.plain.words.PlainWords.flush.Goals as goal

pub returns-clause-beside : goal.returns-clause-beside
returns-clause-beside c side h =
    let next = subst (λ (q : PlanData). IsNext IsFlush q.actions c.args.self.now.done) c.requires.plan c.requires.next in
    let same : c.self.inside.done ≡ c.advance.new.self.done = ap (λ (w : PlainData). w.done) c.self.view_is in
    (subst (λ (w : PlainData). IsBeside side w) (sym c.advance.ensures) (after_flush side c.args.self.now next h), omega arith)

pub returns-clause-notes : goal.returns-clause-notes
returns-clause-notes c side mark h =
    let next = subst (λ (q : PlanData). IsNext IsFlush q.actions c.args.self.now.done) c.requires.plan c.requires.next in
    subst (λ (w : PlainData). IsNoteBeside side w mark) (sym c.advance.ensures) (with_note side c.args.self.now mark (after_flush side c.args.self.now next h.0) h.1)
