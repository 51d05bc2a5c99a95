use Rattle.std.proofs.Common.{sym, subst}
use Rattle.gpu_plan.specs.Plans.{PlanData}
use Rattle.gpu_fetch.specs.Plain.{PlainData, IsNext, IsPut, IsBeside, IsNoteBeside}
use Rattle.gpu_fetch.proofs.Beside.{after_put, with_note}
use Rattle.gpu_fetch.proofs.plain.words.PlainWords.put.Goals as goal

pub returns-clause-beside : goal.returns-clause-beside
returns-clause-beside c side h =
    let next = subst (λ (q : PlanData). IsNext IsPut q.actions c.args.self.now.done) c.requires.plan c.requires.next in
    subst (λ (w : PlainData). IsBeside side w) (sym c.advance.ensures) (after_put side c.args.self.now next h)

pub returns-clause-notes : goal.returns-clause-notes
returns-clause-notes c side mark h =
    let next = subst (λ (q : PlanData). IsNext IsPut q.actions c.args.self.now.done) c.requires.plan c.requires.next in
    subst (λ (w : PlainData). IsNoteBeside side w mark) (sym c.advance.ensures) (with_note side c.args.self.now mark (after_put side c.args.self.now next h.0) h.1)
