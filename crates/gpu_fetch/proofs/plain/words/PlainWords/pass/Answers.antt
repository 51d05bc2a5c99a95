use Rattle.std.proofs.Common.{◌≡◌, true, [], ◌∷◌, sym, subst}
use Rattle.gpu_plan.specs.Plans.{PlanData}
use Rattle.gpu_plan.specs.Passes.{passes}
use Rattle.gpu_fetch.specs.Plain.{PlainData, IsBeside, IsNoteBeside}
use Rattle.gpu_fetch.proofs.Beside.{after_await, with_note}
use Rattle.gpu_fetch.proofs.plain.words.PlainWords.pass.Goals as goal

pub returns-clause-beside : goal.returns-clause-beside
returns-clause-beside c side f t h =
    let passing = subst (λ (q : PlanData). passes q.actions c.args.self.now.done c.args.finishes (c.args.token ∷ []) ≡ true) c.requires.plan c.requires.passes in
    subst (λ (w : PlainData). IsBeside side w) (sym c.advance.ensures) (after_await side c.args.self.now c.args.finishes c.args.token passing f t h)

pub returns-clause-notes : goal.returns-clause-notes
returns-clause-notes c side mark f t h =
    let passing = subst (λ (q : PlanData). passes q.actions c.args.self.now.done c.args.finishes (c.args.token ∷ []) ≡ true) c.requires.plan c.requires.passes in
    subst (λ (w : PlainData). IsNoteBeside side w mark) (sym c.advance.ensures) (with_note side c.args.self.now mark (after_await side c.args.self.now c.args.finishes c.args.token passing f t h.0) h.1)
