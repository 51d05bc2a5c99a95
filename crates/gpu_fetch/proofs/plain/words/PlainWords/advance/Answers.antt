use Rattle.std.proofs.Common.{◌≡◌, ◌<◌, length, sym, ap, ◌∙◌, subst}
use Rattle.gpu_fetch.specs.Plain.{PlainData}
use Rattle.gpu_fetch.proofs.Storing.{stored_again}
use Rattle.gpu_fetch.proofs.plain.words.PlainWords.advance.Goals as goal

pub invariant_of-self : goal.invariant_of-self
invariant_of-self c =
    let same : c.self.inside.plan.value ≡ c.args.plan.now = ap (λ (w : PlainData). w.plan) c.self.view_is ∙ sym c.requires.plan in
    let next : c.self.inside.done < length c.args.plan.now.actions = subst (λ (w : PlainData). w.done < length c.args.plan.now.actions) (sym c.self.view_is) c.requires.next in
    stored_again c.self.inside.plan.value c.args.plan.now c.self.inside.done c.self.inside.values.items c.store.new.values.items c.actions.result.now c.index-actions-self.result same c.actions.ensures.value next c.index-actions-self.is c.store.ensures.count c.store.ensures.each c.self.invariant
