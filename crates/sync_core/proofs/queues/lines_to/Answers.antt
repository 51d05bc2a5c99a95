use Rattle.std.proofs.Common.{◌≡◌, Some, None, sym, subst, ◌∙◌, arith}
use Rattle.sync_core.specs.declared.wait.Wait.{Wait}
use Rattle.sync_core.specs.Queues.{Leads}
use Rattle.sync_core.proofs.Leading.{leads_next}
use Rattle.sync_core.proofs.queues.lines_to.Goals as goal
use Rattle.sync_core.proofs.queues.lines_to.Goals.{in-Some+in_ok-lead, in_default}

pub loop-slot-preserved : goal.loop-slot-preserved
loop-slot-preserved c =
    let next = leads_next c.loop-slot.releases.items c.loop-slot.orders.items c.match-get.releases.items c.match-get.orders.items c.args.all.now.slab c.loop-slot.slot c.loop-slot.invariant.lead in
    let so = c.loop-slot.invariant.count in
    elim c.match-get.branch [
      | in-Some+in_ok-lead w ↦ record {
        lead = next (rw (w.releases-is, w.orders-is) w.lead.ensures.olds) (λ v at.
            let e : Some w.in-Some.wait ≡ Some v = sym w.in-Some.is ∙ c.get.ensures ∙ at in
            let is : w.in-Some.wait ≡ v = cc in
            rw (w.releases-is, w.orders-is) (subst (λ (u : Wait). Leads w.lead.new.releases.items w.lead.new.orders.items c.loop-slot.slot u) is w.in_ok-lead.ensures.new));
        count = rw (w.releases-is, w.orders-is) (let two = w.lead.ensures.count in omega (arith, so, two));
      }
      | in_default w ↦ record {
        lead = next (rw (w.releases-is, w.orders-is) (λ i v leads. leads)) (λ v at.
            let e : None ≡ Some v = sym w.in_default.is ∙ c.get.ensures ∙ at in absurd (cc));
        count = rw (w.releases-is, w.orders-is) (omega (arith, so));
      }
    ]
