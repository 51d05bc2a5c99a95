use Rattle.std.proofs.Common.{ℕ, length, Option, List, sym, ap, subst, ◌∙◌, arith}
use Rattle.slab.specs.Slab.{entries_from}
use Rattle.std.specs.BTreeSet.{insert_key}
use Rattle.sync_core.specs.declared.wait.Wait.{Wait}
use Rattle.sync_core.specs.Keys.{wait_cmp}
use Rattle.sync_core.specs.Pending.{placed}
use Rattle.sync_core.specs.Records.{in_order, waits_of}
use Rattle.sync_core.specs.Queues.{GoesLast, Leads, LeadToAll}
use Rattle.sync_core.proofs.Placing.{placed_key, length_placed}
use Rattle.sync_core.proofs.Leading.{leads_put}
use Rattle.sync_core.proofs.queues.Queues.insert.Goals as goal

pub returns-clause-ok : goal.returns-clause-ok
returns-clause-ok c =
    let last = subst (λ (l : List Wait). GoesLast c.args.wait l) (sym c.self.view_is) c.requires in
    c.insert.ensures.waits ∙ ap (λ (l : List (Option Wait)). insert_key wait_cmp (in_order (entries_from 0 l)) c.args.wait) c.in_ok-slot.ensures.same
    ∙ placed_key c.args.wait (waits_of c.self.inside.all.slab) last ∙ ap (placed c.args.wait) c.self.view_is

pub returns-clause-len : goal.returns-clause-len
returns-clause-len c = ap length (returns-clause-ok c) ∙ length_placed c.args.wait c.args.self.now

pub invariant_of-self-in_err-slot : goal.invariant_of-self-in_err-slot
invariant_of-self-in_err-slot c = let l = c.tidy.ensures.lines in let grows = c.reserve.ensures.grows in record {
  lead = λ i w at. l.lead i w (rw c.reserve.ensures.same at at);
  count = let so = l.count in omega (arith, so, grows);
  few = let so = l.few in omega (arith, so, grows);
}

pub invariant_of-self-in_err-lead : goal.invariant_of-self-in_err-lead
invariant_of-self-in_err-lead c = let l = c.tidy.ensures.lines in let grows = c.reserve.ensures.grows in record {
  lead = λ i w at. c.lead.ensures.olds i w (l.lead i w (rw c.reserve.ensures.same at at));
  count = let so = l.count in let two = c.lead.ensures.count in omega (arith, so, two, grows);
  few = let so = c.in_ok-tidy.ensures.room in omega (arith, so, grows);
}

pub invariant_of-self-2 : goal.invariant_of-self-2
invariant_of-self-2 c =
    let l = c.tidy.ensures.lines in
    let grows = c.reserve.ensures.grows in
    let held : LeadToAll c.lead.new.releases.items c.lead.new.orders.items c.reserve.new.self.slab = λ i w at. c.lead.ensures.olds i w (l.lead i w (rw c.reserve.ensures.same at at)) in
    record {
      lead = leads_put c.lead.new.releases.items c.lead.new.orders.items c.reserve.new.self.slab c.insert.new.self.slab c.reserve.new.self.slab.vacant_key c.args.wait held c.insert.ensures.updates
          (subst (λ (i : ℕ). Leads c.lead.new.releases.items c.lead.new.orders.items i c.args.wait) c.in_ok-slot.ensures.slot c.in_ok-lead.ensures.new);
      count = rw c.insert.ensures.capacity (let so = l.count in let two = c.lead.ensures.count in omega (arith, so, two, grows));
      few = rw c.insert.ensures.capacity (let so = c.in_ok-tidy.ensures.room in omega (arith, so, grows));
    }
