use Rattle.std.proofs.Common.{◌∙◌, sym, false}
use Rattle.gpu_plan.specs.Plans.{plan_of}
use Rattle.gpu_run.specs.Clients.{done_at}
use Rattle.gpu_run.proofs.Phases.{closed_more, at_close_is, ended_not_at_close}
use Rattle.gpu_run.proofs.Ending.{closed_there, close_closes, closes, close_test}
use Rattle.gpu_run.proofs.AllFound.{found_closed}
use Rattle.gpu_run.proofs.closing.close_one.Goals as goal

pub returns-then-not-is_open-clause-stands : goal.returns-then-not-is_open-clause-stands
returns-then-not-is_open-clause-stands g c =
    let s = c.requires.stands in
    let off = ended_not_at_close g.N.Naming.plans c.args.house.now.core.past c.args.stream (sym c.is_open.ensures ∙ c.if-not-is_open.true) in
    record { lawful = s.lawful; rising = s.rising; served = s.served; read = s.read; come = (s.come.0, closed_more g.N.Naming.plans c.args.house.now.core.past c.args.stream s.come.1 off) }

pub returns-then-not-closes_at-clause-stands : goal.returns-then-not-closes_at-clause-stands
returns-then-not-closes_at-clause-stands g c =
    let p = g.N.Naming.plans in
    let h = c.args.house.now.core.past in
    let s = c.requires.stands in
    let here = close_test p c.plans.result.now c.args.clients.now c.args.stream c.position-position.result c.plan.result.now c.actions.result.now c.index-clients-stream.result c.closes_at.result c.plans.ensures c.plan.ensures c.actions.ensures.value c.requires.known s.served.many.as_clients
    c.index-clients-stream.is c.position-position.ensures c.closes_at.ensures in
    let off = at_close_is p h (done_at c.args.clients.now) c.args.stream false s.rising s.come.0 c.requires.known.0 c.requires.known.1 (sym c.is_open.ensures ∙ c.if-not-is_open.false) (here ∙ c.if-not-closes_at.true) in
    record { lawful = s.lawful; rising = s.rising; served = s.served; read = s.read; come = (s.come.0, closed_more p h c.args.stream s.come.1 off) }

pub close-requires-clause-closes : goal.close-requires-clause-closes
close-requires-clause-closes g c =
    let p = g.N.Naming.plans in
    let here = close_test p c.plans.result.now c.args.clients.now c.args.stream c.position-position.result c.plan.result.now c.actions.result.now c.index-clients-stream.result c.closes_at.result c.plans.ensures c.plan.ensures c.actions.ensures.value c.requires.known c.requires.stands.served.many.as_clients
    c.index-clients-stream.is c.position-position.ensures c.closes_at.ensures in
    closed_there (plan_of p c.args.stream).actions (done_at c.args.clients.now c.args.stream) (here ∙ c.if-not-closes_at.false)

pub returns-clause-stands : goal.returns-clause-stands
returns-clause-stands g c =
    let p = g.N.Naming.plans in
    let h = c.args.house.now.core.past in
    let s = c.requires.stands in
    let here = close_test p c.plans.result.now c.args.clients.now c.args.stream c.position-position.result c.plan.result.now c.actions.result.now c.index-clients-stream.result c.closes_at.result c.plans.ensures c.plan.ensures c.actions.ensures.value c.requires.known s.served.many.as_clients
    c.index-clients-stream.is c.position-position.ensures c.closes_at.ensures in
    let o = sym c.is_open.ensures ∙ c.if-not-is_open.false in
    let at = here ∙ c.if-not-closes_at.false in
    let left = closes p c.args.house.now c.close.new.self c.args.clients.now c.args.stream c.close.result c.requires.known s.lawful s.rising s.served s.come.0 s.come.1 o at c.close.ensures.lost c.close.ensures.early c.close.ensures.event in
    let closed = close_closes p h c.args.clients.now c.args.stream c.close.result c.requires.known s.lawful s.rising s.come.0 o at c.close.ensures.lost c.close.ensures.early in
    record {
      lawful = s.lawful;
      rising = left.rising;
      served = left.served;
      read = found_closed p h c.close.new.self.core.past c.args.stream c.args.clients.now (c.close.ensures.event closed o).past s.read;
      come = (left.acted, left.closed);
    }
