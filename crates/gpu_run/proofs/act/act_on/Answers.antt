use Rattle.std.proofs.Common.{◌∙◌, sym, arith}
use Rattle.gpu_run.specs.Clients.{done_at}
use Rattle.gpu_run.proofs.ActionTurns.{Turned, turned, turn_smaller, stayed}
use Rattle.gpu_run.proofs.Phases.{ended_acted}
use Rattle.gpu_run.proofs.act.act_on.Given.{Over}
use Rattle.gpu_run.proofs.act.act_on.Goals as goal

turn : (g : Over) (c : goal.In_default g) → Turned g.N.Naming.plans c.loop.house.core.past c.act_once.new.house.core.past (done_at c.put_all.new.clients) (done_at c.act_once.new.clients) c.args.stream
turn g c =
    let i = c.loop.invariant in
    turned g.N.Naming.plans c.in_ok-act_once.field-0 c.loop.house.core.past c.act_once.new.house.core.past (done_at c.put_all.new.clients) (done_at c.act_once.new.clients) c.args.stream c.in_default.not-Stays c.in_ok-act_once.ensures.acts c.requires.known c.put_all.ensures.stands.rising c.put_all.ensures.stands.come i.open_still

pub loop-smaller : goal.loop-smaller
loop-smaller g c =
    let further = c.put_all.ensures.further in
    let less = turn_smaller g.N.Naming.plans c.loop.house.core.past (done_at c.put_all.new.clients) (done_at c.act_once.new.clients) c.args.stream (turn g c).further in
    omega (arith, further, less)

pub loop-preserved : goal.loop-preserved
loop-preserved g c =
    let t = turn g c in
    let e = c.in_ok-act_once.ensures in
    record {
      stands = record { lawful = c.requires.stands.lawful; rising = t.rising; served = e.served; read = e.read; come = t.acted };
      open_still = t.open_still;
      longer = let a = t.longer in let b = c.loop.invariant.longer in omega (arith, a, b);
    }

pub returns-then-not-is_open-clause-stands : goal.returns-then-not-is_open-clause-stands
returns-then-not-is_open-clause-stands g c =
    let s = c.requires.stands in
    record {
      lawful = s.lawful;
      rising = s.rising;
      served = s.served;
      read = s.read;
      come = ended_acted g.N.Naming.plans c.args.house.now.core.past (done_at c.args.clients.now) c.args.stream c.requires.known.0 s.come (sym c.is_open.ensures ∙ c.if-not-is_open.true);
    }

pub returns-in-Stays-clause-stands : goal.returns-in-Stays-clause-stands
returns-in-Stays-clause-stands g c =
    let i = c.loop.invariant in
    let e = c.in_ok-act_once.ensures in
    let t = stayed g.N.Naming.plans c.in_ok-act_once.field-0 c.loop.house.core.past c.act_once.new.house.core.past (done_at c.put_all.new.clients) (done_at c.act_once.new.clients) c.args.stream c.in-Stays.is e.acts c.requires.known c.put_all.ensures.stands.rising c.put_all.ensures.stands.come in
    record { lawful = c.requires.stands.lawful; rising = t.0; served = e.served; read = e.read; come = t.1 }
