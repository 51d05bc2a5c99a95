use Rattle.std.proofs.Common.{List, ap, sym, subst, length, arith}
use Rattle.gpu_journal.specs.declared.event.Event.{Event}
use Rattle.gpu_run.specs.Clients.{done_at}
use Rattle.gpu_run.specs.Reading.{HaveRead}
use Rattle.gpu_run.proofs.Phases.{none_acted}
use Rattle.gpu_run.proofs.Turns.{fewer}
use Rattle.gpu_run.proofs.Taking.{taken, none_taken}
use Rattle.gpu_run.proofs.running.run_all.Goals as goal

pub run_out-requires : goal.run_out-requires
run_out-requires g c =
    let i = c.loop-run.invariant in
    let e = c.in-Some.ensures in
    let t = taken g.N.Naming.plans c.loop-run.house c.take.new.self c.args.clients.now c.in-Some.run' i.served i.played i.running i.chosen e.choice e.past e.run e.going e.side e.note e.list e.outs e.slots in
    record { lawful = c.requires.stands.lawful; played = t.played; out = t.out_now; running = t.running; chosen = t.chosen; runs = t.runs; read = subst (λ (h : List Event). HaveRead g.N.Naming.plans h c.args.clients.now) (sym e.past) i.read }

pub loop-run-smaller : goal.loop-run-smaller
loop-run-smaller g c =
    let e = c.in_ok-run_out-in-Some.ensures in
    let l = e.longer in
    let same = ap length c.take.ensures.past in
    fewer g.N.Naming.plans c.loop-run.house.core.past c.run_out.new.house.core.past c.requires.stands.lawful e.played (omega (arith, l, same))

pub returns-in-None-clause-stands : goal.returns-in-None-clause-stands
returns-in-None-clause-stands g c =
    let i = c.loop-run.invariant in
    let none = none_taken g.N.Naming.plans c.loop-run.house c.take.new.self c.args.clients.now c.args.house.now.core.past i.served i.played i.chosen i.moved c.requires.stands.come c.in-None.ensures.choice c.in-None.ensures.none in
    record {
      lawful = c.requires.stands.lawful;
      rising = none.0.rising;
      served = none.1;
      read = subst (λ (h : List Event). HaveRead g.N.Naming.plans h c.args.clients.now) (sym c.in-None.ensures.none.past) i.read;
      come = none_acted g.N.Naming.plans c.take.new.self.core.past (done_at c.args.clients.now);
    }

pub returns-in-None-clause-ended : goal.returns-in-None-clause-ended
returns-in-None-clause-ended g c =
    let i = c.loop-run.invariant in
    (none_taken g.N.Naming.plans c.loop-run.house c.take.new.self c.args.clients.now c.args.house.now.core.past i.served i.played i.chosen i.moved c.requires.stands.come c.in-None.ensures.choice c.in-None.ensures.none).0.ended
