use Rattle.std.proofs.Common.{Some, List, sym, ap, subst, ◌∙◌, arith}
use Rattle.gpu_fetch.specs.Plain.{IsBeside}
use Rattle.gpu_journal.specs.declared.event.Event.{Event}
use Rattle.gpu_journal.specs.Serial.{is_runnable}
use Rattle.gpu_run.specs.Rounds.{goes_on}
use Rattle.gpu_run.proofs.AllFound.{found_after}
use Rattle.gpu_run.proofs.Turns.{fewer}
use Rattle.gpu_run.proofs.RunTurns.{there_of, ran, one_longer, words_are, has_finished, run_out}
use Rattle.gpu_run.proofs.running.run_out.Goals as goal

-- ---- a run that goes on

pub loop-house-smaller : goal.loop-house-smaller
loop-house-smaller g c =
    let p = g.N.Naming.plans in
    let i = c.loop-house.invariant in
    let e = c.in-Ok.ensures in
    let t = ran p c.loop-house.house c.turn.new.house.core.past c.args.clients.now c.loop-house.out i.turn e.event in
    fewer p c.loop-house.house.core.past c.turn.new.house.core.past i.turn.lawful t.played (one_longer _ _ _ e.event)

pub loop-house-preserved : goal.loop-house-preserved
loop-house-preserved g c =
    let p = g.N.Naming.plans in
    let h = c.loop-house.house.core.past in
    let clients = c.args.clients.now in
    let out = c.loop-house.out in
    let i = c.loop-house.invariant in
    let e = c.in-Ok.ensures in
    let t = ran p c.loop-house.house c.turn.new.house.core.past clients out i.turn e.event in
    let l = one_longer _ _ _ e.event in
    let m = t.going (sym e.goes ∙ c.if-not-went.false) in
    record {
      turn = record {
        lawful = i.turn.lawful;
        played = t.played;
        out = e.on c.if-not-went.false;
        running = m.0;
        chosen = m.1 ∙ ap Some (sym e.same);
        runs = ap (is_runnable p c.turn.new.house.core.past) e.same ∙ m.2;
        read = found_after p h c.turn.new.house.core.past clients out.run.stream e.event (there_of p c.loop-house.house clients out i.turn) i.turn.read;
      };
      longer = let b = i.longer in omega (arith, l, b);
    }

-- ---- a run that is taken back

pub returns-then-not-went : goal.returns-then-not-went
returns-then-not-went g c =
    let s = c.loop-house.out.run.stream in
    let i = c.loop-house.invariant in
    let e = c.in-Ok.ensures in
    let b = c.back.ensures in
    run_out g.N.Naming.plans c.args.house.now c.loop-house.house c.back.new.self c.args.clients.now c.loop-house.out i.turn record {
      event = b.past ∙ e.event;
      goes = sym c.if-not-went.true ∙ e.goes ∙ ap (λ (x : List Event). goes_on g.N.Naming.plans x s) (sym b.past);
      served = e.home c.back.new.self record { past = b.past; outs = b.outs; slots = b.slots };
    } i.longer

-- ---- a run that is finished

pub finish-requires-clause-belongs : goal.finish-requires-clause-belongs
finish-requires-clause-belongs g c =
    let o = c.loop-house.invariant.turn.out in
    let its_words = words_are g.N.Naming.plans c.args.clients.now c.loop-house.out.run.stream c.stream.result c.index-clients-stream.result c.words-words.result.now o.is_known o.many.as_clients c.stream.ensures c.index-clients-stream.is c.words-words.ensures in
    subst (IsBeside c.loop-house.out.side) (sym its_words) o.beside.side_beside

pub returns : goal.returns
returns g c =
    let p = g.N.Naming.plans in
    let out = c.loop-house.out in
    let i = c.loop-house.invariant in
    let f = c.finish.ensures in
    let w = c.words-words.result.now in
    let o = i.turn.out in
    let its_words = words_are p c.args.clients.now out.run.stream c.stream.result c.index-clients-stream.result w o.is_known o.many.as_clients c.stream.ensures c.index-clients-stream.is c.words-words.ensures in
    let ended = has_finished p c.loop-house.house c.finish.new.self c.args.clients.now out w i.turn its_words (c.at_end.ensures.0 c.loop-house-test.false) f.event f.outs f.done in
    run_out p c.args.house.now c.loop-house.house c.finish.new.self c.args.clients.now out i.turn ended i.longer
