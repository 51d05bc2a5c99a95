use Rattle.std.proofs.Common.{◌≡◌, ◌≢◌, ◌∙◌, sym, ap, length, arith}
use Rattle.serial_laws.proofs.Bounded.{serial_is_alone}
use Rattle.gpu_run.proofs.Turns.{fewer}
use Rattle.gpu_run.proofs.rounds.play.Goals as goal

pub loop-house-smaller : goal.loop-house-smaller
loop-house-smaller g c =
    let a = c.in_ok-act_all.ensures.longer in
    let b = c.close_all.ensures.longer in
    let d = c.in_ok-run_all.ensures.longer in
    let new = c.count.ensures ∙ ap length c.journal-in-loop-house.ensures.past in
    let old = c.count-before.ensures ∙ ap length c.journal.ensures.past in
    let other : length c.run_all.new.house.core.past ≢ length c.loop-house.house.core.past = λ e. c.if-count-before.false (new ∙ e ∙ sym old) in
    fewer g.N.Naming.plans c.loop-house.house.core.past c.run_all.new.house.core.past c.requires.lawful c.in_ok-run_all.ensures.stands.rising.played (omega (arith, a, b, d, other))

pub returns-then-count-before : goal.returns-then-count-before
returns-then-count-before g c =
    let a = c.in_ok-act_all.ensures.longer in
    let b = c.close_all.ensures.longer in
    let new = c.count.ensures ∙ ap length c.journal-in-loop-house.ensures.past in
    let old = c.count-before.ensures ∙ ap length c.journal.ensures.past in
    let same : length c.run_all.new.house.core.past ≡ length c.loop-house.house.core.past = sym new ∙ c.if-count-before.true ∙ old in
    record {
      stands = c.in_ok-run_all.ensures.stands;
      serial = serial_is_alone g.N.Naming.plans c.run_all.new.house.core.past c.requires.lawful record { played = c.in_ok-run_all.ensures.stands.rising.played; ended = c.in_ok-run_all.ensures.ended (omega (arith, a, b, same)) };
    }
