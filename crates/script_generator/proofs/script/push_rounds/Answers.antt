use Rattle.std.proofs.Common.{◌≡◌, ◌∙◌, ◌+◌, ◌-◌, ◌≤◌, ◌*◌, ◌++◌, List, ℕ, ap, sym, arith}
use Rattle.std.specs.Prelude.{Vec}
use Rattle.std.specs.declared.alloc.Global.{Global}
use Rattle.std.proofs.lemmas.List.{append-nil}
use Rattle.script_generator.specs.Draws.{after_draws}
use Rattle.script_generator.specs.Generator.{round_text}
use Rattle.script_generator.proofs.Rounds.{rounds_go, rounds_none, draws_one}
use Rattle.script_generator.proofs.script.push_rounds.Goals as goal

pub loop-round-preserved : goal.loop-round-preserved
loop-round-preserved c =
    let within : c.loop-round.round ≤ c.args.size = omega arith in
    let left = c.args.size + 1 - c.loop-round.round in
    let more = c.args.size + 1 - (c.loop-round.round + 1) in
    let taken : c.replace-text.result.items ≡ c.loop-round.out.items = ap (λ (text : Vec ℕ Global). text.items) c.replace-text.ensures.value ∙ c.reserve.ensures.items in
    let put = c.put_round-next.ensures.text.items ∙ ap (λ (text : List ℕ). text ++ round_text c.args.stream c.loop-round.round c.loop-round.next) taken in
    record {
      first = omega arith;
      last = omega arith;
      text = rounds_go c.loop-round.out.items c.put_round-next.new.out.items _ left more c.args.stream c.loop-round.round c.loop-round.next _ (omega arith) put c.put_round-next.ensures.state c.loop-round.invariant.text;
      draws = ap (after_draws (7 * more)) c.put_round-next.ensures.state ∙ sym (draws_one left more c.loop-round.next (omega arith)) ∙ c.loop-round.invariant.draws;
    }

pub returns-clause-text : goal.returns-clause-text
returns-clause-text c = sym (append-nil c.loop-round.out.items) ∙ rounds_none c.loop-round.out.items _ (c.args.size + 1 - c.loop-round.round) c.args.stream c.loop-round.round c.loop-round.next (omega arith) c.loop-round.invariant.text
