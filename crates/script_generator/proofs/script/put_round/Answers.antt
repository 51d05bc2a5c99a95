use Rattle.std.proofs.Common.{◌∙◌, ap, arith}
use Rattle.script_generator.specs.Draws.{next_draw}
use Rattle.script_generator.proofs.Rounds.{round_joined}
use Rattle.script_generator.proofs.script.put_round.Goals as goal

pub returns-clause-text : goal.returns-clause-text
returns-clause-text c =
    let items =
    round_joined c.args.out.now.items c.put_text.new.out.items c.put_half.new.out.items c.put_block.new.out.items
    c.put_text-2.new.out.items c.put_value.new.out.items c.put_text-3.new.out.items c.put_half-2.new.out.items
    c.put_text-4.new.out.items c.args.stream c.args.round c.args.state c.drawn-uploaded.result
    c.put_text.ensures.items c.put_half.ensures.items c.put_block.ensures.text.items c.put_text-2.ensures.items
    c.put_value.ensures.items c.put_text-3.ensures.items c.put_half-2.ensures.items c.put_text-4.ensures.items
    (c.drawn-uploaded.ensures ∙ ap next_draw c.put_block.ensures.state) in
    record { items = items; few = omega arith; room = omega arith }
