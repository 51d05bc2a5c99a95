use Rattle.std.proofs.Common.{arith}
use Rattle.std.specs.Prelude.{codes}
use Rattle.std.specs.Fmt.{digits}
use Rattle.script_generator.specs.Generator.{value_text}
use Rattle.script_generator.proofs.Joining.{six_pieces}
use Rattle.script_generator.proofs.script.put_clear.Goals as goal

pub returns : goal.returns
unfolding digits
returns c = record { few = omega arith; room = omega arith; items = rw (c.put_value-4.ensures.items, c.put_text-2.ensures.items, c.put_value-3.ensures.items, c.put_value-2.ensures.items, c.put_value.ensures.items, c.put_text.ensures.items) (six_pieces c.args.out.now.items (codes " 20800007") (value_text c.args.stream) (value_text c.args.x) (value_text c.args.y) (codes " 1 1") (value_text c.args.texel)) }
