use Rattle.std.proofs.Common.{arith}
use Rattle.std.specs.Prelude.{codes}
use Rattle.std.specs.Fmt.{digits}
use Rattle.script_generator.specs.Generator.{value_text}
use Rattle.gpu_word.proofs.Pieces.{four_pieces}
use Rattle.script_generator.proofs.script.put_wait.Goals as goal

pub returns : goal.returns
unfolding digits
returns c = record { few = omega arith; room = omega arith; items = rw (c.put_text-2.ensures.items, c.put_value-2.ensures.items, c.put_value.ensures.items, c.put_text.ensures.items) (four_pieces c.args.out.now.items (codes " 20200004") (value_text c.args.other) (value_text c.args.round) (codes " 0")) }
