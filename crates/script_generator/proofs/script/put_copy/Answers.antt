use Rattle.std.proofs.Common.{arith}
use Rattle.std.specs.Prelude.{codes}
use Rattle.std.specs.Fmt.{digits}
use Rattle.script_generator.specs.Generator.{value_text}
use Rattle.gpu_word.proofs.Pieces.{five_pieces}
use Rattle.script_generator.proofs.script.put_copy.Goals as goal

pub returns : goal.returns
unfolding digits
returns c = record { few = omega arith; room = omega arith; items = rw (c.put_text-3.ensures.items, c.put_value-2.ensures.items, c.put_text-2.ensures.items, c.put_value.ensures.items, c.put_text.ensures.items) (five_pieces c.args.out.now.items (codes " 20a00009") (value_text c.args.other) (codes " 0 0") (value_text c.args.stream) (codes " 8 8 4 4")) }
