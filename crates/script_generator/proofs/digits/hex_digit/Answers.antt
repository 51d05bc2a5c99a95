use Rattle.script_generator.proofs.Hexes.{glyph_at}
use Rattle.script_generator.proofs.digits.hex_digit.Goals as goal

pub returns : goal.returns
returns c = glyph_at c.args.digit c.requires
