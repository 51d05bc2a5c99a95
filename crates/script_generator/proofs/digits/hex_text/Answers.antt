use Rattle.std.proofs.Common.{◌∙◌, ◌-◌, ◌≤◌, refl, ap, set, arith}
use Rattle.std.proofs.lemmas.List.{length-set}
use Rattle.script_generator.proofs.Hexes.{hex_begins, hex_goes, hex_ends, fewer_digits, place_before}
use Rattle.script_generator.proofs.digits.hex_text.Goals as goal

pub loop-left-init : goal.loop-left-init
loop-left-init c = record { long = refl; place = omega arith; small = c.ranges.value.fits; onto = hex_begins c.args.value _ refl }

pub loop-left-preserved : goal.loop-left-preserved
loop-left-preserved c =
    let large : 16 ≤ c.loop-left.left = omega arith in
    let some = place_before c.loop-left.left c.loop-left.at large c.loop-left.invariant.small in
    record {
      long = length-set c.loop-left.text c.loop-left.at c.hex_digit.result ∙ c.loop-left.invariant.long;
      place = omega arith;
      small = fewer_digits c.loop-left.left c.loop-left.at (c.loop-left.at - 1) (omega arith) c.loop-left.invariant.small;
      onto = hex_goes c.args.value c.loop-left.left c.loop-left.at c.loop-left.text _ (omega (arith, c.loop-left.invariant.long)) c.loop-left.invariant.onto (c.loop-left.at - 1) large (omega arith) (ap (set c.loop-left.text c.loop-left.at) c.hex_digit.ensures);
    }

pub returns-clause-text : goal.returns-clause-text
returns-clause-text c = hex_ends c.args.value c.loop-left.left c.loop-left.at c.loop-left.text _ (omega (arith, c.loop-left.invariant.long)) c.loop-left.invariant.onto (omega arith) (ap (set c.loop-left.text c.loop-left.at) c.hex_digit-2.ensures)
