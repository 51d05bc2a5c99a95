use Rattle.std.proofs.Common.{◌∙◌, refl, arith}
use Rattle.journal_text.proofs.Pairs.{hex8_by_pairs}
use Rattle.journal_text.proofs.digits.hex.Goals as goal

pub overflow_add-first-2 : goal.overflow_add-first-2
overflow_add-first-2 c = omega (arith, c.pair.ensures.small, c.pair-2.ensures.small, c.pair-3.ensures.small, c.pair-4.ensures.small)

pub returns : goal.returns
returns c =
    c.to_le_bytes.ensures
    ∙ hex8_by_pairs c.args.number _ (omega arith) (rw (c.pair.ensures.digits, c.pair-2.ensures.digits, c.pair-3.ensures.digits, c.pair-4.ensures.digits) refl)
