use Rattle.std.proofs.Common.{◌≡◌, length, ap, arith}
use Rattle.journal_text.specs.Digits.{numeral}
use Rattle.journal_text.proofs.Lengths.{length-word}
use Rattle.journal_text.proofs.event_line.put_far_word.Goals as goal

pub put_hex-requires : goal.put_hex-requires
put_hex-requires c =
    let same : length (numeral c.from.result) ≡ length (numeral c.args.place) = ap (λ n. length (numeral n)) c.from.ensures in
    omega (arith, length-word c.args.place c.args.value)
