use Rattle.std.proofs.Common.{refl, ◌∙◌}
use Rattle.journal_text.proofs.Pairs.{pairs_at}
use Rattle.journal_text.proofs.digits.pair.Goals as goal

pub returns-clause-digits : goal.returns-clause-digits
returns-clause-digits c =
    let both = pairs_at c.args.byte c.requires in
    let first = c.from.ensures ∙ both.0 in
    let second = c.from-2.ensures ∙ both.1 in
    rw (first, second) refl
