use Rattle.std.proofs.Common.{◌∷◌, ◌++◌, sym, subst, ◌∙◌}
use Rattle.verify_input.specs.Reading.{HasNoFeed}
use Rattle.verify_input.proofs.Lines.{feed_found, feed_missing}
use Rattle.verify_input.proofs.reading.first_line.Goals as goal

pub returns-in-Some-clause-cut : goal.returns-in-Some-clause-cut
returns-in-Some-clause-cut c =
    (feed_found c.args.text.now c.in-Some.end (sym c.line_end.ensures ∙ c.in-Some.is)).0
    ∙ (λ i. sym c.cut_at.ensures.before i ++ 10 ∷ sym c.cut_at.ensures.behind i)

pub returns-in-Some-clause-first : goal.returns-in-Some-clause-first
returns-in-Some-clause-first c =
    subst HasNoFeed (sym c.cut_at.ensures.before) (feed_found c.args.text.now c.in-Some.end (sym c.line_end.ensures ∙ c.in-Some.is)).1

pub returns-in-None-clause-first : goal.returns-in-None-clause-first
returns-in-None-clause-first c = feed_missing c.args.text.now (sym c.line_end.ensures ∙ c.in-None.is)
