use Rattle.verify_input.proofs.Names.{◌∷◌, ◌++◌, inl, inr, refl, sym, subst, ◌∙◌, arith, HasNoFeed}
use Rattle.verify_input.proofs.Lines.{feed_found, feed_missing}
use Rattle.verify_input.proofs.cut.first_line.Goals as goal

pub returns-in-Some : goal.returns-in-Some
returns-in-Some c =
    let found = feed_found c.args.text.now c.in-Some.end (sym c.line_end.ensures ∙ c.in-Some.is) in
    (subst HasNoFeed (sym c.cut_at.ensures.before) found.1, inl (found.0 ∙ (λ i. sym c.cut_at.ensures.before i ++ 10 ∷ sym c.cut_at.ensures.behind i)))

pub returns-in-None : goal.returns-in-None
returns-in-None c = (feed_missing c.args.text.now (sym c.line_end.ensures ∙ c.in-None.is), inr (refl, refl, grind arith))
