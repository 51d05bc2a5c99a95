use Rattle.verify_input.proofs.Names.{[], ◌∷◌, sym, subst, arith, same_lines, IsBad}
use Rattle.verify_input.proofs.Dues.{line_taken, line_bad}
use Rattle.verify_input.proofs.rest.Rest.take.Goals as goal

pub returns-in_default : goal.returns-in_default
returns-in_default c = λ p h. record {
  ok = tt;
  err = subst (IsBad p h (same_lines c.args.what (c.args.due.now ∷ [])) 0 c.args.self.now) (sym c.off.ensures) (line_bad p h c.args.what c.args.due.now c.args.self.now c.requires.other c.in_default.ensures.lines);
}

pub returns : goal.returns
returns c = λ p h. record { ok = line_taken p h c.args.what c.args.due.now c.args.self.now _ c.in-Some.ensures.lines (omega arith); err = tt }
