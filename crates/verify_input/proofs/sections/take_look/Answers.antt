use Rattle.verify_input.proofs.Names.{◌∷◌, [], subst, sym, err_from_is_err_and, IsLine, Look, IsBad, past_of}
use Rattle.verify_input.proofs.Dues.{alone, no_memory}
use Rattle.verify_input.proofs.Feeds.{view_line}
use Rattle.verify_input.proofs.Telling.{Seen, look_bad, look_taken, look_off}
use Rattle.verify_input.proofs.sections.take_look.Goals as goal
use Rattle.verify_input.proofs.sections.take_look.Goals.{After-first_look-look}

-- what is read is the only look that may stand there, if it may
read : (c : After-first_look-look) → Seen c.args.history.plans.now (past_of c.args.history) c.args.viewer c.args.rest.now c.first_look-look.result
read c = record {
  known = c.ranges.viewer.fits;
  few = c.requires.history.few;
  reads = c.first_look-look.ensures;
}

pub take-requires : goal.take-requires
take-requires c = record { line = subst IsLine (sym (alone c.bytes.ensures c.put_view.ensures.bytes c.clear.ensures.bytes)) (view_line _ _ _); other = λ e. cc }

pub returns-then-not-seen-clause-err : goal.returns-then-not-seen-clause-err
returns-then-not-seen-clause-err c =
    subst (IsBad c.args.history.plans.now (past_of c.args.history) (Look c.args.viewer ∷ []) c.args.least c.args.rest.now) (sym c.off.ensures)
    (look_bad (read (goal.at.returns-then-not-seen-clause-err c).After-first_look-look) (λ is.
    let yes = c.in_ok-seen.ensures.1 is in
    let no = c.if-not-seen.true in
    absurd (cc)))

pub returns-in_err-seen-clause-err : goal.returns-in_err-seen-clause-err
returns-in_err-seen-clause-err c = let p = err_from_is_err_and c.from_residual.result c.from_residual.ensures.1 in rw (p.1, p.2) no_memory

pub returns-in_err-take-clause-err : goal.returns-in_err-take-clause-err
returns-in_err-take-clause-err c =
    let exit = err_from_is_err_and c.from_residual-in_err-take.result c.from_residual-in_err-take.ensures.1 in
    rw (exit.1, exit.2) (look_off (read (goal.at.returns-in_err-take-clause-err c).After-first_look-look)
    (rw (alone c.bytes.ensures c.put_view.ensures.bytes c.clear.ensures.bytes) at (c.in_err-take.ensures c.args.history.plans.now (past_of c.args.history)).err))

pub returns-clause-ok : goal.returns-clause-ok
returns-clause-ok c =
    look_taken (read (goal.at.returns-clause-ok c).After-first_look-look) (c.in_ok-seen.ensures.0 c.if-not-seen.false)
    (rw (alone c.bytes.ensures c.put_view.ensures.bytes c.clear.ensures.bytes) at (c.in_ok-take.ensures c.args.history.plans.now (past_of c.args.history)).ok)
