use Rattle.std.proofs.Common.{◌∙◌}
use Rattle.journal_verify.proofs.Turning.{fits_stood}
use Rattle.journal_verify.proofs.judge.Judge.enter_loss.Goals as goal

pub returns-clause-fits : goal.returns-clause-fits
returns-clause-fits c =
    fits_stood c.args.plans.now _ c.args.self.now c.args.s c.index_mut.result.now c.leave.new.self _ _ _ _ c.self.view_is c.requires.fits c.requires.known c.index_mut.ensures.value c.leave.ensures
    (λ same. c.lose.ensures.drawn ∙ same) c.lose.ensures.count
