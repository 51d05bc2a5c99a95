use Rattle.std.proofs.Common.{sym, ◌∙◌}
use Rattle.journal_verify.proofs.Passing.{valid_taken}
use Rattle.journal_verify.proofs.judge.Judge.step.Goals as goal

pub enter_step-requires-clause-taken : goal.enter_step-requires-clause-taken
enter_step-requires-clause-taken c = (valid_taken c.args.plans.now c.args.self.now c.args.s c.args.words.now c.in-Valid.command c.requires.fits (sym c.fetch_outcome.ensures ∙ c.in-Valid.is)).0

pub enter_step-requires-clause-said : goal.enter_step-requires-clause-said
enter_step-requires-clause-said c = (valid_taken c.args.plans.now c.args.self.now c.args.s c.args.words.now c.in-Valid.command c.requires.fits (sym c.fetch_outcome.ensures ∙ c.in-Valid.is)).1
