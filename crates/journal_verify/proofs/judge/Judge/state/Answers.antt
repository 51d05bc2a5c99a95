use Rattle.std.proofs.Common.{length, ap, ◌∙◌, arith}
use Rattle.gpu_journal.specs.Replaying.{state_in}
use Rattle.gpu_journal.proofs.Following.{state_here}
use Rattle.journal_verify.specs.Kept.{JudgeData}
use Rattle.journal_verify.proofs.judge.Judge.state.Goals as goal

pub returns : goal.returns
returns c =
    let states = c.self.inside.states.items in
    let same = ap (λ (j : JudgeData). length j.states) c.self.view_is in
    state_here states c.args.s c.index.result.now (omega (arith, c.requires.0)) (omega (arith, c.requires.1, same)) c.index.ensures
    ∙ ap (λ (j : JudgeData). state_in j.states c.args.s) c.self.view_is
