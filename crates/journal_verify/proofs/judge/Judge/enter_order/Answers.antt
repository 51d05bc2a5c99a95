use Rattle.std.proofs.Common.{◌+◌, ap, ◌∙◌, arith}
use Rattle.journal_verify.specs.Kept.{JudgeData}
use Rattle.journal_verify.proofs.Turning.{fits_stood}
use Rattle.journal_verify.proofs.judge.Judge.enter_order.Goals as goal

pub draw-requires-clause-room : goal.draw-requires-clause-room
draw-requires-clause-room c =
    let same = ap (λ (j : JudgeData). j.core.drawn) c.self.view_is in
    omega (arith, same, c.requires.fits.drawn, c.requires.counted.drawn)

pub returns-clause-fits : goal.returns-clause-fits
returns-clause-fits c =
    fits_stood c.args.plans.now _ c.args.self.now c.args.s c.index_mut.result.now c.order.new.self _ _ _ _ c.self.view_is c.requires.fits c.requires.known c.index_mut.ensures.value c.order.ensures
    (λ same. c.in_ok-draw.ensures.drawn ∙ ap (λ n. n + 1) same) c.draw.ensures.count
