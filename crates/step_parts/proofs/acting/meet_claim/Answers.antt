use Rattle.std.proofs.Common.{refl, rules}
use Rattle.step_parts.proofs.Executed.{plain_asked, image_claimed, wait_claimed}
use Rattle.step_parts.proofs.acting.meet_claim.Goals as goal

pub returns-in_ok-apply-in-Image-clause-meets : goal.returns-in_ok-apply-in-Image-clause-meets
returns-in_ok-apply-in-Image-clause-meets c state passed =
    image_claimed c.args.taken.now c.args.scene.now _ state _ c.in-Image.op passed c.in-Image.ensures c.in_ok-apply-in-Image.ensures.answer c.in_ok-apply-in-Image.ensures.images refl

pub returns-in_ok-judged-in-Wait-clause-meets : goal.returns-in_ok-judged-in-Wait-clause-meets
returns-in_ok-judged-in-Wait-clause-meets c state passed =
    let taken = c.args.taken.now in
    wait_claimed taken c.args.scene.now _ state _ c.in-Wait.target c.in-Wait.release passed c.in-Wait.ensures (search rules) refl c.in_ok-judged-in-Wait.ensures.stands c.wait.ensures.drawn c.wait.ensures.count

pub returns-in-Nothing-clause-meets : goal.returns-in-Nothing-clause-meets
returns-in-Nothing-clause-meets c state passed = (plain_asked c.args.taken.now state passed c.in-Nothing.ensures, refl)
