use Rattle.std.proofs.Common.{◌∙◌, ap}
use Rattle.live_view.specs.declared.step.Step.{Step}
use Rattle.live_view.specs.Copies.{steps_pending}
use Rattle.live_view.specs.Steps.{ops_of}
use Rattle.std.specs.Prelude.{◌++◌}
use Rattle.live_view.proofs.Stepping.{handed_on}
use Rattle.live_view.proofs.copies.hand_over.Goals as goal
use Rattle.std.proofs.Common.{List}

pub loop-drawn-preserved : goal.loop-drawn-preserved
loop-drawn-preserved c =
    let steps = steps_pending c.loop-drawn.copies in
    let left = c.pop_front.new.self.items in record {
      published = ap (λ d. d.shown.value) c.in_default-append.ensures.desk ∙ c.loop-drawn.invariant.published;
      noted = ap (λ (more : List Step). ops_of more ++ left) c.in_default-append.ensures.pending ∙ handed_on steps c.in-Some.drawn left c.loop-drawn.waiting.items c.in-Some.ensures.items ∙ c.loop-drawn.invariant.noted;
    }
