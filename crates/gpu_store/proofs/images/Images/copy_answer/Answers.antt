use Rattle.std.proofs.Common.{◌≡◌, ◌∙◌, ◌&&◌, arith, sym, ap, None, Some, rules, true, false}
use Rattle.std.proofs.lemmas.Grind.{common_steps}
use Rattle.std.proofs.lemmas.Bool.{and_left, and_right, and_from}
use Rattle.gpu_store.specs.Picture.{has_rect, rectangle}
use Rattle.gpu_store.specs.Images.{picture_of}
use Rattle.gpu_store.proofs.Steps.{copy-no_source, copy-no_target, copy-outside, copy-done}
use Rattle.gpu_store.proofs.images.Images.copy_answer.Goals as goal
use Rattle.gpu_store.proofs.images.Images.copy_answer.Goals.{else-fits-via-then-fits+else-fits-2, else-fits-via-else-fits}

pub returns-in_default : goal.returns-in_default
returns-in_default c =
    let a = c.args in
    let missing : picture_of a.self.now a.source ≡ None = grind (arith, common_steps) in
    sym (ap (λ end. end.answer) (copy-no_source a.self.now a.source a.sx a.sy a.target a.to.x a.to.y a.to.w a.to.h missing))

pub returns-in_default-get : goal.returns-in_default-get
returns-in_default-get c =
    let a = c.args in
    let source_there : picture_of a.self.now a.source ≡ Some c.in-Some.shown.now = grind (arith, common_steps) in
    let missing : picture_of a.self.now a.target ≡ None = grind (arith, common_steps) in
    sym (ap (λ end. end.answer) (copy-no_target a.self.now a.source a.sx a.sy a.target a.to.x a.to.y a.to.w a.to.h c.in-Some.shown.now source_there missing))

pub returns-then-fits-2 : goal.returns-then-fits-2
returns-then-fits-2 c =
    let a = c.args in
    let source_there : picture_of a.self.now a.source ≡ Some c.in-Some.shown.now = grind (arith, common_steps) in
    let target_there : picture_of a.self.now a.target ≡ Some c.in-Some-get.found.now = grind (arith, common_steps) in
    let first : has_rect c.in-Some.shown.now (rectangle a.sx a.sy a.to.w a.to.h) ≡ true = search rules in
    let second : has_rect c.in-Some-get.found.now a.to ≡ true = search rules in
    sym (ap (λ end. end.answer) (copy-done a.self.now a.source a.sx a.sy a.target a.to.x a.to.y a.to.w a.to.h c.in-Some.shown.now c.in-Some-get.found.now source_there target_there (and_from _ _ first second)))

pub returns : goal.returns
returns c =
    let a = c.args in
    let source_there : picture_of a.self.now a.source ≡ Some c.in-Some.shown.now = grind (arith, common_steps) in
    let target_there : picture_of a.self.now a.target ≡ Some c.in-Some-get.found.now = grind (arith, common_steps) in
    let outside : (has_rect c.in-Some.shown.now (rectangle a.sx a.sy a.to.w a.to.h) && has_rect c.in-Some-get.found.now a.to) ≡ false =
    elim c.else-fits.branch [
      | else-fits-via-then-fits+else-fits-2 w ↦ and_right _ _ (sym w.fits-then-fits.ensures ∙ w.if-fits-2.false)
      | else-fits-via-else-fits w ↦ and_left _ _ (sym c.fits.ensures ∙ w.if-fits.false)
    ] in
    sym (ap (λ end. end.answer) (copy-outside a.self.now a.source a.sx a.sy a.target a.to.x a.to.y a.to.w a.to.h c.in-Some.shown.now c.in-Some-get.found.now source_there target_there outside))
