use Rattle.std.proofs.Common.{◌≡◌, List, [], ◌∷◌, ◌++◌, fold, ap, sym, ◌∙◌, subst}
use Rattle.live_view.specs.declared.shown.Shown.{Shown}
use Rattle.live_view.specs.declared.step.Mark.{Mark}
use Rattle.live_view.specs.declared.step.Step.{Step}
use Rattle.live_view.specs.declared.step.Step.TheVariants.{End}
use Rattle.live_view.specs.Copies.{published, steps_pending}
use Rattle.live_view.specs.Steps.{shown_after, ended_with, ops_of}
use Rattle.live_view.specs.Rule.{IsLast, IsBegun}
use Rattle.live_view.proofs.Stepping.{ended, ops_end}
use Rattle.live_view.proofs.copies.end_version.Goals as goal

-- the same value with an end after its steps leads to the version
leads : (old now : Shown) (steps more : List Step) (mark : Mark) → now ≡ old → more ≡ steps ++ End mark ∷ [] → fold shown_after now more ≡ ended_with old steps mark
leads old now steps more mark same is = ap (λ (l : List Step). fold shown_after now l) is ∙ ap (λ (s : Shown). fold shown_after s (steps ++ End mark ∷ [])) same ∙ ended steps mark old

pub replace_with-requires : goal.replace_with-requires
replace_with-requires g c =
    let old = published c.args.copies.now in
    let now = published c.append.new.self in
    let same : now ≡ old = ap (λ d. d.shown.value) c.append.ensures.desk in
    let all = leads old now (steps_pending c.args.copies.now) (steps_pending c.append.new.self) c.args.mark same c.in_default.ensures.pending in
    (subst (λ (s : Shown). IsLast s.version s.front.versions) (sym all) c.requires.last, subst (λ (s : Shown). IsBegun now.front s.front) (sym all) (subst (λ (s : Shown). IsBegun s.front c.args.mark.front) (sym same) c.requires.begun))

pub returns-in-Ok-clause-published : goal.returns-in-Ok-clause-published
returns-in-Ok-clause-published g c =
    let same : published c.append.new.self ≡ published c.args.copies.now = ap (λ d. d.shown.value) c.append.ensures.desk in
    c.in-Ok.ensures.0 ∙ leads (published c.args.copies.now) (published c.append.new.self) (steps_pending c.args.copies.now) (steps_pending c.append.new.self) c.args.mark same c.in_default.ensures.pending

pub returns-in-Err-replace_with-clause-pending : goal.returns-in-Err-replace_with-clause-pending
returns-in-Err-replace_with-clause-pending g c = ap ops_of (c.in-Err-replace_with.ensures.1 ∙ c.in_default.ensures.pending) ∙ ops_end (steps_pending c.args.copies.now) c.args.mark
