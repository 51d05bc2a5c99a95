use Rattle.std.proofs.Common.{◌≡◌, List, None, Some, refl, sym, ap, ◌∙◌, subst}
use Rattle.std.specs.Prelude.{slice_get}
use Rattle.gpu_plan.specs.declared.plan.Action.{Action}
use Rattle.gpu_plan.specs.declared.plan.Action.TheVariants.{Put, Flush, Close}
use Rattle.shm_words.specs.declared.client.Acted.TheVariants.{AtFlush, AtClose, End}
use Rattle.shm_words.specs.Seen.{ClientData, next_action}
use Rattle.shm_words.specs.Acts.{IsAtFlush}
use Rattle.shm_words.proofs.Keeping.{next_found, none_left, stands_at_flush}
use Rattle.shm_words.proofs.Answering.{acts_still, acts_put}
use Rattle.shm_words.proofs.client.ClientPass.act.Goals as goal

pub returns-in-None-clause-acted : goal.returns-in-None-clause-acted
returns-in-None-clause-acted c =
    let at : slice_get c.self.inside.plan.actions c.self.inside.done ≡ None = ap (λ (xs : List Action). slice_get xs c.self.inside.done) (sym c.actions.ensures.value) ∙ none_left c.actions.result.now c.self.inside.done (sym c.in-None.ensures.lookup.0) in
    acts_still c.args.self.now None End (subst (λ (d : ClientData). next_action d ≡ None) c.self.view_is at) refl refl refl

pub returns-in-Some-Put-clause-acted : goal.returns-in-Some-Put-clause-acted
returns-in-Some-Put-clause-acted c =
    let arm = c.in-Some-Put in
    let found = arm.ensures.lookup in
    let at : slice_get c.self.inside.plan.actions c.self.inside.done ≡ Some (Put arm.place arm.value) = next_found _ _ _ _ _ c.actions.ensures.value found.3.0 found.3.1 arm.field-0-is in
    acts_put c.args.self.now c.put.new.self arm.place arm.value (subst (λ (d : ClientData). next_action d ≡ Some (Put arm.place arm.value)) c.self.view_is at) c.put.ensures

pub returns-in-Some-Flush-clause-acted : goal.returns-in-Some-Flush-clause-acted
returns-in-Some-Flush-clause-acted c =
    let arm = c.in-Some-Flush in
    let found = arm.ensures.lookup in
    let at : slice_get c.self.inside.plan.actions c.self.inside.done ≡ Some (Flush arm.field-0-0 arm.field-0-1) = next_found _ _ _ _ _ c.actions.ensures.value found.3.0 found.3.1 arm.field-0-is in
    acts_still c.args.self.now (Some (Flush arm.field-0-0 arm.field-0-1)) AtFlush (subst (λ (d : ClientData). next_action d ≡ Some (Flush arm.field-0-0 arm.field-0-1)) c.self.view_is at) refl refl refl

pub returns-in-Some-Flush-clause-flush : goal.returns-in-Some-Flush-clause-flush
returns-in-Some-Flush-clause-flush c _ =
    let arm = c.in-Some-Flush in
    let found = arm.ensures.lookup in
    let at : slice_get c.self.inside.plan.actions c.self.inside.done ≡ Some (Flush arm.field-0-0 arm.field-0-1) = next_found _ _ _ _ _ c.actions.ensures.value found.3.0 found.3.1 arm.field-0-is in
    subst IsAtFlush c.self.view_is (stands_at_flush c.self.inside.plan.actions c.self.inside.done arm.field-0-0 arm.field-0-1 at)

pub returns-in-Some-Close-clause-acted : goal.returns-in-Some-Close-clause-acted
returns-in-Some-Close-clause-acted c =
    let arm = c.in-Some-Close in
    let found = arm.ensures.lookup in
    let at : slice_get c.self.inside.plan.actions c.self.inside.done ≡ Some Close = next_found _ _ _ _ _ c.actions.ensures.value found.3.0 found.3.1 arm.field-0-is in
    acts_still c.args.self.now (Some Close) AtClose (subst (λ (d : ClientData). next_action d ≡ Some Close) c.self.view_is at) refl refl refl
