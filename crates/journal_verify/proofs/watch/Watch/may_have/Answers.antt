use Rattle.std.proofs.Common.{◌≡◌, false, get_or, sym, ap, subst, ◌∙◌}
use Rattle.std.proofs.lemmas.List.Folds.{list_all_at}
use Rattle.journal_verify.specs.Client.{Client, may_have}
use Rattle.journal_verify.specs.Kept.{WatchData}
use Rattle.journal_verify.proofs.watch.Watch.may_have.Goals as goal

pub returns-then-not-may_hold : goal.returns-then-not-may_hold
returns-then-not-may_hold c =
    let words = c.args.words.now in
    let at = c.loop-place.place-index in
    let other = sym c.may_hold.ensures.value ∙ c.if-not-may_hold.true in
    let bad = subst (λ (client : Client). may_have client (get_or words at (0, 0)) ≡ false) (ap (λ (watch : WatchData). watch.client) c.self.view_is) other in
    sym (list_all_at (may_have c.args.self.now.client) words at (0, 0) c.loop-place-test.true bad)
