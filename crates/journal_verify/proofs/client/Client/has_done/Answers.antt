use Rattle.std.proofs.Common.{ap, sym, subst, length, ◌∙◌}
use Rattle.std.specs.List.{All}
use Rattle.gpu_plan.specs.Plans.{IsWithin}
use Rattle.journal_verify.specs.Client.{Client}
use Rattle.journal_verify.specs.Reached.{Reached, IsReached}
use Rattle.journal_verify.proofs.Reaching.{reached_later}
use Rattle.journal_verify.proofs.client.Client.has_done.Goals as goal

pub returns-clause-client : goal.returns-clause-client
returns-clause-client c =
    let actions = c.args.actions.now in
    let was = c.args.self.now in
    let later = reached_later actions was.held.done c.args.to was.reached c.requires.further c.requires.client.reached in
    let same = subst (λ (reached : Reached). IsReached actions c.args.to reached) (ap (λ (client : Client). client.reached) (sym c.self.view_is)) later in
    let places = c.advance.ensures.places ∙ ap (λ (client : Client). length client.held.values) c.self.view_is in
    record {
      held = c.advance.ensures.held;
      reached = subst (λ n. IsReached actions n c.self.inside.reach) (sym c.advance.ensures.done) same;
      within = subst (λ n. All (IsWithin n) actions) (sym places) c.requires.client.within;
    }
