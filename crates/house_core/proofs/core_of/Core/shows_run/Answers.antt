use Rattle.std.proofs.Common.{◌-◌, ℕ, get_or, ap, sym, subst, ◌∙◌}
use Rattle.house_core.specs.Desks.{Agree, desk_at}
use Rattle.house_core.specs.Core.{CoreData, IsOfCore, IsAway}
use Rattle.house_core.proofs.Rows.{out_at_desk}
use Rattle.house_core.proofs.Again.{place_of}
use Rattle.house_core.proofs.Seen.{parts_of}
use Rattle.house_core.proofs.Meeting.{run_shows}
use Rattle.house_core.proofs.core_of.Core.shows_run.Goals as goal

pub returns-clause-away : goal.returns-clause-away
returns-clause-away c =
    let now = parts_of c.self.inside in
    let run = c.args.run.now in
    let mine = subst (λ (v : CoreData). IsOfCore v run) (sym c.self.view_is) c.requires in
    let place = place_of now run.stream c.self.invariant mine.plan.known in
    let read = c.index_mut-desk.ensures.value ∙ ap (λ (s : ℕ). get_or now.desks (s - 1) c.index_mut-desk.result.now) c.stream.ensures ∙ place.there _ in
    let agree = subst (Agree run) read c.shows_desk.ensures.agree in
    subst (λ (v : CoreData). IsAway v run) c.self.view_is record {
      out = out_at_desk now.desks run.stream ∙ (λ i. record { order = sym agree.order i; paused = sym agree.paused i });
      positive = c.shows_desk.ensures.positive;
      shows = run_shows now.plans now.past run (desk_at now.desks run.stream) c.self.invariant.legal place.fits mine.plan agree c.shows_desk.ensures.positive c.shows_desk.ensures.get;
    }
