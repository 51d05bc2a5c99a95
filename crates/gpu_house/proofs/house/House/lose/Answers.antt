use Rattle.std.proofs.Common.{[], List, ⊎_elim, refl, sym, ap, subst, ◌∙◌, arith, length-set}
use Rattle.gpu_journal.specs.declared.event.Event.{Event}
use Rattle.gpu_journal.specs.declared.event.Event.TheVariants.{Lost}
use Rattle.gpu_journal.specs.declared.event.Why.TheVariants.{Memory}
use Rattle.gpu_plan.specs.Plans.{PlansData}
use Rattle.sync_core.specs.Standing.{is_open}
use Rattle.gpu_journal.specs.Waits.{standing_of}
use Rattle.house_core.specs.Core.{book_at}
use Rattle.gpu_house.specs.Names.{table_at}
use Rattle.gpu_house.proofs.Homes.{came_back, came_lost, side_seen}
use Rattle.gpu_house.proofs.Cases.{loses_run, known_here}
use Rattle.gpu_house.proofs.Endings.{grown_quietly, stayed_follow}
use Rattle.gpu_house.proofs.Writings.{AllFit, all_still}
use Rattle.gpu_house.proofs.Keeping.{kept}
use Rattle.std.specs.Prelude.{slice_set, ◌-◌}
use Rattle.gpu_house.proofs.house.House.lose.Goals as goal

pub follow-requires : goal.follow-requires
follow-requires g c =
    let core = c.self.inside.core in
    let now = c.lose.new.self in
    let marks = c.self.inside.hooks in
    let was = c.self.invariant in
    ⊎_elim (λ grows. grown_quietly g.N.Naming.plans g.N.Naming.base (Lost c.run.inside.carried.stream Memory []) core now marks was.plans grows was.marked refl)
    (λ waits. stayed_follow g.N.Naming.plans g.N.Naming.base core now marks marks was.plans waits.1.plans waits.1.past was.marked refl refl (omega arith))
    (loses_run core now c.run.inside.carried.stream c.lose.ensures.event c.lose.ensures.over)

pub invariant_of-self : goal.invariant_of-self
invariant_of-self g c =
    let takes = g.P.ServiceSide.takes in
    let told = g.P.ServiceSide.written in
    let results_of = g.P.ServiceSide.results_of in
    let answers = table_at g.N.Naming.result_words in
    let core = c.self.inside.core in
    let now = c.lose.new.self in
    let slots = c.self.inside.slots.items in
    let slots' = slice_set slots (c.stream-stream.result - 1) c.come.new.self in
    let results = c.self.inside.results.items in
    let was = c.self.invariant in
    let run = c.run.inside.carried in
    let t = c.stream-stream.result in
    let there = known_here g.N.Naming.plans slots t run.stream was.slots c.stream-stream.ensures c.run.invariant.of_plans.known in
    let came = loses_run core now c.run.inside.carried.stream c.lose.ensures.event c.lose.ensures.over in
    kept g.P.ServiceSide.side g.P.ServiceSide.table g.P.ServiceSide.mark g.P.ServiceSide.note_of takes told results_of g.N.Naming.plans g.N.Naming.base g.N.Naming.words g.N.Naming.books g.N.Naming.result_words c.self.inside.hooks c.follow.new.hooks
    record { core = core; slots = slots; results = results } record { core = now; slots = slots'; results = results } was
    c.shows_core.ensures (⊎_elim (λ grows. grows.plans) (λ waits. waits.1.plans) came) (⊎_elim (λ grows. grows.books) (λ waits. waits.1.books) came)
    c.follow.ensures (length-set slots (c.stream-stream.result - 1) c.come.new.self)
    (⊎_elim (λ grows. came_lost g.P.ServiceSide.side g.P.ServiceSide.table g.P.ServiceSide.mark g.P.ServiceSide.note_of g.N.Naming.plans (table_at g.N.Naming.words) (book_at g.N.Naming.books) run core now slots t c.index_mut.result.now c.come.new.self c.run.inside.side c.run.inside.note Memory []
    c.stream-stream.ensures there c.index_mut.ensures.value c.come.ensures c.run.invariant grows.past c.lose.ensures.outs was.homes)
    (λ waits. came_back g.P.ServiceSide.side g.P.ServiceSide.table g.P.ServiceSide.mark g.P.ServiceSide.note_of g.N.Naming.plans (table_at g.N.Naming.words) (book_at g.N.Naming.books) run core now slots t c.index_mut.result.now c.come.new.self c.run.inside.side c.run.inside.note
    c.stream-stream.ensures there c.index_mut.ensures.value c.come.ensures c.run.invariant waits.1.past c.lose.ensures.outs
    (λ o. let over = ap (λ (q : PlansData). is_open (standing_of q core.past run.stream)) (sym was.plans) ∙ waits.0 in absurd (cc)) was.homes) came) refl
    (⊎_elim (λ grows. subst (λ (h : List Event). AllFit takes told results_of answers g.N.Naming.plans h results) (sym grows.past) (all_still takes told results_of answers g.N.Naming.plans (Lost c.run.inside.carried.stream Memory []) core.past results (λ s. refl) was.results))
    (λ waits. subst (λ (h : List Event). AllFit takes told results_of answers g.N.Naming.plans h results) (sym waits.1.past) was.results) came)

pub returns-clause-slots : goal.returns-clause-slots
returns-clause-slots g c =
    let run = c.run.inside.carried in
    let slots = c.self.inside.slots.items in
    let t = c.stream-stream.result in
    side_seen run c.run.inside.side c.run.inside.note c.args.run slots c.args.self.now.slots t c.index_mut.result.now c.come.new.self c.run.view_is (ap (λ h. h.slots) c.self.view_is)
    c.stream-stream.ensures (known_here g.N.Naming.plans slots t run.stream c.self.invariant.slots c.stream-stream.ensures c.run.invariant.of_plans.known) c.index_mut.ensures.value c.come.ensures

pub returns-clause-event : goal.returns-clause-event
returns-clause-event g c = rw (← c.self.view_is, ← c.run.view_is, ← c.self.invariant.plans) (λ is. (c.lose.ensures.event is).past)

pub returns-clause-over : goal.returns-clause-over
returns-clause-over g c = rw (← c.self.view_is, ← c.run.view_is, ← c.self.invariant.plans) (λ is. (c.lose.ensures.over is).past)

pub returns-clause-outs : goal.returns-clause-outs
returns-clause-outs g c = rw (← c.self.view_is, ← c.run.view_is) c.lose.ensures.outs
