use Rattle.std.proofs.Common.{List, ⊎_elim, refl, sym, subst, arith}
use Rattle.gpu_journal.specs.declared.event.Event.{Event}
use Rattle.gpu_journal.specs.declared.event.Event.TheVariants.{Close}
use Rattle.serial_laws.proofs.Going.{close_ends}
use Rattle.gpu_house.specs.Names.{table_at}
use Rattle.gpu_house.proofs.Cases.{closes}
use Rattle.gpu_house.proofs.Endings.{grown_quietly, stayed_follow}
use Rattle.gpu_house.proofs.Writings.{AllFit, all_still}
use Rattle.gpu_house.proofs.Keeping.{kept, ended_homes, still_homes}
use Rattle.gpu_house.proofs.house.House.close.Goals as goal

pub follow-requires : goal.follow-requires
follow-requires g c =
    let core = c.self.inside.core in
    let now = c.close-closing.new.self in
    let marks = c.self.inside.hooks in
    let was = c.self.invariant in
    ⊎_elim (λ grows. grown_quietly g.N.Naming.plans g.N.Naming.base (Close c.args.stream) core now marks was.plans grows was.marked refl)
    (λ stays. stayed_follow g.N.Naming.plans g.N.Naming.base core now marks marks was.plans stays.plans stays.past was.marked refl refl (omega arith))
    (closes core now c.args.stream c.close-closing.result c.close-closing.ensures.event c.close-closing.ensures.same)

pub invariant_of-self : goal.invariant_of-self
invariant_of-self g c =
    let p = g.N.Naming.plans in
    let takes = g.P.ServiceSide.takes in
    let told = g.P.ServiceSide.written in
    let results_of = g.P.ServiceSide.results_of in
    let answers = table_at g.N.Naming.result_words in
    let core = c.self.inside.core in
    let now = c.close-closing.new.self in
    let slots = c.self.inside.slots.items in
    let results = c.self.inside.results.items in
    let was = c.self.invariant in
    let came = closes core now c.args.stream c.close-closing.result c.close-closing.ensures.event c.close-closing.ensures.same in
    kept g.P.ServiceSide.side g.P.ServiceSide.table g.P.ServiceSide.mark g.P.ServiceSide.note_of takes told results_of p g.N.Naming.base g.N.Naming.words g.N.Naming.books g.N.Naming.result_words c.self.inside.hooks c.follow.new.hooks
    record { core = core; slots = slots; results = results } record { core = now; slots = slots; results = results } was
    c.shows_core.ensures (⊎_elim (λ grows. grows.plans) (λ stays. stays.plans) came) (⊎_elim (λ grows. grows.books) (λ stays. stays.books) came)
    c.follow.ensures refl
    (⊎_elim (λ grows. ended_homes g.P.ServiceSide.side g.P.ServiceSide.table g.P.ServiceSide.mark g.P.ServiceSide.note_of p (table_at g.N.Naming.words) core now (Close c.args.stream) slots grows.past c.close-closing.ensures.outs (close_ends p core.past c.args.stream) was.homes)
    (λ stays. still_homes g.P.ServiceSide.side g.P.ServiceSide.table g.P.ServiceSide.mark g.P.ServiceSide.note_of p (table_at g.N.Naming.words) core now slots stays.past stays.outs was.homes) came)
    refl
    (⊎_elim (λ grows. subst (λ (h : List Event). AllFit takes told results_of answers p h results) (sym grows.past) (all_still takes told results_of answers p (Close c.args.stream) core.past results (λ s. refl) was.results))
    (λ stays. subst (λ (h : List Event). AllFit takes told results_of answers p h results) (sym stays.past) was.results) came)

pub returns-clause-lost : goal.returns-clause-lost
returns-clause-lost g c = rw (← c.self.view_is, ← c.self.invariant.plans) c.close-closing.ensures.lost

pub returns-clause-early : goal.returns-clause-early
returns-clause-early g c = rw (← c.self.view_is, ← c.self.invariant.plans) c.close-closing.ensures.early

pub returns-clause-event : goal.returns-clause-event
returns-clause-event g c = rw (← c.self.view_is, ← c.self.invariant.plans) (λ said is. record {
  past = (c.close-closing.ensures.event said is).past;
  outs = c.close-closing.ensures.outs;
  slots = refl;
  results = refl;
})

pub returns-clause-same : goal.returns-clause-same
returns-clause-same g c = rw (← c.self.view_is, ← c.self.invariant.plans) (λ no. record {
  past = (c.close-closing.ensures.same no).past;
  outs = c.close-closing.ensures.outs;
  slots = refl;
  results = refl;
})
