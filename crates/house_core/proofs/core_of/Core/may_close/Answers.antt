use Rattle.std.proofs.Common.{◌≡◌, ◌↔◌, List, sym, ap, subst, ◌∙◌, IsTrue}
use Rattle.gpu_plan.specs.declared.plan.Action.{Action}
use Rattle.gpu_plan.specs.Plans.{PlanData, plan_of}
use Rattle.sync_core.specs.Standing.{is_open}
use Rattle.gpu_journal.specs.Waits.{standing_of}
use Rattle.gpu_journal.specs.Legal.{MayClose}
use Rattle.gpu_journal.proofs.Following.{plan_here}
use Rattle.house_core.specs.Walks.{HasWalked}
use Rattle.house_core.specs.Desks.{DeskData, desk_at}
use Rattle.house_core.specs.Core.{CoreData}
use Rattle.house_core.specs.Invariant.{Parts, DeskFits}
use Rattle.house_core.proofs.Rows.{books_stay, outs_stay}
use Rattle.house_core.proofs.Fits.{fits_walk}
use Rattle.house_core.proofs.Again.{Place, seats_stay, stays}
use Rattle.house_core.proofs.Seen.{parts_of, place_seen}
use Rattle.house_core.proofs.Closes.{closes_ordered, closes_reached}
use Rattle.house_core.proofs.core_of.Core.may_close.Goals as goal

pub returns-then-not-is_all_ordered-clause-may : goal.returns-then-not-is_all_ordered-clause-may
returns-then-not-is_all_ordered-clause-may c =
    let now = parts_of c.self.inside in
    let s = c.args.stream in
    let place = place_seen now _ s c.self.view_is c.self.invariant c.requires.known in (
      λ yes. absurd (cc),
      λ may. absurd (let all = c.is_all_ordered.ensures.1 (closes_ordered now s place c.index-desk.result.now _ c.index-desk.ensures (subst (λ (v : CoreData). MayClose v.plans v.past s) (sym c.self.view_is) may)) in cc),
    )

module _ (c : goal.After-self-1) where
  abbrev now : Parts
  now = parts_of c.self.inside

  place : Place now c.args.stream
  place = place_seen now _ c.args.stream c.self.view_is c.self.invariant c.requires.known

  read : c.index_mut-desk.result.now ≡ desk_at now.desks c.args.stream
  read = c.index_mut-desk.ensures.value ∙ place.there _

  actions : c.actions-actions.result.now ≡ (plan_of now.plans c.args.stream).actions
  actions = c.actions-actions.ensures.value ∙ ap (λ (plan : PlanData). plan.actions) (sym (plan_here now.plans c.args.stream c.plan.result.now c.requires.known.0 c.plan.ensures))

  -- the walk alone went on
  came : c.comes_to_close.new.self ≡ record (desk_at now.desks c.args.stream) { walk = c.comes_to_close.new.self.walk }
  came = c.comes_to_close.ensures.desk ∙ ap (λ (desk : DeskData). record desk { walk = c.comes_to_close.new.self.walk }) read

  walked : HasWalked (plan_of now.plans c.args.stream).actions (desk_at now.desks c.args.stream).finished (desk_at now.desks c.args.stream).greatest c.comes_to_close.new.self.walk
  walked =
      subst (λ (all : List Action). HasWalked all (desk_at now.desks c.args.stream).finished (desk_at now.desks c.args.stream).greatest c.comes_to_close.new.self.walk) actions
      (subst (λ (desk : DeskData). HasWalked c.actions-actions.result.now desk.finished desk.greatest c.comes_to_close.new.self.walk) read c.comes_to_close.ensures.walked)

pub comes_to_close-requires-clause-walked : goal.comes_to_close-requires-clause-walked
comes_to_close-requires-clause-walked c =
    let now = parts_of c.self.inside in
    let s = c.args.stream in
    let place = place_seen now _ s c.self.view_is c.self.invariant c.requires.known in
    let actions = c.actions-actions.ensures.value ∙ ap (λ (plan : PlanData). plan.actions) (sym (plan_here now.plans s c.plan.result.now c.requires.known.0 c.plan.ensures)) in
    subst (λ (desk : DeskData). HasWalked c.actions-actions.result.now desk.finished desk.greatest desk.walk) (sym (c.index_mut-desk.ensures.value ∙ place.there _))
    (subst (λ (all : List Action). HasWalked all (desk_at now.desks s).finished (desk_at now.desks s).greatest (desk_at now.desks s).walk) (sym actions) place.fits.walked)

pub invariant_of-self : goal.invariant_of-self
invariant_of-self c =
    let s = c.args.stream in
    let desk = c.comes_to_close.new.self in
    stays (now c) _ s desk c.self.invariant (place c) (seats_stay (now c) s desk (place c) (ap (λ (desk : DeskData). desk.out.order) (came c)))
    (subst (DeskFits (now c).plans (now c).past s) (sym (came c)) (fits_walk (now c).plans (now c).past s (desk_at (now c).desks s) desk.walk (walked c) (place c).fits))

pub returns-clause-core : goal.returns-clause-core
returns-clause-core c =
    let s = c.args.stream in
    let desk = c.comes_to_close.new.self in
    let books = books_stay (now c).desks s desk (place c).desk (ap (λ (desk : DeskData). desk.book) (came c)) in
    let outs = outs_stay (now c).desks s desk (place c).desk (ap (λ (desk : DeskData). desk.out) (came c)) in
    (λ i. record { plans = (now c).plans; past = (now c).past; spare = (now c).spare; books = books i; outs = outs i }) ∙ c.self.view_is

pub returns-clause-may : goal.returns-clause-may
returns-clause-may c =
    let s = c.args.stream in
    let same = read c ∙ sym (c.index-desk.ensures ∙ (place c).there _) in
    let stays' = ap (λ (v : CoreData). is_open (standing_of v.plans v.past s)) c.self.view_is ∙ c.requires.«open» in
    let all = c.is_all_ordered.ensures.0 (let yes' = c.if-not-is_all_ordered.false in cc) in
    subst (λ (v : CoreData). IsTrue c.comes_to_close.result ↔ MayClose v.plans v.past s) c.self.view_is
    (closes_reached (now c) s (place c) c.index-desk.result.now _ c.index-desk.ensures c.actions-actions.result.now c.index_mut-desk.result.now.finished c.index_mut-desk.result.now.greatest c.comes_to_close.result
    stays' all (actions c) (ap (λ (desk : DeskData). desk.finished) same) (ap (λ (desk : DeskData). desk.greatest) same) c.comes_to_close.ensures.close)
