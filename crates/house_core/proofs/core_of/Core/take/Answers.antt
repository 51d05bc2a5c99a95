use Rattle.std.proofs.Common.{◌≡◌, ◌-◌, ◌<◌, ℕ, false, List, eqb, set, ap, sym, subst, ◌∙◌, Some, None, option_map, slice_get}
use Rattle.gpu_plan.specs.declared.plan.Action.{Action}
use Rattle.gpu_plan.specs.Plans.{PlanData, plan_of}
use Rattle.sync_core.specs.Standing.{first_order}
use Rattle.gpu_journal.specs.Waits.{left_of}
use Rattle.gpu_journal.specs.Facts.{put_in}
use Rattle.serial_laws.specs.Choosing.{choice_at_home}
use Rattle.serial_laws.proofs.Going.{run_begins}
use Rattle.house_core.specs.Desks.{DeskData, RunData, desk_at, run_of}
use Rattle.house_core.specs.Core.{CoreData, IsOfPlans, IsRunOf, book_at, out_at, outs_of, with_out, is_home}
use Rattle.house_core.specs.Invariant.{Parts, DeskFits, seen}
use Rattle.house_core.proofs.Rows.{books_stay, outs_set, book_at_desk, out_at_desk, desk_set_here}
use Rattle.house_core.proofs.Fits.{fits_out}
use Rattle.house_core.proofs.Again.{stays, seats_move}
use Rattle.house_core.proofs.Seen.{parts_of}
use Rattle.house_core.proofs.Taking.{IsChosen, HasLeft, chosen, chooses, first_of, first_positive, plan_there, not_none, leaves}
use Rattle.house_core.proofs.core_of.Core.take.Goals as goal

-- the place that was found is that of the desk's next flush
finds : (desk there : DeskData) (k place : ℕ) → desk ≡ there → k ≡ desk.finished → Some place ≡ slice_get desk.places k → slice_get there.places there.finished ≡ Some place
finds desk there k place same is found = ap (λ (desk : DeskData). slice_get desk.places desk.finished) (sym same) ∙ ap (slice_get desk.places) (sym is) ∙ sym found

pub returns-in_err-stream-clause-choice : goal.returns-in_err-stream-clause-choice
returns-in_err-stream-clause-choice c =
    let now = parts_of c.self.inside in
    let none : c.from_residual.result ≡ None = c.from_residual.ensures in
    ap (option_map (λ (run : RunData). run.stream)) none ∙ c.in_err-stream.ensures.choice ∙ chooses now c.self.invariant ∙ ap (λ (v : CoreData). choice_at_home v.plans v.past (is_home v.outs)) c.self.view_is

pub unreachable-requires-in_default-place : goal.unreachable-requires-in_default-place
unreachable-requires-in_default-place c =
    let is = chosen (parts_of c.self.inside) c.in_ok-stream.stream c.self.invariant (sym c.in_ok-stream.ensures.choice) in
    let read = c.index_mut-desk.ensures.value ∙ is.place.there _ in
    c.in_default-place.not-Some _ (c.place.ensures ∙ ap (slice_get c.index_mut-desk.result.now.places) c.finished.ensures ∙ ap (λ (desk : DeskData). slice_get desk.places desk.finished) read ∙ is.flush)

pub take-requires-2-clause-order : goal.take-requires-2-clause-order
take-requires-2-clause-order c =
    let now = parts_of c.self.inside in
    first_positive now.plans now.past c.in_ok-stream.stream c.in-Some.order (first_of now c.in_ok-stream.stream c.in-Some.order c.self.invariant c.in-Some.ensures.value)

module _ (c : goal.After-self-2-1) where
  abbrev now : Parts
  now = parts_of c.self.inside

  abbrev s : ℕ
  s = c.in_ok-stream.stream

  is : IsChosen now s
  is = chosen now s c.self.invariant (sym c.in_ok-stream.ensures.choice)

  first : first_order (left_of now.plans now.past s) ≡ Some c.in-Some.order
  first = first_of now s c.in-Some.order c.self.invariant c.in-Some.ensures.value

  plan : c.plan-plan.result.now ≡ plan_of now.plans s
  plan = plan_there now.plans s c.plan-plan.result.now is.place.plan c.plan-plan.ensures

  read : c.index_mut-desk.result.now ≡ desk_at now.desks s
  read = c.index_mut-desk.ensures.value ∙ is.place.there _

  abbrev away : DeskData
  away = record (desk_at now.desks s) { out = record { order = c.in-Some.order; paused = false } }

  left : c.take-2.new.desk ≡ away
  left = c.take-2.ensures.desk ∙ ap (λ (desk : DeskData). record desk { out = record { order = c.in-Some.order; paused = false } }) read

  found : slice_get (desk_at now.desks s).places (desk_at now.desks s).finished ≡ Some c.in-Some-place.place
  found = finds c.index_mut-desk.result.now _ c.finished.result c.in-Some-place.place read c.finished.ensures c.in-Some-place.ensures

  put : c.put_at-put.result ≡ put_in (slice_get (plan_of now.plans s).actions c.in-Some-place.place)
  put = c.put_at-put.ensures ∙ ap (λ (actions : List Action). put_in (slice_get actions c.in-Some-place.place)) (c.actions.ensures.value ∙ ap (λ (plan : PlanData). plan.actions) plan)

  all : HasLeft now.plans now.past s away c.in-Some-place.place c.put_at-put.result
  all = leaves now s c.in-Some.order c.in-Some-place.place c.put_at-put.result is first found put

  run : c.take-2.result ≡ run_of s (plan_of now.plans s).areas c.in-Some-place.place c.put_at-put.result away
  run = c.take-2.ensures.run ∙ ap (λ (plan : PlanData). run_of s plan.areas c.in-Some-place.place c.put_at-put.result c.take-2.new.desk) plan ∙ ap (run_of s (plan_of now.plans s).areas c.in-Some-place.place c.put_at-put.result) left

pub invariant_of-self-2 : goal.invariant_of-self-2
invariant_of-self-2 c =
    stays (now c) _ (s c) c.take-2.new.desk c.self.invariant (is c).place (seats_move (now c) _ (s c) _ false (is c).place c.take.ensures.seats (ap (λ (desk : DeskData). eqb desk.out.order 0) (left c) ∙ not_none c.in-Some.order (first_positive (now c).plans (now c).past (s c) c.in-Some.order (first c))))
    (subst (DeskFits (now c).plans (now c).past (s c)) (sym (left c)) (fits_out (now c).plans (now c).past (s c) (desk_at (now c).desks (s c)) (away c).out (λ _. run_begins (now c).plans (now c).past (s c) c.in-Some.order (first c) (is c).runs.free) (is c).place.fits))

pub returns-clause-choice : goal.returns-clause-choice
returns-clause-choice c = ap (λ (run : RunData). Some run.stream) (run c) ∙ c.in_ok-stream.ensures.choice ∙ chooses (now c) c.self.invariant ∙ ap (λ (v : CoreData). choice_at_home v.plans v.past (is_home v.outs)) c.self.view_is

pub returns-clause-same : goal.returns-clause-same
returns-clause-same c = record {
  plans = ap (λ (v : CoreData). v.plans) c.self.view_is;
  past = ap (λ (v : CoreData). v.past) c.self.view_is;
  books = books_stay (now c).desks (s c) c.take-2.new.desk (is c).place.desk (ap (λ (desk : DeskData). desk.book) (left c)) ∙ ap (λ (v : CoreData). v.books) c.self.view_is;
}

pub returns-clause-leaves : goal.returns-clause-leaves
returns-clause-leaves c =
    let desks = set (now c).desks (s c - 1) c.take-2.new.desk in
    let run' = sym (run c) in
    record {
      own = record {
        plan = subst (λ (v : CoreData). IsOfPlans v.plans c.take-2.result) c.self.view_is (subst (IsOfPlans (now c).plans) run' (all c).plan);
        book = ap (λ (run : RunData). run.book) (run c) ∙ sym (book_at_desk (now c).desks (s c)) ∙ ap (λ (v : CoreData). book_at v.books (s c)) c.self.view_is ∙ ap (λ (run : RunData). book_at c.args.self.now.books run.stream) run';
      };
      run = subst (λ (v : CoreData). IsRunOf v.plans v.past c.take-2.result) c.self.view_is (subst (IsRunOf (now c).plans (now c).past) run' (all c).run);
      going = ap (λ (run : RunData). run.paused) (run c);
      home = ap (λ (run : RunData). out_at c.args.self.now.outs run.stream) (run c) ∙ ap (λ (v : CoreData). out_at v.outs (s c)) (sym c.self.view_is) ∙ out_at_desk (now c).desks (s c)
          ∙ ap (λ (desk : DeskData). desk.out) (sym (read c)) ∙ c.take-2.ensures.home;
      outs = outs_set (now c).desks (s c) c.take-2.new.desk ∙ ap (λ (desk : DeskData). with_out (seen (now c)).outs (s c) desk.out) (left c)
          ∙ ap (λ (v : CoreData). with_out v.outs (s c) (away c).out) c.self.view_is
          ∙ ap (λ (run : RunData). with_out c.args.self.now.outs run.stream record { order = run.order; paused = false }) run';
      away = record {
        out = ap (λ (run : RunData). out_at (outs_of desks) run.stream) (run c) ∙ out_at_desk desks (s c)
            ∙ ap (λ (desk : DeskData). desk.out) (desk_set_here (now c).desks (s c) c.take-2.new.desk (is c).place.desk ∙ left c)
            ∙ ap (λ (run : RunData). record { order = run.order; paused = run.paused }) run';
        positive = subst (λ (run : RunData). 0 < run.order) run' (first_positive (now c).plans (now c).past (s c) c.in-Some.order (first c));
        shows = λ open'. subst (IsRunOf (now c).plans (now c).past) run' (all c).run;
      };
    }
