use Rattle.std.proofs.Common.{◌≡◌, ℕ, true, eqb, ap, sym, subst, ◌∙◌, arith}
use Rattle.house_core.specs.Desks.{DeskData, RunData, at_home, desk_at}
use Rattle.house_core.specs.Core.{CoreData, with_out}
use Rattle.house_core.specs.Invariant.{Parts, DeskFits, seen}
use Rattle.house_core.proofs.Rows.{books_stay, outs_set}
use Rattle.house_core.proofs.Fits.{fits_out}
use Rattle.house_core.proofs.Again.{Place, seats_move, stays}
use Rattle.house_core.proofs.Seen.{parts_of, place_of_run}
use Rattle.house_core.proofs.core_of.Core.back.Goals as goal

module _ (c : goal.After-self-1) where
  abbrev now : Parts
  now = parts_of c.self.inside

  was : seen now ≡ c.args.self.now
  was = c.self.view_is ∙ c.shows_run.ensures.core

  abbrev s : ℕ
  s = c.stream-stream.result

  stream : s ≡ c.args.run.stream
  stream = c.stream-stream.ensures ∙ ap (λ (run : RunData). run.stream) c.shows_run.ensures.run

  place : Place now s
  place = place_of_run now _ s c.args.run was c.self.invariant stream c.requires.plan

  came : c.come.new.desk ≡ record (desk_at now.desks s) { out = at_home }
  came = c.come.ensures ∙ ap (λ (desk : DeskData). record desk { out = at_home }) (c.index_mut.ensures.value ∙ place.there _)

pub invariant_of-self : goal.invariant_of-self
invariant_of-self c =
    stays (now c) _ (s c) c.come.new.desk c.self.invariant (place c) (seats_move (now c) _ (s c) _ true (place c) c.give_back.ensures.seats (ap (λ (desk : DeskData). eqb desk.out.order 0) (came c)))
    (subst (DeskFits (now c).plans (now c).past (s c)) (sym (came c)) (fits_out (now c).plans (now c).past (s c) (desk_at (now c).desks (s c)) at_home (λ out. absurd (omega arith)) (place c).fits))

pub returns-clause-same : goal.returns-clause-same
returns-clause-same c = record {
  plans = ap (λ (v : CoreData). v.plans) (was c);
  past = ap (λ (v : CoreData). v.past) (was c);
  books = books_stay (now c).desks (s c) c.come.new.desk (place c).desk (ap (λ (desk : DeskData). desk.book) (came c)) ∙ ap (λ (v : CoreData). v.books) (was c);
}

pub returns-clause-outs : goal.returns-clause-outs
returns-clause-outs c =
    outs_set (now c).desks (s c) c.come.new.desk ∙ ap (λ (desk : DeskData). with_out (seen (now c)).outs (s c) desk.out) (came c)
    ∙ ap (λ (v : CoreData). with_out v.outs (s c) at_home) (was c) ∙ ap (λ (s : ℕ). with_out c.args.self.now.outs s at_home) (stream c)
