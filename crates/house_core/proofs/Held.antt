-- What a core, as contracts see it, is known to keep.
use Rattle.std.proofs.Common.{List, sym, ap, subst, ◌∙◌, arith}
use Rattle.atomic_table.specs.Seated.{TableId}
use Rattle.gpu_plan.specs.Plans.{PlansData}
use Rattle.gpu_journal.specs.declared.event.Event.{Event}
use Rattle.gpu_journal.specs.Legal.{IsLegal}
use Rattle.serial_laws.specs.Scripts.{AreLawfulPlans}
use Rattle.house_core.specs.Core.{CoreData, Stays}
use Rattle.house_core.specs.Desks.{Out}
use Rattle.house_core.specs.Invariant.{IsCore}

-- its plans are lawful
pub core_lawful : (core : CoreData) → IsCore core → AreLawfulPlans core.plans
core_lawful core is = subst (λ (v : CoreData). AreLawfulPlans v.plans) is.shown is.kept.lawful

-- its journal is legal
pub core_legal : (core : CoreData) → IsCore core → IsLegal core.plans core.past
core_legal core is = subst (λ (v : CoreData). IsLegal v.plans v.past) is.shown is.kept.legal

-- it is one with more room too
pub core_roomier : (old new : CoreData) → Stays old new → IsCore old → IsCore new
core_roomier old new stays is =
    let c = is.parts in
    let was = is.kept in
    let shown = is.shown in
    let room = ap (λ (v : CoreData). v.spare) shown in
    let more = stays.spare in
    let enough = was.spare in
    record {
      parts = record c { spare = new.spare };
      kept = record {
        lawful = was.lawful;
        legal = was.legal;
        many = record { streams = was.many.streams; seats = was.many.seats; desks = was.many.desks };
        sync = was.sync;
        images = was.images;
        states = was.states;
        targets = was.targets;
        books = was.books;
        homes = was.homes;
        room = was.room;
        spare = omega (arith, room, more, enough);
        endings = was.endings;
      };
      shown =
          ap (λ (v : CoreData). record v { spare = new.spare }) shown
          ∙ ap (λ (p : PlansData). record old { plans = p; spare = new.spare }) (sym stays.plans)
          ∙ ap (λ (h : List Event). record new { past = h; books = old.books; outs = old.outs }) (sym stays.past)
          ∙ ap (λ (books : List TableId). record new { books = books; outs = old.outs }) (sym stays.books)
          ∙ ap (λ (outs : List Out). record new { outs = outs }) (sym stays.outs);
    }
