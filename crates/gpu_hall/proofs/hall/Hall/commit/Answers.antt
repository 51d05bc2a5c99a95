use Rattle.std.proofs.Common.{◌≡◌, ℕ, ◌-◌, false, Option, List, [], length, refl, sym, ap, subst, ◌∙◌, arith}
use Rattle.std.specs.Prelude.{option_map, slice_get, IfSome}
use Rattle.std.proofs.lemmas.List.{length-map}
use Rattle.std.proofs.lemmas.Option.{IfSome_then}
use Rattle.atomic_table.specs.Seated.{TableId}
use Rattle.live_view.specs.Seen.{WriterData}
use Rattle.gpu_fetch.specs.Side.{SideData}
use Rattle.gpu_fetch.specs.Shared.{side_of, IsNoteOf}
use Rattle.gpu_fetch.specs.Fetched.{FetchedData}
use Rattle.shm_words.specs.Seen.{NoteData}
use Rattle.result_words.specs.Seen.{ResultWriterData}
use Rattle.sync_core.specs.Standing.{is_open}
use Rattle.gpu_journal.specs.declared.event.Event.TheVariants.{Finish, Lost}
use Rattle.gpu_journal.specs.declared.event.Why.TheVariants.{Memory}
use Rattle.gpu_journal.specs.Waits.{standing_of}
use Rattle.gpu_house.specs.declared.answers.Next.{Next}
use Rattle.gpu_house.specs.declared.answers.Next.TheVariants as next
use Rattle.gpu_house.specs.Names.{table_at}
use Rattle.gpu_house.specs.Batches.{member_words}
use Rattle.gpu_house.specs.Committing.{Stage, is_executed, GoneInPart, Commits}
use Rattle.gpu_house.specs.Changes.{ResultsBelong}
use Rattle.gpu_house.proofs.Places.{if_there}
use Rattle.house_core.specs.Core.{CoreData, with_out}
use Rattle.house_core.specs.Desks.{Out, at_home}
use Rattle.gpu_hall.specs.declared.full_pass.FullPass.{FullPass}
use Rattle.gpu_hall.specs.Outs.{NoneIsPaused}
use Rattle.gpu_hall.specs.Views.{ViewHasRoom, HasNoted, HallFits, view_front}
use Rattle.gpu_hall.specs.Commits.{Return, CameHome, WentOn, WentHome}
use Rattle.gpu_hall.specs.Halls.{HallData, hall_seen}
use Rattle.gpu_hall.proofs.Fitting.{fits_same, fits_while, fits_room}
use Rattle.gpu_hall.proofs.Committed.{lost_first, may_come_back, came_back, was_ended, was_wanted}
use Rattle.gpu_hall.proofs.Viewed.{fewer, seen_same, seen_noted}
use Rattle.gpu_hall.proofs.Outs.{none_set, back_part, back_committed}
use Rattle.gpu_hall.proofs.Batched.{Answers, few_ops, whole_texels, fits_batch}
use Rattle.gpu_hall.proofs.hall.Hall.commit.Given.{Over}
use Rattle.gpu_hall.proofs.hall.Hall.commit.Goals.{After-step_batch-answer}
use Rattle.gpu_hall.proofs.hall.Hall.commit.Goals as goal

-- ---- no room was made in the view

pub invariant_of-self : goal.invariant_of-self
invariant_of-self g c =
    let N = g.N.Naming in
    let takers = c.self.inside.takers.items in
    let h = c.self.inside.house.core.past in
    let s = c.args.run.run.stream in
    let roomy = fits_room N.plans N.words N.queues N.view takers h c.self.inside.view c.make_room.new.view c.make_room.ensures.same c.self.invariant.fits in
    record {
      fits = fits_while N.plans N.words N.queues N.view takers c.make_room.new.view (Lost s Memory []) h c.lose.new.self.core.past (is_open (standing_of N.plans h s)) refl refl c.lose.ensures.event c.lose.ensures.over roomy;
      going = none_set c.self.inside.house.core.outs c.lose.new.self.core.outs s at_home c.lose.ensures.outs refl c.self.invariant.going;
    }

pub returns-in-Err-clause-home : goal.returns-in-Err-clause-home
returns-in-Err-clause-home g c =
    let N = g.N.Naming in
    let run = c.args.run.run in
    let h = c.self.inside.house.core.past in
    let home = lost_first N.plans h c.lose.new.self.core.past run.stream run.order (member_words c.args.batch) (is_open (standing_of N.plans h run.stream)) refl c.lose.ensures.event c.lose.ensures.over in
    subst (λ (d : HallData). WentHome N.plans d (hall_seen c.lose.new.self.core c.make_room.new.view) run (member_words c.args.batch)) c.self.view_is
    record { how = home.0; came = home.1; outs = c.lose.ensures.outs; view = seen_same c.self.inside.view c.make_room.new.view c.make_room.ensures.same }

-- ---- the batch may be committed

pub step_batch-answer-requires : goal.step_batch-answer-requires
step_batch-answer-requires g c =
    let run = c.args.run in
    let s = run.run.stream in
    let fit = c.shows_fit.ensures in
    let own = c.requires.words.0 ∙ sym fit.shared in
    let kept = slice_get c.self.inside.house.results (s - 1) in
    record {
      going = c.requires.going;
      chained = c.requires.chained;
      list = c.requires.list;
      beside = own;
      note = IfSome_then run.note fit.note_shared (λ n of. (own, of ∙ sym fit.shared));
      results = IfSome_then kept (if_there (λ (x : ResultWriterData). x.table ≡ table_at g.N.Naming.result_words s) kept (c.shows_laws.ensures.results s fit.of_plans.known)) (λ x its. c.requires.words.1 ∙ sym its);
    }

-- ---- the batch was committed

abbrev side : FullPass → SideData
side full = side_of full.pass

abbrev mark : NoteData → ℕ
mark note = note.mark

-- the house and the run before it and after it, how it was answered, and that the hall fits once what was drawn is noted
module _ (g : Over) (c : After-step_batch-answer g) where
  abbrev members : List (List (ℕ × ℕ))
  members = member_words c.args.batch

  abbrev old : Stage FullPass NoteData ResultWriterData
  old = record { house = c.self.inside.house; out = c.args.run; drawn = c.new-drawn.result.items }

  abbrev new : Stage FullPass NoteData ResultWriterData
  new = record { house = c.step_batch-answer.new.self; out = c.step_batch-answer.new.run; drawn = c.step_batch-answer.new.drawn.items }

  none : old.drawn ≡ []
  none = c.new-drawn.ensures.items

  did : Answers side mark g.N.Naming.plans old new members none c.step_batch-answer.result
  did = (c.step_batch-answer.ensures.commits, c.step_batch-answer.ensures.err)

  fit : (view : Option WriterData) → HasNoted new.drawn c.make_room.new.view view → HallFits g.N.Naming.plans g.N.Naming.words g.N.Naming.queues g.N.Naming.view new.house.core.past c.self.inside.takers.items view
  fit view noted =
      let N = g.N.Naming in
      let takers = c.self.inside.takers.items in
      let roomy = fits_room N.plans N.words N.queues N.view takers old.house.core.past c.self.inside.view c.make_room.new.view c.make_room.ensures.same c.self.invariant.fits in
      fits_batch side mark N.plans old new members none c.step_batch-answer.ensures.draws N.words N.queues N.view takers c.make_room.new.view view c.step_batch-answer.result did noted roomy

  -- the run that came home after some members, and after a batch that was answered
  part_back : GoneInPart side mark g.N.Naming.plans old new members → (outs : List Out) → outs ≡ with_out new.house.core.outs new.out.run.stream at_home → outs ≡ with_out old.house.core.outs old.out.run.stream at_home
  part_back part = back_part side mark g.N.Naming.plans old new members part

  batch_back : (next : Next) → Commits side mark g.N.Naming.plans old new members next → (outs : List Out) → outs ≡ with_out new.house.core.outs new.out.run.stream at_home → outs ≡ with_out old.house.core.outs old.out.run.stream at_home
  batch_back next done = back_committed side mark g.N.Naming.plans old new members next done

  -- the batch was answered so
  answered : (said to : Next) → said ≡ to → Commits side mark g.N.Naming.plans old new members said → Commits side mark g.N.Naming.plans old new members to
  answered said to is done = subst (Commits side mark g.N.Naming.plans old new members) is done

  -- the view is seen as before
  view_back : (view : Option WriterData) → HasNoted new.drawn c.make_room.new.view view → option_map view_front view ≡ option_map view_front c.self.inside.view
  view_back view noted = seen_noted new.drawn c.make_room.new.view view noted ∙ seen_same c.self.inside.view c.make_room.new.view c.make_room.ensures.same

  -- the run came home, and what was drawn is noted
  home : (core : CoreData) (view : Option WriterData) → HasNoted new.drawn c.make_room.new.view view → (how : Return) × CameHome g.N.Naming.plans old.house.core.past core.past c.args.run.run.stream c.args.run.run.order members how
      → core.outs ≡ with_out old.house.core.outs old.out.run.stream at_home → WentHome g.N.Naming.plans c.args.self.now (hall_seen core view) c.args.run.run members
  home core view noted came outs =
      subst (λ (d : HallData). WentHome g.N.Naming.plans d (hall_seen core view) c.args.run.run members) c.self.view_is record { how = came.0; came = came.1; outs = outs; view = view_back view noted }

  -- no run is paused once that of the batch is at home
  back : (outs : List Out) → outs ≡ with_out old.house.core.outs old.out.run.stream at_home → NoneIsPaused outs
  back outs home = none_set old.house.core.outs outs old.out.run.stream at_home home refl c.self.invariant.going

pub note_all-requires-clause-room : goal.note_all-requires-clause-room
note_all-requires-clause-room g c =
    let b = (goal.at.note_all-requires-clause-room g c).After-step_batch-answer in
    let few = few_ops side mark g.N.Naming.plans (old g b) (new g b) (members g b) (none g b) c.step_batch-answer.result (did g b) in
    let room : ViewHasRoom c.count.result c.make_room.new.view = c.in_default.ensures.room in
    let same = c.count.ensures.count in
    let many = length-map c.args.batch (λ (member : FetchedData). member.words) in
    fewer (length (new g b).drawn) c.count.result c.make_room.new.view (omega (arith, few, same, many)) room

pub note_all-requires-clause-texels : goal.note_all-requires-clause-texels
note_all-requires-clause-texels g c =
    let b = (goal.at.note_all-requires-clause-texels g c).After-step_batch-answer in
    whole_texels side mark g.N.Naming.plans (old g b) (new g b) (members g b) (none g b) c.step_batch-answer.ensures.draws

-- ---- memory was wanted for a step

pub invariant_of-self-in-Err-answer : goal.invariant_of-self-in-Err-answer
invariant_of-self-in-Err-answer g c =
    let N = g.N.Naming in
    let b = (goal.at.invariant_of-self-in-Err-answer g c).After-step_batch-answer in
    let s = (new g b).out.run.stream in
    let h = (new g b).house.core.past in
    record {
      fits = fits_while N.plans N.words N.queues N.view c.self.inside.takers.items c.note_all.new.view (Lost s Memory []) h c.lose-in-Err-answer.new.self.core.past (is_open (standing_of N.plans h s)) refl refl c.lose-in-Err-answer.ensures.event c.lose-in-Err-answer.ensures.over (fit g b c.note_all.new.view c.note_all.ensures);
      going = back g b c.lose-in-Err-answer.new.self.core.outs (part_back g b c.in-Err-answer.ensures.err c.lose-in-Err-answer.new.self.core.outs c.lose-in-Err-answer.ensures.outs);
    }

pub returns-in-Err-answer-clause-home : goal.returns-in-Err-answer-clause-home
returns-in-Err-answer-clause-home g c =
    let b = (goal.at.returns-in-Err-answer-clause-home g c).After-step_batch-answer in
    let now = c.lose-in-Err-answer.new.self.core in
    let part = c.in-Err-answer.ensures.err in
    home g b now c.note_all.new.view c.note_all.ensures
    (was_wanted side mark g.N.Naming.plans (old g b) (new g b) (members g b) now.past part c.lose-in-Err-answer.ensures.event c.lose-in-Err-answer.ensures.over)
    (part_back g b part now.outs c.lose-in-Err-answer.ensures.outs)

-- ---- the flush has more, or is at its end

pub invariant_of-self-in-More : goal.invariant_of-self-in-More
invariant_of-self-in-More g c =
    let b = (goal.at.invariant_of-self-in-More g c).After-step_batch-answer in
    let run = c.args.run.run in
    let done = answered g b c.in-Ok.next next.More c.in-More.is c.in-Ok.ensures.commits in
    record {
      fits = fit g b c.note_all.new.view c.note_all.ensures;
      going = none_set (old g b).house.core.outs (new g b).house.core.outs run.stream record { order = run.order; paused = false } done.outs refl c.self.invariant.going;
    }

pub returns-in-More-clause-ready : goal.returns-in-More-clause-ready
returns-in-More-clause-ready g c =
    let b = (goal.at.returns-in-More-clause-ready g c).After-step_batch-answer in
    let done = answered g b c.in-Ok.next next.More c.in-More.is c.in-Ok.ensures.commits in
    record { fits = c.shows_fit-in-More.ensures; going = done.moved.paused; list = c.in-Ok.ensures.ready (ap is_executed c.in-More.is) }

pub returns-in-More-clause-more : goal.returns-in-More-clause-more
returns-in-More-clause-more g c =
    let b = (goal.at.returns-in-More-clause-more g c).After-step_batch-answer in
    let done = answered g b c.in-Ok.next next.More c.in-More.is c.in-Ok.ensures.commits in
    subst (λ (d : HallData). WentOn g.N.Naming.plans d (hall_seen (new g b).house.core c.note_all.new.view) c.args.run.run (members g b) (new g b).out.run) c.self.view_is record {
      same = done.moved.stream;
      steps = record { still_open = done.still_open; valid = done.valid; waits = sym done.kept; steps = done.events };
      outs = done.outs;
      view = view_back g b c.note_all.new.view c.note_all.ensures;
    }

pub finish-requires : goal.finish-requires
finish-requires g c =
    let b = (goal.at.finish-requires g c).After-step_batch-answer in
    let keeps = c.step_batch-answer.ensures.keeps in
    let done = answered g b c.in-Ok.next next.FlushEnd c.in-FlushEnd.is c.in-Ok.ensures.commits in
    record {
      end = c.in-Ok.ensures.end.0 c.in-FlushEnd.is;
      going = done.moved.paused;
      belongs = keeps.still.beside;
      note = subst (λ (note : Option NoteData). IfSome note (IsNoteOf (new g b).out.side.pass c.args.words.now.0)) (sym done.met) tt;
      results = subst (ResultsBelong (λ (words : TableId × TableId) (x : ResultWriterData). words.1 ≡ x.table) c.args.words.now (new g b).house.results) (sym done.moved.stream) keeps.results.belong;
    }

pub invariant_of-self-in-FlushEnd : goal.invariant_of-self-in-FlushEnd
invariant_of-self-in-FlushEnd g c =
    let N = g.N.Naming in
    let b = (goal.at.invariant_of-self-in-FlushEnd g c).After-step_batch-answer in
    let s = (new g b).out.run.stream in
    let h = (new g b).house.core.past in
    record {
      fits = fits_while N.plans N.words N.queues N.view c.self.inside.takers.items c.note_all.new.view (Finish s (new g b).out.run.order) h c.finish.new.self.core.past (is_open (standing_of N.plans h s)) refl refl c.finish.ensures.event c.finish.ensures.over (fit g b c.note_all.new.view c.note_all.ensures);
      going = back g b c.finish.new.self.core.outs (batch_back g b c.in-Ok.next c.in-Ok.ensures.commits c.finish.new.self.core.outs c.finish.ensures.outs);
    }

pub returns-in-FlushEnd-clause-home : goal.returns-in-FlushEnd-clause-home
returns-in-FlushEnd-clause-home g c =
    let b = (goal.at.returns-in-FlushEnd-clause-home g c).After-step_batch-answer in
    let now = c.finish.new.self.core in
    let done = answered g b c.in-Ok.next next.FlushEnd c.in-FlushEnd.is c.in-Ok.ensures.commits in
    home g b now c.note_all.new.view c.note_all.ensures (was_ended side mark g.N.Naming.plans (old g b) (new g b) (members g b) now.past done c.finish.ensures.event)
    (batch_back g b c.in-Ok.next c.in-Ok.ensures.commits now.outs c.finish.ensures.outs)

-- ---- the run comes home

pub back-requires : goal.back-requires
back-requires g c =
    let b = (goal.at.back-requires g c).After-step_batch-answer in
    record { list = may_come_back side mark g.N.Naming.plans (old g b) (new g b) (members g b) c.in-Ok.next c.in-Ok.ensures.commits c.in-Ok.ensures.ready }

pub invariant_of-self-in_default-next : goal.invariant_of-self-in_default-next
invariant_of-self-in_default-next g c =
    let N = g.N.Naming in
    let b = (goal.at.invariant_of-self-in_default-next g c).After-step_batch-answer in
    record {
      fits = fits_same N.plans N.words N.queues N.view c.self.inside.takers.items c.note_all.new.view (new g b).house.core.past c.back.new.self.core.past c.back.ensures.past (fit g b c.note_all.new.view c.note_all.ensures);
      going = back g b c.back.new.self.core.outs (batch_back g b c.in-Ok.next c.in-Ok.ensures.commits c.back.new.self.core.outs c.back.ensures.outs);
    }

pub returns-in_default-next-clause-home : goal.returns-in_default-next-clause-home
returns-in_default-next-clause-home g c =
    let b = (goal.at.returns-in_default-next-clause-home g c).After-step_batch-answer in
    let now = c.back.new.self.core in
    home g b now c.note_all.new.view c.note_all.ensures
    (came_back side mark g.N.Naming.plans (old g b) (new g b) (members g b) c.in-Ok.next now.past c.in_default-next.not-More c.in_default-next.not-FlushEnd c.back.ensures.past c.in-Ok.ensures.commits)
    (batch_back g b c.in-Ok.next c.in-Ok.ensures.commits now.outs c.back.ensures.outs)
