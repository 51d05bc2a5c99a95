-- A hall fits its journal again once a batch was committed and what it drew was noted.
use Rattle.std.proofs.Common.{◌≡◌, ℕ, ◌≤◌, Bool, Option, Some, None, List, [], ◌∷◌, ◌++◌, length, refl, sym, ap, subst, ◌∙◌, arith, length-append}
use Rattle.std.specs.Prelude.{Result, Ok, Err, IfOk, IfErr, option_to_list}
use Rattle.std.specs.List.{All}
use Rattle.atomic_table.specs.Seated.{TableId}
use Rattle.logbook.specs.Pages.{Book}
use Rattle.gpu_store.specs.declared.op.Op.{Op}
use Rattle.gpu_store.specs.Images.{HasItsTexels}
use Rattle.gpu_plan.specs.Plans.{PlansData}
use Rattle.gpu_fetch.specs.Side.{SideData}
use Rattle.flush_queue.specs.Seen.{EndData}
use Rattle.live_view.specs.Seen.{WriterData}
use Rattle.gpu_journal.specs.declared.event.Event.{Event}
use Rattle.gpu_journal.specs.declared.event.Event.TheVariants as event
use Rattle.gpu_journal.specs.World.{replay}
use Rattle.gpu_house.specs.declared.answers.Next.{Next}
use Rattle.gpu_house.specs.declared.answers.Next.TheVariants as next
use Rattle.gpu_house.specs.Drawing.{drawn_at}
use Rattle.gpu_house.specs.Committing.{drawn_by_steps, TellsDrawn, Stage, AreDone, HaveGone, GoneInPart, Commits}
use Rattle.gpu_hall.specs.Takers.{QueuesFit}
use Rattle.gpu_hall.specs.Views.{IsVersionOf, HasNoted, HallFits}
use Rattle.gpu_hall.proofs.Takers.{takers_event}
use Rattle.gpu_hall.proofs.Committed.{IsKept, kept_committed, kept_part}
use Rattle.gpu_hall.proofs.Viewed.{versions_more, view_noted}

-- ---- no more is drawn than there are members

at_most_one : (o : Option Op) → length (option_to_list o) ≤ 1
at_most_one None = omega arith
at_most_one (Some op) = omega arith

few_drawn : (p : PlansData) (s : ℕ) (ws : List (List (ℕ × ℕ))) (h : List Event) → length (drawn_by_steps p s ws h) ≤ length ws
few_drawn p s [] h = omega arith
few_drawn p s (words ∷ ws) h =
    let one = at_most_one (drawn_at p h s words) in
    let more = few_drawn p s ws (event.Step s words ∷ h) in
    let both = length-append (option_to_list (drawn_at p h s words)) (drawn_by_steps p s ws (event.Step s words ∷ h)) in
    omega (arith, one, more, both)

module _ {Side Note Results : Type 0} (side : Side → SideData) (mark : Note → ℕ) (p : PlansData) (old new : Stage Side Note Results) (members : List (List (ℕ × ℕ))) (none : old.drawn ≡ []) where
  abbrev Few : Stage Side Note Results → List (List (ℕ × ℕ)) → Type 0
  Few now ws = length now.drawn ≤ length ws

  few_done : (now : Stage Side Note Results) (ws : List (List (ℕ × ℕ))) (paused : Bool) → AreDone side mark p old now ws paused → Few now ws
  few_done now ws paused done =
      let is : length now.drawn ≡ length (drawn_by_steps p old.out.run.stream ws old.house.core.past) = ap length done.drawn ∙ ap (λ (l : List Op). length (l ++ drawn_by_steps p old.out.run.stream ws old.house.core.past)) none in
      let few = few_drawn p old.out.run.stream ws old.house.core.past in
      omega (arith, is, few)

  few_gone : (now : Stage Side Note Results) (ws : List (List (ℕ × ℕ))) → HaveGone side mark p old now ws → Few now ws
  few_gone now [] still = let is : length now.drawn ≡ 0 = ap length (still.drawn ∙ none) in omega (arith, is)
  few_gone now (w ∷ ws) done = few_done now (w ∷ ws) _ done

  few_first : (now : Stage Side Note Results) (first rest : List (List (ℕ × ℕ))) → members ≡ first ++ rest → Few now first → Few now members
  few_first now first rest those few = let both = length-append first rest in let is = ap length those in omega (arith, both, is, few)

  few_committed : (answer : Next) → Commits side mark p old new members answer → Few new members
  few_committed next.More done = few_done new members _ done
  few_committed next.Paused done = few_done new members _ done
  few_committed next.FlushEnd done = few_done new members _ done
  few_committed (next.Invalid error) lost = let is = ap length lost.drawn in let few = few_first lost.between lost.first (lost.words ∷ lost.rest) lost.those (few_gone lost.between lost.first lost.gone) in omega (arith, is, few)
  few_committed next.Lost over = few_first new [] members refl (few_gone new [] over.still)
  few_committed next.Closed over = few_first new [] members refl (few_gone new [] over.still)

  -- ---- however the batch was answered

  abbrev pub Answers : {Fault : Type 0} → Result Next Fault → Type 0
  Answers answer = IfOk answer (Commits side mark p old new members) × IfErr answer (λ _. GoneInPart side mark p old new members)

  pub few_ops : {Fault : Type 0} (answer : Result Next Fault) → Answers answer → Few new members
  few_ops (Ok next) did = few_committed next did.0
  few_ops (Err fault) did = few_first new did.1.first did.1.rest did.1.those (few_gone new did.1.first did.1.gone)

  kept_batch : {Fault : Type 0} (F : List Event → Type 0) → IsKept F → (answer : Result Next Fault) → Answers answer → F old.house.core.past → F new.house.core.past
  kept_batch F keeps (Ok next) did f = kept_committed side mark p old new members F keeps next did.0 f
  kept_batch F keeps (Err fault) did f = kept_part side mark p old new members F keeps did.1 f

  module _ (told : TellsDrawn (replay p old.house.core.past) (replay p new.house.core.past) old.drawn new.drawn) where
    told_all : TellsDrawn (replay p old.house.core.past) (replay p new.house.core.past) [] new.drawn
    told_all = subst (λ (before : List Op). TellsDrawn (replay p old.house.core.past) (replay p new.house.core.past) before new.drawn) none told

    pub whole_texels : All HasItsTexels new.drawn
    whole_texels = subst (All HasItsTexels) (sym told_all.told) told_all.texels

    pub fits_batch : {Fault : Type 0} (words queues : List TableId) (view : Book) (takers : List EndData) (was now : Option WriterData) (answer : Result Next Fault) → Answers answer
        → HasNoted new.drawn was now → HallFits p words queues view old.house.core.past takers was → HallFits p words queues view new.house.core.past takers now
    fits_batch words queues view takers was now answer did noted fit = record {
      queues = kept_batch (λ h. QueuesFit p words queues h takers) (takers_event p words queues takers) answer did fit.queues;
      view = view_noted p view old.house.core.past new.house.core.past new.drawn was now
          (λ versions. kept_batch (λ h. All (IsVersionOf p h) versions) (λ e h not_order. versions_more p versions e h) answer did) told_all noted fit.view;
    }
