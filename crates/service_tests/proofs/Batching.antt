-- One turn of a run of the one stream that takes a batch.
use Rattle.std.proofs.Common.{◌≡◌, ℕ, true, false, Option, None, List, length, refl, sym, subst, ◌∙◌}
use Rattle.gpu_plan.specs.Plans.{PlansData}
use Rattle.gpu_fetch.specs.Side.{SideData}
use Rattle.gpu_house.specs.Slots.{SlotData, slot_at}
use Rattle.gpu_house.specs.Changes.{ResultsBelong}
use Rattle.gpu_house.specs.Stepping.{KeepsBeside}
use Rattle.gpu_house.specs.Committing.{Stage, AreDone, Commits, is_executed}
use Rattle.gpu_house.specs.declared.answers.Next.{Next}
use Rattle.gpu_house.specs.declared.answers.Next.TheVariants.{More, Paused, FlushEnd, Invalid, Closed}
use Rattle.gpu_house.specs.declared.answers.Next.TheVariants as nexts
use Rattle.gpu_house.proofs.Going.{goes_further}
use Rattle.service_tests.specs.Alone.{AllBelong, IsOutAlone}
use Rattle.service_tests.proofs.Belonging.{still}

never : {T : Type 0} → false ≡ true → T
never e = absurd (cc)

module _ {Side Note Results Words : Type 0} (belongs : Side → Words → Type 0) (note_belongs : Side → Words → Note → Type 0) (results_belong : Words → Results → Type 0) (seen : Side → SideData) (words : Words) where
  module _ (p : PlansData) (old new : Stage Side Note Results) (members : List (List (ℕ × ℕ))) (one : old.out.run.stream ≡ 1) (were : AllBelong belongs note_belongs words old.out.side None (slot_at old.house.slots 1).notes)
      (keeps : KeepsBeside seen belongs note_belongs results_belong words old.house new.house old.out new.out) where
    results_now : ResultsBelong results_belong words new.house.results 1
    results_now = subst (λ (t : ℕ). ResultsBelong results_belong words new.house.results t) one keeps.results.belong

    all_now : new.out.note ≡ None → AllBelong belongs note_belongs words new.out.side new.out.note (slot_at new.house.slots 1).notes
    all_now met =
        subst (λ (o : Option Note). AllBelong belongs note_belongs words new.out.side o (slot_at new.house.slots 1).notes) (sym met)
        (subst (λ (row : List (SlotData Side Note)). AllBelong belongs note_belongs words new.out.side None (slot_at row 1).notes) (sym keeps.slots) (still belongs note_belongs results_belong words old.out.side new.out.side None (slot_at old.house.slots 1).notes keeps.still were))

    module _ (mark : Note → ℕ) where
      -- all were executed
      done : AreDone seen mark p old new members false → length (seen new.out.side).fetched ≡ new.out.run.facts.fetched → IsOutAlone belongs note_belongs results_belong seen words new.house new.out
      done are ready = record { stream = are.moved.stream ∙ one; going = are.moved.paused; list = ready; all = all_now are.met; results = results_now }

      -- a run that goes on is still out
      pub committed : (next : Next) → Commits seen mark p old new members next → (is_executed next ≡ true → length (seen new.out.side).fetched ≡ new.out.run.facts.fetched) → goes_further next ≡ true → IsOutAlone belongs note_belongs results_belong seen words new.house new.out
      committed More is ready on = done is (ready refl)
      committed FlushEnd is ready on = done is (ready refl)
      committed Paused is ready on = never on
      committed (Invalid error) is ready on = never on
      committed nexts.Lost is ready on = never on
      committed Closed is ready on = never on
