-- One turn of a run of the one stream.
use Rattle.std.proofs.Common.{◌≡◌, ℕ, ◌+◌, Bool, true, false, not, Option, None, List, [], ◌∷◌, ◌++◌, length, drop, refl, sym, ap, subst, ◌∙◌, arith}
use Rattle.std.specs.Prelude.{IfSome}
use Rattle.std.proofs.Math.Seq.{drop-append_seam}
use Rattle.std.proofs.lemmas.Bool.{not-true}
use Rattle.std.proofs.lemmas.List.{length-append, append-nil}
use Rattle.gpu_cmd.specs.declared.error.CmdError.{CmdError}
use Rattle.gpu_plan.specs.Plans.{PlansData}
use Rattle.gpu_fetch.specs.Side.{SideData}
use Rattle.gpu_fetch.specs.Fetched.{FetchedData}
use Rattle.sync_core.specs.Standing.{is_open}
use Rattle.gpu_journal.specs.declared.event.Event.{Event}
use Rattle.gpu_journal.specs.declared.event.Event.TheVariants.{Lost}
use Rattle.gpu_journal.specs.declared.event.Why.TheVariants.{Error}
use Rattle.gpu_journal.specs.Waits.{standing_of}
use Rattle.serial_laws.proofs.Going.{lost_ends}
use Rattle.house_core.specs.Desks.{RunData}
use Rattle.house_core.specs.Answers.{IsMovedBy}
use Rattle.gpu_house.specs.Slots.{SlotData, slot_at}
use Rattle.gpu_house.specs.House.{HouseData, OutData}
use Rattle.gpu_house.specs.Changes.{Same, ResultsBelong}
use Rattle.gpu_house.specs.Fetching.{HasMetNote}
use Rattle.gpu_house.specs.Stepping.{MayStep, KeepsBeside}
use Rattle.gpu_house.specs.Steps.{Steps}
use Rattle.gpu_house.specs.declared.answers.Next.{Next}
use Rattle.gpu_house.specs.declared.answers.Next.TheVariants.{More, Paused, FlushEnd, Invalid, Closed}
use Rattle.gpu_house.specs.declared.answers.Next.TheVariants as nexts
use Rattle.gpu_house.proofs.Going.{goes_further, not_lost, not_closed}
use Rattle.service_tests.specs.Alone.{AllBelong, IsOutAlone}
use Rattle.service_tests.proofs.Belonging.{still}

-- ---- the answers of a step

module _ {Side Note Results Words : Type 0} (belongs : Side → Words → Type 0) (note_belongs : Side → Words → Note → Type 0) (results_belong : Words → Results → Type 0) (seen : Side → SideData) (words : Words) where
  -- a run that has fetched the words of its next command
  pub record HasFetched (house : HouseData Side Note Results) (out : OutData Side Note) (found : List (ℕ × ℕ)) : Type 0 where
    pub stream : out.run.stream ≡ 1
    pub going : out.run.paused ≡ false
    pub count : length (seen out.side).fetched ≡ out.run.facts.fetched + length found
    pub met : out.note ≡ None
    pub all : AllBelong belongs note_belongs words out.side None (slot_at house.slots 1).notes
    pub results : ResultsBelong results_belong words house.results 1

  pub fetched : (house : HouseData Side Note Results) (old new : OutData Side Note) (found : List (ℕ × ℕ)) → IsOutAlone belongs note_belongs results_belong seen words house old → HasMetNote belongs note_belongs words old new → (seen new.side).fetched ≡ (seen old.side).fetched ++ found → HasFetched house new found
  fetched house old new found out has grows = record {
    stream = ap (λ (r : RunData). r.stream) has.run ∙ out.stream;
    going = ap (λ (r : RunData). r.paused) has.run ∙ out.going;
    count =
        let facts : new.run.facts.fetched ≡ old.run.facts.fetched = ap (λ (r : RunData). r.facts.fetched) has.run in
        let l = ap length grows in
        let sum = length-append (seen old.side).fetched found in
        let was = out.list in
        omega (arith, l, sum, was, facts);
    met = has.met;
    all = still belongs note_belongs results_belong words old.side new.side old.note (slot_at house.slots 1).notes has.still out.all;
    results = out.results;
  }

  -- so it may step on them
  pub may_step : (house : HouseData Side Note Results) (old new : OutData Side Note) (found : FetchedData) → IsOutAlone belongs note_belongs results_belong seen words house old → HasMetNote belongs note_belongs words old new → (seen new.side).fetched ≡ (seen old.side).fetched ++ found.words → found.facts ≡ old.run.facts
      → MayStep seen belongs note_belongs results_belong words house new found
  may_step house old new found out has grows facts =
      let all = still belongs note_belongs results_belong words old.side new.side old.note (slot_at house.slots 1).notes has.still out.all in
      record {
        going = ap (λ (r : RunData). r.paused) has.run ∙ out.going;
        facts = facts ∙ ap (λ (r : RunData). r.facts) (sym has.run);
        list = record {
          rest = [];
          next = (λ i. drop (has.run i).facts.fetched (grows i)) ∙ ap (λ (n : ℕ). drop n ((seen old.side).fetched ++ found.words)) (sym out.list) ∙ drop-append_seam (seen old.side).fetched found.words ∙ sym (append-nil found.words);
          ended = λ _. refl;
        };
        beside = all.its_side;
        note = subst (λ (o : Option Note). IfSome o (note_belongs new.side words)) (sym has.met) tt;
        results = subst (ResultsBelong results_belong words house.results) (sym (ap (λ (r : RunData). r.stream) has.run ∙ out.stream)) out.results;
      }

  -- what a step leaves
  pub record HasStepped (p : PlansData) (new : HouseData Side Note Results) (now : OutData Side Note) (more : Bool) : Type 0 where
    pub on : more ≡ true → IsOutAlone belongs note_belongs results_belong seen words new now
    pub list : is_open (standing_of p new.core.past now.run.stream) ≡ true → length (seen now.side).fetched ≡ now.run.facts.fetched

  module _ (p : PlansData) (house new : HouseData Side Note Results) (run now : OutData Side Note) (found : List (ℕ × ℕ)) (has : HasFetched house run found)
      (keeps : KeepsBeside seen belongs note_belongs results_belong words house new run now) where
    abbrev h : List Event
    h = house.core.past

    abbrev s : ℕ
    s = run.run.stream

    results_now : ResultsBelong results_belong words new.results 1
    results_now = subst (λ (t : ℕ). ResultsBelong results_belong words new.results t) has.stream keeps.results.belong

    all_now : now.note ≡ None → AllBelong belongs note_belongs words now.side now.note (slot_at new.slots 1).notes
    all_now met =
        subst (λ (o : Option Note). AllBelong belongs note_belongs words now.side o (slot_at new.slots 1).notes) (sym met)
        (subst (λ (row : List (SlotData Side Note)). AllBelong belongs note_belongs words now.side None (slot_at row 1).notes) (sym keeps.slots) (still belongs note_belongs results_belong words run.side now.side None (slot_at house.slots 1).notes keeps.still has.all))

    stepped_done : (kept : Bool) → IsMovedBy run.run now.run found kept → now.note ≡ None → HasStepped p new now (not kept)
    stepped_done kept moved met =
        let fetches : length (seen now.side).fetched ≡ now.run.facts.fetched = (let l = ap length keeps.list in let old = has.count in let more = moved.fetched in omega (arith, l, old, more)) in
        record {
          on = λ m. record { stream = moved.stream ∙ has.stream; going = moved.paused ∙ not-true kept m; list = fetches; all = all_now met; results = results_now };
          list = λ _. fetches;
        }

    stepped_lost : (error : CmdError) → new.core.past ≡ Lost s (Error error) found ∷ h → now.run ≡ run.run → HasStepped p new now false
    stepped_lost error past same =
        let stream : now.run.stream ≡ s = ap (λ (r : RunData). r.stream) same in
        record {
          on = λ m. absurd (cc);
          list = λ o.
              let ends : is_open (standing_of p new.core.past now.run.stream) ≡ false = subst (λ (u : ℕ). is_open (standing_of p new.core.past u) ≡ false) (sym stream) (subst (λ (g : List Event). is_open (standing_of p g s) ≡ false) (sym past) (lost_ends p h s (Error error) found)) in
              absurd (cc);
        }

    stepped_over : (is_open (standing_of p h s) ≡ true → ⊥) → Same house new → now ≡ run → HasStepped p new now false
    stepped_over over same is =
        let stream : now.run.stream ≡ s = ap (λ (o : OutData Side Note). o.run.stream) is in
        record {
          on = λ m. absurd (cc);
          list = λ o. absurd (over (subst (λ (u : ℕ). is_open (standing_of p h u) ≡ true) stream (subst (λ (g : List Event). is_open (standing_of p g now.run.stream) ≡ true) same.past o)));
        }

    -- whatever was answered
    pub stepped : (mark : Note → ℕ) (next : Next) → Steps seen mark p house new run now found next → HasStepped p new now (goes_further next)
    stepped mark More is = stepped_done false is.moved is.met
    stepped mark Paused is = stepped_done true is.moved is.met
    stepped mark FlushEnd is = stepped_done false is.moved is.met
    stepped mark (Invalid error) is = stepped_lost error is.event is.run
    stepped mark nexts.Lost is = stepped_over (λ o. not_lost (standing_of p h s) o is.is_over) is.same is.run
    stepped mark Closed is = stepped_over (λ o. not_closed (standing_of p h s) o is.is_over.1) is.same is.run
