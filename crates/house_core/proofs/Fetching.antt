-- What was fetched for a run lets a step obey the rules, or a loss by an error.
use Rattle.std.proofs.Common.{◌≡◌, ◌≢◌, ℕ, true, false, length, Ok, Err, IsOk, List, [], ◌∷◌, refl, sym, ap, subst, ◌∙◌}
use Rattle.std.specs.List.{All}
use Rattle.gpu_cmd.specs.declared.command.Command.{Command}
use Rattle.gpu_cmd.specs.declared.error.CmdError.{CmdError}
use Rattle.gpu_cmd.specs.declared.facts.StreamFacts.{StreamFacts}
use Rattle.gpu_cmd.specs.Copied.{fetched_places, places_listed}
use Rattle.gpu_plan.specs.Plans.{PlansData, plan_of}
use Rattle.gpu_plan.specs.Passes.{bound}
use Rattle.gpu_plan.specs.MayHold.{MayHold}
use Rattle.sync_core.specs.Standing.{IsKnown, is_open}
use Rattle.gpu_journal.specs.declared.event.Event.{Event}
use Rattle.gpu_journal.specs.declared.event.Event.TheVariants.{Step, Lost}
use Rattle.gpu_journal.specs.declared.event.Why.TheVariants.{Error}
use Rattle.gpu_journal.specs.World.{known}
use Rattle.gpu_journal.specs.Waits.{IsOpen, standing_of}
use Rattle.gpu_journal.specs.Facts.{flush_of, facts_at, verdict_at, reach}
use Rattle.gpu_journal.specs.Legal.{MayHaveBeenPut, Obeys, IsLegal}
use Rattle.serial_laws.specs.Scripts.{AreLawfulPlans}
use Rattle.serial_laws.specs.Runs.{MayGoOn}
use Rattle.serial_laws.proofs.Rules.{step_obeys, error_obeys}
use Rattle.serial_laws.proofs.Tokens.{reach_is}
use Rattle.house_core.specs.Desks.{RunData}
use Rattle.house_core.specs.Core.{IsRunOf, MayHavePut}

-- the words were fetched for a run that may go on, whose stream is open, from their places, and may have been put
pub record IsFetchedFor (p : PlansData) (h : List Event) (run : RunData) (facts : StreamFacts) (words : List (ℕ × ℕ)) : Type 0 where
  pub still_open : IsOpen p h run.stream
  pub shows : IsRunOf p h run
  pub runs : MayGoOn p h run.stream run.order false
  pub same : facts ≡ run.facts
  pub more : facts.get ≢ facts.put
  pub places : places_listed words ≡ fetched_places words facts
  pub put : All (MayHavePut p run) words

-- what the house met and what was fetched say so
pub fetched_for : (p : PlansData) (h : List Event) (run : RunData) (facts : StreamFacts) (found words : List (ℕ × ℕ)) → IsKnown (length p.plans) run.stream → is_open (standing_of p h run.stream) ≡ true
    → (is_open (standing_of p h run.stream) ≡ true → IsRunOf p h run) → MayGoOn p h run.stream run.order run.paused → run.paused ≡ false → facts ≡ run.facts → facts.get ≢ facts.put → places_listed found ≡ fetched_places found facts → found ≡ words
    → All (MayHavePut p run) words → IsFetchedFor p h run facts words
fetched_for p h run facts found words known open' shows runs going same more places is put = record {
  still_open = record { known = known; stays = open' };
  shows = shows open';
  runs = subst (MayGoOn p h run.stream run.order) going runs;
  same = same;
  more = more;
  places = subst (λ (words : List (ℕ × ℕ)). places_listed words ≡ fetched_places words facts) is places;
  put = put;
}

module _ (p : PlansData) (h : List Event) (run : RunData) (facts : StreamFacts) (words : List (ℕ × ℕ)) (is : IsFetchedFor p h run facts words) where
  facts_are : facts ≡ facts_at p h run.stream
  facts_are = is.same ∙ is.shows.facts

  more_left : (facts_at p h run.stream).get ≢ (facts_at p h run.stream).put
  more_left = subst (λ (facts : StreamFacts). facts.get ≢ facts.put) facts_are is.more

  from_places : places_listed words ≡ fetched_places words (facts_at p h run.stream)
  from_places = is.places ∙ ap (fetched_places words) facts_are

  reached : bound (plan_of p run.stream).actions run.finished (run.greatest ∷ []) ≡ reach p h run.stream
  reached =
      ap (λ (n : ℕ). bound (plan_of p run.stream).actions n (run.greatest ∷ [])) is.shows.finished
      ∙ ap (λ (token : ℕ). bound (plan_of p run.stream).actions (known p h run.stream).finished (token ∷ [])) is.shows.greatest ∙ sym (reach_is p h run.stream)

  were_put : All (MayHaveBeenPut p h run.stream) words
  were_put =
      subst (λ (most : ℕ). All (λ word. MayHold (plan_of p run.stream).actions (flush_of p h run.stream) most word.0 word.1) words) reached
      (subst (λ (least : ℕ). All (λ word. MayHold (plan_of p run.stream).actions least (bound (plan_of p run.stream).actions run.finished (run.greatest ∷ [])) word.0 word.1) words) is.shows.place is.put)

  pub fetched_step_obeys : (command : Command) → AreLawfulPlans p → IsLegal p h → verdict_at p h run.stream words ≡ Ok command → Obeys p h (Step run.stream words)
  fetched_step_obeys command lawful legal verdict = step_obeys p h run.stream run.order words lawful legal is.still_open is.runs more_left from_places were_put (subst IsOk (sym verdict) refl)

  pub fetched_error_obeys : (error : CmdError) → AreLawfulPlans p → IsLegal p h → verdict_at p h run.stream words ≡ Err error → Obeys p h (Lost run.stream (Error error) words)
  fetched_error_obeys error lawful legal verdict = error_obeys p h run.stream run.order error words lawful legal is.still_open is.runs more_left from_places were_put verdict
