-- The event of a run, by what its commands say.
use Rattle.std.proofs.Common.{◌≡◌, ◌≢◌, ℕ, eqb, Bool, true, cond, Some, Result, Ok, Err, List, [], ◌∷◌, refl, sym, ap, ◌∙◌, IsOk}
use Rattle.std.proofs.lemmas.Bool.{ne_eqb, eq-eqb}
use Rattle.std.specs.List.{All}
use Rattle.gpu_cmd.specs.declared.command.Command.{Command}
use Rattle.gpu_cmd.specs.declared.error.CmdError.{CmdError}
use Rattle.gpu_cmd.specs.declared.facts.StreamFacts.{StreamFacts}
use Rattle.gpu_cmd.specs.Copied.{fetched, fetched_places, places_listed}
use Rattle.gpu_cmd.proofs.Memories.{words_of_memory}
use Rattle.gpu_plan.specs.Plans.{PlansData, PlanData, plan_of}
use Rattle.gpu_plan.specs.Values.{value_at}
use Rattle.gpu_fetch.specs.Plain.{PlainData, IsValueOfPlace}
use Rattle.sync_core.specs.declared.wait.Number.{Number}
use Rattle.sync_core.specs.Standing.{first_order, front_of}
use Rattle.gpu_journal.specs.declared.event.Event.{Event}
use Rattle.gpu_journal.specs.declared.event.Event.TheVariants.{Step, Finish, Lost}
use Rattle.gpu_journal.specs.declared.event.Why.TheVariants.{Error}
use Rattle.gpu_journal.specs.Waits.{left_of, front}
use Rattle.gpu_journal.specs.Facts.{facts_at, verdict_at}
use Rattle.gpu_journal.specs.Serial.{count, judged_event, next_words, run_event}

-- words of the places to be fetched, with the values that the client has put, are those of the rule
pub next_is_found : (p : PlansData) (h : List Event) (s : ℕ) (w : PlainData) (found : List (ℕ × ℕ)) (facts : StreamFacts) → places_listed found ≡ fetched_places found facts → All (IsValueOfPlace w) found → w.plan ≡ plan_of p s → w.done ≡ count p h s → facts ≡ facts_at p h s
    → found ≡ next_words p h s
next_is_found p h s w found facts places held plan done is =
    words_of_memory (value_at w.plan.actions w.done) found facts places held
    ∙ ap (λ (q : PlanData). fetched (value_at q.actions w.done) facts) plan
    ∙ ap (λ (n : ℕ). fetched (value_at (plan_of p s).actions n) facts) done
    ∙ ap (fetched (value_at (plan_of p s).actions (count p h s))) is

-- where nothing is left of the flush, it is the finish of the first number
pub event_finish : (p : PlansData) (h : List Event) (s n : ℕ) → first_order (left_of p h s) ≡ Some n → (facts_at p h s).get ≡ (facts_at p h s).put → run_event p h s ≡ Finish s n
event_finish p h s n first same =
    let at : eqb (facts_at p h s).get (facts_at p h s).put ≡ true = ap (λ (k : ℕ). eqb k (facts_at p h s).put) same ∙ eq-eqb (facts_at p h s).put (facts_at p h s).put refl in
    ap (λ (b : Bool). cond b (Finish s (front p h s)) (judged_event s (next_words p h s) (verdict_at p h s (next_words p h s)))) at ∙ ap (Finish s) (by (left_of p h s) first)
  where
    by : (xs : List Number) → first_order xs ≡ Some n → front_of xs ≡ n
    by [] e = absurd (cc)
    by (x ∷ xs) e = let is : x.order ≡ n = cc in is

-- else what its words say
event_judged : (p : PlansData) (h : List Event) (s : ℕ) (words : List (ℕ × ℕ)) → words ≡ next_words p h s → (facts_at p h s).get ≢ (facts_at p h s).put → run_event p h s ≡ judged_event s words (verdict_at p h s words)
event_judged p h s words is more =
    ap (λ (b : Bool). cond b (Finish s (front p h s)) (judged_event s (next_words p h s) (verdict_at p h s (next_words p h s)))) (ne_eqb (facts_at p h s).get (facts_at p h s).put more)
    ∙ ap (λ (w : List (ℕ × ℕ)). judged_event s w (verdict_at p h s w)) (sym is)

pub event_step : (p : PlansData) (h : List Event) (s : ℕ) (words : List (ℕ × ℕ)) → words ≡ next_words p h s → (facts_at p h s).get ≢ (facts_at p h s).put → IsOk (verdict_at p h s words) → run_event p h s ≡ Step s words
event_step p h s words is more valid = event_judged p h s words is more ∙ by (verdict_at p h s words) valid
  where
    by : (r : Result Command CmdError) → IsOk r → judged_event s words r ≡ Step s words
    by (Ok command) e = refl
    by (Err error) e = absurd (cc)

pub event_lost : (p : PlansData) (h : List Event) (s : ℕ) (words : List (ℕ × ℕ)) (error : CmdError) → words ≡ next_words p h s → (facts_at p h s).get ≢ (facts_at p h s).put → verdict_at p h s words ≡ Err error → run_event p h s ≡ Lost s (Error error) words
event_lost p h s words error is more refused = event_judged p h s words is more ∙ ap (judged_event s words) refused
