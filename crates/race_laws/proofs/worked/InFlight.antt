-- A client overwrites a word in flight: one run takes the old value, and another one the new.
use Rattle.std.proofs.Common.{◌≡◌, ℕ, true, List, [], ◌∷◌, Ok, refl, sym, ap, ◌∙◌, arith, ◌++◌, ◌⊎◌, ⊎_elim, length, length-append}
use Rattle.std.specs.Prelude.{codes}
use Rattle.gpu_plan.specs.declared.plan.Action.TheVariants.{Put, Flush}
use Rattle.gpu_plan.specs.Plans.{PlansData, plan_of}
use Rattle.stream_state.specs.State.{State}
use Rattle.gpu_journal.specs.declared.event.Event.{Event}
use Rattle.gpu_journal.specs.declared.event.Event.TheVariants.{Order, Step, Finish}
use Rattle.gpu_cmd.specs.Checks.{headed, checked, decoded}
use Rattle.gpu_cmd.specs.Copied.{judged, places_read, copied, fetched_places, value_in}
use Rattle.gpu_cmd.specs.Table.{row_of}
use Rattle.gpu_store.specs.Images.{outcome, apply}
use Rattle.gpu_store.specs.Picture.{painted, redrawn}
use Rattle.stream_state.specs.Steps.{command_in, asked, effect_of, acted, stepped, effect}
use Rattle.stream_state.specs.Verdict.{checked_state, verdict}
use Rattle.gpu_journal.specs.World.{world, state_of}
use Rattle.gpu_journal.specs.Waits.{sync_of}
use Rattle.gpu_plan.specs.Text.{lines_of, words_of}
use Rattle.gpu_plan.specs.Numbers.{number_said}
use Rattle.gpu_plan.specs.Naming.{named_on, named_in}
use Rattle.gpu_plan.specs.Said.{none_said, one_said, two_said, numbered_said, named_said, put_said, fill_said, pairs_of, named_fence, triples_of, flush_said}
use Rattle.gpu_plan.specs.Adding.{with_line, with_stream, may_follow, added, acting, fresh, with_memory, with_results, spans_with, with_puts, with_fill, with_flush, with_finish, with_token, with_close, with_dump}
use Rattle.gpu_plan.specs.Script.{script_of, from_head, from_version, from_body, numbered}
use Rattle.serial_laws.specs.Scripts.{AreLawfulPlans}
use Rattle.gpu_journal.specs.Legal.{IsLegal}
use Rattle.race_laws.specs.Works.{Work, Executed, Finished, works, IsFront}
use Rattle.race_laws.specs.Settled.{ClosesFinished}
use Rattle.race_laws.specs.Touches.{AreApart, Fits}
use Rattle.race_laws.specs.Alike.{ConflictsAlike}
use Rattle.race_laws.proofs.Orders.{apart_alike}
use Rattle.race_laws.specs.Laws.{IsWhole, LeaveTheSame}
use Rattle.race_laws.proofs.worked.Said.{stream_of, lawful_from}
use Rattle.race_laws.proofs.worked.Tests.{is_whole, whole_from, closes_from}

-- a token of 1, whose word becomes 2 after the flush
abbrev text : List ℕ
text = codes "gpu-script 1\nstream 1 normal 16\nput 0 00200002 1\nflush 2\nput 1 2\n"

abbrev plans : PlansData
plans = record { version = 1; plans = stream_of 1 (Put 0 2097154 ∷ Put 1 1 ∷ Flush 2 [] ∷ Put 1 2 ∷ []) ∷ [] }

read : script_of text ≡ Ok plans
unfolding lines_of words_of number_said named_on named_in none_said one_said two_said numbered_said named_said put_said fill_said pairs_of named_fence triples_of flush_said with_line with_stream may_follow added acting fresh with_memory with_results spans_with with_puts with_fill with_flush with_finish with_token with_close with_dump script_of from_head from_version from_body numbered
read = refl

-- the history in which the word has this value
abbrev taking : ℕ → List Event
taking value = Finish 1 1 ∷ Step 1 ((0, 2097154) ∷ (1, value) ∷ []) ∷ Order 1 1 2 ∷ []

old_is_whole : is_whole plans (taking 1) ≡ true
unfolding headed checked decoded judged places_read copied fetched_places row_of outcome apply painted redrawn command_in asked effect_of acted stepped effect checked_state verdict world sync_of
old_is_whole = refl

new_is_whole : is_whole plans (taking 2) ≡ true
unfolding headed checked decoded judged places_read copied fetched_places row_of outcome apply painted redrawn command_in asked effect_of acted stepped effect checked_state verdict world sync_of
new_is_whole = refl

tokens : ((state_of plans (taking 1) 1).token ≡ 1) × ((state_of plans (taking 2) 1).token ≡ 2)
unfolding headed checked decoded judged places_read copied fetched_places row_of outcome apply painted redrawn command_in asked effect_of acted stepped effect checked_state verdict world sync_of
tokens = (refl, refl)

fits : Fits (taking 1)
unfolding row_of command_in
fits = omega arith

apart : AreApart (taking 1)
unfolding row_of command_in
apart = refl

-- the value that was taken
abbrev taken : List Work → ℕ
taken (Finished ∷ Executed words ∷ ws) = value_in words 1
taken _ = 0

-- so the works need clients that change no word in flight
works_need_it : ((p : PlansData) (h g : List Event) (s : ℕ) → AreLawfulPlans p → IsWhole p h → IsWhole p g → ClosesFinished (plan_of p s).actions → works g s ≡ works h s) → ⊥
works_need_it law = let same = law plans (taking 1) (taking 2) 1 (lawful_from text plans read) (whole_from plans (taking 1) old_is_whole) (whole_from plans (taking 2) new_is_whole) (closes_from plans 1 refl) in let bad : 2 ≡ 1 = ap taken same in omega (arith, bad)

differ : LeaveTheSame plans (taking 1) (taking 2) → ⊥
differ same =
    let token : (state_of plans (taking 2) 1).token ≡ (state_of plans (taking 1) 1).token = ap (λ (x : State). x.token) (same.states 1) in
    let bad : 2 ≡ 1 = sym tokens.1 ∙ token ∙ tokens.0 in
    omega (arith, bad)

-- so does the result
result_needs_it : ((p : PlansData) (h g : List Event) → AreLawfulPlans p → IsWhole p h → IsWhole p g → ((s : ℕ) → ClosesFinished (plan_of p s).actions) → Fits h → AreApart h → LeaveTheSame p h g) → ⊥
result_needs_it law = differ (law plans (taking 1) (taking 2) (lawful_from text plans read) (whole_from plans (taking 1) old_is_whole) (whole_from plans (taking 2) new_is_whole) (λ s. closes_from plans s refl) fits apart)

-- and conflicts alone determine no images and states
conflicts_need_works : ((p : PlansData) (h g : List Event) → Fits h → ConflictsAlike h g → LeaveTheSame p h g) → ⊥
conflicts_need_works law = differ (law plans (taking 1) (taking 2) fits (apart_alike (taking 1) (taking 2) apart))

-- nor does either of the two go on from where the other one is
fronts_need_it : ((p : PlansData) (h g : List Event) (s : ℕ) → IsLegal p h → IsLegal p g → IsFront (works g s) (works h s) ⊎ IsFront (works h s) (works g s)) → ⊥
fronts_need_it law = ⊎_elim (λ f. apart_works 2 1 f.more f.whole (λ e. absurd (omega (arith, e)))) (λ f. apart_works 1 2 f.more f.whole (λ e. absurd (omega (arith, e)))) (law plans (taking 1) (taking 2) 1 (whole_from plans (taking 1) old_is_whole).legal (whole_from plans (taking 2) new_is_whole).legal)
  where
    apart_works : (a b : ℕ) (more : List Work) → more ++ works (taking a) 1 ≡ works (taking b) 1 → (a ≡ b → ⊥) → ⊥
    apart_works a b [] e apart = let same : a ≡ b = ap taken e in apart same
    apart_works a b (w ∷ more) e apart =
        let count = ap length e in
        let sum = length-append more (works (taking a) 1) in
        omega (arith, count, sum)
