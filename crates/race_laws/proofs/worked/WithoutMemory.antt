-- A stream that is lost as out of memory leaves undone what it does in another run.
use Rattle.std.proofs.Common.{◌≡◌, ℕ, true, List, [], ◌∷◌, Ok, refl, sym, ap, ◌∙◌, arith}
use Rattle.std.specs.Prelude.{codes}
use Rattle.gpu_plan.specs.declared.plan.Action.TheVariants.{Put, Flush}
use Rattle.gpu_plan.specs.Plans.{PlansData}
use Rattle.stream_state.specs.State.{State}
use Rattle.gpu_journal.specs.declared.event.Event.{Event}
use Rattle.gpu_journal.specs.declared.event.Event.TheVariants.{Order, Step, Finish, Lost}
use Rattle.gpu_cmd.specs.Checks.{headed, checked, decoded}
use Rattle.gpu_cmd.specs.Copied.{judged, places_read, copied, fetched_places}
use Rattle.gpu_cmd.specs.Table.{row_of}
use Rattle.gpu_store.specs.Images.{outcome, apply}
use Rattle.gpu_store.specs.Picture.{painted, redrawn}
use Rattle.stream_state.specs.Steps.{command_in, asked, effect_of, acted, stepped, effect}
use Rattle.stream_state.specs.Verdict.{checked_state, verdict}
use Rattle.gpu_journal.specs.World.{world, state_of}
use Rattle.gpu_journal.specs.Waits.{sync_of}
use Rattle.gpu_plan.specs.Text.{lines_of, words_of}
use Rattle.gpu_plan.specs.Numbers.{number_said}
use Rattle.gpu_plan.specs.Naming.{named_on, named_in}
use Rattle.gpu_plan.specs.Said.{none_said, one_said, two_said, numbered_said, named_said, put_said, fill_said, pairs_of, named_fence, triples_of, flush_said}
use Rattle.gpu_plan.specs.Adding.{with_line, with_stream, may_follow, added, acting, fresh, with_memory, with_results, spans_with, with_puts, with_fill, with_flush, with_finish, with_token, with_close, with_dump}
use Rattle.gpu_plan.specs.Script.{script_of, from_head, from_version, from_body, numbered}
use Rattle.serial_laws.specs.Scripts.{AreLawfulPlans}
use Rattle.gpu_journal.specs.declared.event.Why.TheVariants.{Memory}
use Rattle.gpu_journal.specs.Legal.{IsLegal}
use Rattle.gpu_journal.specs.Complete.{IsComplete}
use Rattle.race_laws.specs.Works.{works}
use Rattle.race_laws.specs.Settled.{IsSettled}
use Rattle.race_laws.specs.Touches.{AreApart, Fits}
use Rattle.race_laws.specs.Laws.{LeaveTheSame}
use Rattle.race_laws.proofs.worked.Said.{stream_of, lawful_from}
use Rattle.race_laws.proofs.worked.Tests.{is_legal, legal_from, are_over, complete_from, none_in_flight, flight_from, closes_from}

-- a token
abbrev text : List ℕ
text = codes "gpu-script 1\nstream 1 normal 16\nput 0 00200002 1\nflush 2\n"

abbrev plans : PlansData
plans = record { version = 1; plans = stream_of 1 (Put 0 2097154 ∷ Put 1 1 ∷ Flush 2 [] ∷ []) ∷ [] }

read : script_of text ≡ Ok plans
unfolding lines_of words_of number_said named_on named_in none_said one_said two_said numbered_said named_said put_said fill_said pairs_of named_fence triples_of flush_said with_line with_stream may_follow added acting fresh with_memory with_results spans_with with_puts with_fill with_flush with_finish with_token with_close with_dump script_of from_head from_version from_body numbered
read = refl

abbrev done : List Event
done = Finish 1 1 ∷ Step 1 ((0, 2097154) ∷ (1, 1) ∷ []) ∷ Order 1 1 2 ∷ []

abbrev lost : List Event
lost = Lost 1 Memory [] ∷ Order 1 1 2 ∷ []

done_is_legal : is_legal plans done ≡ true
unfolding headed checked decoded judged places_read copied fetched_places row_of outcome apply painted redrawn command_in asked effect_of acted stepped effect checked_state verdict world sync_of
done_is_legal = refl

lost_is_legal : is_legal plans lost ≡ true
unfolding headed checked decoded judged places_read copied fetched_places row_of outcome apply painted redrawn command_in asked effect_of acted stepped effect checked_state verdict world sync_of
lost_is_legal = refl

done_is_over : are_over plans done 1 ≡ true
unfolding headed checked decoded judged places_read copied fetched_places row_of outcome apply painted redrawn command_in asked effect_of acted stepped effect checked_state verdict world sync_of
done_is_over = refl

lost_is_over : are_over plans lost 1 ≡ true
unfolding headed checked decoded judged places_read copied fetched_places row_of outcome apply painted redrawn command_in asked effect_of acted stepped effect checked_state verdict world sync_of
lost_is_over = refl

none_flies : none_in_flight plans done ≡ true
unfolding headed checked decoded judged places_read copied fetched_places row_of outcome apply painted redrawn command_in asked effect_of acted stepped effect checked_state verdict world sync_of
none_flies = refl

tokens : ((state_of plans done 1).token ≡ 1) × ((state_of plans lost 1).token ≡ 0)
unfolding headed checked decoded judged places_read copied fetched_places row_of outcome apply painted redrawn command_in asked effect_of acted stepped effect checked_state verdict world sync_of
tokens = (refl, refl)

fits : Fits done
unfolding row_of command_in
fits = omega arith

apart : AreApart done
unfolding row_of command_in
apart = refl

-- so the works need histories that lose no stream as out of memory
works_need_it : ((p : PlansData) (h g : List Event) (s : ℕ) → AreLawfulPlans p → IsLegal p h → IsComplete p h → IsLegal p g → IsComplete p g → IsSettled p h s → works g s ≡ works h s) → ⊥
works_need_it law =
    let same = law plans done lost 1 (lawful_from text plans read) (legal_from plans done done_is_legal) (complete_from plans done done_is_over) (legal_from plans lost lost_is_legal) (complete_from plans lost lost_is_over)
    record { still = flight_from plans done 1 none_flies; closed = closes_from plans 1 refl } in
    cc

-- and so does the result
result_needs_it : ((p : PlansData) (h g : List Event) → AreLawfulPlans p → IsLegal p h → IsComplete p h → IsLegal p g → IsComplete p g → ((s : ℕ) → IsSettled p h s) → Fits h → AreApart h → LeaveTheSame p h g) → ⊥
result_needs_it law =
    let same = law plans done lost (lawful_from text plans read) (legal_from plans done done_is_legal) (complete_from plans done done_is_over) (legal_from plans lost lost_is_legal) (complete_from plans lost lost_is_over)
    (λ s. record { still = flight_from plans done s none_flies; closed = closes_from plans s refl }) fits apart in
    let token : (state_of plans lost 1).token ≡ (state_of plans done 1).token = ap (λ (x : State). x.token) (same.states 1) in
    let bad : 0 ≡ 1 = sym tokens.1 ∙ token ∙ tokens.0 in
    omega (arith, bad)
