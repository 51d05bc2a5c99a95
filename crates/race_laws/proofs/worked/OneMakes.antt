-- One stream makes an image and another one fills it: where the second comes first, it is refused.
use Rattle.std.proofs.Common.{◌≡◌, ℕ, zero, suc, true, List, [], ◌∷◌, Ok, refl, sym, ap, ◌∙◌, arith}
use Rattle.std.specs.Prelude.{codes}
use Rattle.gpu_plan.specs.declared.plan.Action.TheVariants.{Put, Flush}
use Rattle.gpu_plan.specs.Plans.{PlansData}
use Rattle.stream_state.specs.State.{State}
use Rattle.gpu_journal.specs.declared.event.Event.{Event}
use Rattle.gpu_journal.specs.declared.event.Event.TheVariants.{Order, Step, Finish}
use Rattle.gpu_cmd.specs.Checks.{headed, checked, decoded}
use Rattle.gpu_cmd.specs.Copied.{judged, places_read, copied, fetched_places}
use Rattle.gpu_cmd.specs.Table.{row_of}
use Rattle.gpu_store.specs.Images.{outcome, apply}
use Rattle.gpu_store.specs.Picture.{painted, redrawn}
use Rattle.stream_state.specs.Steps.{command_in, asked, effect_of, acted, stepped, effect}
use Rattle.stream_state.specs.Verdict.{checked_state, verdict}
use Rattle.gpu_journal.specs.World.{world, state_of}
use Rattle.gpu_journal.specs.Waits.{sync_of}
use Rattle.gpu_plan.specs.Text.{lines_of, words_of}
use Rattle.gpu_plan.specs.Numbers.{number_said}
use Rattle.gpu_plan.specs.Naming.{named_on, named_in}
use Rattle.gpu_plan.specs.Said.{none_said, one_said, two_said, numbered_said, named_said, put_said, fill_said, pairs_of, named_fence, triples_of, flush_said}
use Rattle.gpu_plan.specs.Adding.{with_line, with_stream, may_follow, added, acting, fresh, with_memory, with_results, spans_with, with_puts, with_fill, with_flush, with_finish, with_token, with_close, with_dump}
use Rattle.gpu_plan.specs.Script.{script_of, from_head, from_version, from_body, numbered}
use Rattle.serial_laws.specs.Scripts.{AreLawfulPlans}
use Rattle.race_laws.specs.Works.{works}
use Rattle.race_laws.specs.Settled.{IsSettled}
use Rattle.race_laws.specs.Touches.{Fits}
use Rattle.race_laws.specs.Laws.{IsWhole, LeaveTheSame}
use Rattle.race_laws.proofs.worked.Said.{stream_of, lawful_from}
use Rattle.race_laws.proofs.worked.Tests.{is_whole, whole_from, none_in_flight, flight_from, closes_from, works_none}

-- an image of one texel, and its texel
abbrev text : List ℕ
text = codes "gpu-script 1\nstream 1 normal 16\nput 0 20400004 1 1 1\nflush 4\nstream 2 normal 16\nput 0 20800007 1 0 0 1 1 ff\nflush 7\n"

abbrev plans : PlansData
plans = record {
  version = 1;
  plans = stream_of 1 (Put 0 541065220 ∷ Put 1 1 ∷ Put 2 1 ∷ Put 3 1 ∷ Flush 4 [] ∷ [])
      ∷ stream_of 2 (Put 0 545259527 ∷ Put 1 1 ∷ Put 2 0 ∷ Put 3 0 ∷ Put 4 1 ∷ Put 5 1 ∷ Put 6 255 ∷ Flush 7 [] ∷ []) ∷ [];
}

read : script_of text ≡ Ok plans
unfolding lines_of words_of number_said named_on named_in none_said one_said two_said numbered_said named_said put_said fill_said pairs_of named_fence triples_of flush_said with_line with_stream may_follow added acting fresh with_memory with_results spans_with with_puts with_fill with_flush with_finish with_token with_close with_dump script_of from_head from_version from_body numbered
read = refl

abbrev makes : Event
makes = Step 1 ((0, 541065220) ∷ (1, 1) ∷ (2, 1) ∷ (3, 1) ∷ [])

abbrev fills : Event
fills = Step 2 ((0, 545259527) ∷ (1, 1) ∷ (2, 0) ∷ (3, 0) ∷ (4, 1) ∷ (5, 1) ∷ (6, 255) ∷ [])

-- it is made first, or filled first
abbrev made_first : List Event
made_first = Finish 2 2 ∷ fills ∷ Finish 1 1 ∷ makes ∷ Order 2 2 7 ∷ Order 1 1 4 ∷ []

abbrev filled_first : List Event
filled_first = Finish 1 1 ∷ makes ∷ Finish 2 2 ∷ fills ∷ Order 2 2 7 ∷ Order 1 1 4 ∷ []

made_is_whole : is_whole plans made_first ≡ true
unfolding headed checked decoded judged places_read copied fetched_places row_of outcome apply painted redrawn command_in asked effect_of acted stepped effect checked_state verdict world sync_of
made_is_whole = refl

filled_is_whole : is_whole plans filled_first ≡ true
unfolding headed checked decoded judged places_read copied fetched_places row_of outcome apply painted redrawn command_in asked effect_of acted stepped effect checked_state verdict world sync_of
filled_is_whole = refl

none_flies : none_in_flight plans made_first ≡ true
unfolding headed checked decoded judged places_read copied fetched_places row_of outcome apply painted redrawn command_in asked effect_of acted stepped effect checked_state verdict world sync_of
none_flies = refl

errors : ((state_of plans made_first 2).errors.invalid_operation ≡ 0) × ((state_of plans filled_first 2).errors.invalid_operation ≡ 1)
unfolding headed checked decoded judged places_read copied fetched_places row_of outcome apply painted redrawn command_in asked effect_of acted stepped effect checked_state verdict world sync_of
errors = (refl, refl)

fits : Fits made_first
unfolding row_of command_in
fits = omega arith

differ : LeaveTheSame plans made_first filled_first → ⊥
differ same =
    let error : (state_of plans filled_first 2).errors.invalid_operation ≡ (state_of plans made_first 2).errors.invalid_operation = ap (λ (x : State). x.errors.invalid_operation) (same.states 2) in
    let bad : 1 ≡ 0 = sym errors.1 ∙ error ∙ errors.0 in
    omega (arith, bad)

-- so the result needs steps that are apart
result_needs_it : ((p : PlansData) (h g : List Event) → AreLawfulPlans p → IsWhole p h → IsWhole p g → ((s : ℕ) → IsSettled p h s) → Fits h → LeaveTheSame p h g) → ⊥
result_needs_it law =
    differ (law plans made_first filled_first (lawful_from text plans read) (whole_from plans made_first made_is_whole) (whole_from plans filled_first filled_is_whole)
    (λ s. record { still = flight_from plans made_first s none_flies; closed = closes_from plans s refl }) fits)

-- and where all streams do the same, the order of steps that conflict counts
conflicts_need_it : ((p : PlansData) (h g : List Event) → ((s : ℕ) → works g s ≡ works h s) → Fits h → LeaveTheSame p h g) → ⊥
conflicts_need_it law = differ (law plans made_first filled_first same_works fits)
  where
    same_works : (s : ℕ) → works filled_first s ≡ works made_first s
    same_works zero = refl
    same_works (suc zero) = refl
    same_works (suc (suc zero)) = refl
    same_works (suc (suc (suc s))) = works_none 2 filled_first (suc (suc (suc s))) refl (omega arith) ∙ sym (works_none 2 made_first (suc (suc (suc s))) refl (omega arith))
