-- Two streams make an image each, and there is room for one: the second one is refused, whichever it is.
use Rattle.std.proofs.Common.{◌≡◌, ℕ, zero, suc, true, List, [], ◌∷◌, Ok, refl, sym, ap, ◌∙◌, arith}
use Rattle.std.specs.Prelude.{codes}
use Rattle.gpu_plan.specs.declared.plan.Action.TheVariants.{Put, Flush}
use Rattle.gpu_plan.specs.Plans.{PlansData}
use Rattle.stream_state.specs.State.{State}
use Rattle.gpu_journal.specs.declared.event.Event.{Event}
use Rattle.gpu_journal.specs.declared.event.Event.TheVariants.{Order, Step, Finish}
use Rattle.gpu_cmd.specs.Checks.{headed, checked, decoded}
use Rattle.gpu_cmd.specs.Copied.{judged, places_read, copied, fetched_places}
use Rattle.gpu_cmd.specs.Table.{row_of}
use Rattle.gpu_store.specs.Images.{outcome, apply}
use Rattle.gpu_store.specs.Picture.{painted, redrawn}
use Rattle.stream_state.specs.Steps.{command_in, asked, effect_of, acted, stepped, effect}
use Rattle.stream_state.specs.Verdict.{checked_state, verdict}
use Rattle.gpu_journal.specs.World.{world, state_of}
use Rattle.gpu_journal.specs.Waits.{sync_of}
use Rattle.gpu_plan.specs.Text.{lines_of, words_of}
use Rattle.gpu_plan.specs.Numbers.{number_said}
use Rattle.gpu_plan.specs.Naming.{named_on, named_in}
use Rattle.gpu_plan.specs.Said.{none_said, one_said, two_said, numbered_said, named_said, put_said, fill_said, pairs_of, named_fence, triples_of, flush_said}
use Rattle.gpu_plan.specs.Adding.{with_line, with_stream, may_follow, added, acting, fresh, with_memory, with_results, spans_with, with_puts, with_fill, with_flush, with_finish, with_token, with_close, with_dump}
use Rattle.gpu_plan.specs.Script.{script_of, from_head, from_version, from_body, numbered}
use Rattle.serial_laws.specs.Scripts.{AreLawfulPlans}
use Rattle.race_laws.specs.Settled.{IsSettled}
use Rattle.race_laws.specs.Works.{works}
use Rattle.race_laws.specs.Touches.{AreApart}
use Rattle.race_laws.specs.Alike.{ConflictsAlike}
use Rattle.race_laws.proofs.Orders.{apart_alike}
use Rattle.race_laws.specs.Laws.{IsWhole, LeaveTheSame}
use Rattle.race_laws.proofs.worked.Said.{stream_of, lawful_from}
use Rattle.race_laws.proofs.worked.Tests.{is_whole, whole_from, none_in_flight, flight_from, closes_from, works_none}

-- two images of 2,101,248 texels each
abbrev text : List ℕ
text = codes "gpu-script 1\nstream 1 normal 16\nput 0 20400004 1 1000 201\nflush 4\nstream 2 normal 16\nput 0 20400004 2 1000 201\nflush 4\n"

abbrev plans : PlansData
plans = record {
  version = 1;
  plans = stream_of 1 (Put 0 541065220 ∷ Put 1 1 ∷ Put 2 4096 ∷ Put 3 513 ∷ Flush 4 [] ∷ [])
      ∷ stream_of 2 (Put 0 541065220 ∷ Put 1 2 ∷ Put 2 4096 ∷ Put 3 513 ∷ Flush 4 [] ∷ []) ∷ [];
}

read : script_of text ≡ Ok plans
unfolding lines_of words_of number_said named_on named_in none_said one_said two_said numbered_said named_said put_said fill_said pairs_of named_fence triples_of flush_said with_line with_stream may_follow added acting fresh with_memory with_results spans_with with_puts with_fill with_flush with_finish with_token with_close with_dump script_of from_head from_version from_body numbered
read = refl

-- the stream makes the image of its number
abbrev makes : ℕ → Event
makes s = Step s ((0, 541065220) ∷ (1, s) ∷ (2, 4096) ∷ (3, 513) ∷ [])

-- this stream makes its image first, and then that one
abbrev in_turn : ℕ → ℕ → List Event
in_turn s t = Finish t t ∷ makes t ∷ Finish s s ∷ makes s ∷ Order 2 2 4 ∷ Order 1 1 4 ∷ []

one_is_whole : is_whole plans (in_turn 1 2) ≡ true
unfolding headed checked decoded judged places_read copied fetched_places row_of outcome apply painted redrawn command_in asked effect_of acted stepped effect checked_state verdict world sync_of
one_is_whole = refl

two_is_whole : is_whole plans (in_turn 2 1) ≡ true
unfolding headed checked decoded judged places_read copied fetched_places row_of outcome apply painted redrawn command_in asked effect_of acted stepped effect checked_state verdict world sync_of
two_is_whole = refl

none_flies : none_in_flight plans (in_turn 1 2) ≡ true
unfolding headed checked decoded judged places_read copied fetched_places row_of outcome apply painted redrawn command_in asked effect_of acted stepped effect checked_state verdict world sync_of
none_flies = refl

errors : ((state_of plans (in_turn 1 2) 1).errors.out_of_texels ≡ 0) × ((state_of plans (in_turn 2 1) 1).errors.out_of_texels ≡ 1)
unfolding headed checked decoded judged places_read copied fetched_places row_of outcome apply painted redrawn command_in asked effect_of acted stepped effect checked_state verdict world sync_of
errors = (refl, refl)

apart : AreApart (in_turn 1 2)
unfolding row_of command_in
apart = refl

differ : LeaveTheSame plans (in_turn 1 2) (in_turn 2 1) → ⊥
differ same =
    let error : (state_of plans (in_turn 2 1) 1).errors.out_of_texels ≡ (state_of plans (in_turn 1 2) 1).errors.out_of_texels = ap (λ (x : State). x.errors.out_of_texels) (same.states 1) in
    let bad : 1 ≡ 0 = sym errors.1 ∙ error ∙ errors.0 in
    omega (arith, bad)

-- so the result needs texels that fit
result_needs_it : ((p : PlansData) (h g : List Event) → AreLawfulPlans p → IsWhole p h → IsWhole p g → ((s : ℕ) → IsSettled p h s) → AreApart h → LeaveTheSame p h g) → ⊥
result_needs_it law =
    differ (law plans (in_turn 1 2) (in_turn 2 1) (lawful_from text plans read) (whole_from plans (in_turn 1 2) one_is_whole) (whole_from plans (in_turn 2 1) two_is_whole)
    (λ s. record { still = flight_from plans (in_turn 1 2) s none_flies; closed = closes_from plans s refl }) apart)

-- and so it is where all streams do the same, and none conflicts
conflicts_need_it : ((p : PlansData) (h g : List Event) → ((s : ℕ) → works g s ≡ works h s) → ConflictsAlike h g → LeaveTheSame p h g) → ⊥
conflicts_need_it law = differ (law plans (in_turn 1 2) (in_turn 2 1) same_works (apart_alike (in_turn 1 2) (in_turn 2 1) apart))
  where
    same_works : (s : ℕ) → works (in_turn 2 1) s ≡ works (in_turn 1 2) s
    same_works zero = refl
    same_works (suc zero) = refl
    same_works (suc (suc zero)) = refl
    same_works (suc (suc (suc s))) = works_none 2 (in_turn 2 1) (suc (suc (suc s))) refl (omega arith) ∙ sym (works_none 2 (in_turn 1 2) (suc (suc (suc s))) refl (omega arith))
