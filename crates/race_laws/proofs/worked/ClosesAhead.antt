-- A client closes its stream without awaiting its work: the close may come before the work or after it.
use Rattle.std.proofs.Common.{◌≡◌, ℕ, true, List, [], ◌∷◌, Ok, refl, sym, ap, ◌∙◌, arith}
use Rattle.std.specs.Prelude.{codes}
use Rattle.gpu_plan.specs.declared.plan.Action.TheVariants.{Put, Flush, Close}
use Rattle.gpu_plan.specs.Plans.{PlansData}
use Rattle.stream_state.specs.State.{State}
use Rattle.gpu_journal.specs.declared.event.Event.{Event}
use Rattle.gpu_journal.specs.declared.event.Event.TheVariants.{Order, Step, Finish}
use Rattle.gpu_journal.specs.declared.event.Event.TheVariants as events
use Rattle.gpu_cmd.specs.Checks.{headed, checked, decoded}
use Rattle.gpu_cmd.specs.Copied.{judged, places_read, copied, fetched_places}
use Rattle.gpu_cmd.specs.Table.{row_of}
use Rattle.gpu_store.specs.Images.{outcome, apply}
use Rattle.gpu_store.specs.Picture.{painted, redrawn}
use Rattle.stream_state.specs.Steps.{command_in, asked, effect_of, acted, stepped, effect}
use Rattle.stream_state.specs.Verdict.{checked_state, verdict}
use Rattle.gpu_journal.specs.World.{world, state_of}
use Rattle.gpu_journal.specs.Waits.{sync_of}
use Rattle.gpu_plan.specs.Text.{lines_of, words_of}
use Rattle.gpu_plan.specs.Numbers.{number_said}
use Rattle.gpu_plan.specs.Naming.{named_on, named_in}
use Rattle.gpu_plan.specs.Said.{none_said, one_said, two_said, numbered_said, named_said, put_said, fill_said, pairs_of, named_fence, triples_of, flush_said}
use Rattle.gpu_plan.specs.Adding.{with_line, with_stream, may_follow, added, acting, fresh, with_memory, with_results, spans_with, with_puts, with_fill, with_flush, with_finish, with_token, with_close, with_dump}
use Rattle.gpu_plan.specs.Script.{script_of, from_head, from_version, from_body, numbered}
use Rattle.serial_laws.specs.Scripts.{AreLawfulPlans}
use Rattle.race_laws.specs.Works.{works}
use Rattle.race_laws.specs.Settled.{NoneInFlight}
use Rattle.race_laws.specs.Touches.{AreApart, Fits}
use Rattle.race_laws.specs.Laws.{IsWhole, LeaveTheSame}
use Rattle.race_laws.proofs.worked.Said.{stream_of, lawful_from}
use Rattle.race_laws.proofs.worked.Tests.{is_whole, whole_from, none_in_flight, flight_from}

-- a token, and a close
abbrev text : List ℕ
text = codes "gpu-script 1\nstream 1 normal 16\nput 0 00200002 1\nflush 2\nclose\n"

abbrev plans : PlansData
plans = record { version = 1; plans = stream_of 1 (Put 0 2097154 ∷ Put 1 1 ∷ Flush 2 [] ∷ Close ∷ []) ∷ [] }

read : script_of text ≡ Ok plans
unfolding lines_of words_of number_said named_on named_in none_said one_said two_said numbered_said named_said put_said fill_said pairs_of named_fence triples_of flush_said with_line with_stream may_follow added acting fresh with_memory with_results spans_with with_puts with_fill with_flush with_finish with_token with_close with_dump script_of from_head from_version from_body numbered
read = refl

-- the close comes after the work, or before it
abbrev after : List Event
after = events.Close 1 ∷ Finish 1 1 ∷ Step 1 ((0, 2097154) ∷ (1, 1) ∷ []) ∷ Order 1 1 2 ∷ []

abbrev ahead : List Event
ahead = events.Close 1 ∷ Order 1 1 2 ∷ []

after_is_whole : is_whole plans after ≡ true
unfolding headed checked decoded judged places_read copied fetched_places row_of outcome apply painted redrawn command_in asked effect_of acted stepped effect checked_state verdict world sync_of
after_is_whole = refl

ahead_is_whole : is_whole plans ahead ≡ true
unfolding headed checked decoded judged places_read copied fetched_places row_of outcome apply painted redrawn command_in asked effect_of acted stepped effect checked_state verdict world sync_of
ahead_is_whole = refl

none_flies : none_in_flight plans after ≡ true
unfolding headed checked decoded judged places_read copied fetched_places row_of outcome apply painted redrawn command_in asked effect_of acted stepped effect checked_state verdict world sync_of
none_flies = refl

tokens : ((state_of plans after 1).token ≡ 1) × ((state_of plans ahead 1).token ≡ 0)
unfolding headed checked decoded judged places_read copied fetched_places row_of outcome apply painted redrawn command_in asked effect_of acted stepped effect checked_state verdict world sync_of
tokens = (refl, refl)

fits : Fits after
unfolding row_of command_in
fits = omega arith

apart : AreApart after
unfolding row_of command_in
apart = refl

-- so the works need a close after the work
works_need_it : ((p : PlansData) (h g : List Event) (s : ℕ) → AreLawfulPlans p → IsWhole p h → IsWhole p g → NoneInFlight p h s → works g s ≡ works h s) → ⊥
works_need_it law = let same = law plans after ahead 1 (lawful_from text plans read) (whole_from plans after after_is_whole) (whole_from plans ahead ahead_is_whole) (flight_from plans after 1 none_flies) in cc

-- and so does the result
result_needs_it : ((p : PlansData) (h g : List Event) → AreLawfulPlans p → IsWhole p h → IsWhole p g → ((s : ℕ) → NoneInFlight p h s) → Fits h → AreApart h → LeaveTheSame p h g) → ⊥
result_needs_it law =
    let same = law plans after ahead (lawful_from text plans read) (whole_from plans after after_is_whole) (whole_from plans ahead ahead_is_whole) (λ s. flight_from plans after s none_flies) fits apart in
    let token : (state_of plans ahead 1).token ≡ (state_of plans after 1).token = ap (λ (x : State). x.token) (same.states 1) in
    let bad : 0 ≡ 1 = sym tokens.1 ∙ token ∙ tokens.0 in
    omega (arith, bad)
