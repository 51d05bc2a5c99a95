-- The script crossed_waits of the examples: every run with workers prints the images and the stream lines of the run on one
-- thread.
use Rattle.std.proofs.Common.{◌≡◌, ℕ, true, List, [], ◌∷◌, ◌++◌, Ok, reverse, refl, sym, ap, subst, ◌∙◌, arith}
use Rattle.std.specs.Prelude.{codes}
use Rattle.gpu_cmd.specs.declared.priority.Priority.{Priority}
use Rattle.gpu_cmd.specs.declared.priority.Priority.TheVariants.{High, Normal, Low}
use Rattle.gpu_store.specs.Conversion.{first_texels}
use Rattle.gpu_plan.specs.declared.plan.Action.{Action}
use Rattle.gpu_plan.specs.declared.plan.Action.TheVariants.{Put, Flush}
use Rattle.gpu_plan.specs.Plans.{PlanData, PlansData, ring_alone}
use Rattle.sync_core.specs.declared.ending.Ending.{Ending}
use Rattle.gpu_journal.specs.declared.event.Event.{Event}
use Rattle.gpu_journal.specs.declared.event.Event.TheVariants.{Order, Step, Finish}
use Rattle.gpu_cmd.specs.Checks.{headed, checked, decoded}
use Rattle.gpu_cmd.specs.Copied.{judged, places_read, copied, fetched_places, fetched}
use Rattle.gpu_cmd.specs.Table.{row_of}
use Rattle.gpu_store.specs.Images.{outcome, apply}
use Rattle.gpu_store.specs.Picture.{painted, redrawn}
use Rattle.stream_state.specs.Steps.{command_in, asked, effect_of, acted, stepped, effect}
use Rattle.stream_state.specs.Verdict.{checked_state, verdict}
use Rattle.gpu_journal.specs.World.{world}
use Rattle.gpu_journal.specs.Waits.{sync_of}
use Rattle.gpu_plan.specs.Text.{lines_of, words_of}
use Rattle.gpu_plan.specs.Numbers.{number_said}
use Rattle.gpu_plan.specs.Naming.{named_on, named_in}
use Rattle.gpu_plan.specs.Said.{none_said, one_said, two_said, numbered_said, named_said, put_said, fill_said, pairs_of, named_fence, triples_of, flush_said}
use Rattle.gpu_plan.specs.Adding.{with_line, with_stream, may_follow, added, acting, fresh, with_memory, with_results, spans_with, with_puts, with_fill, with_flush, with_finish, with_token, with_close, with_dump}
use Rattle.gpu_plan.specs.Script.{script_of, from_head, from_version, from_body, numbered}
use Rattle.gpu_journal.specs.Serial.{next, events, serial}
use Rattle.journal_text.specs.Digits.{numeral, hex8}
use Rattle.journal_text.specs.Text.{journal_text, stream_text}
use Rattle.journal_text.specs.Picture.{head_text, row_text, image_text, picture_text}
use Rattle.journal_text.specs.Output.{head_lines, mark_lines, output}
use Rattle.race_laws.specs.Settled.{NoneInFlight, IsSettled}
use Rattle.race_laws.specs.Touches.{AreApart, Fits}
use Rattle.race_laws.specs.Laws.{IsWhole, between}
use Rattle.race_laws.proofs.Texts.{serial_shows}
use Rattle.race_laws.proofs.worked.Said.{lawful_from}
use Rattle.race_laws.proofs.worked.Tests.{none_in_flight, flight_from, closes_from}

abbrev text : List ℕ
text = codes "gpu-script 1\n\n# Waits for release 1 of stream 2, while stream 2 waits for release 1 of this one.\nstream 1 normal 32\nput 0 20200004 2 1 0 20400004 1 3 3 20800007 1 0 0 3 3 d9534fff 20000003 1 0\nflush 18\n\nstream 2 high 32\nput 0 20200004 1 1 0 20400004 2 3 3 20800007 2 0 0 3 3 2a5ca8ff 20000003 1 0\nflush 18\n\n# Waits for release 99 of stream 1, to which nobody ever comes.\nstream 3 low 32\nput 0 20400004 3 3 3 20800007 3 0 0 3 3 2f9e5fff\nflush 11 1 99\n"

abbrev stream_with : ℕ → Priority → ℕ → List Action → PlanData
stream_with s priority ring list = record { name = record { namespace = 0; id = s }; areas = ring_alone ring; priority = priority; actions = list; dumps = [] }

abbrev plans : PlansData
plans = record { version = 1; plans = stream_with 1 Normal 32 (Put 0 538968068 ∷ Put 1 2 ∷ Put 2 1 ∷ Put 3 0 ∷ Put 4 541065220 ∷ Put 5 1 ∷ Put 6 3 ∷ Put 7 3 ∷ Put 8 545259527 ∷ Put 9 1 ∷ Put 10 0 ∷ Put 11 0 ∷ Put 12 3 ∷ Put 13 3 ∷ Put 14 3646115839 ∷ Put 15 536870915 ∷ Put 16 1 ∷ Put 17 0 ∷ Flush 18 [] ∷ []) ∷ stream_with 2 High 32 (Put 0 538968068 ∷ Put 1 1 ∷ Put 2 1 ∷ Put 3 0 ∷ Put 4 541065220 ∷ Put 5 2 ∷ Put 6 3 ∷ Put 7 3 ∷ Put 8 545259527 ∷ Put 9 2 ∷ Put 10 0 ∷ Put 11 0 ∷ Put 12 3 ∷ Put 13 3 ∷ Put 14 710715647 ∷ Put 15 536870915 ∷ Put 16 1 ∷ Put 17 0 ∷ Flush 18 [] ∷ []) ∷ stream_with 3 Low 32 (Put 0 541065220 ∷ Put 1 3 ∷ Put 2 3 ∷ Put 3 3 ∷ Put 4 545259527 ∷ Put 5 3 ∷ Put 6 0 ∷ Put 7 0 ∷ Put 8 3 ∷ Put 9 3 ∷ Put 10 798908415 ∷ Flush 11 ((1, 99) ∷ []) ∷ []) ∷ [] }

read : script_of text ≡ Ok plans
unfolding lines_of words_of number_said named_on named_in none_said one_said two_said numbered_said named_said put_said fill_said pairs_of named_fence triples_of flush_said with_line with_stream may_follow added acting fresh with_memory with_results spans_with with_puts with_fill with_flush with_finish with_token with_close with_dump script_of from_head from_version from_body numbered
read = refl

-- its serial history
abbrev played : List Event
played = Finish 3 3 ∷ Step 3 ((4, 545259527) ∷ (5, 3) ∷ (6, 0) ∷ (7, 0) ∷ (8, 3) ∷ (9, 3) ∷ (10, 798908415) ∷ []) ∷ Step 3 ((0, 541065220) ∷ (1, 3) ∷ (2, 3) ∷ (3, 3) ∷ []) ∷ Finish 2 2 ∷ Step 2 ((15, 536870915) ∷ (16, 1) ∷ (17, 0) ∷ []) ∷ Step 2 ((8, 545259527) ∷ (9, 2) ∷ (10, 0) ∷ (11, 0) ∷ (12, 3) ∷ (13, 3) ∷ (14, 710715647) ∷ []) ∷ Step 2 ((4, 541065220) ∷ (5, 2) ∷ (6, 3) ∷ (7, 3) ∷ []) ∷ Finish 1 1 ∷ Step 1 ((15, 536870915) ∷ (16, 1) ∷ (17, 0) ∷ []) ∷ Step 1 ((8, 545259527) ∷ (9, 1) ∷ (10, 0) ∷ (11, 0) ∷ (12, 3) ∷ (13, 3) ∷ (14, 3646115839) ∷ []) ∷ Step 1 ((4, 541065220) ∷ (5, 1) ∷ (6, 3) ∷ (7, 3) ∷ []) ∷ Step 1 ((0, 538968068) ∷ (1, 2) ∷ (2, 1) ∷ (3, 0) ∷ []) ∷ Step 2 ((0, 538968068) ∷ (1, 1) ∷ (2, 1) ∷ (3, 0) ∷ []) ∷ Order 3 3 11 ∷ Order 2 2 18 ∷ Order 1 1 18 ∷ []

is_played : serial plans ≡ played
unfolding headed checked decoded judged places_read copied fetched_places fetched row_of outcome apply painted redrawn command_in asked effect_of acted stepped effect checked_state verdict world sync_of next events serial
is_played = refl

none_flies : none_in_flight plans played ≡ true
unfolding headed checked decoded judged places_read copied fetched_places row_of outcome apply painted redrawn command_in asked effect_of acted stepped effect checked_state verdict world sync_of
none_flies = refl

fits : Fits played
unfolding row_of command_in
fits = omega arith

apart : AreApart played
unfolding row_of command_in
apart = refl

-- what it has between journal and marks
abbrev shown : List ℕ
shown = codes "image 1 3 3\nd9534fff d9534fff d9534fff\nd9534fff d9534fff d9534fff\nd9534fff d9534fff d9534fff\nimage 2 3 3\n2a5ca8ff 2a5ca8ff 2a5ca8ff\n2a5ca8ff 2a5ca8ff 2a5ca8ff\n2a5ca8ff 2a5ca8ff 2a5ca8ff\nimage 3 3 3\n2f9e5fff 2f9e5fff 2f9e5fff\n2f9e5fff 2f9e5fff 2f9e5fff\n2f9e5fff 2f9e5fff 2f9e5fff\nstream 1 done entries 18 release 1 token 0 words 18 errors 0 0 0\nstream 2 done entries 18 release 1 token 0 words 18 errors 0 0 0\nstream 3 done entries 11 release 0 token 0 words 11 errors 0 0 0\n"

is_shown : between plans played ≡ shown
unfolding headed checked decoded judged places_read copied fetched_places row_of outcome apply painted redrawn command_in asked effect_of acted stepped effect checked_state verdict world sync_of first_texels numeral hex8 stream_text head_text row_text image_text picture_text
is_shown = refl

settled : (s : ℕ) → IsSettled plans (serial plans) s
settled s = record { still = subst (λ (h : List Event). NoneInFlight plans h s) (sym is_played) (flight_from plans played s none_flies); closed = closes_from plans s refl }

-- so has every whole history
pub crossed_waits_prints_one : (g : List Event) (mark : Ending → ℕ) → IsWhole plans g → output plans mark g ≡ head_lines plans ++ journal_text (reverse g) ++ shown ++ mark_lines plans mark g
crossed_waits_prints_one g mark whole =
    serial_shows plans g mark (lawful_from text plans read) whole record { settled = settled; apart = subst AreApart (sym is_played) apart; fits = subst Fits (sym is_played) fits }
    ∙ ap (λ (middle : List ℕ). head_lines plans ++ journal_text (reverse g) ++ middle ++ mark_lines plans mark g) (ap (between plans) is_played ∙ is_shown)
