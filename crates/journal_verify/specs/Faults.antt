-- The rules as they are looked at, by the record.
use Rattle.std.specs.Prelude.{◌≡◌, ℕ, suc, ◌+◌, ◌==◌, ◌&&◌, ◌||◌, Bool, true, false, not, is_some, Option, Some, None, Result, Ok, Err, List, length, slice_get, slice_index}
use Rattle.std.specs.Option.{option_map_or}
use Rattle.std.specs.List.{list_all}
use Rattle.gpu_cmd.specs.declared.command.Command.{Command}
use Rattle.gpu_cmd.specs.declared.error.CmdError.{CmdError}
use Rattle.gpu_cmd.specs.declared.facts.StreamFacts.{StreamFacts}
use Rattle.gpu_cmd.specs.Errors.{code_of}
use Rattle.gpu_plan.specs.declared.plan.Action.{Action}
use Rattle.gpu_plan.specs.Plans.{PlanData, PlansData, is_closed, plan_of}
use Rattle.journal_verify.specs.Client.{may_have}
use Rattle.stream_state.specs.State.{State, facts_of}
use Rattle.stream_state.specs.declared.effect.Effect.{Effect}
use Rattle.stream_state.specs.Verdict.{checked_state}
use Rattle.sync_core.specs.Standing.{first_order}
use Rattle.sync_core.specs.Core.{unprocessed_of, blocked}
use Rattle.gpu_journal.specs.declared.event.Event.{Event}
use Rattle.gpu_journal.specs.declared.event.Event.TheVariants.{Order, Step, Finish, Lost, Close}
use Rattle.gpu_journal.specs.declared.event.Why.TheVariants.{Error, Memory}
use Rattle.gpu_journal.specs.Facts.{put_in}
use Rattle.gpu_journal.specs.Replaying.{state_in}
use Rattle.gpu_journal.specs.Serial.{is_close}
use Rattle.journal_verify.specs.declared.outcome.Outcome.{Outcome}
use Rattle.journal_verify.specs.declared.outcome.Outcome.TheVariants.{Broken, Valid, Refused}
use Rattle.journal_verify.specs.Copy.{copy_read}
use Rattle.journal_verify.specs.Kept.{WatchData, JudgeData, watch_of}

-- where the test holds, what is looked at next, and else this rule
abbrev pub or_fault : Bool → ℕ → Option ℕ → Option ℕ
or_fault true rule next = next
or_fault false rule next = Some rule

-- the number is there and is this one
abbrev pub is_this_number : Option ℕ → ℕ → Bool
is_this_number None n = false
is_this_number (Some m) n = m == n

-- stream s is one of the script, and is neither lost nor closed
abbrev pub is_open_in : JudgeData → ℕ → Bool
is_open_in judge s = option_map_or (λ (watch : WatchData). watch.stays) (watch_of judge s) false

-- the place of the first flush of a stream without an order
abbrev pub next_flush : WatchData → Option ℕ
next_flush watch = slice_get watch.flushes watch.ordered

-- rules 1 to 3, of an order
abbrev pub order_fault : JudgeData → ℕ → ℕ → ℕ → Option ℕ
order_fault judge s n c =
    or_fault (is_open_in judge s) 1
    (or_fault (n == judge.drawn + 1) 2
    (or_fault (option_map_or (λ watch. is_this_number (next_flush watch) c) (watch_of judge s) false) 3 None))

-- the place of the first flush of stream s that is not finished
abbrev pub flush_in : JudgeData → ℕ → ℕ
flush_in judge s = option_map_or (λ (watch : WatchData). slice_index watch.flushes watch.finished) (watch_of judge s) 0

-- how many flushes of stream s are finished
abbrev pub finished_in : JudgeData → ℕ → ℕ
finished_in judge s = option_map_or (λ (watch : WatchData). watch.finished) (watch_of judge s) 0

-- the state of stream s
abbrev pub kept_state : JudgeData → ℕ → State
kept_state judge s = state_in judge.states s

-- the facts that the checks of the next command of stream s read
abbrev pub kept_facts : PlansData → JudgeData → ℕ → StreamFacts
kept_facts p judge s = facts_of (plan_of p s).areas (put_in (slice_get (plan_of p s).actions (flush_in judge s))) (kept_state judge s)

-- each word is one that the client may have had
abbrev pub are_held : JudgeData → ℕ → List (ℕ × ℕ) → Bool
are_held judge s words = option_map_or (λ (watch : WatchData). list_all (may_have watch.client) words) (watch_of judge s) false

-- where the test holds, what is looked at next, and else this rule
abbrev pub or_broken : Bool → ℕ → Outcome → Outcome
or_broken true rule next = next
or_broken false rule next = Broken rule

-- a command that passed checks 1 to 10 passes checks 11 and 12 or is refused
abbrev pub checked_outcome : Command → Result (Unit {0}) CmdError → Outcome
checked_outcome command (Ok x) = Valid command
checked_outcome command (Err error) = Refused error

-- all twelve checks
abbrev pub verdict_outcome : Result Command CmdError → State → Outcome
verdict_outcome (Ok command) state = checked_outcome command (checked_state command state)
verdict_outcome (Err error) state = Refused error

-- rule 7, where the words are at other places; rule 8; and then the verdict
abbrev pub copy_outcome : Option (Result Command CmdError) → Bool → State → Outcome
copy_outcome None held state = Broken 7
copy_outcome (Some verdict) held state = or_broken held 8 (verdict_outcome verdict state)

-- rules 4 to 8 of words that are fetched, and the verdict on them; rule 6 always holds
abbrev pub fetch_outcome : PlansData → JudgeData → ℕ → List (ℕ × ℕ) → Outcome
fetch_outcome p judge s words =
    or_broken (is_some (first_order (unprocessed_of judge.core s))) 4
    (or_broken (not (blocked judge.core s)) 5
    (or_broken (not ((kept_facts p judge s).get == (kept_facts p judge s).put)) 7
    (copy_outcome (copy_read words (kept_facts p judge s)) (are_held judge s words) (kept_state judge s))))

-- rule 9 of a step
abbrev pub step_fault : Outcome → Option ℕ
step_fault (Broken rule) = Some rule
step_fault (Valid command) = None
step_fault (Refused error) = Some 9

-- rule 9 of a loss by an error
abbrev pub lost_fault : CmdError → Outcome → Option ℕ
lost_fault error (Broken rule) = Some rule
lost_fault error (Valid command) = Some 9
lost_fault error (Refused other) = or_fault (code_of other == code_of error) 9 None

-- rules 4, 5 and 10, of a finish
abbrev pub finish_fault : PlansData → JudgeData → ℕ → ℕ → Option ℕ
finish_fault p judge s n =
    or_fault (is_this_number (first_order (unprocessed_of judge.core s)) n) 4
    (or_fault (not (blocked judge.core s)) 5
    (or_fault ((kept_facts p judge s).get == (kept_facts p judge s).put) 10 None))

-- rule 11, of a loss as out of memory
abbrev pub memory_fault : JudgeData → ℕ → List (ℕ × ℕ) → Option ℕ
memory_fault judge s words = or_fault (is_open_in judge s && length words == 0) 11 None

-- the stream stays, its flushes are ordered, and its client has come to its Close
abbrev pub may_close : List Action → WatchData → Bool
may_close actions watch = (watch.stays && watch.ordered == length watch.flushes) && is_close (slice_get actions watch.client.reached.upto)

-- rule 12, of a close
abbrev pub close_fault : PlansData → JudgeData → ℕ → Option ℕ
close_fault p judge s = or_fault (option_map_or (may_close (plan_of p s).actions) (watch_of judge s) false) 12 None

-- the client never closes, and each of its flushes is ordered and finished
abbrev pub has_done_all : PlanData → WatchData → Bool
has_done_all plan watch = (watch.ordered == length watch.flushes && watch.finished == length watch.flushes) && not (is_closed plan.actions)

-- the stream is lost or closed, or done
abbrev pub is_settled : PlanData → WatchData → Bool
is_settled plan watch = not watch.stays || has_done_all plan watch

-- each stream is
abbrev pub AreAllSettled : PlansData → List WatchData → Type 0
AreAllSettled p watches = (k : ℕ) (watch : WatchData) → slice_get watches k ≡ Some watch → is_settled (plan_of p (suc k)) watch ≡ true

-- the first rule that an event breaks
abbrev pub fault_of : PlansData → JudgeData → Event → Option ℕ
fault_of p judge (Order s n c) = order_fault judge s n c
fault_of p judge (Step s words) = step_fault (fetch_outcome p judge s words)
fault_of p judge (Finish s n) = finish_fault p judge s n
fault_of p judge (Lost s (Error error) words) = lost_fault error (fetch_outcome p judge s words)
fault_of p judge (Lost s Memory words) = memory_fault judge s words
fault_of p judge (Close s) = close_fault p judge s

-- the rule that was found to be broken, where no effect was answered
abbrev pub fault_in : Result Effect ℕ → Option ℕ
fault_in (Ok effect) = None
fault_in (Err rule) = Some rule
