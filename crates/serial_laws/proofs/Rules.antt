-- What a run knows of its stream makes each of its events legal.
use Rattle.std.proofs.Common.{◌≡◌, ◌≢◌, ℕ, ◌≤◌, Bool, false, Result, Ok, Err, List, [], refl, IsOk, IsSome}
use Rattle.std.specs.List.{All}
use Rattle.gpu_cmd.specs.declared.command.Command.{Command}
use Rattle.gpu_cmd.specs.declared.error.CmdError.{CmdError}
use Rattle.gpu_cmd.specs.Copied.{fetched_places, places_listed}
use Rattle.gpu_plan.specs.Plans.{PlansData}
use Rattle.sync_core.specs.Standing.{first_order}
use Rattle.gpu_journal.specs.declared.event.Event.{Event}
use Rattle.gpu_journal.specs.declared.event.Event.TheVariants.{Step, Finish, Lost}
use Rattle.gpu_journal.specs.declared.event.Why.TheVariants.{Error, Memory}
use Rattle.gpu_journal.specs.Waits.{IsOpen, left_of}
use Rattle.gpu_journal.specs.Facts.{flush_of, facts_at, verdict_at, reach}
use Rattle.gpu_journal.specs.Legal.{MayHaveBeenPut, Obeys, IsLegal}
use Rattle.gpu_journal.specs.Serial.{judged_event}
use Rattle.serial_laws.specs.Scripts.{AreLawfulPlans}
use Rattle.serial_laws.proofs.Fitting as fitting
use Rattle.serial_laws.proofs.Obeying.{CanRun, words_obey}
use Rattle.serial_laws.proofs.Further.{flush_reached}
use Rattle.serial_laws.specs.Runs.{MayGoOn}

-- the first number of an open stream whose run may go on
pub first_some : (p : PlansData) (h : List Event) (s n : ℕ) (paused : Bool) → IsOpen p h s → MayGoOn p h s n paused → IsSome (first_order (left_of p h s))
first_some p h s n paused open' may = fitting.first_some (first_order (left_of p h s)) n (may.first open'.stays)

-- an open stream whose run may go on can run
pub goes_on_runs : (p : PlansData) (h : List Event) (s n : ℕ) → IsOpen p h s → MayGoOn p h s n false → CanRun p h s
goes_on_runs p h s n open' may = record { isknown = open'.known; some = first_some p h s n false open' may; free = may.free open'.stays refl }

-- its client can have come to the flush of that number
pub goes_on_reached : (p : PlansData) (h : List Event) (s n : ℕ) → AreLawfulPlans p → IsLegal p h → IsOpen p h s → MayGoOn p h s n false → flush_of p h s ≤ reach p h s
goes_on_reached p h s n lawful legal open' may = flush_reached p h s lawful legal (goes_on_runs p h s n open' may)

-- what the verdict makes of words that were fetched from their places and that may have been put
judged_obeys : (p : PlansData) (h : List Event) (s n : ℕ) (words : List (ℕ × ℕ)) → AreLawfulPlans p → IsLegal p h → IsOpen p h s → MayGoOn p h s n false
    → (facts_at p h s).get ≢ (facts_at p h s).put → places_listed words ≡ fetched_places words (facts_at p h s) → All (MayHaveBeenPut p h s) words
    → (answer : Result Command CmdError) → verdict_at p h s words ≡ answer → Obeys p h (judged_event s words answer)
judged_obeys p h s n words lawful legal open' may some places put answer e =
    words_obey p h s words (goes_on_runs p h s n open' may) (goes_on_reached p h s n lawful legal open' may) some places put answer e

-- a step with words that were fetched from their places, that may have been put, and that are a valid command
pub step_obeys : (p : PlansData) (h : List Event) (s n : ℕ) (words : List (ℕ × ℕ)) → AreLawfulPlans p → IsLegal p h → IsOpen p h s → MayGoOn p h s n false
    → (facts_at p h s).get ≢ (facts_at p h s).put → places_listed words ≡ fetched_places words (facts_at p h s) → All (MayHaveBeenPut p h s) words → IsOk (verdict_at p h s words) → Obeys p h (Step s words)
step_obeys p h s n words lawful legal open' may some places put verdict = by (verdict_at p h s words) refl verdict
  where
    by : (answer : Result Command CmdError) → verdict_at p h s words ≡ answer → IsOk answer → Obeys p h (Step s words)
    by (Ok command) e ok = judged_obeys p h s n words lawful legal open' may some places put (Ok command) e
    by (Err error) e ok = absurd (cc)

-- a loss with words that have this error
pub error_obeys : (p : PlansData) (h : List Event) (s n : ℕ) (error : CmdError) (words : List (ℕ × ℕ)) → AreLawfulPlans p → IsLegal p h → IsOpen p h s → MayGoOn p h s n false
    → (facts_at p h s).get ≢ (facts_at p h s).put → places_listed words ≡ fetched_places words (facts_at p h s) → All (MayHaveBeenPut p h s) words → verdict_at p h s words ≡ Err error → Obeys p h (Lost s (Error error) words)
error_obeys p h s n error words lawful legal open' may some places put verdict = judged_obeys p h s n words lawful legal open' may some places put (Err error) verdict

-- a finish where nothing is left of the flush
pub finish_obeys : (p : PlansData) (h : List Event) (s n : ℕ) → AreLawfulPlans p → IsLegal p h → IsOpen p h s → MayGoOn p h s n false → (facts_at p h s).get ≡ (facts_at p h s).put → Obeys p h (Finish s n)
finish_obeys p h s n lawful legal open' may same =
    let can = goes_on_runs p h s n open' may in
    record {
      rule_1 = tt;
      rule_2 = tt;
      rule_3 = tt;
      rule_4 = may.first open'.stays;
      rule_5 = can.free;
      rule_6 = flush_reached p h s lawful legal can;
      rule_7 = tt;
      rule_8 = tt;
      rule_9 = tt;
      rule_10 = same;
      rule_11 = tt;
      rule_12 = tt;
    }

-- a loss as out of memory, at any time while the stream is open
pub memory_obeys : (p : PlansData) (h : List Event) (s : ℕ) → IsOpen p h s → Obeys p h (Lost s Memory [])
memory_obeys p h s open' = record {
  rule_1 = tt;
  rule_2 = tt;
  rule_3 = tt;
  rule_4 = tt;
  rule_5 = tt;
  rule_6 = tt;
  rule_7 = tt;
  rule_8 = tt;
  rule_9 = tt;
  rule_10 = tt;
  rule_11 = (open', refl);
  rule_12 = tt;
}
