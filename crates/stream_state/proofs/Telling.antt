-- What the effect of a step tells of the state that it leaves, and what a verdict says.
use Rattle.std.proofs.Common.{◌≡◌, ℕ, ◌≤◌, Option, Some, None, Result, Ok, Err, List, [], refl, ap, subst, ◌∙◌, arith}
use Rattle.std.specs.Prelude.{unwrap_or}
use Rattle.std.specs.Option.{option_map_or}
use Rattle.gpu_word.specs.Header.{size_of}
use Rattle.gpu_cmd.specs.declared.command.Command.{Command}
use Rattle.gpu_cmd.specs.declared.command.Command.TheVariants.{SetToken, InsertFence, GetBucketStart, GetBucketData}
use Rattle.gpu_cmd.specs.declared.error.CmdError.{CmdError}
use Rattle.gpu_cmd.specs.declared.areas.Areas.{Areas}
use Rattle.gpu_cmd.specs.declared.facts.StreamFacts.{StreamFacts}
use Rattle.gpu_word.specs.Outcome.{◌>>=◌}
use Rattle.gpu_cmd.specs.Copied.{copied, value_in, IsCopy}
use Rattle.stream_state.specs.Writes.{Writes, after_writes}
use Rattle.stream_state.specs.State.{State, facts_of}
use Rattle.stream_state.specs.Verdict.{checked_state, verdict}
use Rattle.stream_state.specs.Steps.{header_in, command_in, effect_of, asked, effect, writes_of, writes, token_after, release_after}
use Rattle.stream_state.specs.Accepted.{IsAccepted}
use Rattle.stream_state.specs.Laws.{IsTaken}
use Rattle.stream_state.specs.Told.{token_told, release_told, writes_told, EffectsTell, ReleasesRise}
use Rattle.stream_state.specs.Judged.{CopyRefuses, StateRefuses, CommandPasses, VerdictPassed, VerdictTaken}
use Rattle.stream_state.proofs.Accepting.{told, says}
use Rattle.stream_state.proofs.Finding.{facts_lawful}
use Rattle.stream_state.proofs.Writings.{values_after}
use Rattle.stream_state.proofs.Runs.{stepped_token, stepped_release, stepped_results}

-- ---- what an effect tells

token_by : (areas : Areas) (command : Command) (words : List (ℕ × ℕ)) (state : State) → token_after command state.token ≡ token_told (effect_of areas command words state) state.token
unfolding effect_of asked
token_by areas (SetToken token) words state = refl
token_by areas _ words state = refl

release_by : (areas : Areas) (command : Command) (words : List (ℕ × ℕ)) (state : State) → release_after command state.release ≡ release_told (effect_of areas command words state) state.release
unfolding effect_of asked
release_by areas (InsertFence low high) words state = refl
release_by areas _ words state = refl

writes_by : (areas : Areas) (command : Command) (words : List (ℕ × ℕ)) (state : State) → unwrap_or (writes_of areas command state) [] ≡ writes_told (effect_of areas command words state)
unfolding effect_of asked
writes_by areas (GetBucketStart bucket result_memory result_offset data_size data_memory data_offset) words state = refl
writes_by areas (GetBucketData bucket offset size memory memory_offset) words state = refl
writes_by areas _ words state = refl

results_by : (ws : Option Writes) (values : List ℕ) → option_map_or (λ (w : Writes). after_writes w values) ws values ≡ after_writes (unwrap_or ws []) values
results_by None values = values_after [] values values refl (omega arith) (λ k. refl)
results_by (Some ws) values = refl

pub effects_tell : EffectsTell
unfolding effect writes
effects_tell areas words state = record {
  token = stepped_token areas words state ∙ token_by areas (command_in words) words state;
  release = stepped_release areas words state ∙ release_by areas (command_in words) words state;
  places = writes_by areas (command_in words) words state;
  results = stepped_results areas words state ∙ results_by (writes_of areas (command_in words) state) state.results;
}

rises : (command : Command) (before : ℕ) → before ≤ release_after command before
rises (InsertFence low high) before = omega arith
rises _ before = omega arith

pub releases_rise : ReleasesRise
releases_rise areas words state = rw (stepped_release areas words state) (rises (command_in words) state.release)

-- ---- what a verdict says

-- what follows the copy
abbrev judged : State → Result Command CmdError → Result Command CmdError
judged state copy = copy >>= λ command. checked_state command state >>= λ _. Ok command

pub copy_refuses : CopyRefuses
unfolding verdict
copy_refuses words facts state error e = ap (judged state) e

pub state_refuses : StateRefuses
unfolding verdict
state_refuses words facts state command error e h = ap (judged state) e ∙ ap (λ (r : Result (Unit {0}) CmdError). r >>= λ _. Ok command) h

pub command_passes : CommandPasses
unfolding verdict
command_passes words facts state command e h = ap (judged state) e ∙ ap (λ (r : Result (Unit {0}) CmdError). r >>= λ _. Ok command) h

state_passed : (state : State) (found command : Command) (answer : Result (Unit {0}) CmdError) → checked_state found state ≡ answer → (answer >>= λ _. Ok found) ≡ Ok command → (found ≡ command) × (checked_state found state ≡ Ok tt)
state_passed state found command (Err error) e h = absurd (cc)
state_passed state found command (Ok tt) e h = (cc, e)

copy_passed : (state : State) (command : Command) (copy : Result Command CmdError) → judged state copy ≡ Ok command → (copy ≡ Ok command) × (checked_state command state ≡ Ok tt)
copy_passed state command (Err error) h = absurd (cc)
copy_passed state command (Ok found) h =
    let p = state_passed state found command (checked_state found state) refl h in
    (ap Ok p.0, subst (λ c. checked_state c state ≡ Ok tt) p.0 p.1)

pub verdict_passed : VerdictPassed
unfolding verdict
verdict_passed words facts state command h = copy_passed state command (copied words facts) h

pub verdict_taken : VerdictTaken
verdict_taken areas put words state command lawful bounded more places h =
    let facts : StreamFacts = facts_of areas put state in
    let passed = verdict_passed words facts state command h in
    let copy : IsCopy words facts (Ok command) = record { places = places; verdict = passed.0 } in
    let s = says words facts command (told words facts command (facts_lawful areas put state lawful bounded) copy) in
    let sized : size_of (header_in words) ≡ size_of (value_in words facts.get) = ap size_of s.header in
    (s.same, subst (λ c. IsAccepted areas words state c (size_of (header_in words)) × (checked_state c state ≡ Ok tt) → IsTaken areas words state) s.same (λ p. record { accepted = p.0; check = p.1 }) (record { put = put; more = more; copy = copy; sized = sized }, passed.1))
