-- A member at which no batch ends: its step neither waits nor is the last of its flush.
use Rattle.std.proofs.Common.{◌≡◌, ◌≢◌, ℕ, ◌-◌, suc, Bool, true, false, Option, Some, None, List, [], ◌∷◌, length, take, refl, sym, ap, subst, ◌∙◌, arith}
use Rattle.std.specs.Prelude.{◌==◌, ◌||◌, Result, Ok, Err, is_some, option_map, unwrap_or, if◌then◌else◌}
use Rattle.std.specs.Option.{option_map_or}
use Rattle.std.specs.List.{All}
use Rattle.std.proofs.lemmas.Bool.Decides.{nat_tests}
use Rattle.std.proofs.lemmas.List.Elements.{All-head, All-tail}
use Rattle.gpu_cmd.specs.declared.areas.Areas.{Areas}
use Rattle.gpu_cmd.specs.declared.command.Command.{Command}
use Rattle.gpu_cmd.specs.declared.error.CmdError.{CmdError}
use Rattle.gpu_cmd.specs.declared.facts.StreamFacts.{StreamFacts}
use Rattle.gpu_cmd.specs.Copied.{IsCopy}
use Rattle.gpu_cmd.specs.Ranges.{named}
use Rattle.gpu_store.specs.declared.op.Op.{Op}
use Rattle.gpu_plan.specs.Plans.{PlansData, plan_of}
use Rattle.gpu_fetch.specs.Fetched.{FetchedData, IsFetched}
use Rattle.stream_state.specs.declared.effect.Effect.{Effect}
use Rattle.stream_state.specs.declared.effect.Effect.TheVariants.{Nothing, Pixels, Results}
use Rattle.stream_state.specs.State.{State}
use Rattle.stream_state.specs.Steps.{command_in, told, either, plain_op, upload_op, writes_of, asked, effect_of, effect}
use Rattle.stream_state.specs.Writes.{Writes}
use Rattle.stream_state.proofs.Accepting.{told as tells, says}
use Rattle.gpu_journal.specs.declared.event.Event.{Event}
use Rattle.gpu_journal.specs.World.{state_of}
use Rattle.serial_laws.specs.Runs.{step_keeps}
use Rattle.gpu_house.specs.Steps.{asked_at}
use Rattle.gpu_house.specs.Batches.{facts_after, is_heard, ends_by, is_last, EndsExactly}

-- ---- what passes

-- its command passed its checks and is not heard, and something is left of the flush after it
pub record Passes (member : FetchedData) : Type 0 where
  pub command : Command
  pub passed : member.verdict ≡ Ok command
  pub unheard : is_heard command ≡ false
  pub more : (facts_after member.facts member.words).get ≢ (facts_after member.facts member.words).put

pub passes : (member : FetchedData) → is_last member ≡ false → Passes member
passes member off = by member.verdict refl off
  where
    behind : StreamFacts
    behind = facts_after member.facts member.words

    apart : (get put : ℕ) → (get == put) ≡ false → get ≢ put
    apart get put off same = grind (arith, nat_tests)

    unheard : (command : Command) (b : Bool) → is_heard command ≡ b → member.verdict ≡ Ok command → (if b then true else (behind.get == behind.put)) ≡ false → Passes member
    unheard command true heard is off = absurd (cc)
    unheard command false heard is off = record { command = command; passed = is; unheard = heard; more = apart behind.get behind.put off }

    by : (verdict : Result Command CmdError) → member.verdict ≡ verdict → ends_by verdict behind ≡ false → Passes member
    by (Err error) is off = absurd (cc)
    by (Ok command) is off = unheard command (is_heard command) refl is off

-- ---- it does not wait

untold : (command : Command) → is_heard command ≡ false → told command ≡ None
untold command off = by (told command) (is_some (named command).size_range || is_some (named command).data_range) off
  where
    by : (o : Option Effect) (writes : Bool) → (is_some o || writes) ≡ false → o ≡ None
    by None writes off = refl
    by (Some asks) writes off = absurd (cc)

no_wait : (p : PlansData) (h : List Event) (s : ℕ) (areas : Areas) (command : Command) (words : List (ℕ × ℕ)) (state : State) → told command ≡ None → step_keeps p h s (effect_of areas command words state) ≡ false
unfolding effect_of asked
no_wait p h s areas command words state none = by (writes_of areas command state)
  where
    drawn : (op : Option Op) → step_keeps p h s (unwrap_or (either None (option_map Pixels op)) Nothing) ≡ false
    drawn None = refl
    drawn (Some op) = refl

    by : (write : Option Writes) → step_keeps p h s (option_map_or Results write (unwrap_or (either (told command) (option_map Pixels (either (plain_op command) (upload_op command words state)))) Nothing)) ≡ false
    by (Some write) = refl
    by None = subst (λ (o : Option Effect). step_keeps p h s (unwrap_or (either o (option_map Pixels (either (plain_op command) (upload_op command words state)))) Nothing) ≡ false) (sym none) (drawn (either (plain_op command) (upload_op command words state)))

-- the step of a member at which no batch ends keeps no wait
pub quiet : (p : PlansData) (h : List Event) (s : ℕ) (member : FetchedData) → IsFetched member → Passes member → step_keeps p h s (asked_at p h s member.words) ≡ false
unfolding effect
quiet p h s member fetched passed =
    let copy : IsCopy member.words member.facts (Ok passed.command) = subst (IsCopy member.words member.facts) passed.passed fetched.copy in
    let same : command_in member.words ≡ passed.command = (says member.words member.facts passed.command (tells member.words member.facts passed.command fetched.lawful copy)).same in
    no_wait p h s (plan_of p s).areas (command_in member.words) member.words (state_of p h s) (untold (command_in member.words) (ap is_heard same ∙ passed.unheard))

-- ---- of all members but the last

abbrev pub GoOn : List FetchedData → Type 0
GoOn [] = Unit {0}
GoOn (member ∷ []) = Unit {0}
GoOn (member ∷ next ∷ more) = (is_last member ≡ false) × GoOn (next ∷ more)

go_on_by : (members : List FetchedData) → All (λ m. is_last m ≡ false) (take (length members - 1) members) → GoOn members
go_on_by [] all = tt
go_on_by (member ∷ []) all = tt
go_on_by (member ∷ next ∷ more) all =
    let first : take (length (member ∷ next ∷ more) - 1) (member ∷ next ∷ more) ≡ member ∷ take (length (next ∷ more) - 1) (next ∷ more) = ap (λ (n : ℕ). take n (member ∷ next ∷ more)) (counted (length more)) in
    let those = subst (All (λ (m : FetchedData). is_last m ≡ false)) first all in
    (All-head (λ (m : FetchedData). is_last m ≡ false) member (take (length (next ∷ more) - 1) (next ∷ more)) those, go_on_by (next ∷ more) (All-tail (λ (m : FetchedData). is_last m ≡ false) member (take (length (next ∷ more) - 1) (next ∷ more)) those))
  where
    counted : (n : ℕ) → suc (suc n) - 1 ≡ suc (suc n - 1)
    counted n = omega arith

pub go_on : (members : List FetchedData) → EndsExactly members → GoOn members
go_on members ends = go_on_by members ends.before

pub go_on_behind : (member : FetchedData) (more : List FetchedData) → GoOn (member ∷ more) → GoOn more
go_on_behind member [] all = tt
go_on_behind member (next ∷ more) all = all.1
