-- What checks 6 to 10 leave where they pass.
use Rattle.std.proofs.Common.{ℕ, ◌+◌, ◌≤◌, Bool, true, false, Option, Some, None, Ok, List, length, refl, arith, IsTrue, IfOk}
use Rattle.std.specs.Prelude.{slice_index}
use Rattle.std.proofs.lemmas.Bool.Decides.{nat_tests}
use Rattle.gpu_word.specs.Header.{id_of}
use Rattle.gpu_cmd.specs.declared.command.Command.{Command}
use Rattle.gpu_cmd.specs.declared.error.CmdError.TheVariants.{UnknownCommand, InvalidArguments, OutOfBounds, Quota}
use Rattle.gpu_cmd.specs.declared.facts.StreamFacts.{StreamFacts}
use Rattle.gpu_cmd.specs.declared.decoded.Decoded.{Decoded}
use Rattle.gpu_word.specs.Outcome.{◌>>=◌, unless, or_error}
use Rattle.gpu_cmd.specs.Table.{Row, row_of, argument}
use Rattle.gpu_cmd.specs.Ranges.{transfer_places}
use Rattle.gpu_cmd.specs.Checks.{checked, decoded, has_arguments, has_memories, is_within_quota}

three_passed : (a m q : Bool) (found : Decoded) (P : Decoded → Type 0) → (IsTrue m → IsTrue q → P found) → IfOk (unless a InvalidArguments >>= λ _. unless m OutOfBounds >>= λ _. unless q Quota >>= λ _. Ok found) P
three_passed false m q found P h = tt
three_passed true false q found P h = tt
three_passed true true false found P h = tt
three_passed true true true found P h = h refl refl

-- the answer for a command that passes
abbrev pub answer_of : Command → StreamFacts → Decoded
answer_of command facts = record { command = command; from = (transfer_places facts.areas command).from; count = (transfer_places facts.areas command).count }

-- each fact of a command that passed checks 9 and 10 holds of the answer
checked_passed : (ring_words : ℕ) (command : Command) (facts : StreamFacts) (P : Decoded → Type 0) → (IsTrue (has_memories facts.areas command) → IsTrue (is_within_quota (facts.fetched + ring_words + (transfer_places facts.areas command).count)) → P (answer_of command facts)) → IfOk (checked ring_words command facts) P
unfolding checked
checked_passed ring_words command facts P h = three_passed (has_arguments ring_words command) (has_memories facts.areas command) (is_within_quota (facts.fetched + ring_words + (transfer_places facts.areas command).count)) (answer_of command facts) P h

by_row : (row : Option Row) (words : List ℕ) (facts : StreamFacts) (P : Decoded → Type 0) → ((command : Command) → IsTrue (has_memories facts.areas command) → IsTrue (is_within_quota (facts.fetched + length words + (transfer_places facts.areas command).count)) → P (answer_of command facts)) → IfOk (or_error UnknownCommand row >>= λ row. checked (length words) (row.command (argument words)) facts) P
by_row None words facts P h = tt
by_row (Some row) words facts P h = checked_passed (length words) (row.command (argument words)) facts P (h (row.command (argument words)))

pub decoded_passed : (words : List ℕ) (facts : StreamFacts) (P : Decoded → Type 0) → ((command : Command) → IsTrue (has_memories facts.areas command) → IsTrue (is_within_quota (facts.fetched + length words + (transfer_places facts.areas command).count)) → P (answer_of command facts)) → IfOk (decoded words facts) P
unfolding decoded
decoded_passed words facts P h = by_row (row_of (id_of (slice_index words 0))) words facts P h

-- the quota holds with the transfer words too
pub decoded_few : (words : List ℕ) (facts : StreamFacts) → IfOk (decoded words facts) (λ found. facts.fetched + length words + found.count ≤ 1048576)
decoded_few words facts = decoded_passed words facts (λ found. facts.fetched + length words + found.count ≤ 1048576) (λ command m q. grind (arith, nat_tests))
