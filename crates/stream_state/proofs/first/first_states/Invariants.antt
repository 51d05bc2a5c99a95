use Rattle.std.proofs.Common.{◌≡◌, replicate}
use Rattle.stream_state.specs.State.{first_state}
use Rattle.stream_state.proofs.first.first_states.Given as goal

abbrev pub invariant-loop : goal.invariant-loop
invariant-loop l = l.states.items ≡ replicate l.counter first_state
