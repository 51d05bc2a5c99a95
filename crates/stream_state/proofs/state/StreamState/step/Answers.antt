-- The words say their command and its size, and hold what it reads; the counts have room.
use Rattle.std.proofs.Common.{◌≡◌, ◌+◌, length, ap, sym, ◌∙◌, arith}
use Rattle.stream_state.specs.State.{State}
use Rattle.stream_state.specs.Steps.{acted}
use Rattle.stream_state.proofs.Finding.{finds, bytes_checked, stepped_by, effect_by}
use Rattle.stream_state.proofs.state.StreamState.step.Goals as goal

pub overflow_cast-fetched : goal.overflow_cast-fetched
overflow_cast-fetched c = let f = (finds c.args.areas.now c.args.words.now c.args.self.now c.args.command.now c.args.size c.requires.lawful c.entries.ensures.bounded c.requires.accepted) in omega (arith, f.quota)

pub overflow_add-fetched : goal.overflow_add-fetched
overflow_add-fetched c = let f = (finds c.args.areas.now c.args.words.now c.args.self.now c.args.command.now c.args.size c.requires.lawful c.entries.ensures.bounded c.requires.accepted) in omega (arith, f.quota, c.fetched.ensures.fetched)

pub act-requires-clause-words : goal.act-requires-clause-words
act-requires-clause-words c = (finds c.args.areas.now c.args.words.now c.args.self.now c.args.command.now c.args.size c.requires.lawful c.entries.ensures.bounded c.requires.accepted).held

pub act-requires-clause-bytes : goal.act-requires-clause-bytes
act-requires-clause-bytes c = bytes_checked c.args.command.now c.args.self.now c.requires.check

pub act-requires-clause-format : goal.act-requires-clause-format
act-requires-clause-format c = (finds c.args.areas.now c.args.words.now c.args.self.now c.args.command.now c.args.size c.requires.lawful c.entries.ensures.bounded c.requires.accepted).format

pub act-requires-clause-slot : goal.act-requires-clause-slot
act-requires-clause-slot c = (finds c.args.areas.now c.args.words.now c.args.self.now c.args.command.now c.args.size c.requires.lawful c.entries.ensures.bounded c.requires.accepted).slot

pub invariant_of-self : goal.invariant_of-self
invariant_of-self c =
    let f = (finds c.args.areas.now c.args.words.now c.args.self.now c.args.command.now c.args.size c.requires.lawful c.entries.ensures.bounded c.requires.accepted) in
    let bounded = c.entries.ensures.bounded in (
      omega (arith, f.quota, c.fetched.ensures.fetched),
      omega (arith, f.few, f.some, bounded.entries, c.entries.ensures.entries, c.fetched.ensures.fetched, c.from.ensures),
    )

pub returns-clause-effect : goal.returns-clause-effect
returns-clause-effect c = c.in_ok-effect.ensures.effect ∙ sym (effect_by c.args.areas.now c.args.words.now c.args.self.now c.args.command.now c.args.size (finds c.args.areas.now c.args.words.now c.args.self.now c.args.command.now c.args.size c.requires.lawful c.entries.ensures.bounded c.requires.accepted))

pub returns-clause-state : goal.returns-clause-state
unfolding acted
returns-clause-state c =
    let entries : c.entries.result + c.from.result ≡ c.args.self.now.entries + c.args.size = omega (arith, c.entries.ensures.entries, c.from.ensures) in
    let fetched : c.fetched.result + length c.args.words.now ≡ c.args.self.now.fetched + length c.args.words.now = omega (arith, c.fetched.ensures.fetched) in
    ap (λ (state : State). record state { entries = c.entries.result + c.from.result; fetched = c.fetched.result + length c.args.words.now }) (c.self.view_is ∙ c.in_ok-effect.ensures.state)
    ∙ ap (λ n. record (acted c.args.areas.now c.args.command.now c.args.words.now c.args.self.now) { entries = n; fetched = c.fetched.result + length c.args.words.now }) entries
    ∙ ap (λ n. record (acted c.args.areas.now c.args.command.now c.args.words.now c.args.self.now) { entries = c.args.self.now.entries + c.args.size; fetched = n }) fetched
    ∙ sym (stepped_by c.args.areas.now c.args.words.now c.args.self.now c.args.command.now c.args.size (finds c.args.areas.now c.args.words.now c.args.self.now c.args.command.now c.args.size c.requires.lawful c.entries.ensures.bounded c.requires.accepted))
