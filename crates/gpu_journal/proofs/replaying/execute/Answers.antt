use Rattle.std.proofs.Common.{ap, ◌∙◌, arith}
use Rattle.stream_state.specs.State.{State}
use Rattle.stream_state.specs.Steps.{header_in, command_in}
use Rattle.stream_state.proofs.Finding.{Finds, finds}
use Rattle.stream_state.proofs.Runs.{stepped_errors}
use Rattle.gpu_word.specs.Header.{size_of}
use Rattle.gpu_journal.proofs.Worlds.{few_errors}
use Rattle.gpu_journal.proofs.replaying.execute.Goals as goal

pub command_taken-command-requires-clause-some : goal.command_taken-command-requires-clause-some
command_taken-command-requires-clause-some c =
    let found : Finds c.args.areas.now c.args.words.now c.args.state.now (command_in c.args.words.now) (size_of (header_in c.args.words.now)) = finds c.args.areas.now c.args.words.now c.args.state.now (command_in c.args.words.now) (size_of (header_in c.args.words.now)) c.requires.lawful c.requires.within.bounded c.requires.taken.accepted in
    omega (arith, found.some)

pub command_taken-command-requires-clause-said : goal.command_taken-command-requires-clause-said
command_taken-command-requires-clause-said c =
    (finds c.args.areas.now c.args.words.now c.args.state.now (command_in c.args.words.now) (size_of (header_in c.args.words.now)) c.requires.lawful c.requires.within.bounded c.requires.taken.accepted).said

pub note-requires-clause-invalid_value : goal.note-requires-clause-invalid_value
note-requires-clause-invalid_value c =
    let same = ap (λ (state : State). state.errors) c.in_ok-op.ensures.state ∙ stepped_errors c.args.areas.now c.args.words.now c.args.state.now in
    let few = few_errors c.args.state.now c.step.new.self c.requires.within same in
    omega (arith, few)

pub note-requires-clause-invalid_operation : goal.note-requires-clause-invalid_operation
note-requires-clause-invalid_operation c =
    let same = ap (λ (state : State). state.errors) c.in_ok-op.ensures.state ∙ stepped_errors c.args.areas.now c.args.words.now c.args.state.now in
    let few = few_errors c.args.state.now c.step.new.self c.requires.within same in
    omega (arith, few)

pub note-requires-clause-out_of_texels : goal.note-requires-clause-out_of_texels
note-requires-clause-out_of_texels c =
    let same = ap (λ (state : State). state.errors) c.in_ok-op.ensures.state ∙ stepped_errors c.args.areas.now c.args.words.now c.args.state.now in
    let few = few_errors c.args.state.now c.step.new.self c.requires.within same in
    omega (arith, few)
