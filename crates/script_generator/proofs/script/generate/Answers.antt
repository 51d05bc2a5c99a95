use Rattle.std.proofs.Common.{◌∙◌, ◌++◌, ap}
use Rattle.std.specs.Prelude.{codes}
use Rattle.script_generator.proofs.Rounds.{whole}
use Rattle.script_generator.proofs.script.generate.Goals as goal

pub returns : goal.returns
returns c = whole c.args.size c.args.seed c.in_ok-state.state c.in_ok-state-2.state c.in_ok-state-3.state c.extend_from_slice.new.self.items c.push_stream.new.out.items c.push_stream-2.new.out.items c.push_stream-3.new.out.items c.push_stream-4.new.out.items (c.in_ok-extend_from_slice.ensures.items ∙ ap (λ xs. xs ++ codes "gpu-script 1\n") c.new-out.ensures.items) c.in_ok-state.ensures.text c.in_ok-state.ensures.state c.in_ok-state-2.ensures.text c.in_ok-state-2.ensures.state c.in_ok-state-3.ensures.text c.in_ok-state-3.ensures.state c.in_ok-push_stream.ensures.text
