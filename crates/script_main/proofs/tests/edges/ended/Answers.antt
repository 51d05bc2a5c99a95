use Rattle.std.proofs.Common.{Option, Some, Global, List, [], ℕ, map, ap, subst, ◌∙◌}
use Rattle.std.specs.Prelude.{string_bytes}
use Rattle.gpu_io.specs.Edge.{RealSourceData, RealSinkData}
use Rattle.script_answers.specs.Commands.{command_of}
use Rattle.script_answers.specs.Tells.{HasTold}
use Rattle.script_main.proofs.Edges.{told_at_edges}
use Rattle.script_main.proofs.tests.edges.ended.Goals as goal

pub returns : goal.returns
returns g c speaks =
    let words = command_of (map (string_bytes {Z = Global}) c.args.words.now) in
    let ending = c.run_on-status.result in
    let left = c.run_on-status.new.source.left in
    let written = c.run_on-status.new.sink.written in
    let source = ap (λ (s : RealSourceData). s.left) c.make-source.ensures in
    let sink = ap (λ (k : RealSinkData). k.written) c.make-sink.ensures ∙ ap Some c.new.ensures.items in
    told_at_edges words 1000 c.args.text.now left ending written
    (subst (λ (had : Option (List ℕ)). HasTold words 1000 had left ending (Some []) written) source
    (subst (λ (held : Option (List ℕ)). HasTold words 1000 c.make-source.result.left left ending held written) sink (c.run_on-status.ensures.conducts.said speaks)))
