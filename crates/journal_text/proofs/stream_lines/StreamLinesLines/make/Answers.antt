use Rattle.std.proofs.Common.{◌≡◌, ◌+◌, ◌<◌, ℕ, List, ◌++◌, length, ap, arith, sym, ◌∙◌}
use Rattle.std.specs.Prelude.{slice_index_or}
use Rattle.gpu_journal.specs.declared.end.End.{End}
use Rattle.gpu_journal.specs.declared.end.End.TheVariants.{Done}
use Rattle.gpu_journal.specs.Ended.{end_of}
use Rattle.journal_text.proofs.Parts.{length-streams, stream_at, end_at}
use Rattle.journal_text.proofs.stream_lines.StreamLinesLines.make.Goals as goal

pub overflow_cast-stream : goal.overflow_cast-stream
overflow_cast-stream g c = omega (arith, length-streams (g.E.Ended.plans c.args.self.now.run.now) (g.E.Ended.past c.args.self.now.run.now), c.args.self.now.counted, c.args.self.now.few, c.requires.within)

pub overflow_add-stream : goal.overflow_add-stream
overflow_add-stream g c = omega (arith, length-streams (g.E.Ended.plans c.args.self.now.run.now) (g.E.Ended.past c.args.self.now.run.now), c.args.self.now.counted, c.args.self.now.few, c.requires.within)

pub stream-requires-clause-known : goal.stream-requires-clause-known
stream-requires-clause-known g c = (omega arith, omega (arith, length-streams (g.E.Ended.plans c.args.self.now.run.now) (g.E.Ended.past c.args.self.now.run.now), c.requires.within))

pub returns-clause-bytes : goal.returns-clause-bytes
returns-clause-bytes g c =
    let p = g.E.Ended.plans c.args.self.now.run.now in
    let h = g.E.Ended.past c.args.self.now.run.now in
    let lt : c.args.index < length p.plans = omega (arith, length-streams p h, c.requires.within) in
    let ended : slice_index_or c.ends.result.now c.args.index Done ≡ end_of h (c.args.index + 1) = ap (λ (ends : List End). slice_index_or ends c.args.index Done) c.ends.ensures ∙ end_at p h c.args.index lt in
    c.put_stream.ensures.bytes ∙ ap (λ (line : List ℕ). c.args.sheet.now.bytes ++ line) (rw (c.stream.ensures, ended) (sym (stream_at p h c.args.index lt)))
