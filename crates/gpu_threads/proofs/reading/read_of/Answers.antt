use Rattle.std.proofs.Common.{◌≡◌, true, false, map, sym, ap, ◌∙◌}
use Rattle.gpu_journal.specs.Waits.{standing_of}
use Rattle.thread_parts.specs.Clients.{dump_of, read_for}
use Rattle.gpu_threads.proofs.Told.{none_read, whole_read, settled_so}
use Rattle.gpu_threads.proofs.reading.read_of.Goals as goal

pub returns-then-lost-clause-read : goal.returns-then-lost-clause-read
returns-then-lost-clause-read g c =
    let p = g.N.Naming.plans in
    let h = c.args.hall.now.past in
    let s = c.args.client.stream in
    let gone : (standing_of p h s).lost ≡ true = cc in
    none_read p h s c.clear.new.self gone c.clear.ensures

pub returns-clause-read : goal.returns-clause-read
returns-clause-read g c =
    let p = g.N.Naming.plans in
    let h = c.args.hall.now.past in
    let s = c.args.client.stream in
    let plan = c.args.client.pass.plan in
    let reads = c.of-dumps.result in
    let same : reads ≡ c.args.client.dumps = c.of-dumps.ensures ∙ c.into_parts-reader.ensures.dumps in
    let kept : (standing_of p h s).lost ≡ false = cc in
    whole_read p h s plan reads c.requires.client.plan kept (ap (map dump_of) same ∙ c.requires.through kept)
    (settled_so p h s plan c.stream-stream.result c.into_parts-reader.result.0.reads reads c.stream-stream.ensures (c.into_parts-reader.ensures.reads ∙ ap (map (read_for plan)) (sym c.of-dumps.ensures)) c.settle.ensures.settled)
