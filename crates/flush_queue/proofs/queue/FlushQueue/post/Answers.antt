use Rattle.std.proofs.Common.{◌<◌, Ok, ap, ◌∙◌, sym, subst}
use Rattle.gpu_plan.specs.Passes.{flushes}
use Rattle.flush_queue.specs.Seen.{EndData, note_of}
use Rattle.flush_queue.proofs.Keeping.{posted, are_latest}
use Rattle.flush_queue.proofs.queue.FlushQueue.post.Goals as goal

pub push_as-requires-clause-rule : goal.push_as-requires-clause-rule
push_as-requires-clause-rule g c =
    let is = c.poster.view_is in
    let poster = c.poster.invariant.0 in
    let there = subst (λ (end : EndData). end.count < flushes end.plan.actions) (sym is) c.requires.flush in
    (posted _ _ _ (Ok c.args.note) poster (ap Ok (c.requires.note ∙ ap note_of (sym is))) there, are_latest _ _ poster)
