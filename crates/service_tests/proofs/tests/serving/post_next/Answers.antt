use Rattle.std.proofs.Common.{sym, subst}
use Rattle.std.specs.Prelude.{OnOk}
use Rattle.flush_queue.specs.Clients.{HasPostedAll}
use Rattle.flush_queue.proofs.Posting.{acted, next_flush, next_note, posted}
use Rattle.service_tests.proofs.tests.serving.post_next.Goals as goal
use Rattle.service_tests.proofs.tests.serving.post_next.Goals.{in-Ok, in-Err}

pub post-requires-clause-note : goal.post-requires-clause-note
post-requires-clause-note g c =
    next_note _ _ (acted _ _ c.requires.all _ _ c.act.ensures.acted) (c.act.ensures.flush c.in-AtFlush.is) _ c.flush-note.ensures.note

pub post-requires-clause-flush : goal.post-requires-clause-flush
post-requires-clause-flush g c = next_flush _ _ (acted _ _ c.requires.all _ _ c.act.ensures.acted) (c.act.ensures.flush c.in-AtFlush.is)

pub returns-after-post-clause-all : goal.returns-after-post-clause-all
returns-after-post-clause-all g c =
    let client = c.flush-note.new.self in
    let all = posted _ _ (acted _ _ c.requires.all _ _ c.act.ensures.acted) (c.act.ensures.flush c.in-AtFlush.is) _ c.flush-note.ensures.done in
    elim c.match-post.branch [
      | in-Ok w ↦ subst (λ result. OnOk result (HasPostedAll client c.post.new.poster)) (sym w.result-is) (subst (HasPostedAll client) (sym w.in-Ok.ensures.posted) all)
      | in-Err w ↦ subst (λ result. OnOk result (HasPostedAll client c.post.new.poster)) (sym w.result-is) tt
    ]
