use Rattle.flush_queue.proofs.Posting.{acted, next_flush, next_note, posted}
use Rattle.part_tests.proofs.tests.posting.next_note.Goals as goal

pub returns-in-AtFlush-clause-note : goal.returns-in-AtFlush-clause-note
returns-in-AtFlush-clause-note c =
    let all = acted _ _ (acted _ _ c.requires.all _ _ c.act.ensures.acted) _ _ c.act-2.ensures.acted in
    next_note _ _ all (c.act-2.ensures.flush c.in-AtFlush.is) _ c.flush.ensures.note

pub returns-in-AtFlush-clause-flush : goal.returns-in-AtFlush-clause-flush
returns-in-AtFlush-clause-flush c =
    let all = acted _ _ (acted _ _ c.requires.all _ _ c.act.ensures.acted) _ _ c.act-2.ensures.acted in
    next_flush _ _ all (c.act-2.ensures.flush c.in-AtFlush.is)

pub returns-in-AtFlush-clause-all : goal.returns-in-AtFlush-clause-all
returns-in-AtFlush-clause-all c =
    let all = acted _ _ (acted _ _ c.requires.all _ _ c.act.ensures.acted) _ _ c.act-2.ensures.acted in
    posted _ _ all (c.act-2.ensures.flush c.in-AtFlush.is) _ c.flush.ensures.done
