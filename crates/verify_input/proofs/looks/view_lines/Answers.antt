use Rattle.verify_input.proofs.Names.{vec_len}
use Rattle.verify_input.proofs.Viewers.{noted_more}
use Rattle.verify_input.proofs.looks.view_lines.Goals as goal

pub loop-line-preserved : goal.loop-line-preserved
loop-line-preserved c =
    noted_more c.args.text.now c.loop-line.rest.now c.in-Some.line.now c.in-Some.more.now (vec_len c.loop-line.events) (vec_len c.note_look.new.events) c.loop-line.invariant c.in-Some.ensures c.in_ok-note_look.ensures
