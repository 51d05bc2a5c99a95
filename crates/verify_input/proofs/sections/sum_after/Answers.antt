use Rattle.verify_input.proofs.Names.{◌-◌, length, take, drop, sym, ap, subst, ◌∙◌, take-append-drop, texel_sum, IsLegal, noted_sum, past_of}
use Rattle.gpu_journal.proofs.Following.{legal_tail}
use Rattle.verify_input.proofs.sections.sum_after.Goals as goal

pub returns-in-Some : goal.returns-in-Some
returns-in-Some c = noted_sum c.args.history.plans.now (past_of c.args.history) c.args.history.followed.now c.args.events c.in-Some.sum c.requires.history.followed c.in-Some.ensures

pub replay-requires-clause-legal : goal.replay-requires-clause-legal
replay-requires-clause-legal c =
    let p = c.args.history.plans.now in
    let h = past_of c.args.history in
    let later = length h - c.args.events in
    legal_tail p (take later h) (drop later h) (subst (IsLegal p) (sym (take-append-drop later h)) c.requires.history.whole.legal)

pub returns : goal.returns
returns c = c.texel_sum.ensures ∙ ap texel_sum c.in_ok-images.ensures
