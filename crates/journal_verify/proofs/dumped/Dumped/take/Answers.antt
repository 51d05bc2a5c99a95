use Rattle.std.proofs.Common.{◌≡◌, get_or, take, subst, arith}
use Rattle.std.proofs.lemmas.List.{get_or_default, take_all}
use Rattle.stream_state.specs.Writes.{Writes}
use Rattle.journal_verify.specs.Dumped.{HasTakenUp}
use Rattle.journal_verify.proofs.Replacing.{taken_up_none, taken_up_more}
use Rattle.journal_verify.proofs.dumped.Dumped.take.Goals as goal

pub loop-place-init : goal.loop-place-init
loop-place-init c = taken_up_none c.args.finished c.args.self.now

pub loop-place-preserved : goal.loop-place-preserved
loop-place-preserved c =
    let ws = c.args.writes.now in
    let i = c.loop-place.place-index in
    let lt = c.loop-place-test.true in
    taken_up_more ws i c.args.finished (get_or ws i (0, 0)) c.args.self.now c.loop-place.self c.write.new.self c.requires lt (get_or_default ws i (0, 0) (get_or ws i (0, 0)) lt) c.loop-place.invariant c.in_ok-write.ensures

pub returns : goal.returns
returns c =
    let ws = c.args.writes.now in
    let all : take c.loop-place.place-index ws ≡ ws = take_all c.loop-place.place-index ws (omega arith) in
    subst (λ (l : Writes). HasTakenUp l c.args.finished c.args.self.now c.loop-place.self) all c.loop-place.invariant
