use Rattle.std.proofs.lemmas.Result.{err_from_is_err_and}
use Rattle.script_lines.specs.Text.{words_of}
use Rattle.script_lines.proofs.Pairs.{goes_on, ends_first, ends_second, odd, is_done}
use Rattle.script_lines.proofs.fences.pairs_of.Goals as goal

pub returns-in-None : goal.returns-in-None
returns-in-None c = is_done c.loop-pairs.pairs.items (words_of c.loop-pairs.words.rest.now) _ c.in-None.ensures.steps.0 c.loop-pairs.invariant

pub returns-in-None-next : goal.returns-in-None-next
returns-in-None-next c = odd c.loop-pairs.pairs.items (words_of c.loop-pairs.words.rest.now) (words_of c.next.new.self.rest.now) c.in-Some.t.now _ c.in-Some.ensures.steps c.in-None-next.ensures.steps.0 c.loop-pairs.invariant

pub returns-in_err-target-in-Some-next : goal.returns-in_err-target-in-Some-next
returns-in_err-target-in-Some-next c =
    let p = err_from_is_err_and c.from_residual-in_err-target-in-Some-next.result c.from_residual-in_err-target-in-Some-next.ensures.1 in
    rw (p.1, p.2) (ends_first c.in_err-target-in-Some-next.field-0.0 c.loop-pairs.pairs.items (words_of c.loop-pairs.words.rest.now) (words_of c.next.new.self.rest.now) (words_of c.next-in-Some.new.self.rest.now) c.in-Some.t.now c.in-Some-next.r.now _ c.in-Some.ensures.steps c.in-Some-next.ensures.steps c.in_err-target-in-Some-next.ensures c.loop-pairs.invariant)

pub returns-in_err-release-in-Some-next : goal.returns-in_err-release-in-Some-next
returns-in_err-release-in-Some-next c =
    let p = err_from_is_err_and c.from_residual-in_err-release-in-Some-next.result c.from_residual-in_err-release-in-Some-next.ensures.1 in
    rw (p.1, p.2) (ends_second c.in_err-release-in-Some-next.field-0.0 c.loop-pairs.pairs.items (words_of c.loop-pairs.words.rest.now) (words_of c.next.new.self.rest.now) (words_of c.next-in-Some.new.self.rest.now) c.in-Some.t.now c.in-Some-next.r.now c.in_ok-target-in-Some-next.target _ c.in-Some.ensures.steps c.in-Some-next.ensures.steps c.in_ok-target-in-Some-next.ensures c.in_err-release-in-Some-next.ensures c.loop-pairs.invariant)

pub loop-pairs-preserved : goal.loop-pairs-preserved
loop-pairs-preserved c =
    rw c.in_ok-push-in-Some-next.ensures.items (goes_on c.loop-pairs.pairs.items (words_of c.loop-pairs.words.rest.now) (words_of c.next.new.self.rest.now) (words_of c.next-in-Some.new.self.rest.now) c.in-Some.t.now c.in-Some-next.r.now c.in_ok-target-in-Some-next.target c.in_ok-release-in-Some-next.release _ c.in-Some.ensures.steps c.in-Some-next.ensures.steps c.in_ok-target-in-Some-next.ensures c.in_ok-release-in-Some-next.ensures c.loop-pairs.invariant)
