use Rattle.std.proofs.Common.{◌∙◌, List, [], ◌∷◌, ◌++◌, take, map, sym, ap, arith, append_assoc}
use Rattle.std.proofs.lemmas.List.{map_more, take_all}
use Rattle.sync_core.specs.declared.wait.Wait.{Wait}
use Rattle.sync_core.specs.declared.ending.Ending.{Ending}
use Rattle.sync_core.specs.Standing.{at}
use Rattle.sync_core.specs.Pending.{ending_of}
use Rattle.sync_core.proofs.ends.record_ends.Goals as goal

pub loop-wait-preserved : goal.loop-wait-preserved
loop-wait-preserved c =
    let f = ending_of (at c.args.streams.now) in
    let before = c.args.endings.now.items in
    let waits = c.args.waits.now in
    let i = c.loop-wait.wait-index in
    record {
      done =
          c.push_reserved.ensures.items ∙ ap (λ (l : List Ending). l ++ c.ending.result ∷ []) c.loop-wait.invariant.done
          ∙ append_assoc before (map f (take i waits)) (c.ending.result ∷ [])
          ∙ ap (λ (l : List Ending). before ++ l) (ap (λ (e : Ending). map f (take i waits) ++ e ∷ []) c.ending.ensures ∙ sym (map_more f waits i _ c.loop-wait-test.true));
      len = omega (arith, c.push_reserved.ensures.len, c.loop-wait.invariant.len);
      same = c.push_reserved.ensures.capacity ∙ c.loop-wait.invariant.same;
    }

pub returns-clause-endings : goal.returns-clause-endings
returns-clause-endings c =
    let f = ending_of (at c.args.streams.now) in
    c.loop-wait.invariant.done ∙ ap (λ (l : List Wait). c.args.endings.now.items ++ map f l) (take_all c.loop-wait.wait-index c.args.waits.now c.loop-wait-test.false)
