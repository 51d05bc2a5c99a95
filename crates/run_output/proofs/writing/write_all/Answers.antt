use Rattle.std.proofs.Common.{◌≡◌, ◌++◌, take, length, length-append, ap, arith, ◌∙◌, append_assoc}
use Rattle.std.proofs.lemmas.List.{take-append-drop}
use Rattle.run_output.proofs.Appending.{Appends-then}
use Rattle.run_output.proofs.writing.write_all.Goals as goal

pub loop-rest-preserved : goal.loop-rest-preserved
loop-rest-preserved g c =
    let kept = c.loop-rest.invariant in
    let front = kept.appended.0 in
    let rest = c.loop-rest.rest.now in
    let n = c.in_ok-count.count in
    let cut : take n rest ++ c.split_at.result.1.now ≡ rest = rw c.split_at.ensures.back (take-append-drop n rest) in
    record {
      appended = (front ++ take n rest, append_assoc front (take n rest) c.split_at.result.1.now ∙ (rw cut kept.appended.1), Appends-then _ _ _ front (take n rest) kept.appended.2 c.in_ok-count.ensures.appended);
      later = omega arith;
      untouched = λ none.
          let never : ⊥ = omega (arith, ap length kept.appended.1, ap length none, length-append front rest, c.in_ok-count.ensures.some, c.in_ok-count.ensures.bound) in
          absurd never;
    }
