use Rattle.std.proofs.Common.{◌≡◌, ◌<◌, ℕ, List, ◌++◌, length, get_or, subst}
use Rattle.stream_state.specs.State.{result_of}
use Rattle.gpu_run.specs.Reading.{read_left}
use Rattle.gpu_run.proofs.DumpLists.{left_further}
use Rattle.gpu_run.proofs.reading.read_left.Goals as goal

pub loop-dump-preserved : goal.loop-dump-preserved
loop-dump-preserved c =
    let planned = c.args.planned.now in
    let f : ℕ → ℕ = result_of c.args.state.now in
    let dump = c.in-Some.dump.now in
    left_further planned c.loop-dump.dumps c.push.new.self (c.args.dumps.now ++ read_left planned c.args.dumps.now f) f dump c.result.result
    (subst (λ (l : List (ℕ × ℕ × ℕ)). length l < length planned) c.as_slice.ensures c.in-Some.ensures.lookup.3.0)
    (subst (λ (l : List (ℕ × ℕ × ℕ)). dump ≡ get_or planned (length l) dump) c.as_slice.ensures c.in-Some.ensures.lookup.1) c.result.ensures c.in_ok-push.ensures.pushed c.loop-dump.invariant
