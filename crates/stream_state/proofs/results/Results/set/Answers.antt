-- Where all writes are done, each place has the last value that is written to it.
use Rattle.std.proofs.Common.{◌≡◌, [], drop, get_or, ap, sym, ◌∙◌, arith}
use Rattle.std.proofs.lemmas.List.{drop_all}
use Rattle.stream_state.specs.Writes.{left_by_writes}
use Rattle.stream_state.proofs.Writings.{values_after}
use Rattle.stream_state.proofs.results.Results.set.Goals as goal

pub returns : goal.returns
returns c =
    let none : drop c.loop-place.place-index c.args.writes.now ≡ [] = drop_all c.loop-place.place-index c.args.writes.now (omega arith) in
    values_after c.args.writes.now c.args.self.now c.loop-place.self-inside.values.items c.loop-place.invariant.sized c.requires
    (λ k. ap (λ left. left_by_writes left k (get_or c.loop-place.self-inside.values.items k 0)) (sym none) ∙ c.loop-place.invariant.written k)
