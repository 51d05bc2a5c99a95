use Rattle.std.proofs.Common.{◌≡◌, ◌+◌, ◌≤◌, length}
use Rattle.std.specs.Prelude.{vec_capacity}
use Rattle.std.specs.List.{All}
use Rattle.gpu_hall.specs.Looks.{AreViewerLooks}
use Rattle.gpu_threads.specs.Views.{IsViewerOf}
use Rattle.gpu_threads.proofs.views.look_all.Given as goal

-- the viewers up to here have seen all
abbrev pub invariant-loop-watch : goal.invariant-loop-watch
invariant-loop-watch g l = record {
  same : l.shown ≡ l.fn.shown;
  left : All (IsViewerOf l.fn.shown) l.watch-iterator.rest.items;
  many : length l.seen.items + length l.watch-iterator.rest.items ≡ length l.fn.watches.items;
  room : length l.fn.watches.items ≤ vec_capacity l.seen;
  done : All (λ looks. AreViewerLooks l.fn.shown.plans l.fn.shown.past looks.items) l.seen.items;
}
