use Rattle.std.proofs.Common.{◌≡◌, ◌++◌, []}
use Rattle.std.specs.List.{All}
use Rattle.gpu_threads.proofs.views.watches_of.Given as goal

-- the viewers up to here have their place
abbrev pub invariant-loop-viewer : goal.invariant-loop-viewer
invariant-loop-viewer l = record {
  are : l.watches.items ++ l.viewer-iterator.rest.items ≡ l.fn.viewers.items;
  new : All (λ viewer. viewer.looks ≡ []) l.viewer-iterator.rest.items;
}
