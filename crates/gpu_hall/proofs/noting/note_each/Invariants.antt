use Rattle.std.proofs.Common.{◌≡◌, ◌++◌, ◌≤◌, length}
use Rattle.std.specs.List.{All}
use Rattle.gpu_store.specs.Images.{HasItsTexels}
use Rattle.gpu_hall.proofs.noting.note_each.Given as goal

abbrev pub invariant-loop-op : goal.invariant-loop-op
invariant-loop-op l = record {
  told : l.writer ≡ record l.fn.writer { noted = l.fn.writer.noted ++ l.yielded; spare = l.writer.spare };
  room : length l.op-iterator.rest.items ≤ l.writer.spare;
  texels : All HasItsTexels l.op-iterator.rest.items;
  all : l.fn.ops.items ≡ l.yielded ++ l.op-iterator.rest.items;
}
