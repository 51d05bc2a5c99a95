use Rattle.std.proofs.Common.{arith}
use Rattle.std.proofs.lemmas.Map.Keys.{IsStrictlyIncreasing-from_sorted}
use Rattle.gpu_store.specs.Images.{numbers}
use Rattle.gpu_store.proofs.Counting.{count-within}
use Rattle.gpu_store.proofs.images.Images.count.Goals as goal

pub overflow_cast-result : goal.overflow_cast-result
overflow_cast-result c = omega (arith, count-within c.self.inside.texels c.self.inside.images.entries c.self.invariant)

pub returns-clause-rising : goal.returns-clause-rising
returns-clause-rising c = rw (← c.self.view_is) (IsStrictlyIncreasing-from_sorted (numbers c.self.inside.images.entries) c.len.ensures.ordered)
