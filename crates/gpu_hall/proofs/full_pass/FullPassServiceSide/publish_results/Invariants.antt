use Rattle.std.proofs.Common.{◌≡◌, ◌++◌, take}
use Rattle.gpu_word.specs.Results.{writes_listed}
use Rattle.gpu_hall.proofs.full_pass.FullPassServiceSide.publish_results.Given as goal

-- the writes up to here are written
abbrev pub invariant-loop-write : goal.invariant-loop-write
invariant-loop-write l = l.results ≡ record l.fn.results { written = l.fn.results.written ++ writes_listed (take l.write-index l.writes) }
