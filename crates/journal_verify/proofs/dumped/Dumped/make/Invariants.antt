use Rattle.std.proofs.Common.{◌≡◌, true, false, length, take}
use Rattle.std.specs.Prelude.{slice_index_or}
use Rattle.std.specs.List.{All}
use Rattle.journal_verify.proofs.dumped.Dumped.make.Given as goal

abbrev pub invariant-loop-place : goal.invariant-loop-place
invariant-loop-place l = record {
  count : length l.is_dumped.items ≡ l.count;
  watched : All (λ dump. slice_index_or l.is_dumped.items dump.1 false ≡ true) (take l.place-index l.dumps);
}
