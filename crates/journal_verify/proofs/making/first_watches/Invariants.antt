use Rattle.std.proofs.Common.{◌≡◌, length}
use Rattle.journal_verify.specs.Follows.{AreFirst}
use Rattle.journal_verify.proofs.making.first_watches.Given as goal

abbrev pub invariant-loop-index : goal.invariant-loop-index
invariant-loop-index l = record {
  count : length l.watches.items ≡ l.index;
  first : AreFirst l.plans l.watches.items;
}
