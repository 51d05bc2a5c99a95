use Rattle.std.proofs.Common.{◌≡◌, true, take}
use Rattle.std.specs.List.{list_all}
use Rattle.journal_verify.specs.Client.{may_have}
use Rattle.journal_verify.proofs.watch.Watch.may_have.Given as goal

abbrev pub invariant-loop-place : goal.invariant-loop-place
invariant-loop-place l = list_all (may_have l.self.client) (take l.place-index l.words) ≡ true
