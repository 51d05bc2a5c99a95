use Rattle.std.proofs.Common.{◌≡◌, ℕ, ◌+◌, drop}
use Rattle.gpu_fetch.specs.Side.{SideData}
use Rattle.gpu_fetch.specs.Plain.{IsBeside, IsNoteBeside}
use Rattle.service_tests.specs.Stirred.{puts_ahead, puts_further}
use Rattle.service_tests.proofs.tests.stirred_pass.put_many.Given as goal

abbrev pub invariant-loop-put : goal.invariant-loop-put
invariant-loop-put l = record {
  done : l.words ≡ puts_further l.fn.words l._put;
  beside : (side : SideData) → IsBeside side l.fn.words → IsBeside side l.words;
  notes : (side : SideData) (mark : ℕ) → IsNoteBeside side l.fn.words mark → IsNoteBeside side l.words mark;
  left : puts_ahead (drop l.words.done l.plan.actions) + l._put ≡ puts_ahead (drop l.fn.words.done l.plan.actions);
}
