use Rattle.std.proofs.Common.{◌≡◌, ℕ, eqb, true, List, [], ◌∷◌, length, refl, arith}
use Rattle.std.proofs.lemmas.Bool.{eqb-true}
use Rattle.sync_core.specs.declared.wait.Wait.{Wait}
use Rattle.gpu_journal.specs.Waits.{pending_in}
use Rattle.service_tests.proofs.tests.promises.none_waits.Goals as goal

none_of : (n : ℕ) (waits : List Wait) → n ≡ length waits → eqb n 0 ≡ true → waits ≡ []
none_of n [] count is = refl
none_of n (wait ∷ waits) count is = let none = eqb-true n 0 is in absurd (omega (arith, count, none))

pub returns : goal.returns
returns g c none = none_of c.waits.result.pending (pending_in g.N.Naming.plans c.args.hall.now.past) c.waits.ensures.pending none
