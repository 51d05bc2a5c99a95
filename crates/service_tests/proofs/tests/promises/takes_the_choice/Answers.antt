use Rattle.std.proofs.Common.{◌≡◌, ℕ, Option, Some, None, sym}
use Rattle.std.specs.Prelude.{option_map, IfSome, IfNone}
use Rattle.service_tests.proofs.tests.promises.takes_the_choice.Goals as goal

some_of : {T : Type 0} (f : T → ℕ) (r : Option T) (chosen : Option ℕ) → option_map f r ≡ chosen → IfSome r (λ out. chosen ≡ Some (f out))
some_of f (Some out) chosen is = sym is
some_of f None chosen is = tt

none_of : {T : Type 0} (f : T → ℕ) (r : Option T) (chosen : Option ℕ) → option_map f r ≡ chosen → IfNone r (chosen ≡ None)
none_of f (Some out) chosen is = tt
none_of f None chosen is = sym is

pub returns-clause-chosen : goal.returns-clause-chosen
returns-clause-chosen g c = some_of _ c.take.result _ c.take.ensures.choice

pub returns-clause-idle : goal.returns-clause-idle
returns-clause-idle g c = none_of _ c.take.result _ c.take.ensures.choice
