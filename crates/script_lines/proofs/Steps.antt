-- Steps that say the same on both sides of a change.
use Rattle.std.proofs.Common.{◌≡◌, Bool, true, false, Result, Ok, Err, refl, ap, ◌∙◌}
use Rattle.script_lines.specs.declared.fault.Kind.{Kind}
use Rattle.script_lines.specs.Outcome.{◌>>=◌, unless}

-- what is said, as a function shows it
abbrev pub shown_by : {A B F : Type 0} → (A → B) → Result A F → Result B F
shown_by show (Ok x) = Ok (show x)
shown_by show (Err e) = Err e

module _ {A B C F : Type 0} (show : B → C) where
  -- a first step that is the same
  pub same_step : (r : Result A F) (f : A → Result C F) (g : A → Result B F) → ((x : A) → f x ≡ shown_by show (g x)) → (r >>= f) ≡ shown_by show (r >>= g)
  same_step (Ok x) f g rest = rest x
  same_step (Err e) f g rest = refl

  -- a first step that is shown too
  pub shown_step : {D : Type 0} (first : A → D) (s : Result D F) (r : Result A F) (f : D → Result C F) (g : A → Result B F) → s ≡ shown_by first r → ((x : A) → f (first x) ≡ shown_by show (g x)) → (s >>= f) ≡ shown_by show (r >>= g)
  shown_step first s (Ok x) f g is rest = ap (λ t. t >>= f) is ∙ rest x
  shown_step first s (Err e) f g is rest = ap (λ t. t >>= f) is

module _ {B C : Type 0} (show : B → C) where
  -- a first step that is a test
  pub test_step : (kind : Kind) (a b : Bool) (f : Unit {0} → Result C Kind) (g : Unit {0} → Result B Kind) → a ≡ b → f tt ≡ shown_by show (g tt) → (unless a kind >>= f) ≡ shown_by show (unless b kind >>= g)
  test_step kind a true f g is rest = ap (λ t. unless t kind >>= f) is ∙ rest
  test_step kind a false f g is rest = ap (λ t. unless t kind >>= f) is
