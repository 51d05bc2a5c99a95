-- A further look keeps what the type of a viewer says.
use Rattle.std.proofs.Common.{◌≡◌, ℕ, ◌+◌, ◌-◌, ◌^◌, ◌≤◌, ◌∷◌, [], length, length-append, min, Bool, refl, sym, ◌∙◌, subst, arith}
use Rattle.std.specs.Prelude.{Option, Some, IfSome, IsTrue, ◌&&◌, nat_lt, nat_le}
use Rattle.std.proofs.lemmas.Bool.Decides.{nat_tests}
use Rattle.live_view.specs.declared.known.Known.{Known}
use Rattle.live_view.specs.declared.look.Sight.{Sight}
use Rattle.live_view.specs.declared.shown.Shown.{Shown}
use Rattle.live_view.specs.Versions.{AreRising}
use Rattle.live_view.specs.Fronts.{FrontData}
use Rattle.live_view.specs.Looks.{look_of, sight}
use Rattle.live_view.specs.Rule.{IsBegun, HasFound, looked}
use Rattle.live_view.specs.Seen.{IsViewer, front_in}
use Rattle.live_view.proofs.Viewing.{looks_more, latest_more}

-- what was met begins what was found
begun_by : (known : Known) (shown : Shown) → known.front ≡ Some (front_in known) → HasFound known shown → IsBegun (front_in known) shown.front
begun_by known shown is finds = subst (λ (o : Option FrontData). IfSome o (λ f. IsBegun f shown.front)) is finds.begun

pub further : (known after : Known) (shown : Shown) (latest count number more : ℕ) → IsViewer known latest count → HasFound known shown → AreRising shown.front.versions → after ≡ looked known shown → number ≡ length shown.front.versions
    → more ≡ min (count + 1) (2 ^ 32 - 1) → IsViewer after number more
further known after shown latest count number more was finds rising is at counted =
    let begun = begun_by known shown was.met finds in
    let s : Sight = sight (length shown.front.versions - 1) (look_of shown.version) in
    subst (λ (k : Known). IsViewer k number more) (sym is) (record {
      met = refl;
      looks = looks_more (front_in known).versions shown.front.versions known.looks shown.version was.looks begun.longer rising finds.last;
      latest_is = at ∙ latest_more (front_in known).versions shown.front.versions known.looks shown.version was.looks begun.longer finds.last;
      counted = omega (arith, counted, was.counted, length-append known.looks (s ∷ []));
    })

-- what the answer of `learn` says
pub low_by : (b : Bool) (latest told : ℕ) → b ≡ (nat_lt told (2 ^ 64 - 1) && nat_le latest told) → IsTrue b → latest ≤ told
low_by b latest told is holds = grind (arith, nat_tests, is, holds)
