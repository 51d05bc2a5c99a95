-- The rule of the live view, and what each kind of step tells.
use Rattle.std.specs.Prelude.{◌≡◌, ℕ, ◌-◌, List, [], ◌∷◌, ◌++◌, length, Some, None, IfSome, slice_get}
use mathlib.Core.Option.{some}
use mathlib.Core.List.{IsPrefix}
use lib.ListN.{get_elem?}
use Rattle.live_view.specs.declared.version.Version.{Version}
use Rattle.live_view.specs.declared.shown.Shown.{Shown}
use Rattle.live_view.specs.declared.known.Known.{Known}
use Rattle.live_view.specs.Fronts.{FrontData}
use Rattle.live_view.specs.Looks.{look_of, sight}

-- the version ends the list
abbrev pub IsLast : Version → List Version → Type 0
IsLast version versions = slice_get versions (length versions - 1) ≡ Some version

-- the versions of one front begin those of another, of the same view
pub record IsBegun (front now : FrontData) : Type 0 where
  pub same : front.view ≡ now.view
  pub longer : IsPrefix front.versions now.versions

-- nothing is known, and there was no look
abbrev pub nothing : Known
nothing = record { front = None; looks = [] }

-- what was met before begins the list of the published versions
abbrev pub Fits : Shown → Known → Type 0
Fits shown known = IfSome known.front (λ front. IsBegun front shown.front)

-- the rule: the published version ends its list, and what each reader and the writer met begins that list
pub record Holds (shown : Shown) (views : List Known) : Type 0 where
  pub last : IsLast shown.version shown.front.versions
  pub begun : (seat : ℕ) (known : Known) → get_elem? views seat ≡ some known → Fits shown known

-- the facts once a value was met
abbrev pub met : Known → Shown → Known
met known shown = record known { front = Some shown.front }

-- the same, and one look more
abbrev pub looked : Known → Shown → Known
looked known shown =
    record { front = Some shown.front; looks = known.looks ++ sight (length shown.front.versions - 1) (look_of shown.version) ∷ [] }

-- what was found ends its list, which what was met before begins
pub record HasFound (known : Known) (shown : Shown) : Type 0 where
  pub last : IsLast shown.version shown.front.versions
  pub begun : Fits shown known

abbrev pub looks : Known → Shown → Shown → Known → Type 0
looks known shown still after = HasFound known shown × (after ≡ looked known shown)

abbrev pub meets : Known → Shown → Shown → Known → Type 0
meets known shown still after = HasFound known shown × (after ≡ met known shown)

abbrev pub publishes : Known → Shown → Shown → Known → Type 0
publishes known shown next after = after ≡ met known next

-- a viewer knows what it heard
abbrev pub informed : Known → Known → Known
informed known told = record known { front = told.front }
