-- The list of versions, as who has seen a beginning of it knows it.
use Rattle.std.specs.Prelude.{◌≡◌, ℕ, ◌==◌, true, List, [], ◌∷◌, ◌++◌, length, MatchBool}
use Rattle.logbook.specs.Pages.{Book, Cell, Named, Step, View}
use Rattle.live_view.specs.declared.version.Version.{Version}
use Rattle.live_view.specs.Versions.{AreRising}

-- which view it is, and the versions that its list began with when it was seen
pub record FrontData : Type 0 where
  pub view : Book
  pub versions : List Version

-- the number of versions lies in the first word, and their events do not fall. The second word is not used
pub record CountsVersions (cells : List Cell) (versions : List Version) : Type 0 where
  pub words : cells ≡ (length versions, true) ∷ (0, true) ∷ []
  pub rising : AreRising versions

-- the word that counts the versions of a view
abbrev pub version_count : Book → Named
version_count view = record { tracked = true; key = 0; book = view }

-- where the number found was the one expected, the version was added to all that had been seen
abbrev pub AddsVersion : Step Version → View Version ℕ → ℕ → View Version ℕ → Type 0
AddsVersion step before found after = MatchBool (found == step.old) (after.0 ≡ before.0 ++ step.ask ∷ []) (Unit {0})
