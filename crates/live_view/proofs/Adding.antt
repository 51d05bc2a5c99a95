-- The exchange that adds a version keeps the rule of the list.
use Rattle.std.proofs.Common.{◌≡◌, ℕ, ◌+◌, ◌-◌, ◌<◌, ◌==◌, Bool, true, false, List, [], ◌∷◌, ◌++◌, length, refl, ap, sym, subst, arith, inl, length-append, None}
use Rattle.std.proofs.lemmas.List.{append-nil}
use Rattle.std.proofs.lemmas.List.Sorted.{IsNonDecreasingBy-push}
use Rattle.std.proofs.lemmas.Bool.Decides.{nat_tests}
use mathlib.Core.List.{IsPrefix}
use prog.Atomic.{either}
use Rattle.logbook.specs.Pages.{Cell, cell, keeps, no_nib, step, Moves, Goes}
use Rattle.live_view.specs.declared.version.Version.{Version}
use Rattle.live_view.specs.Versions.{AreRising, IsLatest}
use Rattle.live_view.specs.Fronts.{CountsVersions, AddsVersion}
use Rattle.live_view.proofs.Prefixes.{prefix_whole}

abbrev pub shown : List Version → List Version
shown versions = []

abbrev pub moved : List Version → List Version → ℕ → Type 0
moved before after n = Unit {0}

-- a version with no fewer events than any other may come after them
pub rises : (versions : List Version) (v : Version) → AreRising versions → IsLatest versions v.events → AreRising (versions ++ v ∷ [])
rises versions v rising latest =
    IsNonDecreasingBy-push (λ (w : Version). w.events) versions v rising (λ d some. latest (length versions - 1) d (omega arith))

adds_goes : (log seen : List Version) (v : Version) (old : ℕ) → length seen ≡ old → IsLatest seen v.events → AreRising log → IsPrefix seen log
    → (b : Bool) → (length log == old) ≡ b
    → Goes CountsVersions shown moved 0 (seen, (no_nib, None)) (λ n. either (n == old) (old + 1) n) (AddsVersion (step 0 old (old + 1) v) (seen, (no_nib, None))) ((length log, true) ∷ (0, true) ∷ []) log
adds_goes log seen v old len latest rising pre true is =
    let here : length log ≡ old = grind (arith, nat_tests) in
    let same : seen ≡ log = prefix_whole seen log pre (omega arith) in
    let n : either (length log == old) (old + 1) (length log) ≡ length (log ++ v ∷ []) = rw is (omega (arith, length-append log (v ∷ []))) in (
      keeps,
      v ∷ [],
      None,
      tt,
      record { words = ap (λ (k : ℕ). (k, true) ∷ (0, true) ∷ []) n; rising = rises log v rising (subst (λ (l : List Version). IsLatest l v.events) same latest) },
      inl (refl, refl),
      rw is (ap (λ (l : List Version). l ++ v ∷ []) (sym same)),
    )
adds_goes log seen v old len latest rising pre false is =
    let all : log ++ [] ≡ log = append-nil log in
    let n : either (length log == old) (old + 1) (length log) ≡ length (log ++ []) = rw is (ap length (sym all)) in (
      keeps,
      [],
      None,
      tt,
      record { words = ap (λ (k : ℕ). (k, true) ∷ (0, true) ∷ []) n; rising = subst AreRising (sym all) rising },
      inl (refl, refl),
      rw is tt,
    )

-- whatever the list is, the exchange adds the version to all that was seen, or finds another number
pub adds_moves : (seen : List Version) (v : Version) (old : ℕ) → length seen ≡ old → IsLatest seen v.events
    → Moves CountsVersions shown moved 0 (seen, (no_nib, None)) (λ n. either (n == old) (old + 1) n) (AddsVersion (step 0 old (old + 1) v) (seen, (no_nib, None)))
adds_moves seen v old len latest cs log kept pre away =
    let P : List Cell → Type 0 = λ c. (0 < length c) × ((cell c 0).1 ≡ true) × Goes CountsVersions shown moved 0 (seen, (no_nib, None)) (λ n. either (n == old) (old + 1) n) (AddsVersion (step 0 old (old + 1) v) (seen, (no_nib, None))) c log in
    subst P (sym kept.words) (omega arith, refl, adds_goes log seen v old len latest kept.rising pre (length log == old) refl)
