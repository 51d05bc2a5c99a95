-- A further look, and what the looks of a viewer are of.
use Rattle.std.proofs.Common.{◌≡◌, ℕ, zero, suc, ◌+◌, ◌-◌, ◌<◌, ◌≤◌, max, List, [], ◌∷◌, ◌++◌, length, fold, get_or, Option, Some, None, refl, sym, ap, ◌∙◌, arith}
use Rattle.std.specs.Prelude.{slice_get, option_map}
use Rattle.std.specs.List.{All}
use Rattle.std.proofs.lemmas.List.Elements.{All-push}
use Rattle.std.proofs.lemmas.List.Sorted.{IsNonDecreasingBy-push}
use Rattle.std.proofs.lemmas.List.Sums.{fold-append}
use Rattle.std.proofs.lemmas.Option.{slice_get-get_or, slice_get_within, get_or_from_slice_get}
use mathlib.Core.List.{IsPrefix}
use Rattle.live_view.specs.declared.version.Version.{Version}
use Rattle.live_view.specs.declared.look.Look.{Look}
use Rattle.live_view.specs.declared.look.Sight.{Sight}
use Rattle.live_view.specs.Versions.{AreRising}
use Rattle.live_view.specs.Looks.{look_of, sight, IsOf, AreLooks, latest_of}
use Rattle.live_view.specs.Rule.{IsLast}
use Rattle.live_view.proofs.Prefixes.{prefix_get, prefix_length}

-- the version that a look is of
pub seen_at : (found : Option Version) (look : Look) → option_map look_of found ≡ Some look → (v : Version) × (found ≡ Some v) × (look_of v ≡ look)
seen_at None look is = absurd cc
seen_at (Some v) look is = (v, refl, cc)

-- a look at a version of a list is one at a version of each list that goes on after it
pub of_longer : (old new : List Version) (s : Sight) → IsPrefix old new → IsOf old s → IsOf new s
of_longer old new s pre is = let v = seen_at (slice_get old s.place) s.look is in ap (option_map look_of) (prefix_get old new s.place v.0 pre v.1 ∙ sym v.1) ∙ is

-- what stands in a list stands in each beginning that is long enough
prefix_back : (told new : List Version) (k : ℕ) (v : Version) → IsPrefix told new → k < length told → slice_get new k ≡ Some v → slice_get told k ≡ Some v
prefix_back told new k v pre lt at =
    let w = get_or told k v in
    let here : slice_get told k ≡ Some w = slice_get-get_or told k v lt in
    let there : slice_get new k ≡ Some w = prefix_get told new k w pre here in
    here ∙ sym there ∙ at

-- a look whose place is below the number of versions told is one at a version that was reported
pub of_told : (old told new : List Version) (s : Sight) → IsPrefix old new → IsPrefix told new → s.place < length told → IsOf old s → IsOf told s
of_told old told new s pre pre' lt is =
    let v = seen_at (slice_get old s.place) s.look is in
    ap (option_map look_of) (prefix_back told new s.place v.0 pre' lt (prefix_get old new s.place v.0 pre v.1)) ∙ ap Some v.2

-- the greatest number is no lower than the first, and above each place
pub above : (looks : List Sight) (n : ℕ) → n ≤ fold (λ latest s. max latest (s.place + 1)) n looks
above [] n = omega arith
above (s ∷ looks) n = let more = above looks (max n (s.place + 1)) in omega arith

pub above_each : (looks : List Sight) (n i : ℕ) (d : Sight) → i < length looks → (get_or looks i d).place < fold (λ latest s. max latest (s.place + 1)) n looks
above_each [] n i d lt = absurd (omega arith)
above_each (s ∷ looks) n zero d lt = let more = above looks (max n (s.place + 1)) in omega arith
above_each (s ∷ looks) n (suc i) d lt = above_each looks (max n (s.place + 1)) i d (omega arith)

-- and no higher than what each place is below
pub within : (looks : List Sight) (n most : ℕ) → n ≤ most → ((i : ℕ) (d : Sight) → i < length looks → (get_or looks i d).place < most) → fold (λ latest s. max latest (s.place + 1)) n looks ≤ most
within [] n most le each = le
within (s ∷ looks) n most le each = let one = each 0 s (omega arith) in within looks (max n (s.place + 1)) most (omega arith) (λ i d lt. each (suc i) d (omega arith))

-- each look of a viewer is at a place of its list
place_within : (versions : List Version) (s : Sight) → IsOf versions s → s.place < length versions
place_within versions s is = let v = seen_at (slice_get versions s.place) s.look is in slice_get_within versions s.place v.0 v.1

pub latest_within : (versions : List Version) (looks : List Sight) → AreLooks versions looks → latest_of looks ≤ length versions
latest_within versions looks are = within looks 0 (length versions) (omega arith) (λ i d lt. place_within versions (get_or looks i d) (are.each i d lt))

-- one look more, at the last version
pub latest_more : (old new : List Version) (looks : List Sight) (v : Version) → AreLooks old looks → IsPrefix old new → IsLast v new → length new ≡ latest_of (looks ++ sight (length new - 1) (look_of v) ∷ [])
latest_more old new looks v are pre last =
    let some : length new - 1 < length new = slice_get_within new (length new - 1) v last in
    let low = latest_within old looks are in
    let longer = prefix_length old new pre in
    let split : latest_of (looks ++ sight (length new - 1) (look_of v) ∷ []) ≡ max (latest_of looks) (length new - 1 + 1) = fold-append (λ latest s. max latest (s.place + 1)) 0 looks (sight (length new - 1) (look_of v) ∷ []) in
    omega (arith, split)

-- no look before has more events than the last version
events_below : (old new : List Version) (s : Sight) (v : Version) → IsOf old s → IsPrefix old new → AreRising new → IsLast v new → s.look.events ≤ v.events
events_below old new s v is pre rising last =
    let w = seen_at (slice_get old s.place) s.look is in
    let there : slice_get new s.place ≡ Some w.0 = prefix_get old new s.place w.0 pre w.1 in
    let lt = slice_get_within new s.place w.0 there in
    let end = slice_get_within new (length new - 1) v last in
    let order = rising s.place (length new - 1) v (omega arith) (omega arith) in
    let low : (get_or new s.place v).events ≡ s.look.events = ap (λ (x : Version). x.events) (get_or_from_slice_get new s.place w.0 v there) ∙ ap (λ (l : Look). l.events) w.2 in
    let high : (get_or new (length new - 1) v).events ≡ v.events = ap (λ (x : Version). x.events) (get_or_from_slice_get new (length new - 1) v v last) in
    omega (arith, order, low, high)

pub looks_more : (old new : List Version) (looks : List Sight) (v : Version) → AreLooks old looks → IsPrefix old new → AreRising new → IsLast v new → AreLooks new (looks ++ sight (length new - 1) (look_of v) ∷ [])
looks_more old new looks v are pre rising last =
    let s = sight (length new - 1) (look_of v) in record {
      each = All-push (IsOf new) looks s (λ i d lt. of_longer old new (get_or looks i d) pre (are.each i d lt)) (ap (option_map look_of) last);
      places = IsNonDecreasingBy-push (λ (t : Sight). t.place) looks s are.places (λ d some.
          let one = place_within old (get_or looks (length looks - 1) d) (are.each (length looks - 1) d (omega arith)) in
          let longer = prefix_length old new pre in
          omega arith);
      events = IsNonDecreasingBy-push (λ (t : Sight). t.look.events) looks s are.events (λ d some. events_below old new (get_or looks (length looks - 1) d) v (are.each (length looks - 1) d (omega arith)) pre rising last);
    }

-- the same looks, at a longer list
pub looks_longer : (old new : List Version) (looks : List Sight) → AreLooks old looks → IsPrefix old new → AreLooks new looks
looks_longer old new looks are pre = record { each = λ i d lt. of_longer old new (get_or looks i d) pre (are.each i d lt); places = are.places; events = are.events }

-- where the latest look is at a version that was reported, all looks are
pub looks_told : (old told new : List Version) (looks : List Sight) → AreLooks old looks → IsPrefix old new → IsPrefix told new → latest_of looks ≤ length told → All (IsOf told) looks
looks_told old told new looks are pre pre' low i d lt =
    let below = above_each looks 0 i d lt in
    of_told old told new (get_or looks i d) pre pre' (omega arith) (are.each i d lt)
