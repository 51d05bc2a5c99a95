-- What a plan keeps of the fences of its flushes.
use Rattle.std.proofs.Common.{◌≡◌, ℕ, zero, suc, ◌+◌, ◌<◌, ◌≤◌, Bool, true, false, cond, List, [], ◌∷◌, ◌++◌, length, map, get_or, option_map, Some, Result, Ok, Err, IfOk, IfErr, refl, sym, ap, ◌∙◌, subst, arith}
use Rattle.std.specs.Prelude.{◌==◌, slice_get, HoldsAt}
use Rattle.std.specs.List.{All}
use Rattle.std.specs.List.Sorted.{IsSearchInRange, IsBinarySearchResult, IsNonDecreasingBy}
use Rattle.std.specs.Ordering.{nat_cmp, ordering_index}
use Rattle.std.proofs.lemmas.Cmp.{ranked}
use Rattle.std.proofs.lemmas.Bool.{eq-eqb, ne_eqb}
use Rattle.std.proofs.lemmas.Bool.Decides.{nat_tests}
use Rattle.std.proofs.lemmas.List.{append_assoc, map-append}
use Rattle.std.proofs.lemmas.List.Sorted.{IsNonDecreasingBy-from_default}
use Rattle.std.proofs.lemmas.List.Elements.{All-nil, All-cons}
use Rattle.std.proofs.lemmas.List.Kept.{AllPairs-cons}
use Rattle.std.proofs.lemmas.Option.{slice_get-map, slice_get_read}
use Rattle.gpu_plan.specs.declared.plan.Action.{Action}
use Rattle.gpu_plan.specs.declared.plan.Action.TheVariants.{Put, Flush, Finish, Token, Close}
use Rattle.gpu_plan.specs.Plans.{HasFewFences}
use Rattle.gpu_plan.specs.Adding.{puts}
use Rattle.gpu_plan.specs.Renumbered.{renumbered_fence, renumbered_note, renumbered_action}
use Rattle.gpu_plan.specs.Fencing.{fences_in, noted_fences, fenced_from, noted_at, IsBefore, Rise}
use Rattle.gpu_plan.proofs.Partly.{partly, partly_long, partly_at}

abbrev Notes : Type 0
Notes = List (ℕ × List (ℕ × ℕ))

-- ---- what is noted of a place

skips : (k at : ℕ) (fences : List (ℕ × ℕ)) (rest : Notes) → (at == k) ≡ false → noted_at k (noted_fences at fences ++ rest) ≡ noted_at k rest
skips k at [] rest other = refl
skips k at (fence ∷ fences) rest other = ap (λ b. cond b (fence ∷ fences) (noted_at k rest)) other

finds : (k at : ℕ) (fences : List (ℕ × ℕ)) (rest : Notes) → (at == k) ≡ true → noted_at k rest ≡ [] → noted_at k (noted_fences at fences ++ rest) ≡ fences
finds k at [] rest same none = none
finds k at (fence ∷ fences) rest same none = ap (λ b. cond b (fence ∷ fences) (noted_at k rest)) same

none_before : (k j : ℕ) (actions : List Action) → k < j → noted_at k (fenced_from j actions) ≡ []
none_before k j [] before = refl
none_before k j (action ∷ actions) before = skips k j (fences_in (Some action)) (fenced_from (j + 1) actions) (ne_eqb j k (λ same. omega arith)) ∙ none_before k (j + 1) actions (omega arith)

noted_behind : (j k : ℕ) (actions : List Action) → noted_at (j + k) (fenced_from j actions) ≡ fences_in (slice_get actions k)
noted_behind j k [] = refl
noted_behind j zero (action ∷ actions) = finds (j + 0) j (fences_in (Some action)) (fenced_from (j + 1) actions) (eq-eqb j (j + 0) (omega arith)) (none_before (j + 0) (j + 1) actions (omega arith))
noted_behind j (suc k) (action ∷ actions) =
    let further : j + suc k ≡ j + 1 + k = omega arith in
    skips (j + suc k) j (fences_in (Some action)) (fenced_from (j + 1) actions) (ne_eqb j (j + suc k) (λ same. omega arith))
    ∙ ap (λ n. noted_at n (fenced_from (j + 1) actions)) further ∙ noted_behind (j + 1) k actions

pub noted_here : (place : ℕ) (fenced : Notes) (actions : List Action) → fenced ≡ fenced_from 0 actions → noted_at place fenced ≡ fences_in (slice_get actions place)
noted_here place fenced actions is =
    let same : place ≡ 0 + place = omega arith in
    ap (noted_at place) is ∙ ap (λ n. noted_at n (fenced_from 0 actions)) same ∙ noted_behind 0 place actions

-- ---- the places of noted flushes rise

abbrev AheadOf : ℕ → ℕ × List (ℕ × ℕ) → Type 0
AheadOf i next = i < next.0

later_note : (i j : ℕ) (fences : List (ℕ × ℕ)) (rest : Notes) → i < j → All (AheadOf i) rest → All (AheadOf i) (noted_fences j fences ++ rest)
later_note i j [] rest less h = h
later_note i j (fence ∷ fences) rest less h = All-cons (AheadOf i) (j, fence ∷ fences) rest less h

later : (i j : ℕ) (actions : List Action) → i < j → All (AheadOf i) (fenced_from j actions)
later i j [] less = All-nil (AheadOf i)
later i j (action ∷ actions) less = later_note i j (fences_in (Some action)) (fenced_from (j + 1) actions) less (later i (j + 1) actions (omega arith))

rise_note : (j : ℕ) (fences : List (ℕ × ℕ)) (rest : Notes) → All (AheadOf j) rest → Rise rest → Rise (noted_fences j fences ++ rest)
rise_note j [] rest ahead h = h
rise_note j (fence ∷ fences) rest ahead h = AllPairs-cons IsBefore (j, fence ∷ fences) rest ahead h

rise_from : (j : ℕ) (actions : List Action) → Rise (fenced_from j actions)
rise_from j [] = λ i k d less within. absurd (omega arith)
rise_from j (action ∷ actions) = rise_note j (fences_in (Some action)) (fenced_from (j + 1) actions) (later j (j + 1) actions (omega arith)) (rise_from (j + 1) actions)

pub rise_here : (fenced : Notes) (actions : List Action) → fenced ≡ fenced_from 0 actions → Rise fenced
rise_here fenced actions is = subst Rise (sym is) (rise_from 0 actions)

-- ---- what a search finds

none_noted : (k : ℕ) (fenced : Notes) → ((i : ℕ) → i < length fenced → (get_or fenced i (0, [])).0 ≡ k → ⊥) → noted_at k fenced ≡ []
none_noted k [] none = refl
none_noted k (flush ∷ fenced) none =
    ap (λ b. cond b flush.1 (noted_at k fenced)) (ne_eqb flush.0 k (none 0 (omega arith))) ∙ none_noted k fenced (λ i within. none (suc i) (omega arith))

first_noted : (k at : ℕ) (d : ℕ × List (ℕ × ℕ)) (fenced : Notes) → at < length fenced → (get_or fenced at d).0 ≡ k → ((i : ℕ) → i < at → (get_or fenced i d).0 ≡ k → ⊥) → noted_at k fenced ≡ (get_or fenced at d).1
first_noted k at d [] within is none = absurd (omega arith)
first_noted k zero d (flush ∷ fenced) within is none = ap (λ b. cond b flush.1 (noted_at k fenced)) (eq-eqb flush.0 k is)
first_noted k (suc at) d (flush ∷ fenced) within is none =
    ap (λ b. cond b flush.1 (noted_at k fenced)) (ne_eqb flush.0 k (none 0 (omega arith)))
    ∙ first_noted k at d fenced (omega arith) is (λ i less. none (suc i) (omega arith))

module _ (fenced : Notes) (rise : Rise fenced) (k : ℕ) where
  -- the comparisons with k rise along the list, as a binary search asks
  comparisons_rise : IsNonDecreasingBy (λ (flush : ℕ × List (ℕ × ℕ)). ordering_index (nat_cmp flush.0 k)) fenced
  comparisons_rise = IsNonDecreasingBy-from_default (λ (flush : ℕ × List (ℕ × ℕ)). ordering_index (nat_cmp flush.0 k)) fenced (0, []) (λ i j le within.
      let places : (get_or fenced i (0, [])).0 ≤ (get_or fenced j (0, [])).0 = grind (arith, rise i j (0, []), λ (same : i ≡ j). ap (λ n. (get_or fenced n (0, [])).0) same) in
      grind (arith, nat_tests))

  pub searched : (r : Result ℕ ℕ) → IsSearchInRange r (length fenced) → IsBinarySearchResult (λ (flush : ℕ × List (ℕ × ℕ)). nat_cmp flush.0 k) fenced r
      → record { within : IfOk r (λ at. at < length fenced); found : IfOk r (HoldsAt (λ (flush : ℕ × List (ℕ × ℕ)). noted_at k fenced ≡ flush.1) fenced); absent : IfErr r (λ at. noted_at k fenced ≡ []) }
  searched (Ok at) within equal = record {
    within = within;
    found = λ d.
        let is : (get_or fenced at d).0 ≡ k = ranked _ k _ (sym (equal d)) in
        first_noted k at d fenced within is (λ i less same. let lower = rise i at d less within in omega arith);
    absent = tt;
  }
  searched (Err at) within parted =
      let split = parted comparisons_rise in
      let before : (i : ℕ) → i < at → (get_or fenced i (0, [])).0 < k = λ i less. ranked _ k _ (sym (split.0 i (0, []) (omega arith) less)) in
      let after : (i : ℕ) → at ≤ i → i < length fenced → k < (get_or fenced i (0, [])).0 = λ i most less. ranked _ k _ (sym (split.1 i (0, []) most less)) in
      record { within = tt; found = tt; absent = none_noted k fenced (λ i less same. grind (arith, before i, after i)) }

-- ---- what is noted as actions are added

behind : (j : ℕ) (old more : List Action) → fenced_from j (old ++ more) ≡ fenced_from j old ++ fenced_from (j + length old) more
behind j [] more = let same : j ≡ j + 0 = omega arith in ap (λ n. fenced_from n more) same
behind j (action ∷ old) more =
    let further : j + 1 + length old ≡ j + suc (length old) = omega arith in
    ap (λ notes. noted_fences j (fences_in (Some action)) ++ notes) (behind (j + 1) old more ∙ ap (λ n. fenced_from (j + 1) old ++ fenced_from n more) further)
    ∙ sym (append_assoc (noted_fences j (fences_in (Some action))) (fenced_from (j + 1) old) (fenced_from (j + suc (length old)) more))

all_behind : (old more : List Action) → fenced_from 0 (old ++ more) ≡ fenced_from 0 old ++ fenced_from (length old) more
all_behind old more =
    let same : 0 + length old ≡ length old = omega arith in
    behind 0 old more ∙ ap (λ n. fenced_from 0 old ++ fenced_from n more) same

with_nothing : {X : Type 0} (xs ys : List X) → ys ≡ [] → xs ++ ys ≡ xs
with_nothing [] ys none = none
with_nothing (x ∷ xs) ys none = ap (λ rest. x ∷ rest) (with_nothing xs ys none)

pub notes_stay : (fenced : Notes) (old more new : List Action) → fenced ≡ fenced_from 0 old → fenced_from (length old) more ≡ [] → new ≡ old ++ more → fenced ≡ fenced_from 0 new
notes_stay fenced old more new is none added = is ∙ sym (ap (fenced_from 0) added ∙ all_behind old more ∙ with_nothing (fenced_from 0 old) (fenced_from (length old) more) none)

pub puts_unfenced : (k place : ℕ) (values : List ℕ) → fenced_from k (puts place values) ≡ []
puts_unfenced k place [] = refl
puts_unfenced k place (value ∷ values) = puts_unfenced (k + 1) (place + 1) values

pub one_unfenced : (k : ℕ) (action : Action) → fences_in (Some action) ≡ [] → fenced_from k (action ∷ []) ≡ []
one_unfenced k action none = rw none refl

one_noted : (k : ℕ) (fences : List (ℕ × ℕ)) → (fences ≡ [] → ⊥) → noted_fences k fences ≡ (k, fences) ∷ []
one_noted k [] some = absurd (some refl)
one_noted k (fence ∷ fences) some = refl

pub notes_grow : (fenced grown : Notes) (old new : List Action) (at put : ℕ) (fences : List (ℕ × ℕ)) → fenced ≡ fenced_from 0 old → (fences ≡ [] → ⊥) → at ≡ length old → new ≡ old ++ Flush put fences ∷ [] → grown ≡ fenced ++ (at, fences) ∷ [] → grown ≡ fenced_from 0 new
notes_grow fenced grown old new at put fences is some there added longer =
    let one : fenced_from (length old) (Flush put fences ∷ []) ≡ (length old, fences) ∷ [] = with_nothing (noted_fences (length old) fences) [] refl ∙ one_noted (length old) fences some in
    longer ∙ ap (λ n. fenced ++ (n, fences) ∷ []) there ∙ ap (λ notes. notes ++ (length old, fences) ∷ []) is ∙ sym (ap (fenced_from 0) added ∙ all_behind old (Flush put fences ∷ []) ∙ ap (λ notes. fenced_from 0 old ++ notes) one)

-- fences that are not empty, as a test of their length says
pub some_fence : (fences : List (ℕ × ℕ)) (count : ℕ) (is_empty : Bool) → is_empty ≡ (count == 0) → is_empty ≡ false → count ≡ length fences → fences ≡ [] → ⊥
some_fence fences zero is_empty tells not long none = absurd cc
some_fence fences (suc count) is_empty tells not long none = let bare = ap length none in omega arith

-- an action without fences has few
pub few_of_none : (action : Action) → fences_in (Some action) ≡ [] → HasFewFences action
few_of_none (Put place value) none = tt
few_of_none (Flush put fences) none = rw none (omega arith)
few_of_none Finish none = tt
few_of_none (Token token) none = tt
few_of_none Close none = tt

-- ---- what is noted as fences are renumbered

module _ (numbers : List ℕ) where
  fences_moved : (action : Action) → fences_in (Some (renumbered_action numbers action)) ≡ map (renumbered_fence numbers) (fences_in (Some action))
  fences_moved (Put place value) = refl
  fences_moved (Flush put fences) = refl
  fences_moved Finish = refl
  fences_moved (Token token) = refl
  fences_moved Close = refl

  none_moved : (fences : List (ℕ × ℕ)) → map (renumbered_fence numbers) fences ≡ [] → fences ≡ []
  none_moved [] none = refl
  none_moved (fence ∷ fences) none = absurd cc

  -- a flush without fences stays as it is
  pub bare_stays : (action : Action) (put : ℕ) (fences : List (ℕ × ℕ)) → action ≡ Flush put fences → map (renumbered_fence numbers) (fences_in (Some action)) ≡ [] → Flush put fences ≡ renumbered_action numbers action
  bare_stays action put fences is none =
      let bare : fences ≡ [] = none_moved fences (ap (λ (a : Action). map (renumbered_fence numbers) (fences_in (Some a))) (sym is) ∙ none) in
      ap (Flush put) (bare ∙ sym (ap (map (renumbered_fence numbers)) bare)) ∙ ap (renumbered_action numbers) (sym is)

  note_moved : (k : ℕ) (fences : List (ℕ × ℕ)) → noted_fences k (map (renumbered_fence numbers) fences) ≡ map (renumbered_note numbers) (noted_fences k fences)
  note_moved k [] = refl
  note_moved k (fence ∷ fences) = refl

  notes_moved : (k : ℕ) (actions : List Action) → fenced_from k (map (renumbered_action numbers) actions) ≡ map (renumbered_note numbers) (fenced_from k actions)
  notes_moved k [] = refl
  notes_moved k (action ∷ actions) =
      ap (λ fences. noted_fences k fences ++ fenced_from (k + 1) (map (renumbered_action numbers) actions)) (fences_moved action)
      ∙ ap (λ notes. notes ++ fenced_from (k + 1) (map (renumbered_action numbers) actions)) (note_moved k (fences_in (Some action)))
      ∙ ap (λ notes. map (renumbered_note numbers) (noted_fences k (fences_in (Some action))) ++ notes) (notes_moved (k + 1) actions)
      ∙ sym (map-append (renumbered_note numbers) (noted_fences k (fences_in (Some action))) (fenced_from (k + 1) actions))

  pub moved_here : (fenced : Notes) (actions : List Action) → fenced ≡ map (renumbered_note numbers) (fenced_from 0 actions) → fenced ≡ fenced_from 0 (map (renumbered_action numbers) actions)
  moved_here fenced actions is = is ∙ sym (notes_moved 0 actions)

  -- in a list renumbered up to a place, what is noted of that place are the new fences of its action
  pub moved_at : (fenced : Notes) (old now : List Action) (i : ℕ) (action : Action) → fenced ≡ map (renumbered_note numbers) (fenced_from 0 old) → now ≡ partly (renumbered_action numbers) i old → i < length now → action ≡ get_or now i action → noted_at i fenced ≡ map (renumbered_fence numbers) (fences_in (Some action))
  moved_at fenced old now i action is part within here =
      let long = partly_long (renumbered_action numbers) old now i part in
      let found : slice_get old i ≡ Some action = slice_get_read old (length old) i action refl (omega arith) (here ∙ partly_at (renumbered_action numbers) old now i action part) in
      noted_here i fenced (map (renumbered_action numbers) old) (moved_here fenced old is)
      ∙ ap fences_in (slice_get-map (renumbered_action numbers) old i ∙ ap (option_map (renumbered_action numbers)) found)
      ∙ fences_moved action
