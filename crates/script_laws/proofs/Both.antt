-- Each kept wait of an unprocessed number is pending or has ended, and none is both.
use Rattle.std.proofs.Common.{◌≡◌, ℕ, ◌+◌, ◌≤◌, inl, eqb, Bool, true, false, not, ◌&&◌, cond, List, [], ◌∷◌, length, map, sym, ap, ◌∙◌, refl, arith}
use Rattle.std.specs.Prelude.{filter, All, nat_lt, slice_index_or}
use Rattle.std.proofs.lemmas.List.Elements.{All-weaker, All-nil, All-append, All-map}
use Rattle.std.proofs.lemmas.List.Folds.{list_any_none}
use Rattle.std.proofs.lemmas.Bool.{both_ways, and_parts, and_right, eqb-true}
use Rattle.std.proofs.lemmas.Bool.Decides.{nat_tests}
use Rattle.sync_core.specs.declared.wait.Number.{Number}
use Rattle.sync_core.specs.declared.wait.Wait.{Wait}
use Rattle.sync_core.specs.declared.ending.Ending.{Ending}
use Rattle.sync_core.specs.Standing.{has_below, contains_number}
use Rattle.sync_core.specs.Events.{Deed, Ordered, Waited, Released, Finished, WasLost, WasClosed, SyncEvent, orders, moved, standing}
use Rattle.sync_core.specs.Pending.{is_held, still, ends, ending_of, pending, endings}
use Rattle.sync_core.proofs.Numbers.{each_after, orders_grow}
use Rattle.sync_core.proofs.Waits.{filter_both}
use Rattle.sync_core.proofs.Rising.{pending_drawn}
use Rattle.sync_core.proofs.Keeps.{All-pending}
use Rattle.gpu_journal.specs.Waits.{sync_of, pending_in}
use Rattle.script_laws.specs.Kept.{is_ending_of, HasNotEnded}
use Rattle.script_laws.specs.Laws.{NoneIsForgotten, NoneIsBoth}
use Rattle.script_laws.proofs.Counting.{balance, none_any}

pub none_is_forgotten : NoneIsForgotten
none_is_forgotten p h s n there t r = balance (length p.plans) s n t r (sync_of p h) (inl there)

-- ---- what has ended is not held back again

-- a wait of number n on stream t and release r is held back
abbrev held : List SyncEvent → ℕ → ℕ → ℕ → Bool
held h n t r = nat_lt (standing h t).release r && has_below n (standing h t).left

release_stays : (e : SyncEvent) (h : List SyncEvent) (t r : ℕ) → nat_lt (standing h t).release r ≡ false → nat_lt (standing (e ∷ h) t).release r ≡ false
release_stays e h t r off = by e.1 (eqb e.0 t)
  where
    more : (a b : ℕ) → nat_lt a r ≡ false → a ≤ b → nat_lt b r ≡ false
    more a b off le = grind (arith, nat_tests)

    own : (d : Deed) → (standing h t).release ≤ (moved d (orders h + 1) (standing h t)).release
    own (Ordered fences) = omega arith
    own (Waited u q) = omega arith
    own (Released q) = omega arith
    own Finished = omega arith
    own WasLost = omega arith
    own WasClosed = omega arith

    by : (d : Deed) (b : Bool) → nat_lt (cond b (moved d (orders h + 1) (standing h t)) (standing h t)).release r ≡ false
    by d true = more (standing h t).release (moved d (orders h + 1) (standing h t)).release off (own d)
    by d false = off

below_stays : (e : SyncEvent) (h : List SyncEvent) (t n : ℕ) → n ≤ orders h → has_below n (standing h t).left ≡ false → has_below n (standing (e ∷ h) t).left ≡ false
below_stays e h t n low off =
    list_any_none (λ (x : Number). nat_lt x.order n) (standing (e ∷ h) t).left
    (each_after (λ m. nat_lt m n ≡ false) e h t (none_any (λ (x : Number). nat_lt x.order n) (standing h t).left off) (λ own. above (orders h) low))
  where
    above : (k : ℕ) → n ≤ k → nat_lt (k + 1) n ≡ false
    above k le = grind (arith, nat_tests)

held_stays : (e : SyncEvent) (h : List SyncEvent) (n t r : ℕ) → n ≤ orders h → held h n t r ≡ false → held (e ∷ h) n t r ≡ false
held_stays e h n t r low off = by (nat_lt (standing h t).release r) (has_below n (standing h t).left) refl refl off
  where
    by : (a b : Bool) → nat_lt (standing h t).release r ≡ a → has_below n (standing h t).left ≡ b → (a && b) ≡ false → held (e ∷ h) n t r ≡ false
    by true true x y k = absurd (cc)
    by true false x y k = and_right (nat_lt (standing (e ∷ h) t).release r) (has_below n (standing (e ∷ h) t).left) (below_stays e h t n low y)
    by false b x y k = ap (λ (c : Bool). c && has_below n (standing (e ∷ h) t).left) (release_stays e h t r x)

-- ---- each ending is of a wait that is not held back

record IsOver (h : List SyncEvent) (x : Ending) : Type 0 where
  drawn : x.order ≤ orders h
  free : held h x.order x.target x.release ≡ false

over_later : (e : SyncEvent) (h : List SyncEvent) (x : Ending) → IsOver h x → IsOver (e ∷ h) x
over_later e h x was = let low = was.drawn in let up = orders_grow e.1 (orders h) in record { drawn = omega arith; free = held_stays e h x.order x.target x.release low was.free }

are_over : (streams : ℕ) (h : List SyncEvent) → All (IsOver h) (endings streams h)
are_over streams [] = All-nil (IsOver [])
are_over streams (e ∷ h) =
    let f = standing (e ∷ h) in
    let up = orders_grow e.1 (orders h) in
    All-append (IsOver (e ∷ h)) (endings streams h) (map (ending_of f) (filter (ends f) (pending streams h)))
    (All-weaker (IsOver h) (IsOver (e ∷ h)) (over_later e h) (endings streams h) (are_over streams h))
    (All-map (IsOver (e ∷ h)) (ending_of f) (filter (ends f) (pending streams h))
    (filter_both (ends f) (λ (w : Wait). IsOver (e ∷ h) (ending_of f w)) (pending streams h) (λ i d lt now.
    let w = slice_index_or (pending streams h) i d in
    let low = pending_drawn streams h i d lt in
    record { drawn = omega (arith, low, up); free = not_held (contains_number w.order (f w.stream).left) (is_held f w) now })))
  where
    not_held : (a b : Bool) → (a && not b) ≡ true → b ≡ false
    not_held true true k = absurd (cc)
    not_held true false k = refl
    not_held false b k = absurd (cc)

-- an ending with the number, target and release of a wait that is held back is none of it
none_of : (streams : ℕ) (h : List SyncEvent) (w : Wait) → still (standing h) w ≡ true → All (λ x. is_ending_of w.stream w.order w.target w.release x ≡ false) (endings streams h)
none_of streams h w now = All-weaker (IsOver h) (λ x. is_ending_of w.stream w.order w.target w.release x ≡ false) other (endings streams h) (are_over streams h)
  where
    other : (x : Ending) → IsOver h x → is_ending_of w.stream w.order w.target w.release x ≡ false
    other x over = by (is_ending_of w.stream w.order w.target w.release x) refl
      where
        by : (b : Bool) → is_ending_of w.stream w.order w.target w.release x ≡ b → is_ending_of w.stream w.order w.target w.release x ≡ false
        by false q = q
        by true q =
            let a = and_parts (eqb x.stream w.stream) (eqb x.order w.order && (eqb x.target w.target && eqb x.release w.release)) q in
            let b = and_parts (eqb x.order w.order) (eqb x.target w.target && eqb x.release w.release) a.1 in
            let c = and_parts (eqb x.target w.target) (eqb x.release w.release) b.1 in
            let same : held h x.order x.target x.release ≡ is_held (standing h) w = λ i. held h (eqb-true x.order w.order b.0 i) (eqb-true x.target w.target c.0 i) (eqb-true x.release w.release c.1 i) in
            absurd (both_ways (is_held (standing h) w) (sym same ∙ over.free) (and_parts (contains_number w.order (standing h w.stream).left) (is_held (standing h) w) now).1)

pub none_is_both : NoneIsBoth
none_is_both p h =
    All-weaker (λ (w : Wait). still (standing (sync_of p h)) w ≡ true) (HasNotEnded p h) (none_of (length p.plans) (sync_of p h)) (pending_in p h) (All-pending (length p.plans) (sync_of p h))
