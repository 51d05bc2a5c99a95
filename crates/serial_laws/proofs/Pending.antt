-- An event leaves a number without a pending wait that had none, where it makes no kept wait of it.
use Rattle.std.proofs.Common.{◌≡◌, ℕ, ◌+◌, eqb, Bool, true, false, ◌&&◌, ◌||◌, cond, Option, Some, None, List, [], ◌∷◌, take, drop, refl, sym, ap, ◌∙◌}
use Rattle.std.proofs.lemmas.Bool.{and_left, or_from, or_parts}
use Rattle.std.proofs.lemmas.List.{take-append-drop}
use Rattle.std.proofs.lemmas.List.Folds.{list_any-append}
use Rattle.std.specs.Prelude.{nat_lt, filter}
use Rattle.std.specs.List.{list_any, position_or_len}
use Rattle.sync_core.specs.declared.wait.Number.{Number}
use Rattle.sync_core.specs.declared.wait.Wait.{Wait}
use Rattle.sync_core.specs.Standing.{Standing, first_order, front_of}
use Rattle.sync_core.specs.Events.{Deed, Ordered, Waited, Released, Finished, WasLost, WasClosed, SyncEvent, happened, orders, standing}
use Rattle.sync_core.specs.Pending.{is_kept, still, kept_fences, placed, wait_of, with_kept, pending, has_wait_of, is_blocked}

abbrev is_of : ℕ → ℕ → Wait → Bool
is_of t m w = eqb w.stream t && eqb w.order m

module _ {X : Type 0} (p q : X → Bool) where
  -- what a list has not, a part of it has not
  none_filtered : (xs : List X) → list_any p xs ≡ false → list_any p (filter q xs) ≡ false
  none_filtered [] e = refl
  none_filtered (x ∷ xs) e = let parts = or_parts (p x) (list_any p xs) e in by parts.0 (none_filtered xs parts.1) (q x)
    where
      by : p x ≡ false → list_any p (filter q xs) ≡ false → (b : Bool) → list_any p (cond b (x ∷ filter q xs) (filter q xs)) ≡ false
      by here rest true = or_from (p x) (list_any p (filter q xs)) here rest
      by here rest false = rest

-- where no wait of a number is there with the new ones, none is pending
pub none_left : (n : ℕ) (e : SyncEvent) (g : List SyncEvent) (t m : ℕ) → has_wait_of t m (with_kept n e.0 e.1 g (pending n g)) ≡ false → has_wait_of t m (pending n (e ∷ g)) ≡ false
none_left n e g t m none = none_filtered (is_of t m) (still (standing (e ∷ g))) (with_kept n e.0 e.1 g (pending n g)) none

-- a wait of another number
none_placed : (w : Wait) (ws : List Wait) (t m : ℕ) → is_of t m w ≡ false → has_wait_of t m ws ≡ false → has_wait_of t m (placed w ws) ≡ false
none_placed w ws t m other none =
    let k = position_or_len (λ (v : Wait). nat_lt w.order v.order) ws in
    let parts = or_parts (list_any (is_of t m) (take k ws)) (list_any (is_of t m) (drop k ws))
    (sym (list_any-append (is_of t m) (take k ws) (drop k ws)) ∙ ap (list_any (is_of t m)) (take-append-drop k ws) ∙ none) in
    list_any-append (is_of t m) (take k ws) (w ∷ drop k ws)
    ∙ or_from (list_any (is_of t m) (take k ws)) (is_of t m w || list_any (is_of t m) (drop k ws)) parts.0
    (or_from (is_of t m w) (list_any (is_of t m) (drop k ws)) other parts.1)

-- the fences of another number
none_judged : (n : ℕ) (f : ℕ → Standing) (s k i : ℕ) (fences : List (ℕ × ℕ)) (t m : ℕ) → (eqb s t && eqb k m) ≡ false → has_wait_of t m (kept_fences n f s k i fences) ≡ false
none_judged n f s k i [] t m off = refl
none_judged n f s k i (x ∷ fences) t m off = by (none_judged n f s k (i + 1) fences t m off) (is_kept n f s k x.0 x.1)
  where
    by : has_wait_of t m (kept_fences n f s k (i + 1) fences) ≡ false → (b : Bool) → has_wait_of t m (cond b (record { stream = s; order = k; target = x.0; release = x.1; position = i } ∷ kept_fences n f s k (i + 1) fences) (kept_fences n f s k (i + 1) fences)) ≡ false
    by rest true = or_from (eqb s t && eqb k m) (has_wait_of t m (kept_fences n f s k (i + 1) fences)) off rest
    by rest false = rest

-- an order of another number
pub none_ordered : (n s : ℕ) (fences : List (ℕ × ℕ)) (g : List SyncEvent) (t m : ℕ) → (eqb s t && eqb (orders g + 1) m) ≡ false → has_wait_of t m (pending n g) ≡ false → has_wait_of t m (pending n ((s, Ordered fences) ∷ g)) ≡ false
none_ordered n s fences g t m off none =
    none_left n (s, Ordered fences) g t m
    (list_any-append (is_of t m) (pending n g) (kept_fences n (standing g) s (orders g + 1) 0 fences)
    ∙ or_from (has_wait_of t m (pending n g)) (has_wait_of t m (kept_fences n (standing g) s (orders g + 1) 0 fences)) none (none_judged n (standing g) s (orders g + 1) 0 fences t m off))

-- a wait that is not kept
pub none_dropped : (n s u r : ℕ) (g : List SyncEvent) (t m : ℕ) → is_kept n (standing g) s (front_of (standing g s).left) u r ≡ false → has_wait_of t m (pending n g) ≡ false → has_wait_of t m (pending n ((s, Waited u r) ∷ g)) ≡ false
none_dropped n s u r g t m dropped none =
    none_left n (s, Waited u r) g t m
    (ap (λ (b : Bool). has_wait_of t m (cond b (placed (wait_of (standing g s) s u r) (pending n g)) (pending n g))) dropped ∙ none)

-- an event of another stream
pub none_other : (n s : ℕ) (d : Option Deed) (g : List SyncEvent) (t m : ℕ) → eqb s t ≡ false → has_wait_of t m (pending n g) ≡ false → has_wait_of t m (pending n (happened s d g)) ≡ false
none_other n s None g t m off none = none
none_other n s (Some (Ordered fences)) g t m off none = none_ordered n s fences g t m (and_left (eqb s t) (eqb (orders g + 1) m) off) none
none_other n s (Some (Waited u r)) g t m off none = none_left n (s, Waited u r) g t m (by (is_kept n (standing g) s (front_of (standing g s).left) u r))
  where
    by : (b : Bool) → has_wait_of t m (cond b (placed (wait_of (standing g s) s u r) (pending n g)) (pending n g)) ≡ false
    by true = none_placed (wait_of (standing g s) s u r) (pending n g) t m (and_left (eqb s t) (eqb (front_of (standing g s).left) m) off) none
    by false = none
none_other n s (Some (Released r)) g t m off none = none_left n (s, Released r) g t m none
none_other n s (Some Finished) g t m off none = none_left n (s, Finished) g t m none
none_other n s (Some WasLost) g t m off none = none_left n (s, WasLost) g t m none
none_other n s (Some WasClosed) g t m off none = none_left n (s, WasClosed) g t m none

-- a stream is blocked by the waits of its first number
pub blocked_is : (s n : ℕ) (xs : List Number) (ws : List Wait) → first_order xs ≡ Some n → is_blocked s xs ws ≡ has_wait_of s n ws
blocked_is s n [] ws e = absurd (cc)
blocked_is s n (x ∷ xs) ws e = let is : x.order ≡ n = cc in ap (λ (m : ℕ). has_wait_of s m ws) is
