-- How many kept waits of a number are pending, and how many of them have ended.
use Rattle.std.proofs.Common.{◌≡◌, ℕ, ◌+◌, ◌<◌, ◌≤◌, inl, inr, ◌⊎◌, eqb, suc, length, map, take, drop, Bool, true, false, not, ◌&&◌, ◌||◌, cond, Option, Some, None, List, [], ◌∷◌, ◌++◌, refl, sym, ap, subst, ◌∙◌, arith}
use Rattle.std.specs.Prelude.{filter, All, nat_lt}
use Rattle.std.specs.List.{list_any, position_or_len}
use Rattle.std.proofs.lemmas.List.{take-append-drop}
use Rattle.std.proofs.lemmas.List.Elements.{All-weaker, All-nil, All-cons, All-head, All-tail}
use Rattle.std.proofs.lemmas.List.Folds.{list_any_none}
use Rattle.std.proofs.lemmas.Bool.{both_ways, and_parts, and_right, eqb-true, eqb-false, eq-eqb, ne_eqb}
use Rattle.sync_core.specs.declared.wait.Number.{Number}
use Rattle.sync_core.specs.declared.wait.Wait.{Wait}
use Rattle.sync_core.specs.Standing.{Rises, is_known, is_open, first_order, contains_number, has_below, front_of}
use Rattle.sync_core.specs.Events.{Deed, Ordered, Waited, Released, Finished, WasLost, WasClosed, SyncEvent, happened, orders, moved, standing}
use Rattle.sync_core.specs.Pending.{is_kept, kept_fences, placed, wait_of, is_held, still, ends, ending_of, with_kept, kept_waits, pending, endings, has_wait_of, is_blocked}
use Rattle.sync_core.proofs.Numbers.{Each, each_after, orders_grow, left_drawn, left_rises}
use Rattle.sync_core.proofs.Waits.{news, IsNew, news_new}
use Rattle.sync_core.proofs.Rising.{pending_drawn}
use Rattle.sync_core.proofs.Targets.{kept_is_decided}
use Rattle.sync_core.proofs.Together.{three_all}
use Rattle.sync_core.proofs.Keeps.{All-pending, kept_other, kept_parts, filter_none}
use Rattle.script_laws.specs.Kept.{is_wait, is_ending_of}

-- ---- how many elements of a list pass

abbrev pub count : {X : Type 0} → (X → Bool) → List X → ℕ
count p xs = length (filter p xs)

pub count_append : {X : Type 0} (p : X → Bool) (xs ys : List X) → count p (xs ++ ys) ≡ count p xs + count p ys
count_append p [] ys = omega arith
count_append {X} p (x ∷ xs) ys = by (p x) (count_append p xs ys)
  where
    by : (b : Bool) → count p (xs ++ ys) ≡ count p xs + count p ys → length (cond b (x ∷ filter p (xs ++ ys)) (filter p (xs ++ ys))) ≡ length (cond b (x ∷ filter p xs) (filter p xs)) + count p ys
    by true e = omega arith
    by false e = e

count_filter : {X : Type 0} (p q : X → Bool) (xs : List X) → count p (filter q xs) ≡ count (λ x. q x && p x) xs
count_filter p q [] = refl
count_filter {X} p q (x ∷ xs) = by (q x) (p x) refl (count_filter p q xs)
  where
    by : (b c : Bool) → p x ≡ c → count p (filter q xs) ≡ count (λ x. q x && p x) xs → count p (cond b (x ∷ filter q xs) (filter q xs)) ≡ length (cond (b && c) (x ∷ filter (λ x. q x && p x) xs) (filter (λ x. q x && p x) xs))
    by true true k e = ap (λ (d : Bool). length (cond d (x ∷ filter p (filter q xs)) (filter p (filter q xs)))) k ∙ ap suc e
    by true false k e = ap (λ (d : Bool). length (cond d (x ∷ filter p (filter q xs)) (filter p (filter q xs)))) k ∙ e
    by false c k e = e

count_map : {X Y : Type 0} (p : Y → Bool) (f : X → Y) (xs : List X) → count p (map f xs) ≡ count (λ x. p (f x)) xs
count_map p f [] = refl
count_map {X} {Y} p f (x ∷ xs) = by (p (f x)) (count_map p f xs)
  where
    by : (b : Bool) → count p (map f xs) ≡ count (λ x. p (f x)) xs → length (cond b (f x ∷ filter p (map f xs)) (filter p (map f xs))) ≡ length (cond b (x ∷ filter (λ x. p (f x)) xs) (filter (λ x. p (f x)) xs))
    by true e = ap suc e
    by false e = e

count_same : {X : Type 0} (p q : X → Bool) (xs : List X) → All (λ x. p x ≡ q x) xs → count p xs ≡ count q xs
count_same p q [] all = refl
count_same {X} p q (x ∷ xs) all = by (p x) (q x) (All-head (λ x. p x ≡ q x) x xs all) (count_same p q xs (All-tail (λ x. p x ≡ q x) x xs all))
  where
    by : (b c : Bool) → b ≡ c → count p xs ≡ count q xs → length (cond b (x ∷ filter p xs) (filter p xs)) ≡ length (cond c (x ∷ filter q xs) (filter q xs))
    by true true k e = ap suc e
    by true false k e = absurd (cc)
    by false true k e = absurd (cc)
    by false false k e = e

-- each element that passes the third test passes exactly one of the two first
abbrev Parts : Bool → Bool → Bool → Type 0
Parts a b c = ((a && b) ≡ false) × ((a || b) ≡ c)

count_parts : {X : Type 0} (p q r : X → Bool) (xs : List X) → All (λ x. Parts (p x) (q x) (r x)) xs → count p xs + count q xs ≡ count r xs
count_parts p q r [] all = refl
count_parts {X} p q r (x ∷ xs) all = by (p x) (q x) (r x) (All-head (λ x. Parts (p x) (q x) (r x)) x xs all) (count_parts p q r xs (All-tail (λ x. Parts (p x) (q x) (r x)) x xs all))
  where
    by : (a b c : Bool) → Parts a b c → count p xs + count q xs ≡ count r xs → length (cond a (x ∷ filter p xs) (filter p xs)) + length (cond b (x ∷ filter q xs) (filter q xs)) ≡ length (cond c (x ∷ filter r xs) (filter r xs))
    by true true c k e = absurd (cc (k.0))
    by true false true k e = omega arith
    by true false false k e = absurd (cc (k.1))
    by false true true k e = omega arith
    by false true false k e = absurd (cc (k.1))
    by false false true k e = absurd (cc (k.1))
    by false false false k e = e

pub none_any : {X : Type 0} (p : X → Bool) (xs : List X) → list_any p xs ≡ false → All (λ x. p x ≡ false) xs
none_any p [] e = All-nil (λ x. p x ≡ false)
none_any {X} p (x ∷ xs) e = by (none_any p xs) (p x) refl e
  where
    by : (list_any p xs ≡ false → All (λ y. p y ≡ false) xs) → (b : Bool) → p x ≡ b → (b || list_any p xs) ≡ false → All (λ y. p y ≡ false) (x ∷ xs)
    by rest true k f = absurd (cc)
    by rest false k f = All-cons (λ y. p y ≡ false) x xs k (rest f)

count_none : {X : Type 0} (p : X → Bool) (xs : List X) → All (λ x. p x ≡ false) xs → count p xs ≡ 0
count_none p xs all = ap length (filter_none p xs all)

-- ---- waits that a deed makes

count_added : (q : Wait → Bool) (streams s : ℕ) (d : Deed) (h : List SyncEvent) (ws : List Wait) → count q (with_kept streams s d h ws) ≡ count q ws + count q (news streams s d h)
count_added q streams s (Ordered fences) h ws = count_append q ws (kept_fences streams (standing h) s (orders h + 1) 0 fences)
count_added q streams s (Waited t r) h ws = by (is_kept streams (standing h) s (front_of (standing h s).left) t r)
  where
    by : (b : Bool) → count q (cond b (placed (wait_of (standing h s) s t r) ws) ws) ≡ count q ws + count q (cond b (wait_of (standing h s) s t r ∷ []) [])
    by true =
        let w = wait_of (standing h s) s t r in
        let k = position_or_len (λ (v : Wait). nat_lt w.order v.order) ws in
        let a = count_append q (take k ws) (w ∷ drop k ws) in
        let b = count_append q (w ∷ []) (drop k ws) in
        let c = count_append q (take k ws) (drop k ws) in
        let d : count q (take k ws ++ drop k ws) ≡ count q ws = ap (count q) (take-append-drop k ws) in
        omega (arith, a, b, c, d)
    by false = omega arith
count_added q streams s (Released r) h ws = omega arith
count_added q streams s Finished h ws = omega arith
count_added q streams s WasLost h ws = omega arith
count_added q streams s WasClosed h ws = omega arith

-- ---- the waits of one number on one stream and release

is_of : (s n t r : ℕ) (w : Wait) → is_wait s n t r w ≡ true → (w.stream ≡ s) × (w.order ≡ n)
is_of s n t r w e =
    let a = and_parts (eqb w.stream s) (eqb w.order n && (eqb w.target t && eqb w.release r)) e in
    (eqb-true w.stream s a.0, eqb-true w.order n (and_parts (eqb w.order n) (eqb w.target t && eqb w.release r) a.1).0)

abbrev kept_of : ℕ → ℕ → ℕ → ℕ → ℕ → List SyncEvent → ℕ
kept_of streams s n t r h = count (is_wait s n t r) (kept_waits streams h)

abbrev pending_of : ℕ → ℕ → ℕ → ℕ → ℕ → List SyncEvent → ℕ
pending_of streams s n t r h = count (is_wait s n t r) (pending streams h)

abbrev ended_of : ℕ → ℕ → ℕ → ℕ → ℕ → List SyncEvent → ℕ
ended_of streams s n t r h = count (is_ending_of s n t r) (endings streams h)

ended_then : (streams s n t r : ℕ) (e : SyncEvent) (h : List SyncEvent)
    → ended_of streams s n t r (e ∷ h) ≡ ended_of streams s n t r h + count (λ w. ends (standing (e ∷ h)) w && is_wait s n t r w) (pending streams h)
ended_then streams s n t r e h =
    let f = standing (e ∷ h) in
    let a = count_append (is_ending_of s n t r) (endings streams h) (map (ending_of f) (filter (ends f) (pending streams h))) in
    let b = count_map (is_ending_of s n t r) (ending_of f) (filter (ends f) (pending streams h)) in
    let c = count_filter (is_wait s n t r) (ends f) (pending streams h) in
    omega (arith, a, b, c)

-- the number is unprocessed, or it is not drawn yet
abbrev MayWait : ℕ → ℕ → List SyncEvent → Type 0
MayWait s n h = (contains_number n (standing h s).left ≡ true) ⊎ (orders h < n)

may_before : (s n : ℕ) (e : SyncEvent) (h : List SyncEvent) → MayWait s n (e ∷ h) → MayWait s n h
may_before s n e h may = by (contains_number n (standing h s).left) refl (eqb (orders h + 1) n) refl may
  where
    by : (b : Bool) → contains_number n (standing h s).left ≡ b → (c : Bool) → eqb (orders h + 1) n ≡ c → MayWait s n (e ∷ h) → MayWait s n h
    by true x c y m = inl x
    by false x true y m = inr (let is = eqb-true (orders h + 1) n y in omega arith)
    by false x false y (inr low) = inr (let up = orders_grow e.1 (orders h) in omega arith)
    by false x false y (inl has) =
        let none = each_after (λ m. eqb m n ≡ false) e h s (none_any (λ (x : Number). eqb x.order n) (standing h s).left x) (λ _. y) in
        absurd (both_ways (contains_number n (standing (e ∷ h) s).left) (list_any_none (λ (x : Number). eqb x.order n) (standing (e ∷ h) s).left none) has)

-- a wait that was drawn is of a number that is there
there : (s n t r : ℕ) (h : List SyncEvent) (w : Wait) → MayWait s n h → w.order ≤ orders h → is_wait s n t r w ≡ true → contains_number w.order (standing h w.stream).left ≡ true
there s n t r h w (inl has) low its =
    let q = is_of s n t r w its in
    subst (λ (m : ℕ). contains_number m (standing h w.stream).left ≡ true) (sym q.1) (subst (λ (u : ℕ). contains_number n (standing h u).left ≡ true) (sym q.0) has)
there s n t r h w (inr late) low its = let q = (is_of s n t r w its).1 in absurd (omega arith)

-- while its number is there, each kept wait is pending or has ended
pub balance : (streams s n t r : ℕ) (h : List SyncEvent) → MayWait s n h → kept_of streams s n t r h ≡ pending_of streams s n t r h + ended_of streams s n t r h
balance streams s n t r [] may = refl
balance streams s n t r (e ∷ h) may =
    let f = standing (e ∷ h) in
    let up = orders_grow e.1 (orders h) in
    let before = balance streams s n t r h (may_before s n e h may) in
    let kept = count_added (is_wait s n t r) streams e.0 e.1 h (kept_waits streams h) in
    let stay = count_filter (is_wait s n t r) (still f) (with_kept streams e.0 e.1 h (pending streams h)) in
    let olds = count_added (λ w. still f w && is_wait s n t r w) streams e.0 e.1 h (pending streams h) in
    let new = count_same (λ w. still f w && is_wait s n t r w) (is_wait s n t r) (news streams e.0 e.1 h) (All-weaker (IsNew streams e h) (λ w. (still f w && is_wait s n t r w) ≡ is_wait s n t r w) new_still (news streams e.0 e.1 h) (news_new streams e h)) in
    let ended = ended_then streams s n t r e h in
    let all = count_parts (λ w. still f w && is_wait s n t r w) (λ w. ends f w && is_wait s n t r w) (is_wait s n t r) (pending streams h)
    (All-weaker (λ (w : Wait). w.order ≤ orders h) (λ w. Parts (still f w && is_wait s n t r w) (ends f w && is_wait s n t r w) (is_wait s n t r w))
    (λ w low. part (contains_number w.order (f w.stream).left) (is_held f w) (is_wait s n t r w) (there s n t r (e ∷ h) w may (omega arith))) (pending streams h) (pending_drawn streams h)) in
    omega (arith, before, kept, stay, olds, new, ended, all)
  where
    part : (c k i : Bool) → (i ≡ true → c ≡ true) → Parts ((c && k) && i) ((c && not k) && i) i
    part true true true q = (refl, refl)
    part true true false q = (refl, refl)
    part true false true q = (refl, refl)
    part true false false q = (refl, refl)
    part false k true q = absurd (cc (q refl))
    part false k false q = (refl, refl)

    both : (a b : Bool) → (b ≡ true → a ≡ true) → (a && b) ≡ b
    both true b q = refl
    both false true q = absurd (cc (q refl))
    both false false q = refl

    new_still : (w : Wait) → IsNew streams e h w → (still (standing (e ∷ h)) w && is_wait s n t r w) ≡ is_wait s n t r w
    new_still w new = both (still (standing (e ∷ h)) w) (is_wait s n t r w) (λ its.
        let was : is_kept streams (standing h) e.0 w.order w.target w.release ≡ true = subst (λ (u : ℕ). is_kept streams (standing h) u w.order w.target w.release ≡ true) new.own new.kept in
        let now : is_kept streams (standing (e ∷ h)) e.0 w.order w.target w.release ≡ true = kept_other streams h e w.order w.target w.release ∙ was in
        let f = standing (e ∷ h) in
        let parts = kept_parts (is_known streams w.target) (eqb e.0 w.target) (is_open (f w.target)) (nat_lt (f w.target).release w.release) (has_below w.order (f w.target).left) now in
        three_all (contains_number w.order (f w.stream).left) (nat_lt (f w.target).release w.release) (has_below w.order (f w.target).left) (there s n t r (e ∷ h) w may new.drawn its) parts.1 parts.2)

-- ---- where the first number is not blocked

pub unblocked : (s n : ℕ) (xs : List Number) (ws : List Wait) → first_order xs ≡ Some n → is_blocked s xs ws ≡ false → All (λ w. (eqb w.stream s && eqb w.order n) ≡ false) ws
unblocked s n [] ws first free = absurd (cc)
unblocked s n (x ∷ xs) ws first free =
    let is : x.order ≡ n = cc in
    none_any (λ (w : Wait). eqb w.stream s && eqb w.order n) ws (subst (λ (m : ℕ). has_wait_of s m ws ≡ false) is free)

none_is : (s n t r : ℕ) (w : Wait) → (eqb w.stream s && eqb w.order n) ≡ false → is_wait s n t r w ≡ false
none_is s n t r w e = by (eqb w.stream s) (eqb w.order n) e
  where
    by : (a b : Bool) → (a && b) ≡ false → (a && (b && (eqb w.target t && eqb w.release r))) ≡ false
    by true true k = absurd (cc)
    by true false k = refl
    by false b k = refl

none_pending : (s n t r : ℕ) (xs : List Number) (ws : List Wait) → first_order xs ≡ Some n → is_blocked s xs ws ≡ false → All (λ w. is_wait s n t r w ≡ false) ws
none_pending s n t r xs ws first free = All-weaker (λ (w : Wait). (eqb w.stream s && eqb w.order n) ≡ false) (λ w. is_wait s n t r w ≡ false) (none_is s n t r) ws (unblocked s n xs ws first free)

first_there : (n : ℕ) (xs : List Number) → first_order xs ≡ Some n → contains_number n xs ≡ true
first_there n [] e = absurd (cc)
first_there n (x ∷ xs) e = let is : x.order ≡ n = cc in ap (λ (b : Bool). b || contains_number n xs) (eq-eqb x.order n is)

pub all_ended : (streams s n t r : ℕ) (h : List SyncEvent) → first_order (standing h s).left ≡ Some n → is_blocked s (standing h s).left (pending streams h) ≡ false → ended_of streams s n t r h ≡ kept_of streams s n t r h
all_ended streams s n t r h first free =
    let all = balance streams s n t r h (inl (first_there n (standing h s).left first)) in
    let none = count_none (is_wait s n t r) (pending streams h) (none_pending s n t r (standing h s).left (pending streams h) first free) in
    omega (arith, all, none)

-- ---- once the number is finished

pub record Settled (streams s n t r : ℕ) (h : List SyncEvent) : Type 0 where
  pub gone : Each (λ m. eqb m n ≡ false) (standing h s).left
  pub drawn : n ≤ orders h
  pub same : ended_of streams s n t r h ≡ kept_of streams s n t r h

pub settled_finish : (streams s n t r : ℕ) (h : List SyncEvent) → first_order (standing h s).left ≡ Some n → is_blocked s (standing h s).left (pending streams h) ≡ false → Settled streams s n t r ((s, Finished) ∷ h)
settled_finish streams s n t r h first free =
    let same = all_ended streams s n t r h first free in
    let none = count_none (λ w. ends (standing ((s, Finished) ∷ h)) w && is_wait s n t r w) (pending streams h)
    (All-weaker (λ (w : Wait). is_wait s n t r w ≡ false) (λ w. (ends (standing ((s, Finished) ∷ h)) w && is_wait s n t r w) ≡ false) (λ w off. and_right (ends (standing ((s, Finished) ∷ h)) w) (is_wait s n t r w) off) (pending streams h) (none_pending s n t r (standing h s).left (pending streams h) first free)) in
    let ended = ended_then streams s n t r (s, Finished) h in
    record {
      gone = subst (λ (b : Bool). Each (λ m. eqb m n ≡ false) (cond b (moved Finished (orders h + 1) (standing h s)) (standing h s)).left) (sym (eq-eqb s s refl)) (rest (standing h s).left first (left_rises h s));
      drawn = low (standing h s).left first (left_drawn h s);
      same = omega (arith, same, none, ended);
    }
  where
    rest : (xs : List Number) → first_order xs ≡ Some n → Rises xs → Each (λ m. eqb m n ≡ false) (drop 1 xs)
    rest [] e up = absurd (cc)
    rest (x ∷ xs) e up = let is : x.order ≡ n = cc in All-weaker (λ (y : Number). x.order < y.order) (λ (y : Number). eqb y.order n ≡ false) (λ y lt. ne_eqb y.order n (λ q. absurd (omega arith))) xs up.0

    low : (xs : List Number) → first_order xs ≡ Some n → Each (λ m. m ≤ orders h) xs → n ≤ orders h
    low [] e all = absurd (cc)
    low (x ∷ xs) e all = let is : x.order ≡ n = cc in let le = All-head (λ (y : Number). y.order ≤ orders h) x xs all in omega arith

-- no deed makes a wait of a number that is gone
news_other : (streams s n t r : ℕ) (e : SyncEvent) (h : List SyncEvent) → Each (λ m. eqb m n ≡ false) (standing h s).left → n ≤ orders h → All (λ w. is_wait s n t r w ≡ false) (news streams e.0 e.1 h)
news_other streams s n t r e h gone low = of e.0 e.1
  where
    is_not : (w : Wait) → ((w.stream ≡ s) × (w.order ≡ n) → ⊥) → is_wait s n t r w ≡ false
    is_not w never = by (is_wait s n t r w) refl
      where
        by : (b : Bool) → is_wait s n t r w ≡ b → is_wait s n t r w ≡ false
        by true k = absurd (never (is_of s n t r w k))
        by false k = k

    next : (u k : ℕ) (fences : List (ℕ × ℕ)) → All (λ w. is_wait s n t r w ≡ false) (kept_fences streams (standing h) u (orders h + 1) k fences)
    next u k [] = All-nil (λ w. is_wait s n t r w ≡ false)
    next u k (f ∷ fences) = by (is_kept streams (standing h) u (orders h + 1) f.0 f.1) (next u (k + 1) fences)
      where
        by : (b : Bool) → All (λ w. is_wait s n t r w ≡ false) (kept_fences streams (standing h) u (orders h + 1) (k + 1) fences)
            → All (λ w. is_wait s n t r w ≡ false) (cond b (record { stream = u; order = orders h + 1; target = f.0; release = f.1; position = k } ∷ kept_fences streams (standing h) u (orders h + 1) (k + 1) fences) (kept_fences streams (standing h) u (orders h + 1) (k + 1) fences))
        by true rest = All-cons (λ w. is_wait s n t r w ≡ false) _ _ (is_not record { stream = u; order = orders h + 1; target = f.0; release = f.1; position = k } (λ q. let is = q.1 in absurd (omega arith))) rest
        by false rest = rest

    no_front : (xs : List Number) → Each (λ m. eqb m n ≡ false) xs → (0 < n) → front_of xs ≡ n → ⊥
    no_front [] all some e = absurd (omega arith)
    no_front (x ∷ xs) all some e = eqb-false x.order n (All-head (λ (y : Number). eqb y.order n ≡ false) x xs all) e

    of : (u : ℕ) (d : Deed) → All (λ w. is_wait s n t r w ≡ false) (news streams u d h)
    of u (Ordered fences) = next u 0 fences
    of u (Waited v q) = by (is_kept streams (standing h) u (front_of (standing h u).left) v q) refl
      where
        by : (b : Bool) → is_kept streams (standing h) u (front_of (standing h u).left) v q ≡ b → All (λ w. is_wait s n t r w ≡ false) (cond b (wait_of (standing h u) u v q ∷ []) [])
        by true k =
            let above = ((kept_is_decided streams h u (front_of (standing h u).left) v q).0 k).guarded in
            let positive = above.4 in
            All-cons (λ w. is_wait s n t r w ≡ false) (wait_of (standing h u) u v q) [] (is_not (wait_of (standing h u) u v q) (λ same.
            let is = same.1 in
            no_front (standing h s).left gone (omega (arith, positive, is)) (subst (λ (x : ℕ). front_of (standing h x).left ≡ n) same.0 is))) (All-nil (λ w. is_wait s n t r w ≡ false))
        by false k = All-nil (λ w. is_wait s n t r w ≡ false)
    of u (Released q) = All-nil (λ w. is_wait s n t r w ≡ false)
    of u Finished = All-nil (λ w. is_wait s n t r w ≡ false)
    of u WasLost = All-nil (λ w. is_wait s n t r w ≡ false)
    of u WasClosed = All-nil (λ w. is_wait s n t r w ≡ false)

pub settled_then : (streams s n t r : ℕ) (e : SyncEvent) (h : List SyncEvent) → Settled streams s n t r h → Settled streams s n t r (e ∷ h)
settled_then streams s n t r e h was =
    let low = was.drawn in
    let up = orders_grow e.1 (orders h) in
    let same = was.same in
    let kept = count_added (is_wait s n t r) streams e.0 e.1 h (kept_waits streams h) in
    let new = count_none (is_wait s n t r) (news streams e.0 e.1 h) (news_other streams s n t r e h was.gone low) in
    let ended = ended_then streams s n t r e h in
    let none = count_none (λ w. ends (standing (e ∷ h)) w && is_wait s n t r w) (pending streams h)
    (All-weaker (λ (w : Wait). still (standing h) w ≡ true) (λ w. (ends (standing (e ∷ h)) w && is_wait s n t r w) ≡ false) (λ w now. and_right (ends (standing (e ∷ h)) w) (is_wait s n t r w) (other w now)) (pending streams h) (All-pending streams h)) in
    record {
      gone = each_after (λ m. eqb m n ≡ false) e h s was.gone (λ _. ne_eqb (orders h + 1) n (λ q. absurd (omega arith)));
      drawn = omega arith;
      same = omega (arith, same, kept, new, ended, none);
    }
  where
    other : (w : Wait) → still (standing h) w ≡ true → is_wait s n t r w ≡ false
    other w now = by (is_wait s n t r w) refl
      where
        by : (b : Bool) → is_wait s n t r w ≡ b → is_wait s n t r w ≡ false
        by true its =
            let q = is_of s n t r w its in
            let has = (and_parts (contains_number w.order (standing h w.stream).left) (is_held (standing h) w) now).0 in
            absurd (both_ways (contains_number w.order (standing h w.stream).left)
            (subst (λ (m : ℕ). contains_number m (standing h w.stream).left ≡ false) (sym q.1) (subst (λ (u : ℕ). contains_number n (standing h u).left ≡ false) (sym q.0) (list_any_none (λ (x : Number). eqb x.order n) (standing h s).left was.gone))) has)
        by false off = off

pub settled_noted : (streams s n t r u : ℕ) (d : Option Deed) (h : List SyncEvent) → Settled streams s n t r h → Settled streams s n t r (happened u d h)
settled_noted streams s n t r u None h was = was
settled_noted streams s n t r u (Some d) h was = settled_then streams s n t r (u, d) h was
