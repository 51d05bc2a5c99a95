-- How far a client can come.
use Rattle.std.proofs.Common.{◌≡◌, ℕ, zero, suc, ◌+◌, ◌≤◌, ◌<◌, Bool, true, false, cond, ◌||◌, nat_le, max, List, [], ◌∷◌, length, take, Option, None, Some, refl, sym, ap, ◌∙◌, subst, arith}
use Rattle.std.proofs.lemmas.Bool.{both_ways}
use Rattle.std.proofs.lemmas.Bool.Decides.{nat_tests}
use Rattle.std.proofs.Math.Bool.{or-false}
use Rattle.std.specs.Prelude.{slice_get}
use Rattle.std.specs.List.{list_any}
use Rattle.gpu_plan.specs.declared.plan.Action.{Action}
use Rattle.gpu_plan.specs.declared.plan.Action.TheVariants.{Put, Flush, Finish, Token, Close}
use Rattle.gpu_plan.specs.Plans.{is_flush}
use Rattle.gpu_plan.specs.Passes.{flush_count, flushes, passes_behind, passes_if_there, passes, bound_behind, bound, greatest}
use Rattle.gpu_plan.specs.Laws.{ReachNoFurther}

-- ---- one action further

flushes_after : (xs : List Action) (k : ℕ) (a : Action) → slice_get xs k ≡ Some a → flushes (take (suc k) xs) ≡ flushes (take k xs) + flush_count a
flushes_after [] k a e = absurd (cc)
flushes_after (x ∷ xs) zero a e = let is : x ≡ a = cc in let same : flush_count x ≡ flush_count a = ap flush_count is in omega arith
flushes_after (x ∷ xs) (suc k) a e = let r = flushes_after xs k a e in omega arith

pub flushes_one_further : (actions : List Action) (k : ℕ) (action : Action) → slice_get actions k ≡ Some action → flushes (take (k + 1) actions) ≡ flushes (take k actions) + flush_count action
flushes_one_further xs k a e = let one : k + 1 ≡ suc k = omega arith in ap (λ n. flushes (take n xs)) one ∙ flushes_after xs k a e

pub flush_count_most : (a : Action) → flush_count a ≤ 1
flush_count_most (Put place value) = omega arith
flush_count_most (Flush put fences) = omega arith
flush_count_most Finish = omega arith
flush_count_most (Token token) = omega arith
flush_count_most Close = omega arith

pub flushes_within : (actions : List Action) (k : ℕ) → flushes (take k actions) ≤ k
flushes_within [] zero = omega arith
flushes_within [] (suc k) = omega arith
flushes_within (x ∷ xs) zero = omega arith
flushes_within (x ∷ xs) (suc k) = let r = flushes_within xs k in let one = flush_count_most x in omega arith

pub flushes_all : (actions : List Action) (k : ℕ) → flushes (take k actions) ≤ flushes actions
flushes_all [] zero = omega arith
flushes_all [] (suc k) = omega arith
flushes_all (x ∷ xs) zero = omega arith
flushes_all (x ∷ xs) (suc k) = let r = flushes_all xs k in omega arith

-- what a test of a flush makes of its count
pub by_flush : (P : Bool → ℕ → Type 0) (x : Action) → P true 1 → P false 0 → P (is_flush x) (flush_count x)
by_flush P (Put place value) flush other = other
by_flush P (Flush put fences) flush other = flush
by_flush P Finish flush other = other
by_flush P (Token token) flush other = other
by_flush P Close flush other = other

-- a position passes after the first action as it does in the rest
passes_next : (f g : ℕ) (tokens : List ℕ) (x : Action) (xs : List Action) (k : ℕ) → passes_if_there (f + flushes (take (suc k) (x ∷ xs))) g tokens (slice_get xs k) ≡ passes_if_there (f + flush_count x + flushes (take k xs)) g tokens (slice_get xs k)
passes_next f g tokens x xs k = ap (λ n. passes_if_there n g tokens (slice_get xs k)) (omega arith)

cond_step : (b : Bool) (k n : ℕ) → suc k ≤ cond b (suc n) 0 → (k ≤ n → suc k ≤ n) → suc (suc k) ≤ cond b (suc n) 0
cond_step true k n h r = let less : k ≤ n = omega arith in let more = r less in omega arith
cond_step false k n h r = absurd (omega arith)

behind_further : (f g : ℕ) (tokens : List ℕ) (xs : List Action) (k : ℕ) → k ≤ bound_behind f g tokens xs → passes_if_there (f + flushes (take k xs)) g tokens (slice_get xs k) ≡ true → suc k ≤ bound_behind f g tokens xs
behind_further f g tokens [] k h p = absurd (cc)
behind_further f g tokens (x ∷ xs) zero h p =
    let here : passes_behind f g tokens x ≡ true = ap (λ n. passes_behind n g tokens x) (omega arith) ∙ p in
    subst (λ (b : Bool). 1 ≤ cond b (suc (bound_behind (f + flush_count x) g tokens xs)) 0) (sym here) (omega arith)
behind_further f g tokens (x ∷ xs) (suc k) h p =
    cond_step (passes_behind f g tokens x) k (bound_behind (f + flush_count x) g tokens xs) h
    (λ less. behind_further (f + flush_count x) g tokens xs k less (sym (passes_next f g tokens x xs k) ∙ p))

-- a position counted from no flush
from_none : (actions : List Action) (k g : ℕ) (tokens : List ℕ) → passes_if_there (0 + flushes (take k actions)) g tokens (slice_get actions k) ≡ passes actions k g tokens
from_none actions k g tokens = ap (λ n. passes_if_there n g tokens (slice_get actions k)) (omega arith)

pub bound_one_further : (actions : List Action) (k finished : ℕ) (tokens : List ℕ) → k ≤ bound actions finished tokens → passes actions k finished tokens ≡ true → k + 1 ≤ bound actions finished tokens
bound_one_further actions k g tokens h p = let r = behind_further 0 g tokens actions k h (from_none actions k g tokens ∙ p) in omega arith

-- ---- the bound never falls

or_grows : (a b c d : Bool) → (a ≡ true → c ≡ true) → (b ≡ true → d ≡ true) → (a || b) ≡ true → (c || d) ≡ true
or_grows true b c d f g h = ap (λ (x : Bool). x || d) (f refl)
or_grows false b true d f g h = refl
or_grows false b false d f g h = g h

le_grows : (f g g' : ℕ) → g ≤ g' → nat_le f g ≡ true → nat_le f g' ≡ true
le_grows f g g' h t = grind (arith, nat_tests)

passes_grows : (f g g' : ℕ) (ts ts' : List ℕ) (a : Action) → g ≤ g' → ReachNoFurther ts ts' → passes_behind f g ts a ≡ true → passes_behind f g' ts' a ≡ true
passes_grows f g g' ts ts' (Put place value) h r p = refl
passes_grows f g g' ts ts' (Flush put fences) h r p = refl
passes_grows f g g' ts ts' Finish h r p = le_grows f g g' h p
passes_grows f g g' ts ts' (Token token) h r p = or_grows (nat_le f g) (list_any (nat_le token) ts) (nat_le f g') (list_any (nat_le token) ts') (le_grows f g g' h) (r token) p
passes_grows f g g' ts ts' Close h r p = absurd (cc)

grows_if_there : (f g g' : ℕ) (ts ts' : List ℕ) (a : Option Action) → g ≤ g' → ReachNoFurther ts ts' → passes_if_there f g ts a ≡ true → passes_if_there f g' ts' a ≡ true
grows_if_there f g g' ts ts' None h r p = absurd (cc)
grows_if_there f g g' ts ts' (Some a) h r p = passes_grows f g g' ts ts' a h r p

pub passes_on : (actions : List Action) (k finished finished' : ℕ) (tokens tokens' : List ℕ) → finished ≤ finished' → ReachNoFurther tokens tokens' → passes actions k finished tokens ≡ true → passes actions k finished' tokens' ≡ true
passes_on actions k g g' ts ts' h r p = grows_if_there (flushes (take k actions)) g g' ts ts' (slice_get actions k) h r p

-- of one token, a greater one reaches as far
one_reaches : (t t' : ℕ) → t ≤ t' → ReachNoFurther (t ∷ []) (t' ∷ [])
one_reaches t t' h = λ x e. or_grows (nat_le x t) false (nat_le x t') false (le_grows x t t' h) (λ q. q) e

pub passes_on_by_greatest : (actions : List Action) (k finished finished' token token' : ℕ) → finished ≤ finished' → token ≤ token' → passes actions k finished (token ∷ []) ≡ true → passes actions k finished' (token' ∷ []) ≡ true
passes_on_by_greatest actions k g g' t t' h h' p = passes_on actions k g g' (t ∷ []) (t' ∷ []) h (one_reaches t t' h') p

cond_grows : (b c : Bool) (m n : ℕ) → (b ≡ true → c ≡ true) → m ≤ n → cond b (suc m) 0 ≤ cond c (suc n) 0
cond_grows true c m n f h = subst (λ (d : Bool). suc m ≤ cond d (suc n) 0) (sym (f refl)) (omega arith)
cond_grows false c m n f h = omega arith

behind_grows : (f g g' : ℕ) (ts ts' : List ℕ) (xs : List Action) → g ≤ g' → ReachNoFurther ts ts' → bound_behind f g ts xs ≤ bound_behind f g' ts' xs
behind_grows f g g' ts ts' [] h r = omega arith
behind_grows f g g' ts ts' (a ∷ xs) h r = cond_grows (passes_behind f g ts a) (passes_behind f g' ts' a) _ _ (passes_grows f g g' ts ts' a h r) (behind_grows (f + flush_count a) g g' ts ts' xs h r)

pub bound_grows : (actions : List Action) (finished finished' : ℕ) (tokens tokens' : List ℕ) → finished ≤ finished' → ReachNoFurther tokens tokens' → bound actions finished tokens ≤ bound actions finished' tokens'
bound_grows actions g g' ts ts' h r = behind_grows 0 g g' ts ts' actions h r

or_right : (a b : Bool) → b ≡ true → (a || b) ≡ true
or_right true b h = refl
or_right false b h = h

pub bound_grows_by_token : (actions : List Action) (finished token : ℕ) (tokens : List ℕ) → bound actions finished tokens ≤ bound actions finished (token ∷ tokens)
bound_grows_by_token actions g t ts = behind_grows 0 g g ts (t ∷ ts) actions (omega arith) (λ x h. or_right (nat_le x t) (list_any (nat_le x) ts) h)

pub bound_grows_by_greatest : (actions : List Action) (finished finished' token token' : ℕ) → finished ≤ finished' → token ≤ token' → bound actions finished (token ∷ []) ≤ bound actions finished' (token' ∷ [])
bound_grows_by_greatest actions g g' t t' h h' = behind_grows 0 g g' (t ∷ []) (t' ∷ []) actions h (one_reaches t t' h')

-- ---- only the greatest token counts

le_max : (t x y : ℕ) → nat_le t (max x y) ≡ (nat_le t x || nat_le t y)
le_max t x y = grind (arith, nat_tests)

some_token : (t x : ℕ) (xs : List ℕ) → list_any (nat_le t) (x ∷ xs) ≡ nat_le t (greatest (x ∷ xs))
some_token t x [] = or-false (nat_le t x) ∙ ap (nat_le t) (omega arith)
some_token t x (y ∷ ys) = ap (λ (b : Bool). nat_le t x || b) (some_token t y ys) ∙ sym (le_max t x (greatest (y ∷ ys)))

passes_by_greatest : (f g x : ℕ) (xs : List ℕ) (a : Action) → passes_behind f g (x ∷ xs) a ≡ passes_behind f g (greatest (x ∷ xs) ∷ []) a
passes_by_greatest f g x xs (Put place value) = refl
passes_by_greatest f g x xs (Flush put fences) = refl
passes_by_greatest f g x xs Finish = refl
passes_by_greatest f g x xs (Token token) = ap (λ (b : Bool). nat_le f g || b) (some_token token x xs ∙ sym (or-false (nat_le token (greatest (x ∷ xs)))))
passes_by_greatest f g x xs Close = refl

behind_by_greatest : (f g x : ℕ) (xs : List ℕ) (actions : List Action) → bound_behind f g (x ∷ xs) actions ≡ bound_behind f g (greatest (x ∷ xs) ∷ []) actions
behind_by_greatest f g x xs [] = refl
behind_by_greatest f g x xs (a ∷ actions) = λ i. cond (passes_by_greatest f g x xs a i) (suc (behind_by_greatest (f + flush_count a) g x xs actions i)) 0

pub bound_by_greatest : (actions : List Action) (finished token : ℕ) (tokens : List ℕ) → bound actions finished (token ∷ tokens) ≡ bound actions finished (greatest (token ∷ tokens) ∷ [])
bound_by_greatest actions g x xs = behind_by_greatest 0 g x xs actions

-- ---- the bound is the first that does not pass

below_cond : (b : Bool) (k n : ℕ) → k < cond b (suc n) 0 → (b ≡ true) × (k < suc n)
below_cond true k n h = (refl, h)
below_cond false k n h = absurd (omega arith)

behind_passes : (f g : ℕ) (tokens : List ℕ) (xs : List Action) (k : ℕ) → k < bound_behind f g tokens xs → passes_if_there (f + flushes (take k xs)) g tokens (slice_get xs k) ≡ true
behind_passes f g tokens [] k h = absurd (omega arith)
behind_passes f g tokens (x ∷ xs) zero h = ap (λ n. passes_behind n g tokens x) (omega arith) ∙ (below_cond (passes_behind f g tokens x) 0 (bound_behind (f + flush_count x) g tokens xs) h).0
behind_passes f g tokens (x ∷ xs) (suc k) h =
    let rest = (below_cond (passes_behind f g tokens x) (suc k) (bound_behind (f + flush_count x) g tokens xs) h).1 in
    passes_next f g tokens x xs k ∙ behind_passes (f + flush_count x) g tokens xs k (omega arith)

pub passes_below_bound : (actions : List Action) (k finished : ℕ) (tokens : List ℕ) → k < bound actions finished tokens → passes actions k finished tokens ≡ true
passes_below_bound actions k g tokens h = sym (from_none actions k g tokens) ∙ behind_passes 0 g tokens actions k h

bool_cases : (b : Bool) (n : ℕ) → n ≤ n → (b ≡ true → suc n ≤ n) → b ≡ false
bool_cases true n h more = absurd (let m = more refl in omega arith)
bool_cases false n h more = refl

pub stops_at_bound : (actions : List Action) (finished : ℕ) (tokens : List ℕ) → passes actions (bound actions finished tokens) finished tokens ≡ false
stops_at_bound actions g tokens =
    let b = bound actions g tokens in
    bool_cases (passes actions b g tokens) b (omega arith) (λ p. let r = bound_one_further actions b g tokens (omega arith) p in omega arith)

cond_within : (b : Bool) (m n : ℕ) → m ≤ n → cond b (suc m) 0 ≤ suc n
cond_within true m n h = omega arith
cond_within false m n h = omega arith

behind_within : (f g : ℕ) (tokens : List ℕ) (xs : List Action) → bound_behind f g tokens xs ≤ length xs
behind_within f g tokens [] = omega arith
behind_within f g tokens (x ∷ xs) = cond_within (passes_behind f g tokens x) _ (length xs) (behind_within (f + flush_count x) g tokens xs)

pub bound_within : (actions : List Action) (finished : ℕ) (tokens : List ℕ) → bound actions finished tokens ≤ length actions
bound_within actions g tokens = behind_within 0 g tokens actions

-- a bound below the position would not pass, and one above it would
pub bound_is_first : (actions : List Action) (b finished : ℕ) (tokens : List ℕ) → ((k : ℕ) → k < b → passes actions k finished tokens ≡ true) → passes actions b finished tokens ≡ false → bound actions finished tokens ≡ b
bound_is_first actions b g tokens below at =
    let n = bound actions g tokens in
    let not_below : n < b → ⊥ = λ lt. both_ways (passes actions n g tokens) (stops_at_bound actions g tokens) (below n lt) in
    let not_above : b < n → ⊥ = λ lt. both_ways (passes actions b g tokens) at (passes_below_bound actions b g tokens lt) in
    omega arith
