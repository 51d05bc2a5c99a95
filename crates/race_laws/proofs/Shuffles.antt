-- Steps that are the same stream by stream leave the same, where those of different streams do not conflict or keep their order.
use Rattle.std.proofs.Common.{◌≡◌, ◌≢◌, ℕ, ◌⊎◌, inl, inr, ⊎_elim, eqb, Bool, true, false, not, ◌&&◌, ◌||◌, cond, List, [], ◌∷◌, refl, sym, ap, subst, ◌∙◌}
use Rattle.std.specs.List.{list_any, AllByRecursion}
use Rattle.std.proofs.lemmas.Bool.{eqb-true, eqb-false, eq-eqb, ne_eqb, and_parts}
use Rattle.gpu_plan.specs.Plans.{PlansData}
use Rattle.race_laws.specs.Touches.{Area, Whole, Part, Touch, touches, overlaps, clashes, conflict, is_apart, are_apart}
use Rattle.race_laws.proofs.Clashes.{meet_turned}
use Rattle.race_laws.proofs.Stages.{stepped_stage, stage_of, steps_swap}

abbrev pub Words : Type 0
Words = List (ℕ × ℕ)

abbrev pub Steps : Type 0
Steps = List (ℕ × Words)

-- the words of the steps of one stream
abbrev pub of : ℕ → Steps → List Words
of s [] = []
of s (x ∷ xs) = cond (eqb x.0 s) (x.1 ∷ of s xs) (of s xs)

-- the steps after the newest of stream s, and all others but that
abbrev pub newer : ℕ → Steps → Steps
newer s [] = []
newer s (x ∷ xs) = cond (eqb x.0 s) [] (x ∷ newer s xs)

abbrev pub without : ℕ → Steps → Steps
without s [] = []
without s (x ∷ xs) = cond (eqb x.0 s) xs (x ∷ without s xs)

-- a step of stream s with these words conflicts with none of these
abbrev pub FreeOf : Words → Steps → Type 0
FreeOf words xs = AllByRecursion (λ x. conflict words x.1 ≡ false) xs

-- ---- the newest step of a stream may come last, where none after it conflicts

pub pulled : (p : PlansData) (s : ℕ) (words : Words) (rest : List Words) (ys : Steps) → of s ys ≡ words ∷ rest → FreeOf words (newer s ys) → stage_of p ys ≡ stepped_stage p (s, words) (stage_of p (without s ys))
pulled p s words rest [] are none = absurd (cc)
pulled p s words rest (y ∷ ys) are none = by (λ q free. pulled p s words rest ys q free) (eqb y.0 s) refl
  where
    by : (of s ys ≡ words ∷ rest → FreeOf words (newer s ys) → stage_of p ys ≡ stepped_stage p (s, words) (stage_of p (without s ys))) → (b : Bool) → eqb y.0 s ≡ b
        → stage_of p (y ∷ ys) ≡ stepped_stage p (s, words) (stage_of p (without s (y ∷ ys)))
    by more true q =
        let here : y.1 ∷ of s ys ≡ words ∷ rest = sym (ap (λ (b : Bool). cond b (y.1 ∷ of s ys) (of s ys)) q) ∙ are in
        let words_are : y.1 ≡ words = cc in
        let own : y.0 ≡ s = eqb-true y.0 s q in
        let last : without s (y ∷ ys) ≡ ys = ap (λ (b : Bool). cond b ys (y ∷ without s ys)) q in
        (λ i. stepped_stage p (own i, words_are i) (stage_of p ys)) ∙ sym (ap (λ (z : Steps). stepped_stage p (s, words) (stage_of p z)) last)
    by more false q =
        let behind : of s ys ≡ words ∷ rest = sym (ap (λ (b : Bool). cond b (y.1 ∷ of s ys) (of s ys)) q) ∙ are in
        let free : FreeOf words (y ∷ newer s ys) = subst (FreeOf words) (ap (λ (b : Bool). cond b [] (y ∷ newer s ys)) q) none in
        let last : without s (y ∷ ys) ≡ y ∷ without s ys = ap (λ (b : Bool). cond b ys (y ∷ without s ys)) q in
        ap (stepped_stage p y) (more behind free.1)
        ∙ sym (steps_swap p (s, words) y (stage_of p (without s ys)) (λ e. eqb-false y.0 s q (sym e)) free.0)
        ∙ sym (ap (λ (z : Steps). stepped_stage p (s, words) (stage_of p z)) last)

-- ---- what is left, stream by stream

pub of_without : (s t : ℕ) (ys : Steps) → s ≢ t → of t (without s ys) ≡ of t ys
of_without s t [] apart = refl
of_without s t (y ∷ ys) apart = by (of_without s t ys apart) (eqb y.0 s) refl
  where
    by : of t (without s ys) ≡ of t ys → (b : Bool) → eqb y.0 s ≡ b → of t (cond b ys (y ∷ without s ys)) ≡ of t (y ∷ ys)
    by rest true q = sym (ap (λ (c : Bool). cond c (y.1 ∷ of t ys) (of t ys)) (ne_eqb y.0 t (λ e. apart (sym (eqb-true y.0 s q) ∙ e))))
    by rest false q = ap (λ (ws : List Words). cond (eqb y.0 t) (y.1 ∷ ws) ws) rest

pub of_without_own : (s : ℕ) (words : Words) (rest : List Words) (ys : Steps) → of s ys ≡ words ∷ rest → of s (without s ys) ≡ rest
of_without_own s words rest [] are = absurd (cc)
of_without_own s words rest (y ∷ ys) are = by (λ q. of_without_own s words rest ys q) (eqb y.0 s) refl
  where
    by : (of s ys ≡ words ∷ rest → of s (without s ys) ≡ rest) → (b : Bool) → eqb y.0 s ≡ b → of s (without s (y ∷ ys)) ≡ rest
    by more true q =
        let here : y.1 ∷ of s ys ≡ words ∷ rest = sym (ap (λ (b : Bool). cond b (y.1 ∷ of s ys) (of s ys)) q) ∙ are in
        let same : of s ys ≡ rest = cc in
        ap (λ (b : Bool). of s (cond b ys (y ∷ without s ys))) q ∙ same
    by more false q =
        let behind : of s ys ≡ words ∷ rest = sym (ap (λ (b : Bool). cond b (y.1 ∷ of s ys) (of s ys)) q) ∙ are in
        ap (λ (b : Bool). of s (cond b ys (y ∷ without s ys))) q ∙ ap (λ (b : Bool). cond b (y.1 ∷ of s (without s ys)) (of s (without s ys))) q ∙ more behind

-- the same stream by stream
abbrev pub Same : Steps → Steps → Type 0
Same xs ys = (s : ℕ) → of s xs ≡ of s ys

pub own_first : (x : ℕ × Words) (xs : Steps) → of x.0 (x ∷ xs) ≡ x.1 ∷ of x.0 xs
own_first x xs = ap (λ (b : Bool). cond b (x.1 ∷ of x.0 xs) (of x.0 xs)) (eq-eqb x.0 x.0 refl)

other_first : (x : ℕ × Words) (xs : Steps) (t : ℕ) → x.0 ≢ t → of t (x ∷ xs) ≡ of t xs
other_first x xs t apart = ap (λ (b : Bool). cond b (x.1 ∷ of t xs) (of t xs)) (ne_eqb x.0 t apart)

pub same_rest : (x : ℕ × Words) (xs ys : Steps) → Same (x ∷ xs) ys → Same xs (without x.0 ys)
same_rest x xs ys same t = by (eqb x.0 t) refl
  where
    by : (b : Bool) → eqb x.0 t ≡ b → of t xs ≡ of t (without x.0 ys)
    by true q =
        let own : of x.0 ys ≡ x.1 ∷ of x.0 xs = sym (same x.0) ∙ own_first x xs in
        subst (λ (t : ℕ). of t xs ≡ of t (without x.0 ys)) (eqb-true x.0 t q) (sym (of_without_own x.0 x.1 (of x.0 xs) ys own))
    by false q =
        let apart = eqb-false x.0 t q in
        sym (other_first x xs t apart) ∙ same t ∙ sym (of_without x.0 t ys apart)

-- ---- the same stream by stream, in whatever order, leaves the same

-- what is known of both is enough to take the newest steps off, one after the other
pub record TakesOff (Known : Steps → Steps → Type 0) : Type 0 where
  pub free : (x : ℕ × Words) (xs ys : Steps) → Known (x ∷ xs) ys → Same (x ∷ xs) ys → FreeOf x.1 (newer x.0 ys)
  pub rest : (x : ℕ × Words) (xs ys : Steps) → Known (x ∷ xs) ys → Same (x ∷ xs) ys → Known xs (without x.0 ys)

pub same_stage : (p : PlansData) (Known : Steps → Steps → Type 0) → TakesOff Known → (xs ys : Steps) → Same xs ys → Known xs ys → stage_of p xs ≡ stage_of p ys
same_stage p Known takes [] [] same known = refl
same_stage p Known takes [] (y ∷ ys) same known = let e : [] ≡ y.1 ∷ of y.0 ys = same y.0 ∙ own_first y ys in absurd (cc)
same_stage p Known takes (x ∷ xs) ys same known =
    let own : of x.0 ys ≡ x.1 ∷ of x.0 xs = sym (same x.0) ∙ own_first x xs in
    ap (stepped_stage p x) (same_stage p Known takes xs (without x.0 ys) (same_rest x xs ys same) (takes.rest x xs ys known same))
    ∙ sym (pulled p x.0 x.1 (of x.0 xs) ys own (takes.free x xs ys known same))

-- ---- where none conflicts

-- the words are those of a step
abbrev pub Among : Words → List Words → Type 0
Among a [] = ⊥
Among a (w ∷ ws) = (a ≡ w) ⊎ Among a ws

-- no two of different streams conflict
abbrev pub Apart : Steps → Type 0
Apart xs = (s t : ℕ) (a b : Words) → s ≢ t → Among a (of s xs) → Among b (of t xs) → conflict a b ≡ false

pub among_later : (a : Words) (s : ℕ) (x : ℕ × Words) (xs : Steps) → Among a (of s xs) → Among a (of s (x ∷ xs))
among_later a s x xs is = by (eqb x.0 s)
  where
    by : (b : Bool) → Among a (cond b (x.1 ∷ of s xs) (of s xs))
    by true = inr is
    by false = is

pub among_first : (x : ℕ × Words) (xs : Steps) → Among x.1 (of x.0 (x ∷ xs))
among_first x xs = subst (Among x.1) (sym (own_first x xs)) (inl refl)

newer_free : (words : Words) (s : ℕ) (ys : Steps) → ((t : ℕ) (b : Words) → s ≢ t → Among b (of t ys) → conflict words b ≡ false) → FreeOf words (newer s ys)
newer_free words s [] all = tt
newer_free words s (y ∷ ys) all = by (newer_free words s ys (λ t b apart is. all t b apart (among_later b t y ys is))) (eqb y.0 s) refl
  where
    by : FreeOf words (newer s ys) → (c : Bool) → eqb y.0 s ≡ c → FreeOf words (cond c [] (y ∷ newer s ys))
    by rest true q = tt
    by rest false q = (all y.0 y.1 (λ e. eqb-false y.0 s q (sym e)) (among_first y ys), rest)

pub apart_takes : TakesOff (λ xs ys. Apart xs)
apart_takes = record {
  free = λ x xs ys apart same. newer_free x.1 x.0 ys (λ t b other is. apart x.0 t x.1 b other (among_first x xs) (subst (Among b) (sym (same t)) is));
  rest = λ x xs ys apart same s t a b other here there. apart s t a b other (among_later a s x xs here) (among_later b t x xs there);
}

-- ---- the test of it

overlaps_turned : (a b : Area) → overlaps a b ≡ overlaps b a
overlaps_turned Whole Whole = refl
overlaps_turned Whole (Part q) = refl
overlaps_turned (Part r) Whole = refl
overlaps_turned (Part r) (Part q) = λ i. meet_turned r.x r.w q.x q.w i && meet_turned r.y r.h q.y q.h i

or_turned : (a b : Bool) → (a || b) ≡ (b || a)
or_turned true true = refl
or_turned true false = refl
or_turned false true = refl
or_turned false false = refl

eqb_turned : (a b : ℕ) → eqb a b ≡ eqb b a
eqb_turned a b = by (eqb a b) refl
  where
    by : (c : Bool) → eqb a b ≡ c → c ≡ eqb b a
    by true q = sym (eq-eqb b a (sym (eqb-true a b q)))
    by false q = sym (ne_eqb b a (λ e. eqb-false a b q (sym e)))

clashes_turned : (a b : Touch) → clashes a b ≡ clashes b a
clashes_turned a b = λ i. eqb_turned a.image b.image i && (overlaps_turned a.area b.area i && or_turned a.writes b.writes i)

-- each of one list with each of the other, either way round
any_none : (xs : List Touch) → list_any (λ (x : Touch). list_any (clashes x) []) xs ≡ false
any_none [] = refl
any_none (x ∷ xs) = any_none xs

any_more : (y : Touch) (xs ys : List Touch) → list_any (λ (x : Touch). list_any (clashes x) (y ∷ ys)) xs ≡ (list_any (λ (x : Touch). clashes x y) xs || list_any (λ (x : Touch). list_any (clashes x) ys) xs)
any_more y [] ys = refl
any_more y (x ∷ xs) ys = ap (λ (b : Bool). (clashes x y || list_any (clashes x) ys) || b) (any_more y xs ys) ∙ four (clashes x y) (list_any (clashes x) ys) (list_any (λ (x : Touch). clashes x y) xs) (list_any (λ (x : Touch). list_any (clashes x) ys) xs)
  where
    four : (a b c d : Bool) → ((a || b) || (c || d)) ≡ ((a || c) || (b || d))
    four true b c d = refl
    four false true true d = refl
    four false true false d = refl
    four false false c d = refl

any_same : (f g : Touch → Bool) → ((x : Touch) → f x ≡ g x) → (xs : List Touch) → list_any f xs ≡ list_any g xs
any_same f g same [] = refl
any_same f g same (x ∷ xs) = λ i. same x i || any_same f g same xs i

any_turned : (xs ys : List Touch) → list_any (λ (x : Touch). list_any (clashes x) ys) xs ≡ list_any (λ (y : Touch). list_any (clashes y) xs) ys
any_turned xs [] = any_none xs
any_turned xs (y ∷ ys) = any_more y xs ys ∙ (λ i. any_same (λ x. clashes x y) (clashes y) (λ x. clashes_turned x y) xs i || any_turned xs ys i)

pub conflict_turned : (a b : Words) → conflict a b ≡ conflict b a
conflict_turned a b = any_turned (touches a) (touches b)

apart_from : (s : ℕ) (words : Words) (xs : Steps) → is_apart s words xs ≡ true → (t : ℕ) (b : Words) → s ≢ t → Among b (of t xs) → conflict words b ≡ false
apart_from s words [] is t b other there = absurd there
apart_from s words (x ∷ xs) is t b other there = by (λ rest. apart_from s words xs parts.1 t b other rest) (eqb x.0 t) refl
  where
    parts : ((eqb s x.0 || not (conflict words x.1)) ≡ true) × (is_apart s words xs ≡ true)
    parts = and_parts (eqb s x.0 || not (conflict words x.1)) (is_apart s words xs) is

    off : (c d : Bool) → (c || not d) ≡ true → c ≡ false → d ≡ false
    off true d e f = absurd (cc)
    off false true e f = absurd (cc)
    off false false e f = refl

    first : b ≡ x.1 → eqb x.0 t ≡ true → conflict words b ≡ false
    first same q = ap (conflict words) same ∙ off (eqb s x.0) (conflict words x.1) parts.0 (ne_eqb s x.0 (λ e. other (e ∙ eqb-true x.0 t q)))

    by : (Among b (of t xs) → conflict words b ≡ false) → (c : Bool) → eqb x.0 t ≡ c → conflict words b ≡ false
    by rest true q = ⊎_elim (λ same. first same q) rest (subst (Among b) (ap (λ (c : Bool). cond c (x.1 ∷ of t xs) (of t xs)) q) there)
    by rest false q = rest (subst (Among b) (ap (λ (c : Bool). cond c (x.1 ∷ of t xs) (of t xs)) q) there)

pub apart_by : (xs : Steps) → are_apart xs ≡ true → Apart xs
apart_by [] is s t a b other here there = absurd here
apart_by (x ∷ xs) is s t a b other here there = by (λ h k. apart_by xs parts.1 s t a b other h k) (eqb x.0 s) refl (eqb x.0 t) refl
  where
    parts : (is_apart x.0 x.1 xs ≡ true) × (are_apart xs ≡ true)
    parts = and_parts (is_apart x.0 x.1 xs) (are_apart xs) is

    at : (u : ℕ) (w : Words) (c : Bool) → eqb x.0 u ≡ c → Among w (of u (x ∷ xs)) → Among w (cond c (x.1 ∷ of u xs) (of u xs))
    at u w c q is = subst (Among w) (ap (λ (c : Bool). cond c (x.1 ∷ of u xs) (of u xs)) q) is

    by : (Among a (of s xs) → Among b (of t xs) → conflict a b ≡ false) → (c : Bool) → eqb x.0 s ≡ c → (d : Bool) → eqb x.0 t ≡ d → conflict a b ≡ false
    by rest true m true n = absurd (other (sym (eqb-true x.0 s m) ∙ eqb-true x.0 t n))
    by rest true m false n =
        ⊎_elim
        (λ same. ap (λ (w : Words). conflict w b) same ∙ apart_from x.0 x.1 xs parts.0 t b (λ e. eqb-false x.0 t n e) (at t b false n there))
        (λ later. rest later (at t b false n there))
        (at s a true m here)
    by rest false m true n =
        ⊎_elim
        (λ same. conflict_turned a b ∙ ap (λ (w : Words). conflict w a) same ∙ apart_from x.0 x.1 xs parts.0 s a (λ e. eqb-false x.0 s m e) (at s a false m here))
        (λ later. rest (at s a false m here) later)
        (at t b true n there)
    by rest false m false n = rest (at s a false m here) (at t b false n there)
