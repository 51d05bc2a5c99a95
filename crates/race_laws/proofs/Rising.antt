-- Images in rising order of their numbers are determined by what is found at each number.
use Rattle.std.proofs.Common.{◌≡◌, ℕ, ◌+◌, ◌<◌, ◌≤◌, ◌⊎◌, inl, inr, eqb, Bool, true, false, cond, Option, Some, None, Less, Greater, [], ◌∷◌, refl, sym, ap, ◌∙◌, arith}
use Rattle.std.proofs.lemmas.Bool.{cases_order, eqb-true, eqb-false}
use Rattle.std.proofs.lemmas.Bool.Decides.{nat_tests}
use Rattle.std.proofs.lemmas.List.Sums.{sum_by-cons}
use Rattle.std.specs.BTreeMap.{is_at}
use Rattle.std.specs.Ordering.{nat_cmp}
use Rattle.std.specs.Map.{values_of}
use Rattle.gpu_store.specs.Picture.{Picture, texel_count}
use Rattle.gpu_store.specs.Images.{Pictures, picture_of, replaced, with_image, without, total_texels}

-- each number is above k
abbrev pub Above : ℕ → Pictures → Type 0
Above k [] = Unit {0}
Above k (e ∷ es) = (k < e.0) × Above k es

-- the numbers rise
abbrev pub Rising : Pictures → Type 0
Rising [] = Unit {0}
Rising (e ∷ es) = Above e.0 es × Rising es

above_lower : (j k : ℕ) (es : Pictures) → j < k → Above k es → Above j es
above_lower j k [] lt a = tt
above_lower j k (e ∷ es) lt a = (omega (arith, a.0), above_lower j k es lt a.1)

-- ---- what is found

at_own : (k : ℕ) → is_at (nat_cmp k) k ≡ true
at_own k = grind (arith, nat_tests)

at_other : (k n : ℕ) → (k ≡ n → ⊥) → is_at (nat_cmp k) n ≡ false
at_other k n apart = grind (arith, nat_tests)

-- the test at the head of a list
found_here : (q : ℕ) (e : ℕ × Picture) (es : Pictures) → q ≡ e.0 → picture_of (e ∷ es) q ≡ Some e.1
found_here q e es is = ap (λ (b : Bool). cond b (Some e.1) (picture_of es q)) (ap (λ n. is_at (nat_cmp q) n) (sym is) ∙ at_own q)

found_behind : (q : ℕ) (e : ℕ × Picture) (es : Pictures) → (q ≡ e.0 → ⊥) → picture_of (e ∷ es) q ≡ picture_of es q
found_behind q e es apart = ap (λ (b : Bool). cond b (Some e.1) (picture_of es q)) (at_other q e.0 apart)

none_above : (k : ℕ) (es : Pictures) → Above k es → picture_of es k ≡ None
none_above k [] a = refl
none_above k (e ∷ es) a = let lt = a.0 in found_behind k e es (λ is. absurd (omega (arith, lt, is))) ∙ none_above k es a.1

-- ---- one image more

ordered : (k n : ℕ) → (k < n) ⊎ (k ≡ n) ⊎ (n < k)
ordered k n = by (cases_order k n)
  where
    by : (k ≡ n) ⊎ ((k < n) ⊎ (n < k)) → (k < n) ⊎ (k ≡ n) ⊎ (n < k)
    by (inl same) = inr (inl same)
    by (inr (inl lt)) = inl lt
    by (inr (inr gt)) = inr (inr gt)

cmp_less : (k n : ℕ) → k < n → nat_cmp k n ≡ Less
cmp_less k n lt = grind (arith, nat_tests)

cmp_greater : (k n : ℕ) → n < k → nat_cmp k n ≡ Greater
cmp_greater k n gt = grind (arith, nat_tests)

with_first : (k : ℕ) (v : Picture) (e : ℕ × Picture) (es : Pictures) → k < e.0 → with_image (e ∷ es) k v ≡ (k, v) ∷ e ∷ es
with_first k v e es lt = rw (cmp_less k e.0 lt) refl

with_later : (k : ℕ) (v : Picture) (e : ℕ × Picture) (es : Pictures) → e.0 < k → with_image (e ∷ es) k v ≡ e ∷ with_image es k v
with_later k v e es gt = rw (cmp_greater k e.0 gt) refl

some_none : {A : Type 0} (x : A) → Some x ≡ None → ⊥
some_none x e = cc

-- what holds of a list with one more image, where that is not there
pub record Added (es after : Pictures) (k : ℕ) (v : Picture) : Type 0 where
  pub own : picture_of after k ≡ Some v
  pub others : (q : ℕ) → (k ≡ q → ⊥) → picture_of after q ≡ picture_of es q
  pub above : (j : ℕ) → j < k → Above j es → Above j after
  pub rising : Rising es → Rising after
  pub total : total_texels after ≡ total_texels es + texel_count v

pub added : (es : Pictures) (k : ℕ) (v : Picture) → picture_of es k ≡ None → Added es (with_image es k v) k v
added [] k v none = record {
  own = found_here k (k, v) [] refl;
  others = λ q apart. found_behind q (k, v) [] (λ is. apart (sym is));
  above = λ j lt a. (lt, tt);
  rising = λ r. (tt, tt);
  total = let one = sum_by-cons texel_count v [] in omega (arith, one);
}
added (e ∷ es) k v none = by (λ q. added es k v q) (ordered k e.0)
  where
    same_head : (q : ℕ) → picture_of (with_image es k v) q ≡ picture_of es q → picture_of (e ∷ with_image es k v) q ≡ picture_of (e ∷ es) q
    same_head q is = ap (λ (o : Option Picture). cond (is_at (nat_cmp q) e.0) (Some e.1) o) is

    by : (picture_of es k ≡ None → Added es (with_image es k v) k v) → (k < e.0) ⊎ (k ≡ e.0) ⊎ (e.0 < k) → Added (e ∷ es) (with_image (e ∷ es) k v) k v
    by more (inl lt) = rw (with_first k v e es lt) record {
      own = found_here k (k, v) (e ∷ es) refl;
      others = λ q apart. found_behind q (k, v) (e ∷ es) (λ is. apart (sym is));
      above = λ j lt a. (lt, a);
      rising = λ r. ((lt, above_lower k e.0 es lt r.0), r);
      total = let one = sum_by-cons texel_count v (values_of (e ∷ es)) in omega (arith, one);
    }
    by more (inr (inl same)) = absurd (some_none e.1 (sym (found_here k e es same) ∙ none))
    by more (inr (inr gt)) =
        let behind = found_behind k e es (λ is. absurd (omega (arith, gt, is))) in
        let rest = more (sym behind ∙ none) in
        rw (with_later k v e es gt) record {
          own = found_behind k e (with_image es k v) (λ is. absurd (omega (arith, gt, is))) ∙ rest.own;
          others = λ q apart. same_head q (rest.others q apart);
          above = λ j lt a. (a.0, rest.above j lt a.1);
          rising = λ r. (rest.above e.0 gt r.0, rest.rising r.1);
          total = let one = sum_by-cons texel_count e.1 (values_of es) in let two = sum_by-cons texel_count e.1 (values_of (with_image es k v)) in let all = rest.total in omega (arith, one, two, all);
        }

-- ---- another picture at a number that is there

pub record Replaced (es after : Pictures) (k : ℕ) (old new : Picture) : Type 0 where
  pub own : picture_of after k ≡ Some new
  pub others : (q : ℕ) → (k ≡ q → ⊥) → picture_of after q ≡ picture_of es q
  pub above : (j : ℕ) → Above j es → Above j after
  pub rising : Rising es → Rising after
  pub total : total_texels after + texel_count old ≡ total_texels es + texel_count new

pub replaced_one : (es : Pictures) (k : ℕ) (old new : Picture) → picture_of es k ≡ Some old → Replaced es (replaced es k new) k old new
replaced_one [] k old new there = absurd (some_none old (sym there))
replaced_one (e ∷ es) k old new there = by (λ q. replaced_one es k old new q) (cases_here (is_at (nat_cmp k) e.0))
  where
    cases_here : (b : Bool) → (b ≡ true) ⊎ (b ≡ false)
    cases_here true = inl refl
    cases_here false = inr refl

    same_number : (a b : ℕ) → is_at (nat_cmp a) b ≡ true → a ≡ b
    same_number a b is = grind (arith, nat_tests)

    not_number : is_at (nat_cmp k) e.0 ≡ false → k ≡ e.0 → ⊥
    not_number off is = let on : is_at (nat_cmp k) e.0 ≡ true = ap (λ n. is_at (nat_cmp k) n) (sym is) ∙ at_own k in absurd (cc)

    by : (picture_of es k ≡ Some old → Replaced es (replaced es k new) k old new) → (is_at (nat_cmp k) e.0 ≡ true) ⊎ (is_at (nat_cmp k) e.0 ≡ false) → Replaced (e ∷ es) (replaced (e ∷ es) k new) k old new
    by more (inl here) =
        let same = same_number k e.0 here in
        let was : Some e.1 ≡ Some old = sym (found_here k e es same) ∙ there in
        let old_is : e.1 ≡ old = cc in
        let after : replaced (e ∷ es) k new ≡ (e.0, new) ∷ es = ap (λ (b : Bool). cond b ((e.0, new) ∷ es) (e ∷ replaced es k new)) here in
        rw after record {
          own = found_here k (e.0, new) es same;
          others = λ q apart. found_behind q (e.0, new) es (λ is. apart (same ∙ sym is)) ∙ sym (found_behind q e es (λ is. apart (same ∙ sym is)));
          above = λ j a. a;
          rising = λ r. r;
          total = let one = sum_by-cons texel_count e.1 (values_of es) in let two = sum_by-cons texel_count new (values_of es) in let count : texel_count e.1 ≡ texel_count old = ap texel_count old_is in omega (arith, one, two, count);
        }
    by more (inr off) =
        let rest = more (sym (found_behind k e es (not_number off)) ∙ there) in
        let after : replaced (e ∷ es) k new ≡ e ∷ replaced es k new = ap (λ (b : Bool). cond b ((e.0, new) ∷ es) (e ∷ replaced es k new)) off in
        rw after record {
          own = found_behind k e (replaced es k new) (not_number off) ∙ rest.own;
          others = λ q apart. ap (λ (o : Option Picture). cond (is_at (nat_cmp q) e.0) (Some e.1) o) (rest.others q apart);
          above = λ j a. (a.0, rest.above j a.1);
          rising = λ r. (rest.above e.0 r.0, rest.rising r.1);
          total = let one = sum_by-cons texel_count e.1 (values_of es) in let two = sum_by-cons texel_count e.1 (values_of (replaced es k new)) in let all = rest.total in omega (arith, one, two, all);
        }

-- ---- one image less

pub record Removed (es after : Pictures) (k : ℕ) : Type 0 where
  pub own : picture_of after k ≡ None
  pub others : (q : ℕ) → (k ≡ q → ⊥) → picture_of after q ≡ picture_of es q
  pub above : (j : ℕ) → Above j es → Above j after
  pub rising : Rising after
  pub total : (n : ℕ) → total_texels es ≤ n → total_texels after ≤ n

pub removed : (es : Pictures) (k : ℕ) → Rising es → Removed es (without es k) k
removed [] k r = record { own = refl; others = λ q apart. refl; above = λ j a. a; rising = tt; total = λ n le. le }
removed (e ∷ es) k r = by (removed es k r.1) (cases_here (is_at (nat_cmp k) e.0))
  where
    cases_here : (b : Bool) → (b ≡ true) ⊎ (b ≡ false)
    cases_here true = inl refl
    cases_here false = inr refl

    same_number : (a b : ℕ) → is_at (nat_cmp a) b ≡ true → a ≡ b
    same_number a b is = grind (arith, nat_tests)

    not_number : is_at (nat_cmp k) e.0 ≡ false → k ≡ e.0 → ⊥
    not_number off is = let on : is_at (nat_cmp k) e.0 ≡ true = ap (λ n. is_at (nat_cmp k) n) (sym is) ∙ at_own k in absurd (cc)

    by : Removed es (without es k) k → (is_at (nat_cmp k) e.0 ≡ true) ⊎ (is_at (nat_cmp k) e.0 ≡ false) → Removed (e ∷ es) (without (e ∷ es) k) k
    by rest (inl here) =
        let same = same_number k e.0 here in
        let after : without (e ∷ es) k ≡ es = ap (λ (b : Bool). cond b es (e ∷ without es k)) here in
        rw after record {
          own = ap (λ n. picture_of es n) same ∙ none_above e.0 es r.0;
          others = λ q apart. sym (found_behind q e es (λ is. apart (same ∙ sym is)));
          above = λ j a. a.1;
          rising = r.1;
          total = λ n le. let one = sum_by-cons texel_count e.1 (values_of es) in omega (arith, one, le);
        }
    by rest (inr off) =
        let after : without (e ∷ es) k ≡ e ∷ without es k = ap (λ (b : Bool). cond b es (e ∷ without es k)) off in
        rw after record {
          own = found_behind k e (without es k) (not_number off) ∙ rest.own;
          others = λ q apart. ap (λ (o : Option Picture). cond (is_at (nat_cmp q) e.0) (Some e.1) o) (rest.others q apart);
          above = λ j a. (a.0, rest.above j a.1);
          rising = (rest.above e.0 r.0, rest.rising);
          total = λ n le.
              let one = sum_by-cons texel_count e.1 (values_of es) in
              let two = sum_by-cons texel_count e.1 (values_of (without es k)) in
              let all = rest.total (total_texels es) (omega arith) in
              omega (arith, one, two, all, le);
        }

-- ---- lists with the same images are the same

pub same_images : (es fs : Pictures) → Rising es → Rising fs → ((q : ℕ) → picture_of es q ≡ picture_of fs q) → es ≡ fs
same_images [] [] r s same = refl
same_images [] (f ∷ fs) r s same = absurd (some_none f.1 (sym (found_here f.0 f fs refl) ∙ sym (same f.0)))
same_images (e ∷ es) [] r s same = absurd (some_none e.1 (sym (found_here e.0 e es refl) ∙ same e.0))
same_images (e ∷ es) (f ∷ fs) r s same = by (λ q. same_images es fs r.1 s.1 q) (ordered e.0 f.0)
  where
    rest : e.0 ≡ f.0 → (q : ℕ) → picture_of es q ≡ picture_of fs q
    rest is q = at (cases q e.0)
      where
        cases : (a b : ℕ) → (a ≡ b) ⊎ (a ≡ b → ⊥)
        cases a b = test (eqb a b) refl
          where
            test : (c : Bool) → eqb a b ≡ c → (a ≡ b) ⊎ (a ≡ b → ⊥)
            test true t = inl (eqb-true a b t)
            test false t = inr (eqb-false a b t)

        at : (q ≡ e.0) ⊎ (q ≡ e.0 → ⊥) → picture_of es q ≡ picture_of fs q
        at (inl own) = ap (λ n. picture_of es n) own ∙ none_above e.0 es r.0 ∙ sym (ap (λ n. picture_of fs n) (own ∙ is) ∙ none_above f.0 fs s.0)
        at (inr other) = sym (found_behind q e es other) ∙ same q ∙ found_behind q f fs (λ there. other (there ∙ sym is))

    by : (((q : ℕ) → picture_of es q ≡ picture_of fs q) → es ≡ fs) → (e.0 < f.0) ⊎ (e.0 ≡ f.0) ⊎ (f.0 < e.0) → e ∷ es ≡ f ∷ fs
    by more (inl lt) = absurd (some_none e.1 (sym (found_here e.0 e es refl) ∙ same e.0 ∙ none_above e.0 (f ∷ fs) (lt, above_lower e.0 f.0 fs lt s.0)))
    by more (inr (inr gt)) = absurd (some_none f.1 (sym (found_here f.0 f fs refl) ∙ sym (same f.0) ∙ none_above f.0 (e ∷ es) (gt, above_lower f.0 e.0 es gt r.0)))
    by more (inr (inl is)) =
        let both : Some e.1 ≡ Some f.1 = sym (found_here e.0 e es refl) ∙ same e.0 ∙ found_here e.0 f fs is in
        let value : e.1 ≡ f.1 = cc in
        let first : e ≡ f = λ i. (is i, value i) in
        let others = more (rest is) in
        λ i. first i ∷ others i
