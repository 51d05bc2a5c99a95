-- The first of the streams that passes a test, and the best.
use Rattle.std.proofs.Common.{◌≡◌, ◌≢◌, ℕ, zero, suc, ◌≤◌, ◌<◌, ◌⊎◌, inl, inr, Bool, true, false, ◌&&◌, cond, eqb, Option, Some, None, refl, sym, ap, ◌∙◌, arith}
use Rattle.std.proofs.lemmas.Bool.Decides.{nat_tests}
use Rattle.gpu_word.specs.Outcome.{when}
use Rattle.gpu_journal.specs.Serial.{either, first, best, better}

pub bool_cases : (b : Bool) → (b ≡ true) ⊎ (b ≡ false)
bool_cases true = inl refl
bool_cases false = inr refl

pub nat_cases : (s n : ℕ) → (s ≡ n) ⊎ (s ≢ n)
nat_cases s n = by (eqb s n) refl
  where
    by : (b : Bool) → eqb s n ≡ b → (s ≡ n) ⊎ (s ≢ n)
    by true e = inl (grind (arith, nat_tests))
    by false e = inr (λ q. let f : eqb s n ≡ true = grind (arith, nat_tests) in absurd (cc))

module _ (test : ℕ → Bool) where
  either_none : (o q : Option ℕ) → o ≡ None → either o q ≡ q
  either_none (Some x) q e = absurd (cc)
  either_none None q e = refl

  either_some : (o q : Option ℕ) (s : ℕ) → o ≡ Some s → either o q ≡ Some s
  either_some (Some x) q s e = e
  either_some None q s e = absurd (cc)

  pub first_none : (n : ℕ) → ((t : ℕ) → 0 < t → t ≤ n → test t ≡ false) → first test n ≡ None
  first_none zero f = refl
  first_none (suc n) f =
      either_none (first test n) (when (test (suc n)) (suc n)) (first_none n (λ t a b. f t a (omega arith)))
      ∙ ap (λ (b : Bool). when b (suc n)) (f (suc n) (omega arith) (omega arith))

  pub first_is : (n s : ℕ) → 0 < s → s ≤ n → ((t : ℕ) → 0 < t → t < s → test t ≡ false) → test s ≡ true → first test n ≡ Some s
  first_is zero s a b f e = absurd (omega arith)
  first_is (suc n) s a b f e = by (λ le. first_is n s a le f e) (nat_cases s (suc n))
    where
      by : (s ≤ n → first test n ≡ Some s) → (s ≡ suc n) ⊎ (s ≢ suc n) → first test (suc n) ≡ Some s
      by rest (inl q) =
          either_none (first test n) (when (test (suc n)) (suc n)) (first_none n (λ t x y. f t x (omega arith)))
          ∙ ap (λ (b : Bool). when b (suc n)) (ap test (sym q) ∙ e) ∙ ap Some (sym q)
      by rest (inr q) = either_some (first test n) (when (test (suc n)) (suc n)) s (rest (omega arith))

  pub first_passes : (n s : ℕ) → first test n ≡ Some s → (test s ≡ true) × (0 < s) × (s ≤ n)
  first_passes zero s e = absurd (cc)
  first_passes (suc n) s e = by (λ q. first_passes n s q) (first test n) refl e
    where
      here : (b : Bool) → test (suc n) ≡ b → when b (suc n) ≡ Some s → (test s ≡ true) × (0 < s) × (s ≤ suc n)
      here true q k = let is : s ≡ suc n = cc in (ap test is ∙ q, omega arith, omega arith)
      here false q k = absurd (cc)

      by : (first test n ≡ Some s → (test s ≡ true) × (0 < s) × (s ≤ n)) → (o : Option ℕ) → first test n ≡ o → either o (when (test (suc n)) (suc n)) ≡ Some s → (test s ≡ true) × (0 < s) × (s ≤ suc n)
      by rest (Some x) q k = let r = rest (q ∙ k) in (r.0, r.1, omega arith)
      by rest None q k = here (test (suc n)) refl k

  pub first_fails : (n : ℕ) → first test n ≡ None → (t : ℕ) → 0 < t → t ≤ n → test t ≡ false
  first_fails zero e t a b = absurd (omega arith)
  first_fails (suc n) e t a b = by (λ q le. first_fails n q t a le) (first test n) refl e (nat_cases t (suc n))
    where
      here : (b : Bool) → test (suc n) ≡ b → when b (suc n) ≡ None → test (suc n) ≡ false
      here true q k = absurd (cc)
      here false q k = q

      by : (first test n ≡ None → t ≤ n → test t ≡ false) → (o : Option ℕ) → first test n ≡ o → either o (when (test (suc n)) (suc n)) ≡ None → (t ≡ suc n) ⊎ (t ≢ suc n) → test t ≡ false
      by rest (Some x) q k c = absurd (cc)
      by rest None q k (inl is) = ap test is ∙ here (test (suc n)) refl k
      by rest None q k (inr no_) = rest q (omega arith)

  module _ (before : ℕ → ℕ → Bool) where
    pub best_passes : (n s : ℕ) → best test before n ≡ Some s → (test s ≡ true) × (0 < s) × (s ≤ n)
    best_passes zero s e = absurd (cc)
    best_passes (suc n) s e = by (λ t q. best_passes n t q) (best test before n) refl (test (suc n)) refl e
      where
        taken : (b : Bool) (t : ℕ) → test (suc n) ≡ true → (test t ≡ true) × (0 < t) × (t ≤ n) → cond b (Some (suc n)) (Some t) ≡ Some s → (test s ≡ true) × (0 < s) × (s ≤ suc n)
        taken true t q r k = let is : s ≡ suc n = cc in (ap test is ∙ q, omega arith, omega arith)
        taken false t q r k = let is : s ≡ t = cc in (ap test is ∙ r.0, omega arith, omega arith)

        by : ((t : ℕ) → best test before n ≡ Some t → (test t ≡ true) × (0 < t) × (t ≤ n)) → (o : Option ℕ) → best test before n ≡ o → (b : Bool) → test (suc n) ≡ b → better before (suc n) b o ≡ Some s → (test s ≡ true) × (0 < s) × (s ≤ suc n)
        by rest (Some t) q true g k = taken (before (suc n) t) t g (rest t q) k
        by rest (Some t) q false g k = let is : s ≡ t = cc in let r = rest t q in (ap test is ∙ r.0, omega arith, omega arith)
        by rest None q true g k = let is : s ≡ suc n = cc in (ap test is ∙ g, omega arith, omega arith)
        by rest None q false g k = absurd (cc)

    pub best_fails : (n : ℕ) → best test before n ≡ None → (t : ℕ) → 0 < t → t ≤ n → test t ≡ false
    best_fails zero e t a b = absurd (omega arith)
    best_fails (suc n) e t a b = by (λ q le. best_fails n q t a le) (best test before n) refl (test (suc n)) refl e (nat_cases t (suc n))
      where
        not_none : (b : Bool) (s u : ℕ) → cond b (Some s) (Some u) ≡ None → ⊥
        not_none true s u k = cc
        not_none false s u k = cc

        by : (best test before n ≡ None → t ≤ n → test t ≡ false) → (o : Option ℕ) → best test before n ≡ o → (b : Bool) → test (suc n) ≡ b → better before (suc n) b o ≡ None → (t ≡ suc n) ⊎ (t ≢ suc n) → test t ≡ false
        by rest (Some u) q b g k c = absurd (not_none (b && before (suc n) u) (suc n) u k)
        by rest None q true g k c = absurd (cc)
        by rest None q false g k (inl is) = ap test is ∙ g
        by rest None q false g k (inr no_) = rest q (omega arith)
