-- What a journal has grown by where flushes were taken.
use Rattle.std.proofs.Common.{◌≡◌, ◌⊎◌, inl, inr, ⊎_elim, ℕ, ◌+◌, true, false, List, [], ◌∷◌, length, refl, sym, ap, subst, ◌∙◌, arith}
use Rattle.gpu_plan.specs.Plans.{PlansData}
use Rattle.sync_core.specs.Standing.{Standing, IsKnown}
use Rattle.gpu_journal.specs.declared.event.Event.{Event}
use Rattle.gpu_journal.specs.declared.event.Event.TheVariants.{Lost}
use Rattle.gpu_journal.specs.declared.event.Why.TheVariants.{Memory}
use Rattle.gpu_journal.specs.Waits.{standing_of}
use Rattle.gpu_journal.specs.Serial.{order_event}
use Rattle.serial_laws.proofs.Others.{standing_own}
use Rattle.gpu_hall.specs.Collecting.{OrderedOrLost, HasCollectedFrom, HasCollected, GrewBy}
use Rattle.gpu_hall.proofs.Takers.{kept_before}

-- ---- from one stream

pub none_from : (p : PlansData) (s : ℕ) (h : List Event) → HasCollectedFrom p s h h
none_from p s [] = refl
none_from p s (e ∷ h) = inl refl

module _ (p : PlansData) (s : ℕ) (old : List Event) where
  -- by one event more
  one_more : (h g : List Event) → OrderedOrLost p s h g → HasCollectedFrom p s old h → HasCollectedFrom p s old g
  one_more h g came had = ⊎_elim (λ is. by (order_event p h s) is (inl refl)) (λ is. by (Lost s Memory []) is (inr refl)) came
    where
      by : (e : Event) → g ≡ e ∷ h → OrderedOrLost p s h (e ∷ h) → HasCollectedFrom p s old g
      by e is this = subst (HasCollectedFrom p s old) (sym is) (inr (this, had))

  pub next_from : (h g : List Event) → (g ≡ h) ⊎ OrderedOrLost p s h g → HasCollectedFrom p s old h → HasCollectedFrom p s old g
  next_from h g came had = ⊎_elim (λ is. subst (HasCollectedFrom p s old) (sym is) had) (λ one. one_more h g one had) came

-- ---- from all

pub none_collected : (p : PlansData) (h : List Event) → HasCollected p h h
none_collected p [] = refl
none_collected p (e ∷ h) = inl refl

-- by what came from one stream after
pub all_collected : (p : PlansData) (s : ℕ) (old h g : List Event) → IsKnown (length p.plans) s → HasCollected p old h → HasCollectedFrom p s h g → HasCollected p old g
all_collected p s old h [] known had came = subst (HasCollected p old) came had
all_collected p s old h (e ∷ g) known had came = ⊎_elim (λ is. subst (HasCollected p old) is had) (λ more. inr ((s, known, more.0), all_collected p s old h g known had more.1)) came

-- ---- how many were taken

module _ (p : PlansData) (s : ℕ) where
  pub none_grew : (h g : List Event) → g ≡ h → GrewBy p s 0 h g
  none_grew h g same = λ kept. let long = ap length same in omega (arith, long)

  -- what is taken of a lost stream is dropped
  pub dropped_grew : (h g : List Event) (count : ℕ) → g ≡ h → (standing_of p h s).lost ≡ true → GrewBy p s count h g
  dropped_grew h g count same lost = λ kept. absurd (let here = ap (λ (g : List Event). (standing_of p g s).lost) same in cc)

  pub one_grew : (h g : List Event) → OrderedOrLost p s h g → GrewBy p s 1 h g
  one_grew h g came = λ kept. ⊎_elim (λ is. let long = ap length is in omega (arith, long)) (λ is. absurd (gone is kept)) came
    where
      gone : g ≡ Lost s Memory [] ∷ h → (standing_of p g s).lost ≡ false → ⊥
      gone is kept =
          let here = ap (λ (g : List Event). (standing_of p g s).lost) is in
          let lost = ap (λ (x : Standing). x.lost) (standing_own p (Lost s Memory []) h) in
          cc

  -- first one number and then another
  pub more_grew : (old h g : List Event) (n m : ℕ) → (g ≡ h) ⊎ OrderedOrLost p s h g → GrewBy p s n old h → GrewBy p s m h g → GrewBy p s (n + m) old g
  more_grew old h g n m came first next = λ kept. let a = first (before came kept) in let b = next kept in omega (arith, a, b)
    where
      by : (e : Event) → g ≡ e ∷ h → (standing_of p g s).lost ≡ false → (standing_of p h s).lost ≡ false
      by e is kept = kept_before p e h s (ap (λ (g : List Event). (standing_of p g s).lost) (sym is) ∙ kept)

      before : (g ≡ h) ⊎ OrderedOrLost p s h g → (standing_of p g s).lost ≡ false → (standing_of p h s).lost ≡ false
      before (inl same) kept = ap (λ (g : List Event). (standing_of p g s).lost) (sym same) ∙ kept
      before (inr (inl is)) kept = by (order_event p h s) is kept
      before (inr (inr is)) kept = by (Lost s Memory []) is kept
