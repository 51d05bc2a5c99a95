-- Each kind of step keeps the rule of the live view.
use Rattle.std.proofs.Common.{◌≡◌, ◌≢◌, ℕ, List, set, ⊎_elim, refl, sym, ap, ◌∙◌, subst}
use Rattle.std.specs.Prelude.{Option, Some, None, IfSome}
use mathlib.Core.Option.{some}
use lib.ListN.{get_elem?}
use Rattle.atomic_table.proofs.Lists.{at_set, at_snoc}
use Rattle.left_right.specs.Register.{Admits, TurnsAt, Turns, Forks, Merges}
use Rattle.live_view.specs.declared.shown.Shown.{Shown}
use Rattle.live_view.specs.declared.known.Known.{Known}
use Rattle.live_view.specs.Fronts.{FrontData}
use Rattle.live_view.specs.Rule.{IsLast, IsBegun, Fits, Holds, HasFound, nothing, met, looked, looks, meets, publishes, informed}
use Rattle.live_view.proofs.Prefixes.{prefix_self, prefix_trans}

-- a front that goes on after another, which goes on after a first
begun_further : (a b c : FrontData) → IsBegun a b → IsBegun b c → IsBegun a c
begun_further a b c p q = record { same = p.same ∙ q.same; longer = prefix_trans a.versions b.versions c.versions p.longer q.longer }

-- what fits a value fits one that goes on after it
further_if : (front : Option FrontData) (now next : FrontData) → IsBegun now next → IfSome front (λ f. IsBegun f now) → IfSome front (λ f. IsBegun f next)
further_if None now next on fits = tt
further_if (Some f) now next on fits = begun_further f now next fits on

-- one view is replaced by one that has met the version published now
kept_at : (x y : Shown) (views : List Known) (seat : ℕ) (w : Known) → Holds x views → IsLast y.version y.front.versions → IsBegun x.front y.front → w.front ≡ Some y.front → Holds y (set views seat w)
kept_at x y views seat w h last on new = record {
  last = last;
  begun = λ j u e. ⊎_elim
      (λ (mine : (j ≡ seat) × (w ≡ u)). subst (λ (o : Option FrontData). IfSome o (λ f. IsBegun f y.front)) (sym new ∙ ap (λ (k : Known). k.front) mine.1) (record { same = refl; longer = prefix_self y.front.versions }))
      (λ (other : (j ≢ seat) × (get_elem? views j ≡ some u)). further_if u.front x.front y.front on (h.begun j u other.1))
      (at_set views seat j w u e);
}

found : (x : Shown) (views : List Known) (seat : ℕ) (v : Known) → Holds x views → get_elem? views seat ≡ some v → HasFound v x
found x views seat v h at = record { last = h.last; begun = h.begun seat v at }

begun_self : (front : FrontData) → IsBegun front front
begun_self front = record { same = refl; longer = prefix_self front.versions }

pub admits : Admits Holds nothing
admits x views h = record { last = h.last; begun = λ j u e. ⊎_elim (λ (old : get_elem? views j ≡ some u). h.begun j u old) (λ (new : nothing ≡ u). subst (λ (k : Known). Fits x k) new tt) (at_snoc views nothing u j e) }

pub turns_look : (seat : ℕ) (v : Known) → Turns Holds seat v (λ x. x) looks
turns_look seat v x views h at = (looked v x, kept_at x x views seat (looked v x) h h.last (begun_self x.front) refl, (found x views seat v h at, refl))

pub turns_meet : (seat : ℕ) (v : Known) → Turns Holds seat v (λ x. x) meets
turns_meet seat v x views h at = (met v x, kept_at x x views seat (met v x) h h.last (begun_self x.front) refl, (found x views seat v h at, refl))

pub turns_publish : (seat : ℕ) (v : Known) (x y : Shown) → IsLast y.version y.front.versions → IsBegun x.front y.front → TurnsAt Holds seat v x y publishes
turns_publish seat v x y last on views h at = (met v y, kept_at x y views seat (met v y) h last on refl, refl)

fits_set : (x : Shown) (views : List Known) (seat : ℕ) (w : Known) → Holds x views → Fits x w → Holds x (set views seat w)
fits_set x views seat w h fits = record {
  last = h.last;
  begun = λ j u e. ⊎_elim (λ (mine : (j ≡ seat) × (w ≡ u)). subst (λ (k : Known). Fits x k) mine.1 fits) (λ (other : (j ≢ seat) × (get_elem? views j ≡ some u)). h.begun j u other.1) (at_set views seat j w u e);
}

pub forks : (seat : ℕ) (v : Known) → Forks Holds seat v v v
forks seat v x views h at =
    let same = fits_set x views seat v h (h.begun seat v at) in
    record { last = h.last; begun = λ j u e. ⊎_elim (λ (old : get_elem? (set views seat v) j ≡ some u). same.begun j u old) (λ (new : v ≡ u). subst (λ (k : Known). Fits x k) new (h.begun seat v at)) (at_snoc (set views seat v) v u j e) }

pub merges : (seat : ℕ) (v : Known) (other : ℕ) (w : Known) → Merges Holds seat v other w (informed v w) nothing
merges seat v other w x views h at apart there =
    let told : Fits x w = ⊎_elim (λ (same : (other ≡ seat) × (informed v w ≡ w)). absurd (apart same.0)) (λ (else : (other ≢ seat) × (get_elem? views other ≡ some w)). h.begun other w else.1) (at_set views seat other (informed v w) w there) in
    fits_set x (set views seat (informed v w)) other nothing (fits_set x views seat (informed v w) h told) tt
