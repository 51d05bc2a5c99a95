-- One turn of the loop over a client's actions.
use Rattle.std.proofs.Common.{◌≡◌, ℕ, ◌-◌, ◌≤◌, ◌<◌, true, List, ◌∷◌, length, refl, sym, ap, subst, ◌∙◌, arith}
use Rattle.gpu_plan.specs.Plans.{PlansData, plan_of}
use Rattle.gpu_plan.proofs.Passing.{bound_within}
use Rattle.gpu_journal.specs.declared.event.Event.{Event}
use Rattle.gpu_journal.specs.World.{known}
use Rattle.gpu_journal.specs.Serial.{stays, order_event}
use Rattle.sync_core.specs.Standing.{IsKnown, is_open}
use Rattle.serial_laws.proofs.Others.{standing_own}
use Rattle.gpu_run.specs.declared.act.Act.{Act}
use Rattle.gpu_run.specs.declared.act.Act.TheVariants.{Stays, Passed, Ordered}
use Rattle.gpu_run.specs.Rounds.{ActsAs, GoesFurther, IsRising, HaveActed}
use Rattle.gpu_run.proofs.Phases.{rising_order, acted_order, acted_passed, still_acted}

-- an order leaves its stream open
order_open : (p : PlansData) (h : List Event) (s : ℕ) → stays p h s ≡ true → stays p (order_event p h s ∷ h) s ≡ true
order_open p h s o = ap is_open (standing_own p (order_event p h s) h) ∙ o

-- after an action
pub record Turned (p : PlansData) (h g : List Event) (old new : ℕ → ℕ) (s : ℕ) : Type 0 where
  pub rising : IsRising p g
  pub acted : HaveActed p g new (s - 1)
  pub open_still : stays p g s ≡ true
  pub longer : length h ≤ length g
  pub further : GoesFurther p h old new s

pub turned : (p : PlansData) (act : Act) (h g : List Event) (old new : ℕ → ℕ) (s : ℕ) → (act ≡ Stays → ⊥) → ActsAs p act h g old new s → IsKnown (length p.plans) s → IsRising p h → HaveActed p h old (s - 1) → stays p h s ≡ true → Turned p h g old new s
turned p Stays h g old new s goes acts known r a o = absurd (goes refl)
turned p Passed h g old new s goes acts known r a o =
    subst (λ (x : List Event). Turned p h x old new s) (sym acts.0) record { rising = r; acted = acted_passed p h old new s a acts.1.others; open_still = o; longer = omega arith; further = acts.1 }
turned p Ordered h g old new s goes acts known r a o =
    subst (λ (x : List Event). Turned p h x old new s) (sym acts.0) record {
      rising = rising_order p h old s r a known.0 known.1 o acts.2;
      acted = acted_order p h old new s r a acts.1.others;
      open_still = order_open p h s o;
      longer = omega arith;
      further = acts.1;
    }

pub turn_smaller : (p : PlansData) (h : List Event) (old new : ℕ → ℕ) (s : ℕ) → GoesFurther p h old new s → length (plan_of p s).actions - new s < length (plan_of p s).actions - old s
turn_smaller p h old new s further =
    let most = bound_within (plan_of p s).actions (known p h s).finished (known p h s).tokens in
    let more = further.further in
    let below = further.below in
    omega (arith, most, more, below)

-- after the last one
pub stayed : (p : PlansData) (act : Act) (h g : List Event) (old new : ℕ → ℕ) (s : ℕ) → act ≡ Stays → ActsAs p act h g old new s → IsKnown (length p.plans) s → IsRising p h → HaveActed p h old (s - 1) → IsRising p g × HaveActed p g new s × (length h ≤ length g)
stayed p Stays h g old new s is acts known r a =
    let here = still_acted p h old s r known.0 a acts.2 in
    (subst (IsRising p) (sym acts.0) r, subst (λ (x : List Event). HaveActed p x new s) (sym acts.0) (subst (λ (d : ℕ → ℕ). HaveActed p h d s) (sym acts.1) here), (let l = ap length acts.0 in omega (arith, l)))
stayed p Passed h g old new s is acts known r a = absurd (cc)
stayed p Ordered h g old new s is acts known r a = absurd (cc)
