-- What is ordered in a played history, its client has passed.
use Rattle.std.proofs.Common.{◌≡◌, ℕ, zero, suc, ◌+◌, ◌≤◌, ◌<◌, eqb, Bool, true, false, Result, Ok, Err, List, [], ◌∷◌, length, take, refl, sym, ap, subst, ◌∙◌, arith}
use Rattle.std.proofs.lemmas.Bool.{eqb-true, ltb-true, and_parts}
use Rattle.std.specs.Prelude.{nat_lt}
use Rattle.gpu_cmd.specs.declared.command.Command.{Command}
use Rattle.gpu_cmd.specs.declared.error.CmdError.{CmdError}
use Rattle.gpu_plan.specs.Plans.{PlansData, IsLawfulPlan, plan_of, no_plan}
use Rattle.gpu_plan.specs.Passes.{flushes}
use Rattle.sync_core.specs.Standing.{IsKnown, is_open}
use Rattle.gpu_journal.specs.declared.event.Event.{Event}
use Rattle.gpu_journal.specs.declared.event.Event.TheVariants.{Order, Step, Finish, Lost, Close}
use Rattle.gpu_journal.specs.World.{Known, World, world, stream_in, known, known_after}
use Rattle.gpu_journal.specs.Waits.{standing_of}
use Rattle.gpu_journal.specs.Serial.{count, stays, has_flush, order_event, next_words, judged_event, run_event, IsPlayed}
use Rattle.gpu_journal.proofs.Worlds.{world_none}
use Rattle.serial_laws.specs.Scripts.{AreLawfulPlans}
use Rattle.serial_laws.proofs.First.{first_passes}
use Rattle.serial_laws.proofs.Choices.{Kind, orders_it, closes_it, runs_it, kind_of, run_is}
use Rattle.serial_laws.proofs.Others.{known_own, known_other}
use Rattle.serial_laws.proofs.Flushes.{flushes_grow}
use Rattle.serial_laws.proofs.Counts.{count_grows}

-- the plan of a stream of the script
pub lawful_of : (p : PlansData) (s : ℕ) → AreLawfulPlans p → IsKnown (length p.plans) s → IsLawfulPlan (plan_of p s).areas (plan_of p s).actions
lawful_of p zero lawful known = absurd (let a = known.0 in omega arith)
lawful_of p (suc k) lawful known = (lawful.each k no_plan (let a = known.1 in omega arith)).0

-- ---- what is ordered, the client has passed

abbrev pub is_order : Event → Bool
is_order (Order s n c) = true
is_order _ = false

ordered_own : (p : PlansData) (e : Event) (w : World) (k : Known) → is_order e ≡ false → (known_after p e w k).ordered ≡ k.ordered
ordered_own p (Order s n c) w k e = absurd (cc)
ordered_own p (Step s words) w k e = refl
ordered_own p (Finish s n) w k e = refl
ordered_own p (Lost s why words) w k e = refl
ordered_own p (Close s) w k e = refl

-- an event that is no order leaves the number of orders
pub ordered_same : (p : PlansData) (e : Event) (h : List Event) (t : ℕ) → is_order e ≡ false → (known p (e ∷ h) t).ordered ≡ (known p h t).ordered
ordered_same p e h t none = by (eqb (stream_in e) t) refl
  where
    own : (known p (e ∷ h) (stream_in e)).ordered ≡ (known p h (stream_in e)).ordered
    own = ap (λ (k : Known). k.ordered) (known_own p e h) ∙ ordered_own p e (world p h) (known p h (stream_in e)) none

    by : (b : Bool) → eqb (stream_in e) t ≡ b → (known p (e ∷ h) t).ordered ≡ (known p h t).ordered
    by true q = subst (λ t. (known p (e ∷ h) t).ordered ≡ (known p h t).ordered) (eqb-true (stream_in e) t q) own
    by false q = ap (λ (k : Known). k.ordered) (known_other p e h t q)

run_is_no_order : (p : PlansData) (h : List Event) (s : ℕ) → is_order (run_event p h s) ≡ false
run_is_no_order p h s = run_is p h s (λ e. is_order e ≡ false) (λ _. refl) (λ _ answer _. judged answer)
  where
    judged : (answer : Result Command CmdError) → is_order (judged_event s (next_words p h s) answer) ≡ false
    judged (Ok command) = refl
    judged (Err error) = refl

abbrev pub HasPassed : PlansData → List Event → ℕ → Type 0
HasPassed p h s = (known p h s).ordered ≤ flushes (take (count p h s) (plan_of p s).actions)

passed_wider : (p : PlansData) (e : Event) (h : List Event) (t n : ℕ) → n ≤ flushes (take (count p h t) (plan_of p t).actions) → n ≤ flushes (take (count p (e ∷ h) t) (plan_of p t).actions)
passed_wider p e h t n o = let b = flushes_grow (plan_of p t).actions (count p h t) (count p (e ∷ h) t) (count_grows p e h t) in omega arith

-- the parts of a test
pub flush_parts : (p : PlansData) (h : List Event) (s : ℕ) → has_flush p h s ≡ true → (is_open (standing_of p h s) ≡ true) × ((known p h s).ordered < flushes (take (count p h s) (plan_of p s).actions))
flush_parts p h s e =
    let q = and_parts (stays p h s) (nat_lt (known p h s).ordered (flushes (take (count p h s) (plan_of p s).actions))) e in
    (q.0, ltb-true (known p h s).ordered (flushes (take (count p h s) (plan_of p s).actions)) q.1)

passed_order : (p : PlansData) (h : List Event) (s t : ℕ) → has_flush p h s ≡ true → HasPassed p h t → HasPassed p (order_event p h s ∷ h) t
passed_order p h s t f o = by (eqb s t) refl
  where
    own : HasPassed p (order_event p h s ∷ h) s
    own =
        let more = (flush_parts p h s f).1 in
        let is : (known p (order_event p h s ∷ h) s).ordered ≡ (known p h s).ordered + 1 = ap (λ (k : Known). k.ordered) (known_own p (order_event p h s) h) in
        let wide = passed_wider p (order_event p h s) h s ((known p h s).ordered + 1) (omega arith) in
        omega arith

    by : (b : Bool) → eqb s t ≡ b → HasPassed p (order_event p h s ∷ h) t
    by true q = subst (λ t. HasPassed p (order_event p h s ∷ h) t) (eqb-true s t q) own
    by false q =
        let is : (known p (order_event p h s ∷ h) t).ordered ≡ (known p h t).ordered = ap (λ (k : Known). k.ordered) (known_other p (order_event p h s) h t q) in
        let wide = passed_wider p (order_event p h s) h t (known p h t).ordered o in
        omega arith

passed_no_order : (p : PlansData) (e : Event) (h : List Event) (t : ℕ) → is_order e ≡ false → HasPassed p h t → HasPassed p (e ∷ h) t
passed_no_order p e h t none o = let is = ordered_same p e h t none in let wide = passed_wider p e h t (known p h t).ordered o in omega arith

passed_then : (p : PlansData) (e : Event) (h : List Event) (t : ℕ) → Kind p h e → HasPassed p h t → HasPassed p (e ∷ h) t
passed_then p e h t (orders_it s f q) o = subst (λ e. HasPassed p (e ∷ h) t) (sym q) (passed_order p h s t (first_passes (has_flush p h) (length p.plans) s f).0 o)
passed_then p e h t (closes_it s x y q) o = passed_no_order p e h t (ap is_order q) o
passed_then p e h t (runs_it s x q) o = passed_no_order p e h t (ap is_order q ∙ run_is_no_order p h s) o

pub has_passed : (p : PlansData) (h : List Event) (t : ℕ) → IsPlayed p h → HasPassed p h t
has_passed p [] t y = let nothing : (known p [] t).ordered ≡ 0 = ap (λ (w : World). (w.streams t).ordered) (world_none p) in omega arith
has_passed p (e ∷ h) t y = passed_then p e h t (kind_of p h e y.0) (has_passed p h t y.1)
