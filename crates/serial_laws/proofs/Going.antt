-- What an event changes of a run that is out.
use Rattle.std.proofs.Common.{◌≡◌, ℕ, ◌+◌, ◌≤◌, eqb, Bool, true, false, not, cond, Option, Some, None, List, [], ◌∷◌, ◌++◌, length, refl, sym, ap, subst, ◌∙◌, arith}
use Rattle.std.proofs.lemmas.Bool.{and_right, eq-eqb}
use Rattle.std.proofs.lemmas.Bool.Decides.{nat_tests}
use Rattle.std.proofs.lemmas.List.Elements.{All-head}
use Rattle.std.specs.Prelude.{slice_get}
use Rattle.gpu_plan.specs.Plans.{PlansData, plan_of, number_of}
use Rattle.stream_state.specs.declared.effect.Effect.{Effect}
use Rattle.stream_state.specs.declared.effect.Effect.TheVariants.{Nothing, Token, Release, Wait, WaitName, Pixels, Results}
use Rattle.sync_core.specs.declared.wait.Number.{Number}
use Rattle.sync_core.specs.Standing.{Standing, is_open, first_order, front_of, bumped}
use Rattle.sync_core.specs.Events.{Deed, Ordered, Waited, Released, SyncEvent, happened, moved, orders, standing}
use Rattle.sync_core.specs.Pending.{is_kept, is_blocked, pending, has_wait_of}
use Rattle.sync_core.proofs.Numbers.{Each, left_drawn}
use Rattle.gpu_journal.specs.declared.event.Event.{Event}
use Rattle.gpu_journal.specs.declared.event.Event.TheVariants.{Order, Step, Lost, Close}
use Rattle.gpu_journal.specs.declared.event.Why.{Why}
use Rattle.gpu_journal.specs.World.{world, stream_in, asked_by}
use Rattle.gpu_journal.specs.Waits.{deed, deed_asked, fences_in, sync_of, standing_of, left_of, pending_in}
use Rattle.gpu_journal.proofs.Worlds.{sync_then}
use Rattle.serial_laws.proofs.Others.{standing_own}
use Rattle.serial_laws.specs.Runs.{GoesOn, MayGoOn, step_keeps}
use Rattle.serial_laws.proofs.Pending.{none_left, none_ordered, none_dropped, none_other, blocked_is}

-- ---- over sync events

-- of another stream
other_standing : (s : ℕ) (d : Option Deed) (g : List SyncEvent) (t : ℕ) → eqb s t ≡ false → standing (happened s d g) t ≡ standing g t
other_standing s None g t off = refl
other_standing s (Some d) g t off = ap (λ (b : Bool). cond b (moved d (orders g + 1) (standing g t)) (standing g t)) off

-- of the stream itself
own_standing : (s : ℕ) (d : Deed) (g : List SyncEvent) → standing ((s, d) ∷ g) s ≡ moved d (orders g + 1) (standing g s)
own_standing s d g = ap (λ (b : Bool). cond b (moved d (orders g + 1) (standing g s)) (standing g s)) (eq-eqb s s refl)

-- a run goes on where its stream is as open as it was, its first number is the same, and no wait of that came to a run that is not paused
goes_on_so : (k : ℕ) (g now : List SyncEvent) (s n : ℕ) (was_paused paused : Bool) → GoesOn k g s n was_paused → is_open (standing now s) ≡ is_open (standing g s)
    → (first_order (standing g s).left ≡ Some n → first_order (standing now s).left ≡ Some n)
    → (first_order (standing g s).left ≡ Some n → paused ≡ false → (was_paused ≡ false) × (has_wait_of s n (pending k g) ≡ false → has_wait_of s n (pending k now) ≡ false)) → GoesOn k now s n paused
goes_on_so k g now s n was_paused paused may same first free = record {
  first = λ o. first (may.first (sym same ∙ o));
  free = λ o going.
      let was = sym same ∙ o in
      let f = may.first was in
      let none = free f going in
      blocked_is s n (standing now s).left (pending k now) (first f) ∙ none.1 (sym (blocked_is s n (standing g s).left (pending k g) f) ∙ may.free was none.0);
}

other_event : (k s : ℕ) (d : Option Deed) (g : List SyncEvent) (t n : ℕ) (paused : Bool) → eqb s t ≡ false → GoesOn k g t n paused → GoesOn k (happened s d g) t n paused
other_event k s d g t n paused off may =
    let st = other_standing s d g t off in
    goes_on_so k g (happened s d g) t n paused paused may (ap is_open st) (λ f. ap (λ (x : Standing). first_order x.left) st ∙ f) (λ f going. (going, none_other k s d g t n off))

first_drawn : (m n : ℕ) (xs : List Number) → Each (λ k. k ≤ m) xs → first_order xs ≡ Some n → n ≤ m
first_drawn m n [] low e = absurd (cc)
first_drawn m n (x ∷ xs) low e = let is : x.order ≡ n = cc in let le = All-head (λ (y : Number). y.order ≤ m) x xs low in omega arith

own_order : (k s : ℕ) (fences : List (ℕ × ℕ)) (g : List SyncEvent) (n : ℕ) (paused : Bool) → GoesOn k g s n paused → GoesOn k ((s, Ordered fences) ∷ g) s n paused
own_order k s fences g n paused may =
    let st = own_standing s (Ordered fences) g in
    goes_on_so k g ((s, Ordered fences) ∷ g) s n paused paused may (ap is_open st) (λ f. ap (λ (x : Standing). first_order x.left) st ∙ first_more (standing g s).left f)
    (λ f going. (going, none_ordered k s fences g s n (and_right (eqb s s) (eqb (orders g + 1) n) (apart (orders g) n (first_drawn (orders g) n (standing g s).left (left_drawn g s) f)))))
  where
    first_more : (xs : List Number) → first_order xs ≡ Some n → first_order (xs ++ record { order = orders g + 1; made = length fences } ∷ []) ≡ Some n
    first_more [] e = absurd (cc)
    first_more (x ∷ xs) e = e

    apart : (a b : ℕ) → b ≤ a → eqb (a + 1) b ≡ false
    apart a b le = grind (arith, nat_tests)

own_release : (k s r : ℕ) (g : List SyncEvent) (n : ℕ) (paused : Bool) → GoesOn k g s n paused → GoesOn k ((s, Released r) ∷ g) s n paused
own_release k s r g n paused may =
    let st = own_standing s (Released r) g in
    goes_on_so k g ((s, Released r) ∷ g) s n paused paused may (ap is_open st) (λ f. ap (λ (x : Standing). first_order x.left) st ∙ f) (λ f going. (going, none_left k (s, Released r) g s n))

-- a wait pauses the run exactly where it is kept
own_wait : (k s t r : ℕ) (g : List SyncEvent) (n : ℕ) (paused : Bool) → paused ≡ is_kept k (standing g) s (front_of (standing g s).left) t r → GoesOn k g s n false → GoesOn k ((s, Waited t r) ∷ g) s n paused
own_wait k s t r g n paused kept may =
    let st = own_standing s (Waited t r) g in
    goes_on_so k g ((s, Waited t r) ∷ g) s n false paused may (ap is_open st) (λ f. ap (λ (x : Standing). first_order x.left) st ∙ first_bumped (standing g s).left f)
    (λ f dropped. (refl, none_dropped k s t r g s n (sym kept ∙ dropped)))
  where
    first_bumped : (xs : List Number) → first_order xs ≡ Some n → first_order (bumped xs) ≡ Some n
    first_bumped [] e = e
    first_bumped (x ∷ xs) e = e

-- ---- over a history

-- an event of another stream leaves a run as it was
pub other_goes_on : (p : PlansData) (e : Event) (h : List Event) (t n : ℕ) (paused : Bool) → eqb (stream_in e) t ≡ false → MayGoOn p h t n paused → MayGoOn p (e ∷ h) t n paused
other_goes_on p e h t n paused off may =
    subst (λ (g : List SyncEvent). GoesOn (length p.plans) g t n paused) (sym (sync_then p e h)) (other_event (length p.plans) (stream_in e) (deed p e (world p h)) (sync_of p h) t n paused off may)

-- so does an order of its own stream
pub order_goes_on : (p : PlansData) (h : List Event) (s m c n : ℕ) (paused : Bool) → MayGoOn p h s n paused → MayGoOn p (Order s m c ∷ h) s n paused
order_goes_on p h s m c n paused may =
    subst (λ (g : List SyncEvent). GoesOn (length p.plans) g s n paused) (sym (sync_then p (Order s m c) h))
    (own_order (length p.plans) s (fences_in (slice_get (plan_of p s).actions c)) (sync_of p h) n paused may)

-- a step of the run pauses it exactly where the step's wait is kept
pub step_goes_on : (p : PlansData) (h : List Event) (s : ℕ) (words : List (ℕ × ℕ)) (n : ℕ) (paused : Bool) → paused ≡ step_keeps p h s (asked_by p s words (world p h)) → MayGoOn p h s n false → MayGoOn p (Step s words ∷ h) s n paused
step_goes_on p h s words n paused kept may =
    subst (λ (g : List SyncEvent). GoesOn (length p.plans) g s n paused) (sym (sync_then p (Step s words) h)) (by (asked_by p s words (world p h)) paused kept)
  where
    going : (now : List SyncEvent) (q : Bool) → q ≡ false → GoesOn (length p.plans) now s n false → GoesOn (length p.plans) now s n q
    going now q off may = subst (GoesOn (length p.plans) now s n) (sym off) may

    by : (effect : Effect) (q : Bool) → q ≡ step_keeps p h s effect → GoesOn (length p.plans) (happened s (deed_asked p effect) (sync_of p h)) s n q
    by Nothing q off = going (sync_of p h) q off may
    by (Token token) q off = going (sync_of p h) q off may
    by (Pixels op) q off = going (sync_of p h) q off may
    by (Results write) q off = going (sync_of p h) q off may
    by (Release r) q off = going ((s, Released r) ∷ sync_of p h) q off (own_release (length p.plans) s r (sync_of p h) n false may)
    by (Wait t r) q is = own_wait (length p.plans) s t r (sync_of p h) n q is may
    by (WaitName name r) q is = own_wait (length p.plans) s (number_of p.plans name) r (sync_of p h) n q is may

-- a stream that is not open has nothing that a run must keep
pub ended_goes_on : (p : PlansData) (h : List Event) (s n : ℕ) (paused : Bool) → is_open (standing_of p h s) ≡ false → MayGoOn p h s n paused
ended_goes_on p h s n paused off = record { first = λ o. absurd (cc); free = λ o going. absurd (cc) }

pub lost_ends : (p : PlansData) (h : List Event) (s : ℕ) (why : Why) (words : List (ℕ × ℕ)) → is_open (standing_of p (Lost s why words ∷ h) s) ≡ false
lost_ends p h s why words = ap is_open (standing_own p (Lost s why words) h)

pub close_ends : (p : PlansData) (h : List Event) (s : ℕ) → is_open (standing_of p (Close s ∷ h) s) ≡ false
close_ends p h s = ap is_open (standing_own p (Close s) h) ∙ and_right (not (standing_of p h s).lost) false refl

pub lost_goes_on : (p : PlansData) (h : List Event) (s : ℕ) (why : Why) (words : List (ℕ × ℕ)) (n : ℕ) (paused : Bool) → MayGoOn p (Lost s why words ∷ h) s n paused
lost_goes_on p h s why words n paused = ended_goes_on p (Lost s why words ∷ h) s n paused (lost_ends p h s why words)

pub close_goes_on : (p : PlansData) (h : List Event) (s n : ℕ) (paused : Bool) → MayGoOn p (Close s ∷ h) s n paused
close_goes_on p h s n paused = ended_goes_on p (Close s ∷ h) s n paused (close_ends p h s)

-- a run that is taken out of a stream that can run goes on
pub run_begins : (p : PlansData) (h : List Event) (s n : ℕ) → first_order (left_of p h s) ≡ Some n → is_blocked s (left_of p h s) (pending_in p h) ≡ false → MayGoOn p h s n false
run_begins p h s n first free = record { first = λ o. first; free = λ o going. free }

-- a paused run whose waits have ended goes on
pub run_resumes : (p : PlansData) (h : List Event) (s n : ℕ) (paused : Bool) → is_blocked s (left_of p h s) (pending_in p h) ≡ false → MayGoOn p h s n paused → MayGoOn p h s n false
run_resumes p h s n paused free may = record { first = may.first; free = λ o going. free }

-- where a run may go on, it may as well be paused
pub run_pauses : (p : PlansData) (h : List Event) (s n : ℕ) (paused : Bool) → MayGoOn p h s n paused → MayGoOn p h s n true
run_pauses p h s n paused may = record { first = may.first; free = λ o going. absurd (cc) }
