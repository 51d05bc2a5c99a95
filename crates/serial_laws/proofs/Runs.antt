-- After a step its stream can run, unless the step's wait was kept.
use Rattle.std.proofs.Common.{◌≡◌, ℕ, ◌+◌, ◌<◌, eqb, Bool, true, false, not, ◌&&◌, ◌||◌, cond, Option, Some, List, [], ◌∷◌, length, take, drop, refl, sym, ap, ◌∙◌, arith}
use Rattle.std.proofs.lemmas.Bool.{or_left, or_right, eq-eqb}
use Rattle.std.proofs.lemmas.List.Folds.{list_any-append}
use Rattle.std.specs.Prelude.{nat_lt, is_some}
use Rattle.std.specs.List.{list_any, position_or_len}
use Rattle.gpu_plan.specs.Plans.{PlansData, number_of}
use Rattle.stream_state.specs.declared.effect.Effect.{Effect}
use Rattle.stream_state.specs.declared.effect.Effect.TheVariants.{Nothing, Token, Release, Wait, WaitName, Pixels, Results}
use Rattle.sync_core.specs.declared.wait.Number.{Number}
use Rattle.sync_core.specs.declared.wait.Wait as waits
use Rattle.sync_core.specs.Standing.{is_open, first_order, front_of}
use Rattle.sync_core.specs.Events.{Waited, SyncEvent, happened, standing}
use Rattle.sync_core.specs.Pending.{is_kept, placed, wait_of, pending, has_wait_of, is_blocked}
use Rattle.sync_core.proofs.Keeps.{waited_ends}
use Rattle.gpu_journal.specs.declared.event.Event.{Event}
use Rattle.gpu_journal.specs.declared.event.Event.TheVariants.{Step}
use Rattle.gpu_journal.specs.World.{world, asked_by}
use Rattle.gpu_journal.specs.Waits.{deed_asked, sync_of, standing_of, left_of, drawn, pending_in, IsOpen}
use Rattle.gpu_journal.specs.Serial.{is_runnable}
use Rattle.gpu_journal.proofs.Worlds.{sync_then}
use Rattle.serial_laws.proofs.Others.{standing_own}
use Rattle.serial_laws.proofs.Spent.{asked_open}
use Rattle.serial_laws.specs.Runs.{MayGoOn, step_keeps}
use Rattle.serial_laws.proofs.Pending.{blocked_is}
use Rattle.serial_laws.proofs.Going.{step_goes_on}

-- a step neither loses nor closes its stream
pub step_open : (p : PlansData) (h : List Event) (s : ℕ) (words : List (ℕ × ℕ)) → is_open (standing_of p (Step s words ∷ h) s) ≡ is_open (standing_of p h s)
step_open p h s words = ap is_open (standing_own p (Step s words) h) ∙ asked_open p (asked_by p s words (world p h)) (drawn p h + 1) (standing_of p h s)

-- a wait is among those that it is placed among
placed_there : (w : waits.Wait) (ws : List waits.Wait) (t m : ℕ) → (eqb w.stream t && eqb w.order m) ≡ true → has_wait_of t m (placed w ws) ≡ true
placed_there w ws t m is =
    let k = position_or_len (λ (v : waits.Wait). nat_lt w.order v.order) ws in
    let test : waits.Wait → Bool = λ v. eqb v.stream t && eqb v.order m in
    list_any-append test (take k ws) (w ∷ drop k ws) ∙ or_right (list_any test (take k ws)) (test w || list_any test (drop k ws)) (or_left (test w) (list_any test (drop k ws)) is)

-- a kept wait of the first number is pending
kept_waits_there : (k s t r : ℕ) (g : List SyncEvent) (n : ℕ) → first_order (standing g s).left ≡ Some n → is_kept k (standing g) s (front_of (standing g s).left) t r ≡ true → has_wait_of s n (pending k ((s, Waited t r) ∷ g)) ≡ true
kept_waits_there k s t r g n first kept =
    ap (has_wait_of s n) (waited_ends k s t r g (some_left (standing g s).left first)).0
    ∙ ap (λ (b : Bool). has_wait_of s n (cond b (placed (wait_of (standing g s) s t r) (pending k g)) (pending k g))) kept
    ∙ placed_there (wait_of (standing g s) s t r) (pending k g) s n (is_its (standing g s).left first)
  where
    some_left : (xs : List Number) → first_order xs ≡ Some n → 0 < length xs
    some_left [] e = absurd (cc)
    some_left (x ∷ xs) e = omega arith

    is_its : (xs : List Number) → first_order xs ≡ Some n → (eqb s s && eqb (front_of xs) n) ≡ true
    is_its [] e = absurd (cc)
    is_its (x ∷ xs) e = let is : x.order ≡ n = cc in ap (λ (b : Bool). b && eqb x.order n) (eq-eqb s s refl) ∙ ap (λ (m : ℕ). eqb m n) is ∙ eq-eqb n n refl

-- a step whose wait is kept leaves it pending
kept_pending : (p : PlansData) (h : List Event) (s n : ℕ) → first_order (left_of p h s) ≡ Some n → (effect : Effect) → step_keeps p h s effect ≡ true → has_wait_of s n (pending (length p.plans) (happened s (deed_asked p effect) (sync_of p h))) ≡ true
kept_pending p h s n first Nothing kept = absurd (cc)
kept_pending p h s n first (Token token) kept = absurd (cc)
kept_pending p h s n first (Release r) kept = absurd (cc)
kept_pending p h s n first (Wait t r) kept = kept_waits_there (length p.plans) s t r (sync_of p h) n first kept
kept_pending p h s n first (WaitName name r) kept = kept_waits_there (length p.plans) s (number_of p.plans name) r (sync_of p h) n first kept
kept_pending p h s n first (Pixels op) kept = absurd (cc)
kept_pending p h s n first (Results write) kept = absurd (cc)

-- its stream is blocked
pub step_blocked : (p : PlansData) (h : List Event) (s : ℕ) (words : List (ℕ × ℕ)) (n : ℕ) → is_open (standing_of p h s) ≡ true → MayGoOn p h s n false
    → is_blocked s (left_of p (Step s words ∷ h) s) (pending_in p (Step s words ∷ h)) ≡ step_keeps p h s (asked_by p s words (world p h))
step_blocked p h s words n open' may = by (step_keeps p h s (asked_by p s words (world p h))) refl
  where
    by : (b : Bool) → step_keeps p h s (asked_by p s words (world p h)) ≡ b → is_blocked s (left_of p (Step s words ∷ h) s) (pending_in p (Step s words ∷ h)) ≡ b
    by true kept =
        let first = (step_goes_on p h s words n true (sym kept) may).first (step_open p h s words ∙ open') in
        blocked_is s n (left_of p (Step s words ∷ h) s) (pending_in p (Step s words ∷ h)) first
        ∙ ap (λ (g : List SyncEvent). has_wait_of s n (pending (length p.plans) g)) (sync_then p (Step s words) h)
        ∙ kept_pending p h s n (may.first open') (asked_by p s words (world p h)) kept
    by false dropped = (step_goes_on p h s words n false (sym dropped) may).free (step_open p h s words ∙ open') refl

-- so it can run exactly where the step keeps no wait
pub step_runs : (p : PlansData) (h : List Event) (s : ℕ) (words : List (ℕ × ℕ)) (n : ℕ) → IsOpen p h s → MayGoOn p h s n false → is_runnable p (Step s words ∷ h) s ≡ not (step_keeps p h s (asked_by p s words (world p h)))
step_runs p h s words n open' may =
    let paused = step_keeps p h s (asked_by p s words (world p h)) in
    let first = (step_goes_on p h s words n paused refl may).first (step_open p h s words ∙ open'.stays) in
    ap (λ (o : Option ℕ). is_some o && not (is_blocked s (left_of p (Step s words ∷ h) s) (pending_in p (Step s words ∷ h)))) first ∙ ap not (step_blocked p h s words n open'.stays may)
