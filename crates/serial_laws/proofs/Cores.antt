-- What a core says of the streams of a history that it stands for.
use Rattle.std.proofs.Common.{◌≡◌, ℕ, eqb, Bool, not, ◌&&◌, cond, List, length, ap, ◌∙◌}
use Rattle.std.specs.Prelude.{nat_lt}
use Rattle.gpu_plan.specs.Plans.{PlansData}
use Rattle.stream_state.specs.declared.effect.Effect.TheVariants.{Wait}
use Rattle.sync_core.specs.declared.judged.Judged.TheVariants.{Kept, Dropped}
use Rattle.sync_core.specs.declared.wait.Number.{Number}
use Rattle.sync_core.specs.Standing.{Standing, is_known, is_open, has_below, at, front_of}
use Rattle.sync_core.specs.Pending.{is_kept, is_blocked, pending}
use Rattle.sync_core.specs.Core as cores
use Rattle.gpu_journal.specs.declared.event.Event.{Event}
use Rattle.gpu_journal.specs.Waits.{sync_of, standing_of, left_of, front, drawn, pending_in}
use Rattle.serial_laws.specs.Runs.{step_keeps}
use Rattle.serial_laws.specs.Needs.{need_of, need}
use Rattle.serial_laws.specs.Choosing.{IsCoreOf}

module _ (p : PlansData) (h : List Event) (core : cores.Core) (is : IsCoreOf p h core) where
  pub core_drawn : core.drawn ≡ drawn p h
  core_drawn = is.stands.drawn

  pub core_standing : (s : ℕ) → at core.streams s ≡ standing_of p h s
  core_standing s = is.stands.streams s

  pub core_open : (s : ℕ) → is_open (at core.streams s) ≡ is_open (standing_of p h s)
  core_open s = ap is_open (core_standing s)

  pub core_need : (s : ℕ) → need_of (at core.streams s) ≡ need p h s
  core_need s = ap need_of (core_standing s)

  pub core_left : (s : ℕ) → cores.unprocessed_of core s ≡ left_of p h s
  core_left s = ap (λ (x : Standing). x.left) (core_standing s)

  pub core_front : (s : ℕ) → front_of (cores.unprocessed_of core s) ≡ front p h s
  core_front s = ap front_of (core_left s)

  pub core_pending : core.pending ≡ pending_in p h
  core_pending = is.stands.pending ∙ ap (λ (n : ℕ). pending n (sync_of p h)) is.count

  pub core_blocked : (s : ℕ) → cores.blocked core s ≡ is_blocked s (left_of p h s) (pending_in p h)
  core_blocked s = ap (λ (xs : List Number). is_blocked s xs core.pending) (core_left s) ∙ ap (is_blocked s (left_of p h s)) core_pending

  -- whether a wait is kept
  pub core_kept : (s t r : ℕ) → is_kept (length core.streams) (at core.streams) s (front_of (cores.unprocessed_of core s)) t r ≡ is_kept (length p.plans) (standing_of p h) s (front p h s) t r
  core_kept s t r =
      ap (λ (n : ℕ). is_kept n (at core.streams) s (front_of (cores.unprocessed_of core s)) t r) is.count
      ∙ ap (λ (n : ℕ). is_kept (length p.plans) (at core.streams) s n t r) (core_front s)
      ∙ ap (λ (x : Standing). is_known (length p.plans) t && (not (eqb s t) && (is_open x && (nat_lt x.release r && has_below (front p h s) x.left)))) (core_standing t)

  -- its judgement is that of the step that waits
  pub core_judged : (s t r : ℕ) → cores.judgement core s t r ≡ cond (step_keeps p h s (Wait t r)) Kept Dropped
  core_judged s t r = ap (λ (b : Bool). cond b Kept Dropped) (core_kept s t r)
