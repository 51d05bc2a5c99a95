-- What an event makes of its own stream, and that it leaves every other stream as it was.
use Rattle.std.proofs.Common.{◌≡◌, ℕ, ◌+◌, eqb, Bool, true, false, cond, Option, None, Some, List, ◌∷◌, refl, ap, ◌∙◌}
use Rattle.std.proofs.lemmas.Bool.{eq-eqb}
use Rattle.gpu_plan.specs.Plans.{PlansData}
use Rattle.sync_core.specs.Standing.{Standing}
use Rattle.sync_core.specs.Events as sync
use Rattle.gpu_journal.specs.declared.event.Event.{Event}
use Rattle.gpu_journal.specs.World.{world, stream_in, known, known_after}
use Rattle.gpu_journal.specs.Waits.{deed, sync_of, standing_of, drawn}
use Rattle.gpu_journal.proofs.Worlds.{known_then, sync_then}

-- what a deed, if there is one, makes of its stream
abbrev pub moved_by : Option sync.Deed → ℕ → Standing → Standing
moved_by None n old = old
moved_by (Some deed) n old = sync.moved deed n old

standing_noted : (s t : ℕ) (d : Option sync.Deed) (g : List sync.SyncEvent) → sync.standing (sync.happened s d g) t ≡ cond (eqb s t) (moved_by d (sync.orders g + 1) (sync.standing g t)) (sync.standing g t)
standing_noted s t None g = by (eqb s t)
  where
    by : (b : Bool) → sync.standing g t ≡ cond b (sync.standing g t) (sync.standing g t)
    by true = refl
    by false = refl
standing_noted s t (Some deed) g = refl

standing_then : (p : PlansData) (e : Event) (h : List Event) (t : ℕ) → standing_of p (e ∷ h) t ≡ cond (eqb (stream_in e) t) (moved_by (deed p e (world p h)) (drawn p h + 1) (standing_of p h t)) (standing_of p h t)
standing_then p e h t = ap (λ (g : List sync.SyncEvent). sync.standing g t) (sync_then p e h) ∙ standing_noted (stream_in e) t (deed p e (world p h)) (sync_of p h)

pub standing_own : (p : PlansData) (e : Event) (h : List Event) → standing_of p (e ∷ h) (stream_in e) ≡ moved_by (deed p e (world p h)) (drawn p h + 1) (standing_of p h (stream_in e))
standing_own p e h =
    let s = stream_in e in
    standing_then p e h s ∙ ap (λ (b : Bool). cond b (moved_by (deed p e (world p h)) (drawn p h + 1) (standing_of p h s)) (standing_of p h s)) (eq-eqb s s refl)

pub standing_other : (p : PlansData) (e : Event) (h : List Event) (t : ℕ) → eqb (stream_in e) t ≡ false → standing_of p (e ∷ h) t ≡ standing_of p h t
standing_other p e h t off = standing_then p e h t ∙ ap (λ (b : Bool). cond b (moved_by (deed p e (world p h)) (drawn p h + 1) (standing_of p h t)) (standing_of p h t)) off

pub known_own : (p : PlansData) (e : Event) (h : List Event) → known p (e ∷ h) (stream_in e) ≡ known_after p e (world p h) (known p h (stream_in e))
known_own p e h =
    let s = stream_in e in
    known_then p e h s ∙ ap (λ (b : Bool). cond b (known_after p e (world p h) (known p h s)) (known p h s)) (eq-eqb s s refl)

pub known_other : (p : PlansData) (e : Event) (h : List Event) (t : ℕ) → eqb (stream_in e) t ≡ false → known p (e ∷ h) t ≡ known p h t
known_other p e h t off = known_then p e h t ∙ ap (λ (b : Bool). cond b (known_after p e (world p h) (known p h t)) (known p h t)) off
