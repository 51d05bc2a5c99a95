-- What the claim of a command tells of its effect.
use Rattle.std.proofs.Common.{◌≡◌, ℕ, false, Some, List, refl, sym, subst}
use Rattle.gpu_cmd.specs.declared.areas.Areas.{Areas}
use Rattle.gpu_cmd.specs.declared.command.Command.{Command}
use Rattle.gpu_cmd.specs.declared.command.Command.TheVariants.{CreateImage, DeleteImage, ClearRect, CopyRect, UploadRect, UploadBucket, UploadBuffer, WaitToken, WaitSyncToken}
use Rattle.gpu_store.specs.declared.op.Op.{Op}
use Rattle.gpu_store.specs.declared.op.Answer.TheVariants.{Done}
use Rattle.gpu_store.specs.Images.{Pictures}
use Rattle.gpu_plan.specs.Plans.{PlansData}
use Rattle.stream_state.specs.declared.effect.Effect.{Effect}
use Rattle.stream_state.specs.declared.effect.Effect.TheVariants.{Pixels}
use Rattle.stream_state.specs.State.{State}
use Rattle.stream_state.specs.Steps.{asked, effect_of, effect, command_in}
use Rattle.stream_state.specs.Accepted.{takes_memory}
use Rattle.stream_state.proofs.Effects.{effect_is}
use Rattle.sync_core.specs.Events.{Waited}
use Rattle.sync_core.specs.Core.{Core}
use Rattle.gpu_journal.specs.World.{drawn_by}
use Rattle.gpu_journal.specs.Waits.{deed_asked}
use Rattle.step_parts.specs.declared.claim.Claim.{Claim}
use Rattle.step_parts.specs.declared.claim.Claim.TheVariants.{Nothing, Image, Wait}
use Rattle.step_parts.specs.Keeping.{keeps, keeps_wait}
use Rattle.step_parts.specs.Claims.{claim_of, IsPlain}

-- a command that makes an image by this operation
pub record MakesImage (command : Command) (effect : Effect) (op : Op) : Type 0 where
  pub asks : effect ≡ Pixels op
  pub free : takes_memory command ≡ false

-- a command that waits on stream t and release r
pub record MakesWait (p : PlansData) (command : Command) (effect : Effect) (t r : ℕ) : Type 0 where
  pub deed : deed_asked p effect ≡ Some (Waited t r)
  pub draws : (images : Pictures) → drawn_by effect images ≡ record { answer = Done; images = images }
  pub keeps : (core : Core) (s : ℕ) → keeps p core s effect ≡ keeps_wait core s t r
  pub free : takes_memory command ≡ false

-- what a claim tells of the command and its effect
abbrev pub Tells : PlansData → Command → Effect → Claim → Type 0
Tells p command effect (Image op) = MakesImage command effect op
Tells p command effect (Wait t r) = MakesWait p command effect t r
Tells p command effect Nothing = IsPlain effect

by_command : (p : PlansData) (areas : Areas) (words : List (ℕ × ℕ)) (state : State) (command : Command) → Tells p command (effect_of areas command words state) (claim_of p command)
unfolding effect_of asked
by_command p areas words state (CreateImage image width height) = record { asks = refl; free = refl }
by_command p areas words state (WaitToken stream low high) = record { deed = refl; draws = λ images. refl; keeps = λ core s. refl; free = refl }
by_command p areas words state (WaitSyncToken namespace id_low id_high low high) = record { deed = refl; draws = λ images. refl; keeps = λ core s. refl; free = refl }
by_command p areas words state (DeleteImage image) = λ none. none
by_command p areas words state (ClearRect image x y w h texel) = λ none. none
by_command p areas words state (CopyRect source sx sy target dx dy w h) = λ none. none
by_command p areas words state (UploadRect image x y w h format memory offset) = λ none. none
by_command p areas words state (UploadBucket image x y w h format bucket) = λ none. none
by_command p areas words state (UploadBuffer image x y w h format buffer offset) = λ none. none
by_command p areas words state _ = tt

pub tells : (p : PlansData) (areas : Areas) (words : List (ℕ × ℕ)) (state : State) (command : Command) (claim : Claim) → command ≡ command_in words → claim ≡ claim_of p command → Tells p command (effect areas words state) claim
tells p areas words state command claim said is =
    subst (Tells p command (effect areas words state)) (sym is)
    (subst (λ (e : Effect). Tells p command e (claim_of p command)) (sym (effect_is areas words state command (sym said))) (by_command p areas words state command))
