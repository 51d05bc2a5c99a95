-- What a command may need memory for, and what its step asks.
use Rattle.std.specs.Prelude.{Bool, ◌||◌, is_some}
use Rattle.std.specs.Option.{option_map_or}
use Rattle.gpu_cmd.specs.declared.command.Command.{Command}
use Rattle.gpu_store.specs.Images.{IsCreate}
use Rattle.gpu_plan.specs.Plans.{PlansData, number_of}
use Rattle.stream_state.specs.declared.effect.Effect.{Effect}
use Rattle.stream_state.specs.declared.effect.Effect.TheVariants as effects
use Rattle.stream_state.specs.Steps.{work}
use Rattle.stream_state.specs.Accepted.{takes_memory}
use Rattle.step_parts.specs.declared.claim.Claim.{Claim}
use Rattle.step_parts.specs.declared.claim.Claim.TheVariants.{Nothing, Image, Wait}

-- what a wait asks of the waits
abbrev pub wait_claim : PlansData → Effect → Claim
wait_claim p (effects.Wait stream release) = Wait stream release
wait_claim p (effects.WaitName name release) = Wait (number_of p.plans name) release
wait_claim p _ = Nothing

-- what a command asks of the images and of the waits that may need memory there: to make an image, or to judge a wait
abbrev pub claim_of : PlansData → Command → Claim
claim_of p command = option_map_or Image (work command).made (option_map_or (wait_claim p) (work command).wait Nothing)

-- a step of the command may need memory: for the state of its stream, for an image that it makes, or for a wait
abbrev pub wants_memory : Command → Bool
wants_memory command = takes_memory command || (is_some (work command).made || is_some (work command).wait)

-- an effect makes no image and no wait, so it wants no memory
abbrev pub IsPlain : Effect → Type 0
IsPlain (effects.Pixels op) = IsCreate op → ⊥
IsPlain (effects.Wait stream release) = ⊥
IsPlain (effects.WaitName name release) = ⊥
IsPlain _ = Unit {0}
