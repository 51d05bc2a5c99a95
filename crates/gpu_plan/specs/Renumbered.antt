-- Fences with the numbers of streams in place of the numbers of mentioned names.
use Rattle.std.specs.Prelude.{ℕ, ◌==◌, List, ◌∷◌, map, if◌then◌else◌, slice_index}
use Rattle.gpu_cmd.specs.declared.name.Name.{Name}
use Rattle.gpu_plan.specs.declared.plan.Action.{Action}
use Rattle.gpu_plan.specs.declared.plan.Action.TheVariants.{Put, Flush, Finish, Token, Close}
use Rattle.gpu_plan.specs.Plans.{PlanData, number_of}

-- the numbers of the streams that have mentioned names; names count from 1, so 0 stands before them
abbrev pub numbers_of : List PlanData → List Name → List ℕ
numbers_of plans mentioned = 0 ∷ map (number_of plans) mentioned

-- a fence with the number that stands at the place of its own, or 0 where none stands there
abbrev pub renumbered_fence : List ℕ → ℕ × ℕ → ℕ × ℕ
renumbered_fence numbers fence = (slice_index numbers fence.0, fence.1)

-- what is noted of a flush, with its fences renumbered
abbrev pub renumbered_note : List ℕ → ℕ × List (ℕ × ℕ) → ℕ × List (ℕ × ℕ)
renumbered_note numbers flush = (flush.0, map (renumbered_fence numbers) flush.1)

-- an action whose fences, where it has some, are renumbered
abbrev pub renumbered_action : List ℕ → Action → Action
renumbered_action numbers (Put place value) = Put place value
renumbered_action numbers (Flush put fences) = Flush put (map (renumbered_fence numbers) fences)
renumbered_action numbers Finish = Finish
renumbered_action numbers (Token token) = Token token
renumbered_action numbers Close = Close

-- a plan whose fences are renumbered
abbrev pub renumbered_plan : List ℕ → PlanData → PlanData
renumbered_plan numbers plan = record plan { actions = map (renumbered_action numbers) plan.actions }

-- plans whose fences have the numbers of mentioned names in version 2, and those of streams in version 1
abbrev pub renumbered : ℕ → List Name → List PlanData → List PlanData
renumbered version mentioned plans = if version == 2 then map (renumbered_plan (numbers_of plans mentioned)) plans else plans
