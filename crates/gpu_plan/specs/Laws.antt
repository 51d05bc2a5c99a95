-- Laws of scripts and of what clients do.
use Rattle.std.specs.Prelude.{◌≡◌, ℕ, ◌+◌, ◌<◌, ◌≤◌, ◌^◌, true, false, List, [], ◌∷◌, length, take, Some, nat_le, slice_get, IfOk}
use Rattle.std.specs.List.{All, list_any}
use Rattle.gpu_plan.specs.declared.plan.Action.{Action}
use Rattle.gpu_plan.specs.declared.plan.Action.TheVariants.{Flush}
use Rattle.gpu_plan.specs.Plans.{IsWithin}
use Rattle.gpu_plan.specs.Named.{names_in, AreLawfulNames}
use Rattle.gpu_plan.specs.Script.{script_of}
use Rattle.gpu_plan.specs.Values.{after, value_at}
use Rattle.gpu_plan.specs.Passes.{flush_count, flushes, passes, bound, greatest}
use Rattle.gpu_plan.specs.MayHold.{MayHold}

-- no two streams of a script have the same name, and in version 1 stream S has the name (0, S)
abbrev pub NamesAreLawful : Type 0
NamesAreLawful = (text : List ℕ) → IfOk (script_of text) (λ script. AreLawfulNames script.version (names_in script.plans))

-- one action further, a place has what that action makes of its value
abbrev pub ValueOneFurther : Type 0
ValueOneFurther = (actions : List Action) (k place : ℕ) (action : Action) → slice_get actions k ≡ Some action → value_at actions (k + 1) place ≡ after place (value_at actions k place) action

-- one action further, that action's flush is counted too
abbrev pub FlushesOneFurther : Type 0
FlushesOneFurther = (actions : List Action) (k : ℕ) (action : Action) → slice_get actions k ≡ Some action → flushes (take (k + 1) actions) ≡ flushes (take k actions) + flush_count action

-- a position up to the bound whose action passes lies below the bound
abbrev pub BoundOneFurther : Type 0
BoundOneFurther = (actions : List Action) (k finished : ℕ) (tokens : List ℕ) → k ≤ bound actions finished tokens → passes actions k finished tokens ≡ true → k + 1 ≤ bound actions finished tokens

-- the first tokens satisfy no await that the second do not
abbrev pub ReachNoFurther : List ℕ → List ℕ → Type 0
ReachNoFurther tokens more = (token : ℕ) → list_any (nat_le token) tokens ≡ true → list_any (nat_le token) more ≡ true

-- an action that passes goes on passing where more flushes are finished, and where tokens reach as far and further
abbrev pub PassesOn : Type 0
PassesOn = (actions : List Action) (k finished finished' : ℕ) (tokens tokens' : List ℕ) → finished ≤ finished' → ReachNoFurther tokens tokens' → passes actions k finished tokens ≡ true → passes actions k finished' tokens' ≡ true

-- and where the greatest token grows
abbrev pub PassesOnByGreatest : Type 0
PassesOnByGreatest = (actions : List Action) (k finished finished' token token' : ℕ) → finished ≤ finished' → token ≤ token' → passes actions k finished (token ∷ []) ≡ true → passes actions k finished' (token' ∷ []) ≡ true

-- the bound never falls: not where more flushes are finished, nor where tokens reach as far and further
abbrev pub BoundGrows : Type 0
BoundGrows = (actions : List Action) (finished finished' : ℕ) (tokens tokens' : List ℕ) → finished ≤ finished' → ReachNoFurther tokens tokens' → bound actions finished tokens ≤ bound actions finished' tokens'

-- nor where a token is added to the others
abbrev pub BoundGrowsByToken : Type 0
BoundGrowsByToken = (actions : List Action) (finished token : ℕ) (tokens : List ℕ) → bound actions finished tokens ≤ bound actions finished (token ∷ tokens)

-- nor where the greatest token grows
abbrev pub BoundGrowsByGreatest : Type 0
BoundGrowsByGreatest = (actions : List Action) (finished finished' token token' : ℕ) → finished ≤ finished' → token ≤ token' → bound actions finished (token ∷ []) ≤ bound actions finished' (token' ∷ [])

-- of a list of tokens only the greatest counts
abbrev pub BoundByGreatest : Type 0
BoundByGreatest = (actions : List Action) (finished token : ℕ) (tokens : List ℕ) → bound actions finished (token ∷ tokens) ≡ bound actions finished (greatest (token ∷ tokens) ∷ [])

-- each action below the bound passes
abbrev pub PassesBelowBound : Type 0
PassesBelowBound = (actions : List Action) (k finished : ℕ) (tokens : List ℕ) → k < bound actions finished tokens → passes actions k finished tokens ≡ true

-- the action at the bound does not
abbrev pub StopsAtBound : Type 0
StopsAtBound = (actions : List Action) (finished : ℕ) (tokens : List ℕ) → passes actions (bound actions finished tokens) finished tokens ≡ false

-- there are no fewer actions than the bound
abbrev pub BoundWithin : Type 0
BoundWithin = (actions : List Action) (finished : ℕ) (tokens : List ℕ) → bound actions finished tokens ≤ length actions

-- no other position is the first whose action does not pass
abbrev pub BoundIsFirst : Type 0
BoundIsFirst = (actions : List Action) (b finished : ℕ) (tokens : List ℕ) → ((k : ℕ) → k < b → passes actions k finished tokens ≡ true) → passes actions b finished tokens ≡ false → bound actions finished tokens ≡ b

-- what a client may have put it may have put between ends that are further apart
abbrev pub MayHoldBetween : Type 0
MayHoldBetween = (actions : List Action) (least least' most most' place value : ℕ) → least' ≤ least → most ≤ most' → MayHold actions least most place value → MayHold actions least' most' place value

-- a value since a flush is a value since the action after the flush, as a flush puts none
abbrev pub MayHoldBehindFlush : Type 0
MayHoldBehindFlush = (actions : List Action) (c put most place value : ℕ) (fences : List (ℕ × ℕ)) → slice_get actions c ≡ Some (Flush put fences) → c < most → MayHold actions c most place value → MayHold actions (c + 1) most place value

-- what a client may have put has 32 bits
abbrev pub MayHoldFits : Type 0
MayHoldFits = (actions : List Action) (places least most place value : ℕ) → All (IsWithin places) actions → MayHold actions least most place value → value < 2 ^ 32

-- there are no more flushes than actions before a position
abbrev pub FlushesWithin : Type 0
FlushesWithin = (actions : List Action) (k : ℕ) → flushes (take k actions) ≤ k
