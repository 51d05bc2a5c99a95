-- Which of a client's actions pass, and how far a client can come.
use Rattle.std.specs.Prelude.{ℕ, suc, ◌+◌, Bool, true, false, ◌||◌, nat_le, max, List, [], ◌∷◌, take, if◌then◌else◌, Option, Some, None, slice_get}
use Rattle.std.specs.List.{list_any}
use Rattle.gpu_plan.specs.declared.plan.Action.{Action}
use Rattle.gpu_plan.specs.declared.plan.Action.TheVariants.{Put, Flush, Finish, Token, Close}

-- how many flushes an action is
abbrev pub flush_count : Action → ℕ
flush_count (Put place value) = 0
flush_count (Flush put fences) = 1
flush_count Finish = 0
flush_count (Token token) = 0
flush_count Close = 0

-- how many flushes stand among actions
abbrev pub flushes : List Action → ℕ
flushes [] = 0
flushes (action ∷ actions) = flush_count action + flushes actions

-- whether an action passes that stands after a given number of flushes, at this number of finished flushes and these
-- tokens:
-- - an await needs all flushes before it finished
-- - a Token await is content with a token that is as great
-- - a Close never passes
abbrev pub passes_behind : ℕ → ℕ → List ℕ → Action → Bool
passes_behind before finished tokens (Put place value) = true
passes_behind before finished tokens (Flush put fences) = true
passes_behind before finished tokens Finish = nat_le before finished
passes_behind before finished tokens (Token token) = nat_le before finished || list_any (nat_le token) tokens
passes_behind before finished tokens Close = false

-- the same of an action that need not be there: what is not there does not pass
abbrev pub passes_if_there : ℕ → ℕ → List ℕ → Option Action → Bool
passes_if_there before finished tokens None = false
passes_if_there before finished tokens (Some action) = passes_behind before finished tokens action

-- whether the action at a position passes at this number of finished flushes and these tokens
abbrev pub passes : List Action → ℕ → ℕ → List ℕ → Bool
passes actions position finished tokens = passes_if_there (flushes (take position actions)) finished tokens (slice_get actions position)

-- how many of the actions after a given number of flushes pass one after another
abbrev pub bound_behind : ℕ → ℕ → List ℕ → List Action → ℕ
bound_behind before finished tokens [] = 0
bound_behind before finished tokens (action ∷ actions) = if passes_behind before finished tokens action then suc (bound_behind (before + flush_count action) finished tokens actions) else 0

-- the bound of a client: the first position whose action does not pass, or the number of actions
abbrev pub bound : List Action → ℕ → List ℕ → ℕ
bound actions finished tokens = bound_behind 0 finished tokens actions

-- the greatest of a list of tokens, or 0
abbrev pub greatest : List ℕ → ℕ
greatest [] = 0
greatest (token ∷ tokens) = max token (greatest tokens)
