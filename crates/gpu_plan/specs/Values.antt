-- What the words of a stream hold after some of its actions.
use Rattle.std.specs.Prelude.{ℕ, ◌==◌, List, [], ◌∷◌, take, if◌then◌else◌}
use Rattle.gpu_plan.specs.declared.plan.Action.{Action}
use Rattle.gpu_plan.specs.declared.plan.Action.TheVariants.{Put, Flush, Finish, Token, Close}

-- what an action makes of the value at a place
abbrev pub after : ℕ → ℕ → Action → ℕ
after i v (Put place value) = if place == i then value else v
after i v (Flush put fences) = v
after i v Finish = v
after i v (Token token) = v
after i v Close = v

-- the value of the last put to a place, or v where there is none
abbrev pub last_put : ℕ → ℕ → List Action → ℕ
last_put i v [] = v
last_put i v (action ∷ actions) = last_put i (after i v action) actions

-- the value of a place after the first k actions
abbrev pub value_at : List Action → ℕ → ℕ → ℕ
value_at actions k i = last_put i 0 (take k actions)
