-- Words of a line that are put as values.
use Rattle.std.specs.Prelude.{ℕ, ◌+◌, Bool, ◌&&◌, nat_le, List, ◌++◌, length, map}
use Rattle.std.specs.List.{list_all}
use Rattle.script_lines.specs.Numbers.{is_value, value_of}
use Rattle.gpu_plan.specs.declared.plan.Action.{Action}
use Rattle.gpu_plan.specs.Plans.{PlanData}
use Rattle.gpu_plan.specs.Adding.{puts}

-- the words are values, and puts of them from one place on stay below another
abbrev pub can_put : ℕ → ℕ → List (List ℕ) → Bool
can_put place end words = list_all is_value words && nat_le (place + length words) end

-- puts of what words say as values
abbrev pub word_puts : ℕ → List (List ℕ) → List Action
word_puts place words = puts place (map value_of words)

-- a plan with such puts
abbrev pub with_word_puts : ℕ → List (List ℕ) → PlanData → PlanData
with_word_puts place words plan =
    record plan { actions = plan.actions ++ puts place (map value_of words) }
