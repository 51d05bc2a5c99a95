-- The line of `check`.
use Rattle.std.specs.Prelude.{ℕ, List, ◌++◌, length, codes, decimal}
use Rattle.gpu_plan.specs.Plans.{PlansData, actions_in, flushes_in}

-- a number after what it counts
abbrev pub number_counted : List ℕ → ℕ → List ℕ
number_counted what number = what ++ decimal number

-- how many streams, actions and flushes a script has
abbrev pub check_text : PlansData → List ℕ
check_text p =
    number_counted (codes "ok streams ") (length p.plans) ++ number_counted (codes " actions ") (actions_in p.plans)
    ++ number_counted (codes " flushes ") (flushes_in p.plans) ++ codes "\n"
