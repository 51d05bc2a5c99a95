-- What the steps that lead to a further version do.
use Rattle.std.specs.Prelude.{List, [], ◌∷◌}
use Rattle.gpu_store.specs.Images.{apply}
use Rattle.gpu_store.specs.declared.op.Op.{Op}
use Rattle.gpu_store.specs.declared.op.Op.TheVariants.{Delete}
use Rattle.live_view.specs.declared.step.Mark.{Mark}
use Rattle.live_view.specs.declared.step.Step.{Step}
use Rattle.live_view.specs.declared.step.Step.TheVariants.{Draw, End}
use Rattle.live_view.specs.declared.shown.Shown.{Shown}
use Rattle.live_view.specs.Versions.{version, images_drawn}

-- the value after one step
abbrev pub shown_after : Shown → Step → Shown
shown_after shown (Draw op) = record shown { version = version (apply shown.version.images op).images shown.version.events }
shown_after shown (End mark) = record { version = version shown.version.images mark.events; front = mark.front }

-- the operation of a step; the end of a version has none, and stands for any
abbrev pub op_in : Step → Op
op_in (Draw op) = op
op_in (End mark) = Delete 0

-- the operations among some steps, in order
abbrev pub ops_of : List Step → List Op
ops_of [] = []
ops_of (Draw op ∷ steps) = op ∷ ops_of steps
ops_of (End mark ∷ steps) = ops_of steps

-- the value after some steps with an end after them
abbrev pub ended_with : Shown → List Step → Mark → Shown
ended_with shown steps mark = record { version = version (images_drawn shown.version.images (ops_of steps)) mark.events; front = mark.front }
