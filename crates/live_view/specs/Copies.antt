-- What a contract reads of the two copies of a value.
use Rattle.std.specs.Prelude.{List, drop}
use Rattle.left_right.specs.declared.Absorb.{Ghosts}
use Rattle.left_right.specs.declared.writer.Writer.{Writer}

module _ {T O V P A S : Type 0} {g : Ghosts T O S} where
  -- the value that viewers read
  abbrev pub published : Writer T O V P A S g → T
  published copies = copies.desk.shown.value

  -- the steps that viewers do not see yet
  abbrev pub steps_pending : Writer T O V P A S g → List O
  steps_pending copies = drop copies.behind copies.log.items
