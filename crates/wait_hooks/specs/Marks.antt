-- The mark of an ending, and what the hooks keep.
use Rattle.std.specs.Prelude.{ℕ, ◌+◌, ◌*◌, ◌%◌, ◌^◌, List, [], ◌∷◌, ◌++◌, Option}
use Rattle.std.specs.Option.{option_map}
use Rattle.sync_core.specs.declared.ending.Ending.{Ending}
use Rattle.sync_core.specs.declared.ending.How.{How}
use Rattle.sync_core.specs.declared.ending.How.TheVariants.{Release, Guard, Closed}

-- the part of a mark that tells how the wait ended
abbrev pub kind_of : How → ℕ
kind_of Release = 0
kind_of Guard = 1
kind_of Closed = 2

-- the mark of an ending
abbrev pub mark : ℕ → Ending → ℕ
mark base e = (base + 4 * e.order + kind_of e.how) % 2 ^ 32

-- one ending more was reported, where it is known which
abbrev pub told_one_more : Option (List Ending) → Ending → Option (List Ending)
told_one_more told ending = option_map (λ endings. endings ++ ending ∷ []) told

-- what is seen of hooks: the base of their marks, the marks so far, for how many more there is room, and the endings
-- that the callback got, where it tells them
pub record Marks : Type 0 where
  pub base : ℕ
  pub marks : List ℕ
  pub spare : ℕ
  pub told : Option (List Ending)
