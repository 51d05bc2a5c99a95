-- Texts that are appended in room that is there.
use Rattle.std.specs.Prelude.{◌≡◌, ℕ, ◌≤◌, List, ◌++◌, Vec, vec_capacity}
use Rattle.std.specs.declared.alloc.Global.{Global}

-- a text stands after all that was there, and no room was lost
pub record Appended (old new : Vec ℕ Global) (text : List ℕ) : Type 0 where
  pub items : new.items ≡ old.items ++ text
  pub room : vec_capacity old ≤ vec_capacity new
