-- Texts that are appended in room that is there.
use Rattle.std.specs.Prelude.{◌≡◌, ℕ, ◌+◌, ◌≤◌, List, ◌++◌, Vec, vec_len, vec_capacity}
use Rattle.std.specs.declared.alloc.Global.{Global}

-- a text stands after all that was there: it has at most a given number of bytes, and no room was lost
pub record AppendsWithin (old new : Vec ℕ Global) (text : List ℕ) (most : ℕ) : Type 0 where
  pub items : new.items ≡ old.items ++ text
  pub few : vec_len new ≤ vec_len old + most
  pub room : vec_capacity old ≤ vec_capacity new
