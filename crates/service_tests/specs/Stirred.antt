-- Words that a client goes on storing into while they are fetched, as contracts see them.
use Rattle.std.specs.Prelude.{ℕ, suc, ◌+◌, min, List, [], ◌∷◌, length, drop, slice_index}
use Rattle.gpu_plan.specs.declared.plan.Action.{Action}
use Rattle.gpu_plan.specs.declared.plan.Action.TheVariants.{Put, Flush, Finish, Token, Close}
use Rattle.gpu_fetch.specs.Side.{SideData}
use Rattle.gpu_fetch.specs.Plain.{PlainData, IsNext, IsFlush}

-- the side, the words that it stirs, and how many puts it does before each fetch
pub record StirredData : Type 0 where
  pub side : SideData
  pub words : PlainData
  pub turns : List ℕ

-- how many puts stand at the head of actions
abbrev pub puts_ahead : List Action → ℕ
puts_ahead [] = 0
puts_ahead (Put place value ∷ actions) = suc (puts_ahead actions)
puts_ahead (Flush put fences ∷ actions) = 0
puts_ahead (Finish ∷ actions) = 0
puts_ahead (Token token ∷ actions) = 0
puts_ahead (Close ∷ actions) = 0

-- puts alone stand before the first flush, and there is a flush
abbrev pub ComesToFlush : List Action → Type 0
ComesToFlush actions = IsNext IsFlush actions (puts_ahead actions)

-- the words with a given number of further puts done
abbrev pub puts_further : PlainData → ℕ → PlainData
puts_further words count = record words { done = words.done + count }

-- how many puts come before the next fetch: as the turn says, at most those that are left, and none for a missing turn
abbrev pub next_turn : StirredData → ℕ
next_turn s = min (slice_index s.turns (length s.side.fetched)) (puts_ahead (drop s.words.done s.words.plan.actions))

-- the words that the next fetch finds
abbrev pub stirred_words : StirredData → PlainData
stirred_words s = puts_further s.words (next_turn s)
