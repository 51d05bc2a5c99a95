-- What a client's call answers, and which words it loads.
use Rattle.std.specs.Prelude.{◌≡◌, ℕ, ◌+◌, Bool, true, false, nat_le, Option, Some, None, List, [], ◌∷◌, ◌++◌, if◌then◌else◌, IsTrue}
use Rattle.std.specs.Option.{IsSomeAnd}
use Rattle.gpu_plan.specs.declared.plan.Action.{Action}
use Rattle.gpu_plan.specs.declared.plan.Action.TheVariants.{Put, Flush, Finish, Token, Close}
use Rattle.gpu_plan.specs.Plans.{is_flush}
use Rattle.gpu_plan.specs.Passes.{passes_if_there}
use Rattle.shm_words.specs.Seen.{ClientData, next_action, flushes_before}
use Rattle.shm_words.specs.declared.client.Acted.{Acted}
use Rattle.shm_words.specs.declared.client.Acted.TheVariants.{Stored, Passed, NotYet, AtFlush, AtClose, End}

-- the words that the next action loads, where the finish word and the token word hold these values: a Finish loads the
-- finish word, a Token loads the token word, and then the finish word where the first is not enough
abbrev pub loads_for : ℕ → ℕ → Option Action → List (ℕ × ℕ)
loads_for finished greatest None = []
loads_for finished greatest (Some (Put place value)) = []
loads_for finished greatest (Some (Flush put fences)) = []
loads_for finished greatest (Some Finish) = (1, finished) ∷ []
loads_for finished greatest (Some (Token token)) = (2, greatest) ∷ (if nat_le token greatest then [] else (1, finished) ∷ [])
loads_for finished greatest (Some Close) = []

-- the answer for the next action, where it passes or not
abbrev pub answer_for : Bool → Option Action → Acted
answer_for passes None = End
answer_for passes (Some (Put place value)) = Stored
answer_for passes (Some (Flush put fences)) = AtFlush
answer_for passes (Some Finish) = if passes then Passed else NotYet
answer_for passes (Some (Token token)) = if passes then Passed else NotYet
answer_for passes (Some Close) = AtClose

-- how many actions an answer counts
abbrev pub counts : Acted → ℕ
counts Stored = 1
counts Passed = 1
counts NotYet = 0
counts AtFlush = 0
counts AtClose = 0
counts End = 0

-- a client acted: the words that it loaded held some values, by which its next action passes or not, and nothing else of it
-- has changed but the actions that the answer counts
pub record Acts (old new : ClientData) (answer : Acted) : Type 0 where
  pub finished : ℕ
  pub greatest : ℕ
  pub answers : answer ≡ answer_for (passes_if_there (flushes_before old) finished (greatest ∷ []) (next_action old)) (next_action old)
  pub becomes : new ≡ record old { done = old.done + counts answer; loads = old.loads ++ loads_for finished greatest (next_action old) }

-- a word was loaded, and one action more is done where it lets the next one pass
abbrev pub with_load : Bool → ℕ → ℕ → ClientData → ClientData
with_load passes word value client = record client { done = client.done + (if passes then 1 else 0); loads = client.loads ++ (word, value) ∷ [] }

-- whether an action is an await
abbrev pub is_await : Action → Bool
is_await (Put place value) = false
is_await (Flush put fences) = false
is_await Finish = true
is_await (Token token) = true
is_await Close = false

-- whether the next action awaits a token
abbrev pub awaits_token : Option Action → Bool
awaits_token (Some (Token token)) = true
awaits_token _ = false

-- the client stands at a flush
abbrev pub IsAtFlush : ClientData → Type 0
IsAtFlush client = IsSomeAnd (next_action client) (λ action. IsTrue (is_flush action))

-- the client stands at an await
abbrev pub IsAtAwait : ClientData → Type 0
IsAtAwait client = (action : Action) × (next_action client ≡ Some action) × (is_await action ≡ true)
