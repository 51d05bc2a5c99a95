-- What the effect of a step tells of the state that it leaves.
use Rattle.std.specs.Prelude.{◌≡◌, ℕ, ◌≤◌, max, List, []}
use Rattle.gpu_cmd.specs.declared.areas.Areas.{Areas}
use Rattle.stream_state.specs.declared.effect.Effect.{Effect}
use Rattle.stream_state.specs.declared.effect.Effect.TheVariants.{Token, Release, Results}
use Rattle.stream_state.specs.Writes.{Writes, after_writes}
use Rattle.stream_state.specs.State.{State}
use Rattle.stream_state.specs.Steps.{effect, writes, stepped}

-- the token that an effect leaves: the one that it tells, also where it is lower
abbrev pub token_told : Effect → ℕ → ℕ
token_told (Token token) before = token
token_told _ before = before

-- the release count that an effect leaves: the greater of the one before and the release that it tells
abbrev pub release_told : Effect → ℕ → ℕ
release_told (Release release) before = max before release
release_told _ before = before

-- the places and values that an effect tells
abbrev pub writes_told : Effect → Writes
writes_told (Results writes) = writes
writes_told _ = []

-- the effect of a step tells what the step does to the token, the release count and the result places
pub record IsTold (areas : Areas) (words : List (ℕ × ℕ)) (state : State) : Type 0 where
  pub token : (stepped areas words state).token ≡ token_told (effect areas words state) state.token
  pub release : (stepped areas words state).release ≡ release_told (effect areas words state) state.release
  pub places : writes areas words state ≡ writes_told (effect areas words state)
  pub results : (stepped areas words state).results ≡ after_writes (writes areas words state) state.results

-- the effect of each step does so
abbrev pub EffectsTell : Type 0
EffectsTell = (areas : Areas) (words : List (ℕ × ℕ)) (state : State) → IsTold areas words state

-- the release count never falls
abbrev pub ReleasesRise : Type 0
ReleasesRise = (areas : Areas) (words : List (ℕ × ℕ)) (state : State) → state.release ≤ (stepped areas words state).release
