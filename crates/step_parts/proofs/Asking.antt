-- What a step of a stream's own state answers: its step tells what it writes, and counts no error.
use Rattle.std.proofs.Common.{◌≡◌, ◌-◌, ◌<◌, ◌≤◌, Some, List, [], ◌∷◌, get_or, ℕ, refl, sym, ap, subst, ◌∙◌}
use Rattle.std.specs.Prelude.{slice_get}
use Rattle.std.specs.List.{All}
use Rattle.gpu_cmd.specs.declared.areas.Areas.{Areas}
use Rattle.gpu_cmd.specs.Lawful.{IsLawfulAreas}
use Rattle.gpu_cmd.specs.Spans.{words_in}
use Rattle.stream_state.specs.declared.effect.Effect.{Effect}
use Rattle.stream_state.specs.State.{State}
use Rattle.stream_state.specs.Steps.{header_in, effect, stepped, writes}
use Rattle.stream_state.specs.Accepted.{BringsItsTexels}
use Rattle.stream_state.specs.Told.{writes_told}
use Rattle.stream_state.specs.Writes.{Writes}
use Rattle.stream_state.proofs.Telling.{effects_tell}
use Rattle.stream_state.proofs.Places.{writes_are_there}
use Rattle.stream_state.proofs.Runs.{stepped_errors}
use Rattle.gpu_plan.specs.Plans.{PlanData}
use Rattle.gpu_journal.specs.Replaying.{total_errors}
use Rattle.gpu_journal.proofs.Worlds.{few_errors}
use Rattle.step_parts.specs.declared.taken.Taken.{Taken}
use Rattle.step_parts.specs.Executing.{areas_of, asks, HasPassed}
use Rattle.step_parts.proofs.Plans.{areas_here}

-- what the step of a stream's own state answers, and the state that it leaves
pub record Asks (taken : Taken) (before after : State) (asked : Effect) : Type 0 where
  pub effect : asked ≡ asks taken before
  pub writes : writes_told asked ≡ writes (areas_of taken) taken.words.now before
  pub places : All (λ write. write.0 < words_in (areas_of taken).results) (writes_told asked)
  pub texels : BringsItsTexels asked
  pub state : after ≡ stepped (areas_of taken) taken.words.now before
  pub few : total_errors after.errors ≤ 1048576

-- the header is the value of the first word
pub first_value : (words : List (ℕ × ℕ)) → (get_or words 0 (0, 0)).1 ≡ header_in words
first_value [] = refl
first_value (word ∷ words) = refl

pub asked : (taken : Taken) (plan : PlanData) (areas : Areas) (state left : State) (given : Effect) → HasPassed taken state → slice_get taken.plans.now.plans (taken.stream - 1) ≡ Some plan → areas ≡ plan.areas → IsLawfulAreas areas → given ≡ effect areas taken.words.now state
    → BringsItsTexels given → left ≡ stepped areas taken.words.now state → Asks taken state left given
asked taken plan areas state left given passed at here lawful is texels after =
    let same = areas_here taken.plans.now taken.stream plan areas passed.known at here in
    let own = areas_of taken in
    let words = taken.words.now in
    let effect_is : given ≡ effect own words state = is ∙ ap (λ (a : Areas). effect a words state) same in
    let told : writes_told given ≡ writes own words state = ap writes_told effect_is ∙ sym (effects_tell own words state).places in
    let there = writes_are_there own words state (subst IsLawfulAreas same lawful) passed.within.bounded passed.accepted in
    let errors = ap (λ (s : State). s.errors) after ∙ stepped_errors areas words state in
    record {
      effect = effect_is;
      writes = told;
      places = subst (λ (ws : Writes). All (λ write. write.0 < words_in own.results) ws) (sym told) there;
      texels = texels;
      state = after ∙ ap (λ (a : Areas). stepped a words state) same;
      few = few_errors state left passed.within errors;
    }
