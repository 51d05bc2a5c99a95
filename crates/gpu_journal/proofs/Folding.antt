-- What a history says of a stream is a fold of its steps.
use Rattle.std.proofs.Common.{◌≡◌, ℕ, Bool, true, false, List, [], ◌∷◌, ◌++◌, get_or, refl, sym, ap, ◌∙◌, arith}
use Rattle.std.specs.Prelude.{◌==◌, if◌then◌else◌}
use Rattle.std.proofs.lemmas.Bool.Decides.{nat_tests}
use Rattle.gpu_word.specs.Results as results
use Rattle.gpu_word.proofs.Written.{last_of_both}
use Rattle.gpu_plan.specs.Plans.{PlansData, plan_of}
use Rattle.stream_state.specs.State.{State, noted, result_of}
use Rattle.stream_state.specs.Steps as steps
use Rattle.stream_state.specs.Steps.{stepped, writes}
use Rattle.stream_state.specs.Writes as writing
use Rattle.stream_state.proofs.Runs.{stream_of_none, stream_of_step, value_after}
use Rattle.stream_state.proofs.Telling.{effects_tell}
use Rattle.gpu_journal.specs.declared.event.Event.{Event}
use Rattle.gpu_journal.specs.declared.event.Event.TheVariants.{Order, Step, Finish, Lost, Close}
use Rattle.gpu_journal.specs.World.{Known, World, world, stream_in, asked_by, drawn_by, known, known_after, state_of}
use Rattle.gpu_journal.specs.Written.{written_by, written, result_at}
use Rattle.gpu_journal.specs.Folds.{with_step, steps_of, StateIsFold, StateKeepsResults}
use Rattle.gpu_journal.proofs.Worlds.{world_none, known_then}

-- ---- the state

state_then : (p : PlansData) (e : Event) (h : List Event) (s : ℕ) (b : Bool) → (stream_in e == s) ≡ b → state_of p h s ≡ steps.stream_of (plan_of p s).areas (steps_of p h s)
    → (if b then known_after p e (world p h) (known p h s) else known p h s).state ≡ steps.stream_of (plan_of p s).areas (if b then with_step p e (world p h) (steps_of p h s) else steps_of p h s)
state_then p e h s false other before = before
state_then p (Order t n c) h s true same before = before
state_then p (Step t words) h s true same before =
    let own : t ≡ s = grind (arith, nat_tests) in
    let answer = (drawn_by (asked_by p t words (world p h)) (world p h).images).answer in
    ap (λ (u : ℕ). noted answer (stepped (plan_of p u).areas words (state_of p h s))) own
    ∙ ap (λ (x : State). noted answer (stepped (plan_of p s).areas words x)) before
    ∙ sym (stream_of_step (plan_of p s).areas (record { words = words; answer = answer }) (steps_of p h s))
state_then p (Finish t n) h s true same before = before
state_then p (Lost t why words) h s true same before = before
state_then p (Close t) h s true same before = before

pub state_is_fold : StateIsFold
state_is_fold p [] s = ap (λ (w : World). (w.streams s).state) (world_none p) ∙ sym (stream_of_none (plan_of p s).areas)
state_is_fold p (e ∷ h) s = ap (λ (k : Known). k.state) (known_then p e h s) ∙ state_then p e h s (stream_in e == s) refl (state_is_fold p h s)

-- ---- the results

pub written_none : (p : PlansData) (s : ℕ) → written p [] s ≡ []
unfolding written
written_none p s = refl

pub written_then : (p : PlansData) (e : Event) (h : List Event) (s : ℕ) → written p (e ∷ h) s ≡ (if stream_in e == s then written p h s ++ written_by p h s e else written p h s)
unfolding written
written_then p e h s = refl

last_of_pairs : (i v : ℕ) (pairs : List (ℕ × ℕ)) → results.last_or i v (results.writes_listed pairs) ≡ writing.left_by_writes pairs i v
last_of_pairs i v [] = refl
last_of_pairs i v (pair ∷ pairs) = last_of_pairs i (if pair.0 == i then pair.1 else v) pairs

-- what one event writes, and what it leaves in the state
result_then : (p : PlansData) (e : Event) (h : List Event) (s place : ℕ) → stream_in e ≡ s
    → result_of (known_after p e (world p h) (known p h s)).state place ≡ results.last_or place (result_of (state_of p h s) place) (written_by p h s e)
result_then p (Order t n c) h s place own = refl
result_then p (Step t words) h s place own =
    let areas = (plan_of p s).areas in
    let told = effects_tell areas words (state_of p h s) in
    ap (λ (u : ℕ). result_of (stepped (plan_of p u).areas words (state_of p h s)) place) own
    ∙ ap (λ (xs : List ℕ). get_or xs place 0) told.results
    ∙ value_after (writes areas words (state_of p h s)) (state_of p h s).results place
    ∙ sym (last_of_pairs place (result_of (state_of p h s) place) (writes areas words (state_of p h s)))
result_then p (Finish t n) h s place own = refl
result_then p (Lost t why words) h s place own = refl
result_then p (Close t) h s place own = refl

next_result : (p : PlansData) (e : Event) (h : List Event) (s place : ℕ) (b : Bool) → (stream_in e == s) ≡ b → result_of (state_of p h s) place ≡ result_at p h s place
    → result_of (if b then known_after p e (world p h) (known p h s) else known p h s).state place ≡ results.last_or place 0 (if b then written p h s ++ written_by p h s e else written p h s)
next_result p e h s place false other before = before
next_result p e h s place true same before =
    let own : stream_in e ≡ s = grind (arith, nat_tests) in
    result_then p e h s place own ∙ ap (λ (v : ℕ). results.last_or place v (written_by p h s e)) before ∙ sym (last_of_both place 0 (written p h s) (written_by p h s e))

pub state_keeps_results : StateKeepsResults
state_keeps_results p [] s place = ap (λ (w : World). result_of (w.streams s).state place) (world_none p) ∙ sym (ap (λ (list : List results.Written). results.last_or place 0 list) (written_none p s))
state_keeps_results p (e ∷ h) s place =
    ap (λ (k : Known). result_of k.state place) (known_then p e h s)
    ∙ next_result p e h s place (stream_in e == s) refl (state_keeps_results p h s place)
    ∙ sym (ap (λ (list : List results.Written). results.last_or place 0 list) (written_then p e h s))
