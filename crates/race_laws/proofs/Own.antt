-- What the works of a stream say of it, whatever other streams do.
use Rattle.std.proofs.Common.{◌≡◌, ℕ, ◌+◌, eqb, Bool, true, false, cond, List, [], ◌∷◌, refl, sym, ap, ◌∙◌}
use Rattle.std.proofs.lemmas.Bool.{eqb-true}
use Rattle.gpu_cmd.specs.declared.areas.Areas.{Areas}
use Rattle.gpu_plan.specs.Plans.{PlansData, plan_of}
use Rattle.stream_state.specs.State.{State, first_state}
use Rattle.stream_state.specs.Steps.{stepped, effect}
use Rattle.gpu_journal.specs.declared.event.Event.{Event}
use Rattle.gpu_journal.specs.declared.event.Event.TheVariants.{Order, Step, Finish, Lost, Close}
use Rattle.gpu_journal.specs.declared.event.Why.TheVariants.{Error, Memory}
use Rattle.gpu_journal.specs.World.{Known, World, world, stream_in, tokens_after, known, known_after}
use Rattle.gpu_journal.proofs.Worlds.{world_none, known_then}
use Rattle.race_laws.specs.Works.{Work, Executed, Finished, Refused, work_of, with_work, works, finishes, own_events, bare}
use Rattle.race_laws.specs.Laws.{StatesAreOwn}
use Rattle.race_laws.proofs.Answers.{effect_bare, stepped_bare}

-- the state but for its counts of errors, the tokens, and the number of finished flushes
pub record Own : Type 0 where
  pub state : State
  pub tokens : List ℕ
  pub finished : ℕ

abbrev pub own_first : Own
own_first = record { state = first_state; tokens = 0 ∷ []; finished = 0 }

-- after one more work
abbrev pub own_then : Areas → Work → Own → Own
own_then areas (Executed words) own = record { state = stepped areas words own.state; tokens = tokens_after (effect areas words own.state) own.tokens; finished = own.finished }
own_then areas Finished own = record own { finished = own.finished + 1 }
own_then areas (Refused error words) own = own

abbrev pub own_of : Areas → List Work → Own
own_of areas [] = own_first
own_of areas (work ∷ before) = own_then areas work (own_of areas before)

-- of what a history says of a stream
abbrev pub own_known : Known → Own
own_known k = record { state = bare k.state; tokens = k.tokens; finished = k.finished }

own_event : (p : PlansData) (e : Event) (h : List Event) (s : ℕ) → stream_in e ≡ s → own_known (known p h s) ≡ own_of (plan_of p s).areas (works h s)
    → own_known (known_after p e (world p h) (known p h s)) ≡ own_of (plan_of p s).areas (with_work (work_of e) (works h s))
own_event p (Order t n c) h s same before = before
own_event p (Step t words) h s same before =
    let areas = (plan_of p s).areas in
    let k = known p h s in
    let here : own_known (known_after p (Step t words) (world p h) k) ≡ own_known (known_after p (Step s words) (world p h) k) = ap (λ (u : ℕ). own_known (known_after p (Step u words) (world p h) k)) same in
    let state = stepped_bare areas words k.state in
    let asked = effect_bare areas words k.state in
    let own : own_known (known_after p (Step s words) (world p h) k) ≡ own_then areas (Executed words) (own_known k) = λ i. record { state = state i; tokens = tokens_after (sym asked i) k.tokens; finished = k.finished } in
    here ∙ own ∙ ap (own_then areas (Executed words)) before
own_event p (Finish t n) h s same before = ap (own_then (plan_of p s).areas Finished) before
own_event p (Lost t (Error error) words) h s same before = before
own_event p (Lost t Memory words) h s same before = before
own_event p (Close t) h s same before = before

-- the works alone say it
pub own_is : (p : PlansData) (h : List Event) (s : ℕ) → own_known (known p h s) ≡ own_of (plan_of p s).areas (works h s)
own_is p [] s = ap (λ (w : World). own_known (w.streams s)) (world_none p)
own_is p (e ∷ h) s = ap own_known (known_then p e h s) ∙ by (eqb (stream_in e) s) refl (own_is p h s)
  where
    by : (b : Bool) → eqb (stream_in e) s ≡ b → own_known (known p h s) ≡ own_of (plan_of p s).areas (works h s)
        → own_known (cond b (known_after p e (world p h) (known p h s)) (known p h s)) ≡ own_of (plan_of p s).areas (cond b (with_work (work_of e) (works h s)) (works h s))
    by true q before = own_event p e h s (eqb-true (stream_in e) s q) before
    by false q before = before

-- so does it where two histories have the same works
pub own_same : (p : PlansData) (h g : List Event) (s : ℕ) → works h s ≡ works g s → own_known (known p h s) ≡ own_known (known p g s)
own_same p h g s same = own_is p h s ∙ ap (own_of (plan_of p s).areas) same ∙ sym (own_is p g s)

works_own : (h : List Event) (s : ℕ) → works (own_events h s) s ≡ works h s
works_own [] s = refl
works_own (e ∷ h) s = by (eqb (stream_in e) s) refl (works_own h s)
  where
    by : (b : Bool) → eqb (stream_in e) s ≡ b → works (own_events h s) s ≡ works h s → works (cond b (e ∷ own_events h s) (own_events h s)) s ≡ cond b (with_work (work_of e) (works h s)) (works h s)
    by true q before = ap (λ (c : Bool). cond c (with_work (work_of e) (works (own_events h s) s)) (works (own_events h s) s)) q ∙ ap (with_work (work_of e)) before
    by false q before = before

pub states_are_own : StatesAreOwn
states_are_own p h s = ap (λ (o : Own). o.state) (own_same p h (own_events h s) s (sym (works_own h s)))

finishes_of : (areas : Areas) (ws : List Work) → (own_of areas ws).finished ≡ finishes ws
finishes_of areas [] = refl
finishes_of areas (Executed words ∷ ws) = finishes_of areas ws
finishes_of areas (Finished ∷ ws) = ap (λ n. n + 1) (finishes_of areas ws)
finishes_of areas (Refused error words ∷ ws) = finishes_of areas ws

-- the finished flushes are the finishes among the works
pub finished_is : (p : PlansData) (h : List Event) (s : ℕ) → (known p h s).finished ≡ finishes (works h s)
finished_is p h s = ap (λ (o : Own). o.finished) (own_is p h s) ∙ finishes_of (plan_of p s).areas (works h s)
