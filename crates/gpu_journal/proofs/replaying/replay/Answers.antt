use Rattle.std.proofs.Common.{◌≡◌, ℕ, ◌+◌, List, ◌∷◌, take, reverse, replicate, refl, sym, ap, subst, ◌∙◌, arith}
use Rattle.std.proofs.lemmas.List.{length-reverse}
use Rattle.stream_state.specs.Laws.{IsTaken}
use Rattle.stream_state.specs.State.{first_state, noted}
use Rattle.stream_state.specs.Steps.{stepped, effect}
use Rattle.gpu_journal.specs.World.{drawn_by, replay}
use Rattle.gpu_journal.specs.declared.event.Event.{Event}
use Rattle.gpu_journal.specs.declared.event.Event.TheVariants.{Order, Step, Finish, Lost, Close}
use Rattle.gpu_journal.specs.Replaying.{Shows}
use Rattle.gpu_journal.proofs.Following.{past_more, past_first, shows_none, shows_other, IsStep, turn_of, found_here, left_here}
use Rattle.gpu_journal.proofs.replaying.replay.Goals as goal
use Rattle.gpu_journal.proofs.replaying.replay.Goals.{in-Step+in_ok-execute, in_default}

pub loop-index-init : goal.loop-index-init
loop-index-init c = shows_none c.args.plans.now c.make-images.result c.in_ok-states.states.items c.make-images.ensures (c.in_ok-states.ensures ∙ ap (λ (n : ℕ). replicate n first_state) c.count.ensures.count)

pub overflow_sub-stream : goal.overflow_sub-stream
overflow_sub-stream c =
    let turn = turn_of c.args.plans.now c.args.journal.now.events c.args.count c.loop-index.index c.in-Step.stream c.in-Step.words c.event.result c.loop-index-test.true c.requires.within c.event.ensures c.in-Step.is c.requires.legal in
    omega (arith, turn.known.0)

pub index_mut-state-requires : goal.index_mut-state-requires
index_mut-state-requires c =
    let turn = turn_of c.args.plans.now c.args.journal.now.events c.args.count c.loop-index.index c.in-Step.stream c.in-Step.words c.event.result c.loop-index-test.true c.requires.within c.event.ensures c.in-Step.is c.requires.legal in
    omega (arith, turn.known.0, turn.known.1, c.loop-index.invariant.count)

pub plan-requires-clause-first : goal.plan-requires-clause-first
plan-requires-clause-first c =
    let turn = turn_of c.args.plans.now c.args.journal.now.events c.args.count c.loop-index.index c.in-Step.stream c.in-Step.words c.event.result c.loop-index-test.true c.requires.within c.event.ensures c.in-Step.is c.requires.legal in
    omega (arith, turn.known.0)

pub plan-requires-clause-last : goal.plan-requires-clause-last
plan-requires-clause-last c =
    let turn = turn_of c.args.plans.now c.args.journal.now.events c.args.count c.loop-index.index c.in-Step.stream c.in-Step.words c.event.result c.loop-index-test.true c.requires.within c.event.ensures c.in-Step.is c.requires.legal in
    omega (arith, turn.known.1)

pub execute-requires-clause-taken : goal.execute-requires-clause-taken
execute-requires-clause-taken c =
    let turn = turn_of c.args.plans.now c.args.journal.now.events c.args.count c.loop-index.index c.in-Step.stream c.in-Step.words c.event.result c.loop-index-test.true c.requires.within c.event.ensures c.in-Step.is c.requires.legal in
    let found = found_here c.args.plans.now (reverse (take c.loop-index.index (reverse c.args.journal.now.events))) c.in-Step.stream c.in-Step.words c.loop-index.images c.loop-index.states.items c.index_mut-state.result.now c.plan.result.now c.areas-areas.result.now turn c.loop-index.invariant c.index_mut-state.ensures.value c.plan.ensures c.areas-areas.ensures.value c.areas-areas.ensures.lawful in
    subst (λ (words : List (ℕ × ℕ)). IsTaken c.areas-areas.result.now words c.index_mut-state.result.now) (sym c.as_slice.ensures) found.taken

pub execute-requires-clause-within : goal.execute-requires-clause-within
execute-requires-clause-within c =
    let turn = turn_of c.args.plans.now c.args.journal.now.events c.args.count c.loop-index.index c.in-Step.stream c.in-Step.words c.event.result c.loop-index-test.true c.requires.within c.event.ensures c.in-Step.is c.requires.legal in
    (found_here c.args.plans.now (reverse (take c.loop-index.index (reverse c.args.journal.now.events))) c.in-Step.stream c.in-Step.words c.loop-index.images c.loop-index.states.items c.index_mut-state.result.now c.plan.result.now c.areas-areas.result.now turn c.loop-index.invariant c.index_mut-state.ensures.value c.plan.ensures c.areas-areas.ensures.value c.areas-areas.ensures.lawful).within

pub returns : goal.returns
returns c =
    let h = c.args.journal.now.events in
    let whole : c.loop-index.index ≡ c.args.count = omega arith in
    c.loop-index.invariant.drawn ∙ ap (λ (n : ℕ). replay c.args.plans.now (reverse (take n (reverse h)))) whole ∙ ap (replay c.args.plans.now) (sym (past_first h c.args.count c.requires.within))

pub loop-index-preserved : goal.loop-index-preserved
loop-index-preserved c = elim c.match-event.branch [
  | in-Step+in_ok-execute w ↦ (
      let p = c.args.plans.now in
      let h : List Event = reverse (take c.loop-index.index (reverse c.args.journal.now.events)) in
      let s = w.in-Step.stream in
      let areas = w.areas-areas.result.now in
      let state = w.index_mut-state.result.now in
      let turn = turn_of p c.args.journal.now.events c.args.count c.loop-index.index s w.in-Step.words c.event.result c.loop-index-test.true c.requires.within c.event.ensures w.in-Step.is c.requires.legal in
      let found = found_here p h s w.in-Step.words c.loop-index.images c.loop-index.states.items state w.plan.result.now areas turn c.loop-index.invariant w.index_mut-state.ensures.value w.plan.ensures w.areas-areas.ensures.value w.areas-areas.ensures.lawful in
      let images = w.images-is ∙ w.in_ok-execute.ensures.images ∙ ap (λ (ws : List (ℕ × ℕ)). (drawn_by (effect areas ws state) c.loop-index.images).images) w.as_slice.ensures in
      let left = w.in_ok-execute.ensures.state ∙ ap (λ (ws : List (ℕ × ℕ)). noted (drawn_by (effect areas ws state) c.loop-index.images).answer (stepped areas ws state)) w.as_slice.ensures in
      let after = left_here p h s w.in-Step.words c.loop-index.images c.match-event.images c.loop-index.states.items c.match-event.states.items state w.execute.new.state areas turn c.loop-index.invariant found images left (ap (λ v. v.items) w.states-is) in
      let event : Step s w.in-Step.words ∷ h ≡ reverse (take (c.loop-index.index + 1) (reverse c.args.journal.now.events)) = sym (past_more (reverse c.args.journal.now.events) c.loop-index.index c.event.result c.event.result (omega (arith, c.loop-index-test.true, c.requires.within, length-reverse c.args.journal.now.events)) c.event.ensures ∙ ap (λ (e : Event). e ∷ h) w.in-Step.is) in
      subst (λ (h : List Event). Shows p h c.match-event.images c.match-event.states.items) event after)
  | in_default w ↦ other w.in_default.not-Step w.images-is w.states-is
]
  where
    no_step : (e : Event) → ((x : ℕ) (x' : List (ℕ × ℕ)) → e ≡ Step x x' → ⊥) → IsStep e → ⊥
    no_step (Step s words) not is = not s words refl
    no_step (Order s n k) not is = is
    no_step (Finish s n) not is = is
    no_step (Lost s why words) not is = is
    no_step (Close s) not is = is

    other : ((x : ℕ) (x' : List (ℕ × ℕ)) → c.event.result ≡ Step x x' → ⊥) → c.match-event.images ≡ c.loop-index.images → c.match-event.states ≡ c.loop-index.states
        → Shows c.args.plans.now (reverse (take (c.loop-index.index + 1) (reverse c.args.journal.now.events))) c.match-event.images c.match-event.states.items
    other not images states =
        let after = shows_other c.args.plans.now (reverse (take c.loop-index.index (reverse c.args.journal.now.events))) c.event.result c.loop-index.images c.match-event.images c.loop-index.states.items c.match-event.states.items (no_step c.event.result not) c.loop-index.invariant images (ap (λ v. v.items) states) in
        subst (λ (h : List Event). Shows c.args.plans.now h c.match-event.images c.match-event.states.items) (sym (past_more (reverse c.args.journal.now.events) c.loop-index.index c.event.result c.event.result (omega (arith, c.loop-index-test.true, c.requires.within, length-reverse c.args.journal.now.events)) c.event.ensures)) after
