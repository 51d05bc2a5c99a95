-- What a legal history says of its streams: their states are bounded, and a stream that runs is one of the script.
use Rattle.std.proofs.Common.{◌≡◌, ℕ, ◌+◌, ◌≤◌, Bool, true, false, Option, Some, None, Result, Ok, Err, List, [], ◌∷◌, length, refl, sym, ap, subst, inl, inr, ◌⊎◌, ⊎_elim, arith, IsOk, IsSome, drop}
use Rattle.std.specs.Prelude.{◌==◌, if◌then◌else◌}
use Rattle.std.proofs.lemmas.Bool.Decides.{nat_tests}
use Rattle.gpu_cmd.specs.declared.command.Command.{Command}
use Rattle.gpu_cmd.specs.declared.error.CmdError.{CmdError}
use Rattle.gpu_cmd.specs.declared.areas.Areas.{Areas}
use Rattle.gpu_cmd.specs.Lawful.{IsLawfulAreas}
use Rattle.gpu_store.specs.declared.op.Answer.{Answer}
use Rattle.gpu_store.specs.declared.op.Answer.TheVariants.{Done, InvalidValue, InvalidOperation, OutOfTexels}
use Rattle.gpu_plan.specs.Plans.{PlansData, plan_of}
use Rattle.stream_state.specs.State.{State, Errors, IsBounded, counted, noted}
use Rattle.stream_state.specs.Steps.{stepped}
use Rattle.stream_state.specs.Laws.{IsTaken}
use Rattle.stream_state.proofs.Runs.{step_is_bounded, stepped_errors, stepped_fetched}
use Rattle.stream_state.proofs.Telling.{verdict_taken}
use Rattle.stream_state.proofs.Finding.{finds}
use Rattle.sync_core.specs.declared.wait.Number.{Number}
use Rattle.sync_core.specs.Standing.{Standing, IsKnown, first_order, bumped}
use Rattle.sync_core.specs.Events as sync
use Rattle.gpu_journal.specs.declared.event.Event.{Event}
use Rattle.gpu_journal.specs.declared.event.Event.TheVariants.{Order, Step, Finish, Lost, Close}
use Rattle.gpu_journal.specs.World.{Known, World, world, first_world, stream_in, asked_by, drawn_by, known, known_after, images_after, state_of, replay}
use Rattle.stream_state.specs.declared.effect.Effect.{Effect}
use Rattle.stream_state.specs.declared.effect.Effect.TheVariants.{Release, Wait, WaitName}
use Rattle.gpu_journal.specs.Waits.{deed_asked, deed, sync_of, left_of, IsOpen}
use Rattle.gpu_journal.specs.Facts.{put_of, verdict_at}
use Rattle.gpu_journal.specs.Legal.{Obeys, IsLegal}
use Rattle.gpu_journal.specs.Replaying.{total_errors, IsWithinQuota}

-- ---- one event more

pub world_none : (p : PlansData) → world p [] ≡ first_world
unfolding world
world_none p = refl

pub images_then : (p : PlansData) (e : Event) (h : List Event) → replay p (e ∷ h) ≡ images_after p e (world p h)
unfolding world
images_then p e h = refl

pub known_then : (p : PlansData) (e : Event) (h : List Event) (s : ℕ) → known p (e ∷ h) s ≡ (if stream_in e == s then known_after p e (world p h) (known p h s) else known p h s)
unfolding world
known_then p e h s = refl

pub sync_then : (p : PlansData) (e : Event) (h : List Event) → sync_of p (e ∷ h) ≡ sync.happened (stream_in e) (deed p e (world p h)) (sync_of p h)
unfolding sync_of
sync_then p e h = refl

pub sync_none : (p : PlansData) → sync_of p [] ≡ []
unfolding sync_of
sync_none p = refl

-- ---- a step of a legal history is taken

pub step_taken : (p : PlansData) (g : List Event) (s : ℕ) (words : List (ℕ × ℕ)) → IsLawfulAreas (plan_of p s).areas → IsBounded (state_of p g s) → Obeys p g (Step s words) → IsTaken (plan_of p s).areas words (state_of p g s)
step_taken p g s words lawful bounded o = by_verdict (verdict_at p g s words) refl o.rule_9
  where
    by_verdict : (answer : Result Command CmdError) → verdict_at p g s words ≡ answer → IsOk answer → IsTaken (plan_of p s).areas words (state_of p g s)
    by_verdict (Ok command) e h = (verdict_taken (plan_of p s).areas (put_of p g s) words (state_of p g s) command lawful bounded o.rule_7.0 o.rule_7.1 e).1
    by_verdict (Err error) e h = absurd (cc)

-- ---- the states stay bounded, and so do the counts of their errors

one_more : (answer : Answer) (errors : Errors) → total_errors (counted answer errors) ≤ total_errors errors + 1
one_more Done errors = omega arith
one_more InvalidValue errors = omega arith
one_more InvalidOperation errors = omega arith
one_more OutOfTexels errors = omega arith

-- a step that is taken keeps them so
pub within_stepped : (areas : Areas) (words : List (ℕ × ℕ)) (state : State) (answer : Answer) → IsLawfulAreas areas → IsWithinQuota state → IsTaken areas words state → IsWithinQuota (noted answer (stepped areas words state))
within_stepped areas words state answer lawful w taken =
    let next = step_is_bounded areas words state lawful w.bounded taken in
    let some : 1 ≤ length words = (finds areas words state _ _ lawful w.bounded taken.accepted).some in
    let errors : total_errors (stepped areas words state).errors ≡ total_errors state.errors = ap total_errors (stepped_errors areas words state) in
    let fetched = stepped_fetched areas words state in
    let more = one_more answer (stepped areas words state).errors in
    record {
      bounded = record { fetched = next.fetched; entries = next.entries };
      few = omega (arith, w.few);
    }

after_step : (p : PlansData) (g : List Event) (s : ℕ) (words : List (ℕ × ℕ)) (answer : Answer) → IsLawfulAreas (plan_of p s).areas → IsWithinQuota (state_of p g s) → Obeys p g (Step s words) → IsWithinQuota (noted answer (stepped (plan_of p s).areas words (state_of p g s)))
after_step p g s words answer lawful w o = within_stepped (plan_of p s).areas words (state_of p g s) answer lawful w (step_taken p g s words lawful w.bounded o)

own_within : (p : PlansData) (h : List Event) (s : ℕ) (e : Event) → IsLawfulAreas (plan_of p s).areas → IsWithinQuota (state_of p h s) → Obeys p h e → stream_in e ≡ s → IsWithinQuota (known_after p e (world p h) (known p h s)).state
own_within p h s (Order t n c) lawful before o same = before
own_within p h s (Step t words) lawful before o same =
    let here = subst (λ (t : ℕ). Obeys p h (Step t words)) same o in
    rw same (after_step p h s words (drawn_by (asked_by p s words (world p h)) (world p h).images).answer lawful before here)
own_within p h s (Finish t n) lawful before o same = before
own_within p h s (Lost t why words) lawful before o same = before
own_within p h s (Close t) lawful before o same = before

next_within : (p : PlansData) (h : List Event) (s : ℕ) (e : Event) (b : Bool) → (stream_in e == s) ≡ b → IsLawfulAreas (plan_of p s).areas → IsWithinQuota (state_of p h s) → Obeys p h e → IsWithinQuota (if b then known_after p e (world p h) (known p h s) else known p h s).state
next_within p h s e true same lawful before o = let own : stream_in e ≡ s = grind (arith, nat_tests) in own_within p h s e lawful before o own
next_within p h s e false other lawful before o = before

pub states_within : (p : PlansData) (h : List Event) (s : ℕ) → IsLawfulAreas (plan_of p s).areas → IsLegal p h → IsWithinQuota (state_of p h s)
states_within p [] s lawful legal = subst (λ (w : World). IsWithinQuota (w.streams s).state) (sym (world_none p)) (record { bounded = record { fetched = omega arith; entries = omega arith }; few = omega arith })
states_within p (e ∷ h) s lawful legal = subst (λ (k : Known). IsWithinQuota k.state) (sym (known_then p e h s)) (next_within p h s e (stream_in e == s) refl lawful (states_within p h s lawful legal.1) legal.0)

-- errors that are those of a bounded stream are few
pub few_errors : (old new : State) → IsWithinQuota old → new.errors ≡ old.errors → total_errors new.errors ≤ 1048576
few_errors old new within same =
    let counts : total_errors new.errors ≡ total_errors old.errors = ap total_errors same in
    let most : old.fetched ≤ 1048576 = within.bounded.fetched in
    omega (arith, within.few)

-- ---- a stream with an unprocessed number is one of the script

-- it draws a number, or has one before
abbrev Draws : sync.Deed → Type 0
Draws (sync.Ordered fences) = Unit {0}
Draws _ = ⊥

had_before : (deed : sync.Deed) (n : ℕ) (old : Standing) → IsSome (first_order (sync.moved deed n old).left) → Draws deed ⊎ IsSome (first_order old.left)
had_before (sync.Ordered fences) n old some = inl tt
had_before (sync.Waited t r) n old some = inr (by_left old.left some)
  where
    by_left : (left : List Number) → IsSome (first_order (bumped left)) → IsSome (first_order left)
    by_left [] h = h
    by_left (x ∷ left) h = refl
had_before (sync.Released r) n old some = inr some
had_before sync.Finished n old some = inr (by_left old.left some)
  where
    by_left : (left : List Number) → IsSome (first_order (drop 1 left)) → IsSome (first_order left)
    by_left [] h = h
    by_left (x ∷ left) h = refl
had_before sync.WasLost n old some = absurd (cc)
had_before sync.WasClosed n old some = absurd (cc)

-- what an event that draws no number leaves of one is left of an earlier one
left_before : (s t : ℕ) (b : Bool) (d : Option sync.Deed) (g : List sync.SyncEvent) → (t == s) ≡ b → IsSome (first_order (sync.standing (sync.happened t d g) s).left)
    → ((deed : sync.Deed) × (d ≡ Some deed) × Draws deed × (t ≡ s)) ⊎ IsSome (first_order (sync.standing g s).left)
left_before s t b None g e some = inr some
left_before s t true (Some deed) g e some = ⊎_elim (λ draws. inl (deed, refl, draws, grind (arith, nat_tests))) inr (had_before deed (sync.orders g + 1) (sync.standing g s) (subst (λ (b : Bool). IsSome (first_order (if b then sync.moved deed (sync.orders g + 1) (sync.standing g s) else sync.standing g s).left)) e some))
left_before s t false (Some deed) g e some = inr (subst (λ (b : Bool). IsSome (first_order (if b then sync.moved deed (sync.orders g + 1) (sync.standing g s) else sync.standing g s).left)) e some)

-- an event that draws a number is the order of an open stream
drawn_open : (p : PlansData) (h : List Event) (e : Event) (deed' : sync.Deed) → deed p e (world p h) ≡ Some deed' → Draws deed' → Obeys p h e → IsOpen p h (stream_in e)
drawn_open p h (Order s n c) d told draws o = o.rule_1
drawn_open p h (Step s words) d told draws o = absurd (step_draws (asked_by p s words (world p h)) d told draws)
  where
    step_draws : (effect : Effect) (d : sync.Deed) → deed_asked p effect ≡ Some d → Draws d → ⊥
    step_draws (Release release) (sync.Ordered fences) told draws = cc
    step_draws (Wait stream release) (sync.Ordered fences) told draws = cc
    step_draws (WaitName name release) (sync.Ordered fences) told draws = cc
    step_draws _ (sync.Ordered fences) told draws = cc
    step_draws _ _ told draws = draws
drawn_open p h (Finish s n) (sync.Ordered fences) told draws o = absurd (cc)
drawn_open p h (Lost s why words) (sync.Ordered fences) told draws o = absurd (cc)
drawn_open p h (Close s) (sync.Ordered fences) told draws o = absurd (cc)
drawn_open p h (Finish s n) _ told draws o = absurd draws
drawn_open p h (Lost s why words) _ told draws o = absurd draws
drawn_open p h (Close s) _ told draws o = absurd draws

pub known_of_left : (p : PlansData) (h : List Event) (s : ℕ) → IsLegal p h → IsSome (first_order (left_of p h s)) → IsKnown (length p.plans) s
known_of_left p [] s legal some = absurd (none_left (sync_none p) some)
  where
    none_left : sync_of p [] ≡ [] → IsSome (first_order (left_of p [] s)) → ⊥
    none_left none some = cc
known_of_left p (e ∷ h) s legal some =
    let moved = subst (λ (g : List sync.SyncEvent). IsSome (first_order (sync.standing g s).left)) (sync_then p e h) some in
    ⊎_elim
    (λ drew. subst (IsKnown (length p.plans)) drew.3 (drawn_open p h e drew.0 drew.1 drew.2 legal.0).known)
    (λ before. known_of_left p h s legal.1 before)
    (left_before s (stream_in e) (stream_in e == s) (deed p e (world p h)) (sync_of p h) refl moved)
