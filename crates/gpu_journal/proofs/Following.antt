-- What replay keeps is what a longer and longer history says.
use Rattle.std.proofs.Common.{◌≡◌, ◌≢◌, ℕ, zero, suc, ◌+◌, ◌-◌, ◌<◌, ◌≤◌, Bool, true, false, Some, List, [], ◌∷◌, ◌++◌, length, get_or, set, take, drop, reverse, replicate, refl, sym, ap, subst, ◌∙◌, ⊎_elim, arith}
use Rattle.std.specs.Prelude.{◌==◌, if◌then◌else◌, slice_get}
use Rattle.std.proofs.lemmas.Bool.{cases_lt}
use Rattle.std.proofs.lemmas.Bool.Decides.{nat_tests}
use Rattle.std.proofs.lemmas.List.{take_more, take_at, take-take, reverse-append, reverse-reverse, take-append-drop, get_or-take, get_or-replicate, get_or_past, length-take, length-drop, length-reverse, length-replicate, length-set}
use Rattle.std.proofs.lemmas.Option.{get_or_from_slice_get}
use Rattle.gpu_cmd.specs.Lawful.{IsLawfulAreas}
use Rattle.gpu_store.specs.Images.{Pictures}
use Rattle.gpu_cmd.specs.declared.areas.Areas.{Areas}
use Rattle.gpu_plan.specs.Plans.{PlanData, PlansData, no_plan, plan_of}
use Rattle.stream_state.specs.State.{State, first_state, noted}
use Rattle.stream_state.specs.Steps.{stepped, effect}
use Rattle.stream_state.specs.Laws.{IsTaken}
use Rattle.sync_core.specs.Standing.{IsKnown}
use Rattle.sync_core.proofs.Rows.{row, row_is, row_same, row_other, row_there}
use Rattle.gpu_journal.specs.declared.event.Event.{Event}
use Rattle.gpu_journal.specs.declared.event.Event.TheVariants.{Order, Step, Finish, Lost, Close}
use Rattle.gpu_journal.specs.World.{Known, World, world, stream_in, asked_by, drawn_by, known, known_after, images_after, state_of}
use Rattle.gpu_journal.specs.Legal.{Obeys, IsLegal}
use Rattle.gpu_journal.specs.Replaying.{IsWithinQuota, Shows, state_in}
use Rattle.gpu_journal.proofs.Worlds.{world_none, images_then, known_then, step_taken, states_within, known_of_left}

-- ---- the history so far

pub legal_tail : (p : PlansData) (front h : List Event) → IsLegal p (front ++ h) → IsLegal p h
legal_tail p [] h legal = legal
legal_tail p (e ∷ front) h legal = legal_tail p front h legal.1

-- one event further, it stands in front of those before it
pub past_more : (events : List Event) (k : ℕ) (e d : Event) → k < length events → e ≡ get_or events k d → reverse (take (k + 1) events) ≡ e ∷ reverse (take k events)
past_more events k e d lt here = ap reverse (take_more events k d lt) ∙ reverse-append (take k events) (get_or events k d ∷ []) ∙ ap (λ (x : Event). x ∷ reverse (take k events)) (sym here)

-- a first part of a legal history is legal
pub legal_past : (p : PlansData) (events : List Event) (k : ℕ) → IsLegal p (reverse events) → IsLegal p (reverse (take k events))
legal_past p events k legal =
    let parts : reverse events ≡ reverse (drop k events) ++ reverse (take k events) = sym (ap reverse (take-append-drop k events)) ∙ reverse-append (take k events) (drop k events) in
    legal_tail p (reverse (drop k events)) (reverse (take k events)) (subst (IsLegal p) parts legal)

-- the event at hand obeys its rules
pub legal_here : (p : PlansData) (events : List Event) (k : ℕ) (e : Event) → k < length events → e ≡ get_or events k e → IsLegal p (reverse events) → IsLegal p (e ∷ reverse (take k events))
legal_here p events k e lt here legal = subst (IsLegal p) (past_more events k e e lt here) (legal_past p events (k + 1) legal)

-- the first n events of a history, the newest first
pub past_first : (h : List Event) (n : ℕ) → n ≤ length h → drop (length h - n) h ≡ reverse (take n (reverse h))
past_first h n within =
    let m = length h - n in
    let parts : reverse h ≡ reverse (drop m h) ++ reverse (take m h) = sym (ap reverse (take-append-drop m h)) ∙ reverse-append (take m h) (drop m h) in
    let long : length (reverse (drop m h)) ≡ n = omega (arith, length-reverse (drop m h), length-drop m h, within) in
    sym (reverse-reverse (drop m h)) ∙ ap reverse (sym (ap (take n) parts ∙ take_at (reverse (drop m h)) (reverse (take m h)) n long))

-- ---- the states

none_known : (p : PlansData) (s : ℕ) → state_of p [] s ≡ first_state
none_known p s = ap (λ (w : World). (w.streams s).state) (world_none p)

all_first : (n s : ℕ) → state_in (replicate n first_state) s ≡ first_state
all_first n zero = refl
all_first n (suc k) = ⊎_elim (λ lt. get_or-replicate n k first_state first_state lt) (λ past. get_or_past (replicate n first_state) k first_state (omega (arith, length-replicate n first_state))) (cases_lt k n)

pub shows_none : (p : PlansData) (images : Pictures) (states : List State) → images ≡ [] → states ≡ replicate (length p.plans) first_state → Shows p [] images states
shows_none p images states none first = record {
  drawn = none ∙ sym (ap (λ (w : World). w.images) (world_none p));
  count = ap length first ∙ length-replicate (length p.plans) first_state;
  each = λ s. ap (λ (xs : List State). state_in xs s) first ∙ all_first (length p.plans) s ∙ sym (none_known p s);
}

state_row : (states : List State) (s : ℕ) → state_in states s ≡ row first_state states s
state_row states s = row_is first_state state_in (λ xs. refl) (λ xs k. refl) states s

-- a state in place of that of stream s
after_step : (p : PlansData) (h : List Event) (s t : ℕ) (words : List (ℕ × ℕ)) (states : List State) (state : State) (b : Bool) → (s == t) ≡ b → IsKnown (length states) s
    → state_in states t ≡ state_of p h t
    → state ≡ noted (drawn_by (asked_by p s words (world p h)) (world p h).images).answer (stepped (plan_of p s).areas words (state_of p h s))
    → state_in (set states (s - 1) state) t ≡ (if b then known_after p (Step s words) (world p h) (known p h t) else known p h t).state
after_step p h s t words states state true e inside old new =
    let same : s ≡ t = grind (arith, nat_tests) in
    subst (λ (t : ℕ). state_in (set states (s - 1) state) t ≡ (known_after p (Step s words) (world p h) (known p h t)).state) same (state_row (set states (s - 1) state) s ∙ row_same first_state states s state inside ∙ new)
after_step p h s t words states state false e inside old new =
    let apart : t ≢ s = grind (arith, nat_tests) in
    state_row (set states (s - 1) state) t ∙ row_other first_state states s t state inside.0 apart ∙ sym (state_row states t) ∙ old

pub shows_step : (p : PlansData) (h : List Event) (s : ℕ) (words : List (ℕ × ℕ)) (images images' : Pictures) (states states' : List State) (state : State) → IsKnown (length p.plans) s → Shows p h images states
    → images' ≡ (drawn_by (effect (plan_of p s).areas words (state_in states s)) images).images
    → state ≡ noted (drawn_by (effect (plan_of p s).areas words (state_in states s)) images).answer (stepped (plan_of p s).areas words (state_in states s))
    → states' ≡ set states (s - 1) state
    → Shows p (Step s words ∷ h) images' states'
shows_step p h s words images images' states states' state known shows drawn noted' put =
    let own = shows.each s in
    let drawn_here : images' ≡ (drawn_by (asked_by p s words (world p h)) (world p h).images).images =
    drawn ∙ ap (λ (x : State). (drawn_by (effect (plan_of p s).areas words x) images).images) own ∙ ap (λ (x : Pictures). (drawn_by (asked_by p s words (world p h)) x).images) shows.drawn in
    let new : state ≡ noted (drawn_by (asked_by p s words (world p h)) (world p h).images).answer (stepped (plan_of p s).areas words (state_of p h s)) =
    noted' ∙ ap (λ (x : State). noted (drawn_by (effect (plan_of p s).areas words x) images).answer (stepped (plan_of p s).areas words x)) own
    ∙ ap (λ (x : Pictures). noted (drawn_by (asked_by p s words (world p h)) x).answer (stepped (plan_of p s).areas words (state_of p h s))) shows.drawn in
    let inside : IsKnown (length states) s = (known.0, omega (arith, known.1, shows.count)) in
    record {
      drawn = drawn_here ∙ sym (images_then p (Step s words) h);
      count = ap length put ∙ length-set states (s - 1) state ∙ shows.count;
      each = λ t. ap (λ (xs : List State). state_in xs t) put ∙ after_step p h s t words states state (s == t) refl inside (shows.each t) new ∙ sym (ap (λ (k : Known). k.state) (known_then p (Step s words) h t));
    }

-- ---- other events leave images and states

-- the event is a step
abbrev pub IsStep : Event → Type 0
IsStep (Step s words) = Unit {0}
IsStep _ = ⊥

other_images : (p : PlansData) (e : Event) (w : World) → (IsStep e → ⊥) → images_after p e w ≡ w.images
other_images p (Order s n c) w other = refl
other_images p (Step s words) w other = absurd (other tt)
other_images p (Finish s n) w other = refl
other_images p (Lost s why words) w other = refl
other_images p (Close s) w other = refl

other_state : (p : PlansData) (e : Event) (w : World) (b : Bool) (k : Known) → (IsStep e → ⊥) → (if b then known_after p e w k else k).state ≡ k.state
other_state p e w false k other = refl
other_state p (Order s n c) w true k other = refl
other_state p (Step s words) w true k other = absurd (other tt)
other_state p (Finish s n) w true k other = refl
other_state p (Lost s why words) w true k other = refl
other_state p (Close s) w true k other = refl

pub shows_other : (p : PlansData) (h : List Event) (e : Event) (images images' : Pictures) (states states' : List State) → (IsStep e → ⊥) → Shows p h images states → images' ≡ images → states' ≡ states → Shows p (e ∷ h) images' states'
shows_other p h e images images' states states' other shows same_images same_states = record {
  drawn = same_images ∙ shows.drawn ∙ sym (images_then p e h ∙ other_images p e (world p h) other);
  count = ap length same_states ∙ shows.count;
  each = λ t. ap (λ (xs : List State). state_in xs t) same_states ∙ shows.each t ∙ sym (ap (λ (k : Known). k.state) (known_then p e h t) ∙ other_state p e (world p h) (stream_in e == t) (known p h t) other);
}

-- ---- the step at hand

-- its stream is one of the script, it obeys its rules, and what came before is legal
pub record Turn (p : PlansData) (h : List Event) (s : ℕ) (words : List (ℕ × ℕ)) : Type 0 where
  pub known : IsKnown (length p.plans) s
  pub obeys : Obeys p h (Step s words)
  pub legal : IsLegal p h

pub turn_of : (p : PlansData) (h : List Event) (n k s : ℕ) (words : List (ℕ × ℕ)) (e : Event) → k < n → n ≤ length h → e ≡ get_or (reverse h) k e → e ≡ Step s words → IsLegal p (drop (length h - n) h) → Turn p (reverse (take k (reverse h))) s words
turn_of p h n k s words e lt within at step legal =
    let first = take n (reverse h) in
    let all : IsLegal p (reverse first) = subst (IsLegal p) (past_first h n within) legal in
    let here = legal_here p first k e (omega (arith, length-take n (reverse h), length-reverse h, lt, within)) (at ∙ sym (get_or-take n (reverse h) k e lt)) all in
    let now : IsLegal p (e ∷ reverse (take k (reverse h))) = subst (λ (xs : List Event). IsLegal p (e ∷ reverse xs)) (take-take k n (reverse h) (omega (arith, lt))) here in
    let own : IsLegal p (Step s words ∷ reverse (take k (reverse h))) = subst (λ (e : Event). IsLegal p (e ∷ reverse (take k (reverse h)))) step now in
    record { known = known_of_left p (reverse (take k (reverse h))) s own.1 own.0.rule_4; obeys = own.0; legal = own.1 }

-- what the code finds at a stream's place is the stream's
pub state_here : (states : List State) (s : ℕ) (x : State) → 1 ≤ s → s ≤ length states → x ≡ get_or states (s - 1) x → x ≡ state_in states s
state_here states s x some within at = at ∙ row_there first_state states s x (omega (arith, some), within) ∙ sym (state_row states s)

pub plan_here : (p : PlansData) (s : ℕ) (x : PlanData) → 1 ≤ s → slice_get p.plans (s - 1) ≡ Some x → plan_of p s ≡ x
plan_here p zero x some at = absurd (omega arith)
plan_here p (suc k) x some at =
    let i : suc k - 1 ≡ k = omega arith in
    get_or_from_slice_get p.plans k x no_plan (ap (slice_get p.plans) (sym i) ∙ at)

-- what the code finds for the step at hand: the state and the areas of its stream, which are lawful
pub record Found (p : PlansData) (h : List Event) (s : ℕ) (words : List (ℕ × ℕ)) (state : State) (areas : Areas) : Type 0 where
  pub state_is : state ≡ state_of p h s
  pub areas_are : areas ≡ (plan_of p s).areas
  pub within : IsWithinQuota state
  pub taken : IsTaken areas words state

pub found_here : (p : PlansData) (h : List Event) (s : ℕ) (words : List (ℕ × ℕ)) (images : Pictures) (states : List State) (state : State) (plan : PlanData) (areas : Areas) → Turn p h s words → Shows p h images states
    → state ≡ get_or states (s - 1) state → slice_get p.plans (s - 1) ≡ Some plan → areas ≡ plan.areas → IsLawfulAreas areas → Found p h s words state areas
found_here p h s words images states state plan areas turn shows at slice is lawful =
    let some : 1 ≤ s = omega (arith, turn.known.0) in
    let inside : s ≤ length states = omega (arith, turn.known.1, shows.count) in
    let state_is : state ≡ state_of p h s = state_here states s state some inside at ∙ shows.each s in
    let areas_are : areas ≡ (plan_of p s).areas = is ∙ ap (λ (x : PlanData). x.areas) (sym (plan_here p s plan some slice)) in
    let lawful' : IsLawfulAreas (plan_of p s).areas = subst IsLawfulAreas areas_are lawful in
    let within : IsWithinQuota (state_of p h s) = states_within p h s lawful' turn.legal in
    let taken : IsTaken (plan_of p s).areas words (state_of p h s) = step_taken p h s words lawful' within.bounded turn.obeys in
    record {
      state_is = state_is;
      areas_are = areas_are;
      within = subst IsWithinQuota (sym state_is) within;
      taken = subst (λ (x : State). IsTaken areas words x) (sym state_is) (subst (λ (a : Areas). IsTaken a words (state_of p h s)) (sym areas_are) taken);
    }

-- and what it leaves
pub left_here : (p : PlansData) (h : List Event) (s : ℕ) (words : List (ℕ × ℕ)) (images images' : Pictures) (states states' : List State) (state state' : State) (areas : Areas) → Turn p h s words → Shows p h images states → Found p h s words state areas
    → images' ≡ (drawn_by (effect areas words state) images).images
    → state' ≡ noted (drawn_by (effect areas words state) images).answer (stepped areas words state)
    → states' ≡ set states (s - 1) state'
    → Shows p (Step s words ∷ h) images' states'
left_here p h s words images images' states states' state state' areas turn shows found drawn noted' put =
    let here : state ≡ state_in states s = found.state_is ∙ sym (shows.each s) in
    let images_are = drawn ∙ ap (λ (a : Areas). (drawn_by (effect a words state) images).images) found.areas_are ∙ ap (λ (x : State). (drawn_by (effect (plan_of p s).areas words x) images).images) here in
    let state_is = noted' ∙ ap (λ (a : Areas). noted (drawn_by (effect a words state) images).answer (stepped a words state)) found.areas_are
    ∙ ap (λ (x : State). noted (drawn_by (effect (plan_of p s).areas words x) images).answer (stepped (plan_of p s).areas words x)) here in
    shows_step p h s words images images' states states' state' turn.known shows images_are state_is put
