-- How many events of each stream a legal history can have.
use Rattle.std.proofs.Common.{◌≡◌, not, ℕ, ◌+◌, ◌*◌, ◌%◌, ◌≤◌, ◌<◌, eqb, Bool, true, false, cond, Option, List, [], ◌∷◌, length, refl, sym, ap, subst, arith}
use Rattle.std.proofs.lemmas.Bool.{eqb-true, eq-eqb, and_right}
use Rattle.std.proofs.Math.Nat.{mul-le-mul_left}
use Rattle.std.proofs.lemmas.Nat.{mod_below}
use Rattle.std.specs.Prelude.{slice_get, unwrap_or}
use Rattle.gpu_cmd.specs.Lawful.{IsLawfulAreas}
use Rattle.gpu_plan.specs.declared.plan.Action.{Action}
use Rattle.gpu_plan.specs.Plans.{PlansData, plan_of}
use Rattle.gpu_plan.specs.Passes.{flushes}
use Rattle.gpu_plan.specs.Places.{flush_places}
use Rattle.stream_state.specs.Steps.{header_in}
use Rattle.stream_state.proofs.Runs.{stepped_entries}
use Rattle.stream_state.specs.declared.effect.Effect.{Effect}
use Rattle.stream_state.specs.declared.effect.Effect.TheVariants.{Nothing, Token, Release, Wait, WaitName, Pixels, Results}
use Rattle.gpu_word.specs.Header.{size_of}
use Rattle.sync_core.specs.Standing.{Standing, IsKnown, is_open, first_order}
use Rattle.sync_core.specs.Events as sync
use Rattle.gpu_journal.specs.declared.event.Event.{Event}
use Rattle.gpu_journal.specs.declared.event.Event.TheVariants.{Order, Step, Finish, Lost, Close}
use Rattle.gpu_journal.specs.declared.event.Why.{Why}
use Rattle.gpu_journal.specs.declared.event.Why.TheVariants.{Error, Memory}
use Rattle.gpu_journal.specs.World.{Known, World, world, first_world, stream_in, asked_by, known, known_after, state_of}
use Rattle.gpu_journal.specs.Waits.{deed, deed_asked, standing_of, left_of, drawn}
use Rattle.gpu_journal.specs.Facts.{place_of, put_in, put_of}
use Rattle.gpu_journal.specs.Legal.{Obeys, IsLegal}
use Rattle.gpu_journal.specs.Serial.{most_of}
use Rattle.gpu_journal.proofs.Worlds.{world_none, sync_none, known_of_left, states_within}
use Rattle.serial_laws.proofs.Others.{moved_by, standing_own, standing_other, known_own, known_other}
use Rattle.serial_laws.proofs.Fitting.{FitsAt, fits, open_of_left, first_some}
use Rattle.serial_laws.proofs.Obeying.{first_placed}
use Rattle.serial_laws.proofs.Rooms.{step_consumes, gap, gap_most, gap_falls}

-- how many events a stream has
abbrev pub events_of : List Event → ℕ → ℕ
events_of [] s = 0
events_of (e ∷ h) s = cond (eqb (stream_in e) s) (events_of h s + 1) (events_of h s)

-- how many steps there are with one event more
abbrev with_step : Event → ℕ → ℕ
with_step (Step s words) n = n + 1
with_step _ n = n

-- how many steps a stream has
abbrev steps_of : List Event → ℕ → ℕ
steps_of [] s = 0
steps_of (e ∷ h) s = cond (eqb (stream_in e) s) (with_step e (steps_of h s)) (steps_of h s)

-- the put of a flush by its number among the flushes
abbrev put_at : List Action → ℕ → ℕ
put_at actions j = put_in (slice_get actions (unwrap_or (slice_get (flush_places actions) j) 0))

-- 1 for a stream that has ended
abbrev end_count : Standing → ℕ
end_count x = cond (is_open x) 0 1

-- what the events of a stream are spent on: orders, finishes, one end, and steps, which for each flush are no more than
-- the ring has entries
record Spent (actions : List Action) (ring : ℕ) (k : Known) (x : Standing) (steps : ℕ) (events : ℕ) : Type 0 where
  stepped : steps + gap ring (k.state.entries % ring) (put_at actions k.finished) ≤ (k.finished + 1) * ring
  inside : steps ≤ k.ordered * ring
  counted : events ≤ k.ordered + k.finished + steps + end_count x

abbrev SpentAt : PlansData → List Event → ℕ → Type 0
SpentAt p h t = Spent (plan_of p t).actions (plan_of p t).areas.ring (known p h t) (standing_of p h t) (steps_of h t) (events_of h t)

-- ---- what each event is spent on

spent_ordered : (actions : List Action) (ring : ℕ) (k : Known) (x y : Standing) (steps events : ℕ) → is_open y ≡ is_open x → Spent actions ring k x steps events → Spent actions ring (record k { ordered = k.ordered + 1 }) y steps (events + 1)
spent_ordered actions ring k x y steps events same sp =
    let more : (k.ordered + 1) * ring ≡ k.ordered * ring + ring = omega arith in
    let a = sp.inside in
    let b = sp.counted in
    let c : end_count y ≡ end_count x = ap (λ (b : Bool). cond b 0 1) same in
    record { stepped = sp.stepped; inside = omega (arith, a, more); counted = omega (arith, b, c) }

spent_finished : (actions : List Action) (ring : ℕ) (k : Known) (x y : Standing) (steps events : ℕ) → 0 < ring → is_open y ≡ is_open x → Spent actions ring k x steps events → Spent actions ring (record k { finished = k.finished + 1 }) y steps (events + 1)
spent_finished actions ring k x y steps events pos same sp =
    let more : (k.finished + 1 + 1) * ring ≡ (k.finished + 1) * ring + ring = omega arith in
    let most = gap_most ring (k.state.entries % ring) (put_at actions (k.finished + 1)) (mod_below k.state.entries ring pos) in
    let a = sp.stepped in
    let b = sp.counted in
    let c : end_count y ≡ end_count x = ap (λ (b : Bool). cond b 0 1) same in
    record { stepped = omega (arith, a, more, most); inside = sp.inside; counted = omega (arith, b, c) }

spent_gone : (actions : List Action) (ring : ℕ) (k : Known) (x y : Standing) (steps events : ℕ) → is_open x ≡ true → is_open y ≡ false → Spent actions ring k x steps events → Spent actions ring k y steps (events + 1)
spent_gone actions ring k x y steps events was now sp =
    let a : end_count x ≡ 0 = ap (λ (b : Bool). cond b 0 1) was in
    let b : end_count y ≡ 1 = ap (λ (b : Bool). cond b 0 1) now in
    let c = sp.counted in
    record { stepped = sp.stepped; inside = sp.inside; counted = omega (arith, a, b, c) }

spent_stepped : (actions : List Action) (ring : ℕ) (k l : Known) (x y : Standing) (steps events : ℕ) → is_open y ≡ is_open x → l.ordered ≡ k.ordered → l.finished ≡ k.finished → k.finished < k.ordered
    → gap ring (l.state.entries % ring) (put_at actions k.finished) + 1 ≤ gap ring (k.state.entries % ring) (put_at actions k.finished) → Spent actions ring k x steps events → Spent actions ring l y (steps + 1) (events + 1)
spent_stepped actions ring k l x y steps events same o d less falls sp =
    let a = sp.stepped in
    let b = sp.counted in
    let c : end_count y ≡ end_count x = ap (λ (b : Bool). cond b 0 1) same in
    let most : ring * (k.finished + 1) ≤ ring * k.ordered = mul-le-mul_left ring (omega arith) in
    let at : gap ring (l.state.entries % ring) (put_at actions l.finished) ≡ gap ring (l.state.entries % ring) (put_at actions k.finished) = ap (λ n. gap ring (l.state.entries % ring) (put_at actions n)) d in
    let first : (l.finished + 1) * ring ≡ (k.finished + 1) * ring = ap (λ n. (n + 1) * ring) d in
    let second : l.ordered * ring ≡ k.ordered * ring = ap (λ n. n * ring) o in
    record { stepped = omega (arith, a, falls, at, first); inside = omega (arith, a, falls, most, second); counted = omega (arith, b, c, o, d) }

-- what a command asks for neither loses nor closes its stream
pub asked_same : (p : PlansData) (effect : Effect) (n : ℕ) (x : Standing) → ((moved_by (deed_asked p effect) n x).lost ≡ x.lost) × ((moved_by (deed_asked p effect) n x).closed ≡ x.closed)
asked_same p (Release r) n x = (refl, refl)
asked_same p (Wait t r) n x = (refl, refl)
asked_same p (WaitName t r) n x = (refl, refl)
asked_same p Nothing n x = (refl, refl)
asked_same p (Token t) n x = (refl, refl)
asked_same p (Pixels op) n x = (refl, refl)
asked_same p (Results w) n x = (refl, refl)

pub asked_open : (p : PlansData) (effect : Effect) (n : ℕ) (x : Standing) → is_open (moved_by (deed_asked p effect) n x) ≡ is_open x
asked_open p effect n x = let same = asked_same p effect n x in rw (same.0, same.1) refl

-- the put of the first number is that of its flush
put_is : (p : PlansData) (h : List Event) (s : ℕ) → FitsAt p h s → 0 < length (left_of p h s) → put_of p h s ≡ put_at (plan_of p s).actions (known p h s).finished
put_is p h s f some =
    let e = first_placed (place_of h) (flush_places (plan_of p s).actions) (known p h s).finished (left_of p h s) f.placed some in
    ap (λ (o : Option ℕ). put_in (slice_get (plan_of p s).actions (unwrap_or o 0))) (sym e)

step_falls : (p : PlansData) (h : List Event) (s : ℕ) (words : List (ℕ × ℕ)) → IsLawfulAreas (plan_of p s).areas → IsLegal p h → Obeys p h (Step s words) → 0 < length (left_of p h s)
    → gap (plan_of p s).areas.ring ((known_after p (Step s words) (world p h) (known p h s)).state.entries % (plan_of p s).areas.ring) (put_at (plan_of p s).actions (known p h s).finished) + 1
    ≤ gap (plan_of p s).areas.ring ((known p h s).state.entries % (plan_of p s).areas.ring) (put_at (plan_of p s).actions (known p h s).finished)
step_falls p h s words lawful legal o some =
    let ring = (plan_of p s).areas.ring in
    let least : 16 ≤ ring = lawful.ring_least in
    let c = step_consumes p h s words lawful (states_within p h s lawful legal).bounded o in
    let falls = gap_falls ring (state_of p h s).entries (put_of p h s) (size_of (header_in words)) (omega arith) (mod_below (state_of p h s).entries ring (omega arith)) c.in_ring o.rule_7.0 c.some c.within in
    let put = put_is p h s (fits p h legal s) some in
    let entries = stepped_entries (plan_of p s).areas words (state_of p h s) in
    let one : gap ring ((known_after p (Step s words) (world p h) (known p h s)).state.entries % ring) (put_at (plan_of p s).actions (known p h s).finished) ≡ gap ring (((state_of p h s).entries + size_of (header_in words)) % ring) (put_of p h s) = λ i. gap ring (entries i % ring) (sym put i) in
    let two : gap ring ((state_of p h s).entries % ring) (put_at (plan_of p s).actions (known p h s).finished) ≡ gap ring ((state_of p h s).entries % ring) (put_of p h s) = ap (gap ring ((state_of p h s).entries % ring)) (sym put) in
    omega (arith, falls, one, two)

-- a stream that an event ends was open
lost_open : (p : PlansData) (h : List Event) (s : ℕ) (why : Why) (words : List (ℕ × ℕ)) → FitsAt p h s → Obeys p h (Lost s why words) → is_open (standing_of p h s) ≡ true
lost_open p h s (Error error) words f o = (open_of_left (plan_of p s).actions (place_of h) (known p h s) (standing_of p h s) f o.rule_4).0
lost_open p h s Memory words f o = o.rule_11.0.stays

spent_event : (p : PlansData) (e : Event) (h : List Event) → IsLawfulAreas (plan_of p (stream_in e)).areas → IsLegal p h → Obeys p h e → SpentAt p h (stream_in e)
    → Spent (plan_of p (stream_in e)).actions (plan_of p (stream_in e)).areas.ring (known_after p e (world p h) (known p h (stream_in e))) (moved_by (deed p e (world p h)) (drawn p h + 1) (standing_of p h (stream_in e))) (with_step e (steps_of h (stream_in e))) (events_of h (stream_in e) + 1)
spent_event p (Order s n c) h lawful legal o sp = spent_ordered (plan_of p s).actions (plan_of p s).areas.ring (known p h s) (standing_of p h s) (moved_by (deed p (Order s n c) (world p h)) (drawn p h + 1) (standing_of p h s)) (steps_of h s) (events_of h s) refl sp
spent_event p (Step s words) h lawful legal o sp =
    let f = fits p h legal s in
    let w = open_of_left (plan_of p s).actions (place_of h) (known p h s) (standing_of p h s) f o.rule_4 in
    let all = f.its_left w.0 in
    let some = w.1 in
    spent_stepped (plan_of p s).actions (plan_of p s).areas.ring (known p h s) (known_after p (Step s words) (world p h) (known p h s)) (standing_of p h s) (moved_by (deed_asked p (asked_by p s words (world p h))) (drawn p h + 1) (standing_of p h s)) (steps_of h s) (events_of h s)
    (asked_open p (asked_by p s words (world p h)) (drawn p h + 1) (standing_of p h s)) refl refl (omega (arith, all, some)) (step_falls p h s words lawful legal o some) sp
spent_event p (Finish s n) h lawful legal o sp = spent_finished (plan_of p s).actions (plan_of p s).areas.ring (known p h s) (standing_of p h s) (moved_by (deed p (Finish s n) (world p h)) (drawn p h + 1) (standing_of p h s)) (steps_of h s) (events_of h s) (let least = lawful.ring_least in omega arith) refl sp
spent_event p (Lost s why words) h lawful legal o sp = spent_gone (plan_of p s).actions (plan_of p s).areas.ring (known p h s) (standing_of p h s) (moved_by (deed p (Lost s why words) (world p h)) (drawn p h + 1) (standing_of p h s)) (steps_of h s) (events_of h s) (lost_open p h s why words (fits p h legal s) o) refl sp
spent_event p (Close s) h lawful legal o sp = spent_gone (plan_of p s).actions (plan_of p s).areas.ring (known p h s) (standing_of p h s) (moved_by (deed p (Close s) (world p h)) (drawn p h + 1) (standing_of p h s)) (steps_of h s) (events_of h s) o.rule_12.still_open.stays (and_right (not (standing_of p h s).lost) false refl) sp

-- the stream of an event is one of the script
pub obeys_known : (p : PlansData) (e : Event) (h : List Event) → IsLegal p h → Obeys p h e → IsKnown (length p.plans) (stream_in e)
obeys_known p (Order s n c) h legal o = o.rule_1.known
obeys_known p (Step s words) h legal o = known_of_left p h s legal o.rule_4
obeys_known p (Finish s n) h legal o = known_of_left p h s legal (first_some (first_order (left_of p h s)) n o.rule_4)
obeys_known p (Lost s why words) h legal o = by why o
  where
    by : (why : Why) → Obeys p h (Lost s why words) → IsKnown (length p.plans) s
    by (Error error) o = known_of_left p h s legal o.rule_4
    by Memory o = o.rule_11.0.known
obeys_known p (Close s) h legal o = o.rule_12.still_open.known

spent_then : (p : PlansData) (e : Event) (h : List Event) (t : ℕ) → IsLawfulAreas (plan_of p t).areas → IsLegal p h → Obeys p h e → SpentAt p h t → SpentAt p (e ∷ h) t
spent_then p e h t lawful legal o sp = by (eqb (stream_in e) t) refl
  where
    own : IsLawfulAreas (plan_of p (stream_in e)).areas → SpentAt p h (stream_in e) → SpentAt p (e ∷ h) (stream_in e)
    own lawful sp =
        let s = stream_in e in
        let actions = (plan_of p s).actions in
        let ring = (plan_of p s).areas.ring in
        let now = spent_event p e h lawful legal o sp in
        subst (λ (b : Bool). Spent actions ring (known p (e ∷ h) s) (standing_of p (e ∷ h) s) (cond b (with_step e (steps_of h s)) (steps_of h s)) (cond b (events_of h s + 1) (events_of h s))) (sym (eq-eqb s s refl))
        (subst (λ (k : Known). Spent actions ring k (standing_of p (e ∷ h) s) (with_step e (steps_of h s)) (events_of h s + 1)) (sym (known_own p e h))
        (subst (λ (x : Standing). Spent actions ring (known_after p e (world p h) (known p h s)) x (with_step e (steps_of h s)) (events_of h s + 1)) (sym (standing_own p e h)) now))

    by : (b : Bool) → eqb (stream_in e) t ≡ b → SpentAt p (e ∷ h) t
    by true q =
        let same = eqb-true (stream_in e) t q in
        subst (λ t. SpentAt p (e ∷ h) t) same (own (subst (λ t. IsLawfulAreas (plan_of p t).areas) (sym same) lawful) (subst (λ t. SpentAt p h t) (sym same) sp))
    by false q =
        let actions = (plan_of p t).actions in
        let ring = (plan_of p t).areas.ring in
        subst (λ (b : Bool). Spent actions ring (known p (e ∷ h) t) (standing_of p (e ∷ h) t) (cond b (with_step e (steps_of h t)) (steps_of h t)) (cond b (events_of h t + 1) (events_of h t))) (sym q)
        (subst (λ (k : Known). Spent actions ring k (standing_of p (e ∷ h) t) (steps_of h t) (events_of h t)) (sym (known_other p e h t q))
        (subst (λ (x : Standing). Spent actions ring (known p h t) x (steps_of h t) (events_of h t)) (sym (standing_other p e h t q)) sp))

spent : (p : PlansData) (h : List Event) (t : ℕ) → IsLawfulAreas (plan_of p t).areas → IsLegal p h → SpentAt p h t
spent p [] t lawful legal =
    let ring = (plan_of p t).areas.ring in
    let actions = (plan_of p t).actions in
    let pos : 0 < ring = let least = lawful.ring_least in omega arith in
    let most = gap_most ring (0 % ring) (put_at actions 0) (mod_below 0 ring pos) in
    subst (λ (w : World). Spent actions ring (w.streams t) (standing_of p [] t) 0 0) (sym (world_none p))
    (subst (λ (g : List sync.SyncEvent). Spent actions ring (first_world.streams t) (sync.standing g t) 0 0) (sym (sync_none p))
    record { stepped = omega (arith, most); inside = omega arith; counted = omega arith })
spent p (e ∷ h) t lawful legal = spent_then p e h t lawful legal.1 legal.0 (spent p h t lawful legal.1)

-- no stream has more events
pub few_events : (p : PlansData) (h : List Event) (t : ℕ) → IsLawfulAreas (plan_of p t).areas → IsLegal p h → events_of h t ≤ most_of (plan_of p t)
few_events p h t lawful legal =
    let sp = spent p h t lawful legal in
    let f = fits p h legal t in
    let k = known p h t in
    let count = flushes (plan_of p t).actions in
    let ring = (plan_of p t).areas.ring in
    let a = sp.counted in
    let b = sp.inside in
    let fewer = f.fewer in
    let few : k.ordered ≤ count = f.few in
    let most : ring * k.ordered ≤ ring * count = mul-le-mul_left ring few in
    let end = end_most (is_open (standing_of p h t)) in
    let sum : count * (ring + 2) ≡ ring * count + count + count = omega arith in
    omega (arith, a, b, fewer, few, most, end, sum)
  where
    end_most : (b : Bool) → cond b 0 1 ≤ 1
    end_most true = omega arith
    end_most false = omega arith
