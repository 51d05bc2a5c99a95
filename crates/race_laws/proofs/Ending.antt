-- A whole history leaves no work of a settled stream undone.
use Rattle.std.proofs.Common.{◌≡◌, ℕ, ◌+◌, ◌⊎◌, inl, inr, ⊎_elim, eqb, Bool, true, false, not, ◌&&◌, nat_le, cond, Some, List, [], ◌∷◌, ◌++◌, length, take, refl, sym, ap, subst, ◌∙◌, arith}
use Rattle.std.specs.Prelude.{slice_get}
use Rattle.std.specs.List.{All}
use Rattle.std.proofs.lemmas.Bool.{eqb-true, eq-eqb, leb-true}
use Rattle.std.proofs.lemmas.List.Elements.{All-head, All-tail}
use Rattle.gpu_plan.specs.declared.plan.Action.{Action}
use Rattle.gpu_plan.specs.declared.plan.Action.TheVariants as actions
use Rattle.gpu_plan.specs.Plans.{PlansData, plan_of}
use Rattle.gpu_plan.specs.Passes.{flushes, passes_if_there}
use Rattle.gpu_plan.proofs.Passing.{passes_below_bound}
use Rattle.stream_state.specs.declared.effect.Effect.{Effect}
use Rattle.stream_state.specs.declared.effect.Effect.TheVariants.{Nothing, Token, Release, Wait, WaitName, Pixels, Results}
use Rattle.sync_core.specs.Standing.{Standing, is_open, IsKnown, first_order}
use Rattle.sync_core.specs.Events as sync
use Rattle.gpu_journal.specs.declared.event.Event.{Event}
use Rattle.gpu_journal.specs.declared.event.Event.TheVariants.{Order, Step, Finish, Lost, Close}
use Rattle.gpu_journal.specs.declared.event.Why.TheVariants.{Error, Memory}
use Rattle.gpu_journal.specs.World.{Known, world, stream_in, asked_by, known}
use Rattle.gpu_journal.specs.Waits.{deed, deed_asked, standing_of, left_of, drawn}
use Rattle.gpu_journal.specs.Facts.{reach}
use Rattle.gpu_journal.specs.Legal.{Obeys, IsLegal}
use Rattle.gpu_journal.proofs.Worlds.{sync_none}
use Rattle.serial_laws.specs.Going.{is_memory_loss}
use Rattle.serial_laws.specs.Scripts.{AreLawfulPlans}
use Rattle.serial_laws.proofs.Others.{moved_by, standing_own, standing_other, known_own, known_other}
use Rattle.serial_laws.proofs.Fronts.{left_open, counts_within}
use Rattle.serial_laws.proofs.Spent.{obeys_known}
use Rattle.serial_laws.proofs.Passed.{lawful_of}
use Rattle.serial_laws.proofs.Fitting.{first_some}
use Rattle.serial_laws.proofs.Flushes.{close_is_last, flushes_before_close}
use Rattle.race_laws.specs.Works.{Work, Executed, Finished, Refused, work_of, with_work, works, finishes, IsFront}
use Rattle.race_laws.specs.Settled.{ClosesFinished}
use Rattle.race_laws.specs.Laws.{IsWhole, WorksAgree}
use Rattle.race_laws.proofs.Own.{finished_is}
use Rattle.race_laws.proofs.Next.{worked}
use Rattle.race_laws.proofs.Agreeing.{is_next, works_are_fronts}

-- ---- what an event finds and leaves of its stream

-- the stream of an event was open
pub was_open : (p : PlansData) (h : List Event) (e : Event) → IsLegal p h → Obeys p h e → is_open (standing_of p h (stream_in e)) ≡ true
was_open p h (Order s n c) legal o = o.rule_1.stays
was_open p h (Step s words) legal o = (left_open p h s legal o.rule_4).0
was_open p h (Finish s n) legal o = (left_open p h s legal (first_some (first_order (left_of p h s)) n o.rule_4)).0
was_open p h (Lost s (Error error) words) legal o = (left_open p h s legal o.rule_4).0
was_open p h (Lost s Memory words) legal o = o.rule_11.0.stays
was_open p h (Close s) legal o = o.rule_12.still_open.stays

-- an open stream is neither lost nor closed
pub open_parts : (x : Standing) → is_open x ≡ true → (x.lost ≡ false) × (x.closed ≡ false)
open_parts x = by x.lost x.closed
  where
    by : (a b : Bool) → (not a && not b) ≡ true → (a ≡ false) × (b ≡ false)
    by true b e = absurd (cc)
    by false true e = absurd (cc)
    by false false e = (refl, refl)

-- the event is a loss, or a close
abbrev pub IsLoss : Event → Type 0
IsLoss (Lost s why words) = Unit {0}
IsLoss _ = ⊥

abbrev pub IsClose : Event → Type 0
IsClose (Close s) = Unit {0}
IsClose _ = ⊥

pub asked_keeps : (p : PlansData) (effect : Effect) (n : ℕ) (x : Standing) → ((moved_by (deed_asked p effect) n x).lost ≡ x.lost) × ((moved_by (deed_asked p effect) n x).closed ≡ x.closed)
asked_keeps p (Release r) n x = (refl, refl)
asked_keeps p (Wait t r) n x = (refl, refl)
asked_keeps p (WaitName name r) n x = (refl, refl)
asked_keeps p Nothing n x = (refl, refl)
asked_keeps p (Token t) n x = (refl, refl)
asked_keeps p (Pixels op) n x = (refl, refl)
asked_keeps p (Results w) n x = (refl, refl)

-- only a loss loses its stream
lost_by : (p : PlansData) (e : Event) (h : List Event) (n : ℕ) (x : Standing) → x.lost ≡ false → (moved_by (deed p e (world p h)) n x).lost ≡ true → IsLoss e
lost_by p (Order s m c) h n x off on = absurd (cc)
lost_by p (Step s words) h n x off on = let same = (asked_keeps p (asked_by p s words (world p h)) n x).0 in absurd (cc)
lost_by p (Finish s m) h n x off on = absurd (cc)
lost_by p (Lost s why words) h n x off on = tt
lost_by p (Close s) h n x off on = absurd (cc)

-- and only a close closes it
closed_by : (p : PlansData) (e : Event) (h : List Event) (n : ℕ) (x : Standing) → x.closed ≡ false → (moved_by (deed p e (world p h)) n x).closed ≡ true → IsClose e
closed_by p (Order s m c) h n x off on = absurd (cc)
closed_by p (Step s words) h n x off on = let same = (asked_keeps p (asked_by p s words (world p h)) n x).1 in absurd (cc)
closed_by p (Finish s m) h n x off on = absurd (cc)
closed_by p (Lost s why words) h n x off on = absurd (cc)
closed_by p (Close s) h n x off on = tt

pub works_own : (e : Event) (h : List Event) → works (e ∷ h) (stream_in e) ≡ with_work (work_of e) (works h (stream_in e))
works_own e h = ap (λ (b : Bool). cond b (with_work (work_of e) (works h (stream_in e))) (works h (stream_in e))) (eq-eqb (stream_in e) (stream_in e) refl)

pub works_other : (e : Event) (h : List Event) (s : ℕ) → eqb (stream_in e) s ≡ false → works (e ∷ h) s ≡ works h s
works_other e h s off = ap (λ (b : Bool). cond b (with_work (work_of e) (works h s)) (works h s)) off

-- ---- how a stream stops

-- the last work found an error
abbrev pub IsRefused : List Work → Type 0
IsRefused [] = ⊥
IsRefused (Executed words ∷ ws) = ⊥
IsRefused (Finished ∷ ws) = ⊥
IsRefused (Refused error words ∷ ws) = Unit {0}

-- a lost stream found an error, where none was lost as out of memory
pub lost_refused : (p : PlansData) (h : List Event) (s : ℕ) → IsLegal p h → All (λ event. is_memory_loss event ≡ false) h → (standing_of p h s).lost ≡ true → IsRefused (works h s)
lost_refused p [] s legal kept lost = let none : (standing_of p [] s).lost ≡ false = ap (λ (g : List sync.SyncEvent). (sync.standing g s).lost) (sync_none p) in absurd (cc)
lost_refused p (e ∷ h) s legal kept lost = by (λ was. lost_refused p h s legal.1 (All-tail (λ event. is_memory_loss event ≡ false) e h kept) was) (eqb (stream_in e) s) refl
  where
    own : (e : Event) → IsLoss e → is_memory_loss e ≡ false → IsRefused (with_work (work_of e) (works h s))
    own (Order t n c) is none = absurd is
    own (Step t words) is none = absurd is
    own (Finish t n) is none = absurd is
    own (Lost t (Error error) words) is none = tt
    own (Lost t Memory words) is none = absurd (cc)
    own (Close t) is none = absurd is

    by : ((standing_of p h s).lost ≡ true → IsRefused (works h s)) → (b : Bool) → eqb (stream_in e) s ≡ b → IsRefused (works (e ∷ h) s)
    by rest true q =
        let same : stream_in e ≡ s = eqb-true (stream_in e) s q in
        let was = open_parts (standing_of p h (stream_in e)) (was_open p h e legal.1 legal.0) in
        let now = ap (λ (x : Standing). x.lost) (sym (standing_own p e h)) ∙ ap (λ (t : ℕ). (standing_of p (e ∷ h) t).lost) same ∙ lost in
        let loss = lost_by p e h (drawn p h + 1) (standing_of p h (stream_in e)) was.0 now in
        let works_are : works (e ∷ h) s ≡ with_work (work_of e) (works h s) = ap (λ (b : Bool). cond b (with_work (work_of e) (works h s)) (works h s)) q in
        subst IsRefused (sym works_are) (own e loss (All-head (λ event. is_memory_loss event ≡ false) e h kept))
    by rest false q =
        subst IsRefused (sym (works_other e h s q))
        (rest (ap (λ (x : Standing). x.lost) (sym (standing_other p e h s q)) ∙ lost))

-- and a stream that found an error is lost
pub refused_lost : (p : PlansData) (h : List Event) (s : ℕ) → IsRefused (works h s) → (standing_of p h s).lost ≡ true
refused_lost p [] s is = absurd is
refused_lost p (e ∷ h) s is = by (λ r. refused_lost p h s r) (eqb (stream_in e) s) refl
  where
    own : (e : Event) (x : Standing) (n : ℕ) → (IsRefused (works h s) → x.lost ≡ true) → IsRefused (with_work (work_of e) (works h s)) → (moved_by (deed p e (world p h)) n x).lost ≡ true
    own (Order t m c) x n rest is = rest is
    own (Step t words) x n rest is = absurd is
    own (Finish t m) x n rest is = absurd is
    own (Lost t why words) x n rest is = refl
    own (Close t) x n rest is = rest is

    by : (IsRefused (works h s) → (standing_of p h s).lost ≡ true) → (b : Bool) → eqb (stream_in e) s ≡ b → (standing_of p (e ∷ h) s).lost ≡ true
    by rest true q =
        let same : stream_in e ≡ s = eqb-true (stream_in e) s q in
        let works_are : works (e ∷ h) s ≡ with_work (work_of e) (works h s) = ap (λ (b : Bool). cond b (with_work (work_of e) (works h s)) (works h s)) q in
        let now = own e (standing_of p h (stream_in e)) (drawn p h + 1) (λ r. ap (λ (t : ℕ). (standing_of p h t).lost) same ∙ rest r) (subst IsRefused works_are is) in
        ap (λ (t : ℕ). (standing_of p (e ∷ h) t).lost) (sym same) ∙ ap (λ (x : Standing). x.lost) (standing_own p e h) ∙ now
    by rest false q = ap (λ (x : Standing). x.lost) (standing_other p e h s q) ∙ rest (subst IsRefused (works_other e h s q) is)

-- a client that comes to its Close behind a Finish has all its flushes finished
close_finished : (p : PlansData) (h : List Event) (s : ℕ) → AreLawfulPlans p → IsLegal p h → ClosesFinished (plan_of p s).actions → Obeys p h (Close s) → (known p h s).finished ≡ flushes (plan_of p s).actions
close_finished p h s lawful legal closes o =
    let list = (plan_of p s).actions in
    let k = known p h s in
    let c = reach p h s in
    let at : slice_get list c ≡ Some actions.Close = o.rule_12.reached in
    let f = closes c at in
    let passed : passes_if_there (flushes (take f.place list)) k.finished k.tokens (slice_get list f.place) ≡ true = passes_below_bound list f.place k.finished k.tokens f.before in
    let awaited : nat_le (flushes (take f.place list)) k.finished ≡ true = ap (passes_if_there (flushes (take f.place list)) k.finished k.tokens) (sym f.awaits) ∙ passed in
    let enough = leb-true (flushes (take f.place list)) k.finished awaited in
    let all = flushes_before_close list c at (close_is_last list c (lawful_of p s lawful o.rule_12.still_open.known).closes_last at) in
    let between = f.between in
    let within = counts_within p h s legal in
    let fewer = within.0 in
    let few = within.1 in
    omega (arith, enough, all, between, fewer, few)

pub closed_finished : (p : PlansData) (h : List Event) (s : ℕ) → AreLawfulPlans p → IsLegal p h → ClosesFinished (plan_of p s).actions → (standing_of p h s).closed ≡ true → (known p h s).finished ≡ flushes (plan_of p s).actions
closed_finished p [] s lawful legal closes closed = let none : (standing_of p [] s).closed ≡ false = ap (λ (g : List sync.SyncEvent). (sync.standing g s).closed) (sync_none p) in absurd (cc)
closed_finished p (e ∷ h) s lawful legal closes closed = by (λ was. closed_finished p h s lawful legal.1 closes was) (eqb (stream_in e) s) refl
  where
    own : (e : Event) → IsClose e → Obeys p h e → stream_in e ≡ s → (known p (e ∷ h) s).finished ≡ flushes (plan_of p s).actions
    own (Order t n c) is o same = absurd is
    own (Step t words) is o same = absurd is
    own (Finish t n) is o same = absurd is
    own (Lost t why words) is o same = absurd is
    own (Close t) is o same =
        subst (λ (t : ℕ). (known p (Close t ∷ h) s).finished ≡ flushes (plan_of p s).actions) (sym same)
        (ap (λ (k : Known). k.finished) (known_own p (Close s) h) ∙ close_finished p h s lawful legal.1 closes (subst (λ (t : ℕ). Obeys p h (Close t)) same o))

    by : ((standing_of p h s).closed ≡ true → (known p h s).finished ≡ flushes (plan_of p s).actions) → (b : Bool) → eqb (stream_in e) s ≡ b → (known p (e ∷ h) s).finished ≡ flushes (plan_of p s).actions
    by rest true q =
        let same : stream_in e ≡ s = eqb-true (stream_in e) s q in
        let was = open_parts (standing_of p h (stream_in e)) (was_open p h e legal.1 legal.0) in
        let now = ap (λ (x : Standing). x.closed) (sym (standing_own p e h)) ∙ ap (λ (t : ℕ). (standing_of p (e ∷ h) t).closed) same ∙ closed in
        own e (closed_by p e h (drawn p h + 1) (standing_of p h (stream_in e)) was.1 now) legal.0 same
    by rest false q =
        ap (λ (k : Known). k.finished) (known_other p e h s q)
        ∙ rest (ap (λ (x : Standing). x.closed) (sym (standing_other p e h s q)) ∙ closed)

-- nothing is left to do for a stream: its last work found an error, or all its flushes are finished
abbrev pub Stops : List Action → List Work → Type 0
Stops list ws = IsRefused ws ⊎ (finishes ws ≡ flushes list)

whole_stops : (p : PlansData) (h : List Event) (s : ℕ) → AreLawfulPlans p → IsWhole p h → ClosesFinished (plan_of p s).actions → IsKnown (length p.plans) s → Stops (plan_of p s).actions (works h s)
whole_stops p h s lawful whole closes isknown = by (standing_of p h s).lost refl (standing_of p h s).closed refl
  where
    count : (known p h s).finished ≡ flushes (plan_of p s).actions → Stops (plan_of p s).actions (works h s)
    count e = inr (sym (finished_is p h s) ∙ e)

    by : (a : Bool) → (standing_of p h s).lost ≡ a → (b : Bool) → (standing_of p h s).closed ≡ b → Stops (plan_of p s).actions (works h s)
    by true lost b closed = inl (lost_refused p h s whole.legal whole.kept lost)
    by false lost true closed = count (closed_finished p h s lawful whole.legal closes closed)
    by false lost false closed = count (whole.complete s record { known = isknown; stays = λ i. not (lost i) && not (closed i) }).finished

-- ---- no work comes after

-- the newest work of a stream, and the history before it
pub record Newest (p : PlansData) (h : List Event) (s : ℕ) (work : Work) (ws : List Work) : Type 0 where
  pub past : List Event
  pub event : Event
  pub legal : IsLegal p (event ∷ past)
  pub own : stream_in event ≡ s
  pub is : work_of event ≡ Some work
  pub before : works past s ≡ ws

pub newest : (p : PlansData) (h : List Event) (s : ℕ) (work : Work) (ws : List Work) → IsLegal p h → works h s ≡ work ∷ ws → Newest p h s work ws
newest p [] s work ws legal are = absurd (cc)
newest p (e ∷ h) s work ws legal are = ⊎_elim (skip (λ q. newest p h s work ws legal.1 q)) here (is_next e h s)
  where
    skip : (works h s ≡ work ∷ ws → Newest p h s work ws) → works (e ∷ h) s ≡ works h s → Newest p (e ∷ h) s work ws
    skip rest same =
        let n = rest (sym same ∙ are) in
        record { past = n.past; event = n.event; legal = n.legal; own = n.own; is = n.is; before = n.before }

    here : ((w : Work) × (stream_in e ≡ s) × (work_of e ≡ Some w) × (works (e ∷ h) s ≡ w ∷ works h s)) → Newest p (e ∷ h) s work ws
    here found =
        let both : found.0 ∷ works h s ≡ work ∷ ws = sym found.3 ∙ are in
        let first : found.0 ≡ work = cc in
        let rest : works h s ≡ ws = cc in
        record { past = h; event = e; legal = legal; own = found.1; is = found.2 ∙ ap Some first; before = rest }

-- where nothing is left to do, no history goes on
none_beyond : (p : PlansData) (g : List Event) (s : ℕ) (more ws : List Work) → IsLegal p g → more ++ ws ≡ works g s → Stops (plan_of p s).actions ws → more ≡ []
none_beyond p g s [] ws legal are stops = refl
none_beyond p g s (work ∷ more) ws legal are stops =
    let n = newest p g s work (more ++ ws) legal (sym are) in
    let rest = none_beyond p n.past s more ws n.legal.1 (sym n.before) stops in
    let past : works n.past s ≡ ws = n.before ∙ ap (λ (m : List Work). m ++ ws) rest in
    let some = (worked p n.past n.event s work n.legal.0 n.own n.is).some in
    let o = left_open p n.past s n.legal.1 some in
    let less = o.2 in
    let few = (counts_within p n.past s n.legal.1).1 in
    let kept = (open_parts (standing_of p n.past s) o.0).0 in
    ⊎_elim
    (λ refused. let lost = refused_lost p n.past s (subst IsRefused (sym past) refused) in absurd (cc))
    (λ all. let count = finished_is p n.past s ∙ ap finishes past ∙ all in absurd (omega (arith, less, few, count)))
    stops

-- a stream that did something is one of the script
works_known : (p : PlansData) (h : List Event) (s : ℕ) (work : Work) (ws : List Work) → IsLegal p h → works h s ≡ work ∷ ws → IsKnown (length p.plans) s
works_known p h s work ws legal are =
    let n = newest p h s work ws legal are in
    subst (IsKnown (length p.plans)) n.own (obeys_known p n.event n.past n.legal.1 n.legal.0)

-- where one history went on from where a whole one stands, it did nothing
front_whole : (p : PlansData) (h g : List Event) (s : ℕ) → AreLawfulPlans p → IsWhole p h → IsLegal p g → ClosesFinished (plan_of p s).actions → IsFront (works h s) (works g s) → works h s ≡ works g s
front_whole p h g s lawful whole legal closes f = by f.more f.whole
  where
    by : (more : List Work) → more ++ works h s ≡ works g s → works h s ≡ works g s
    by [] e = e
    by (work ∷ more) e =
        let stops = whole_stops p h s lawful whole closes (works_known p g s work (more ++ works h s) legal (sym e)) in
        let none = none_beyond p g s (work ∷ more) (works h s) legal e stops in
        absurd (cc)

pub works_agree : WorksAgree
works_agree p h g s lawful whole also settled =
    ⊎_elim
    (λ f. front_whole p g h s lawful also whole.legal settled.closed f)
    (λ f. sym (front_whole p h g s lawful whole also.legal settled.closed f))
    (works_are_fronts p h g s whole.legal also.legal settled.still)
