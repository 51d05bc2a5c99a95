-- What all clients have read, over the events and the actions of a round.
use Rattle.std.proofs.Common.{◌≡◌, ◌≢◌, ℕ, zero, suc, ◌-◌, ◌≤◌, ◌⊎◌, inl, inr, eqb, Bool, true, false, cond, Option, None, Some, List, [], ◌∷◌, ◌++◌, length, map, drop, get_or, set, refl, sym, ap, subst, ◌∙◌, arith}
use Rattle.std.proofs.lemmas.Bool.{ne_eqb}
use Rattle.std.proofs.lemmas.List.{get_or-map}
use Rattle.std.specs.Prelude.{slice_get}
use Rattle.gpu_plan.specs.Plans.{PlansData, PlanData, no_plan, plan_of, RiseFrom}
use Rattle.stream_state.specs.State.{State, result_of}
use Rattle.sync_core.specs.Standing.{IsKnown}
use Rattle.gpu_journal.specs.declared.event.Event.{Event}
use Rattle.gpu_journal.specs.declared.event.Event.TheVariants.{Order, Step, Finish, Lost, Close}
use Rattle.gpu_journal.specs.World.{stream_in, state_of}
use Rattle.gpu_journal.specs.Waits.{standing_of}
use Rattle.gpu_journal.specs.Written.{written, result_at}
use Rattle.gpu_journal.specs.Serial.{count, order_event, run_event}
use Rattle.gpu_journal.proofs.Folding.{state_keeps_results}
use Rattle.serial_laws.proofs.First.{nat_cases}
use Rattle.gpu_house.proofs.Writings.{written_other, written_none}
use Rattle.gpu_run.specs.Clients.{RunClientData, fresh_run_client, no_client, client_of_stream, done_at}
use Rattle.gpu_run.specs.Dumps.{dump_read, dumps_read}
use Rattle.gpu_run.specs.Reading.{dump_now, read_with, read_left, HasRead, HaveRead}
use Rattle.gpu_run.specs.Rounds.{GoesFurther, IsRising}
use Rattle.gpu_run.proofs.Finding.{read_on, read_further, read_all, nothing_read}
use Rattle.gpu_run.proofs.Rows.{client_there, client_same, client_other}
use Rattle.gpu_run.proofs.Turns.{IsRun, run_is_run}

-- ---- one event more

found_on : (p : PlansData) (e : Event) (h g : List Event) (clients : List RunClientData) → g ≡ e ∷ h → ((t : ℕ) → (written p (e ∷ h) t ≡ written p h t) ⊎ (count p h t ≤ done_at clients t)) → HaveRead p h clients → HaveRead p g clients
found_on p e h g clients is quiet old = subst (λ (x : List Event). HaveRead p x clients) (sym is) (λ t k. read_on p e h t (done_at clients t) (client_of_stream clients t).read (quiet t) (old t k))

-- an order
pub found_ordered : (p : PlansData) (h g : List Event) (s : ℕ) (clients : List RunClientData) → g ≡ order_event p h s ∷ h → HaveRead p h clients → HaveRead p g clients
found_ordered p h g s clients is = found_on p (order_event p h s) h g clients is (λ t. inl (written_none p (order_event p h s) h t refl))

-- a close
pub found_closed : (p : PlansData) (h g : List Event) (s : ℕ) (clients : List RunClientData) → g ≡ Close s ∷ h → HaveRead p h clients → HaveRead p g clients
found_closed p h g s clients is = found_on p (Close s) h g clients is (λ t. inl (written_none p (Close s) h t refl))

is_in : (e : Event) (s : ℕ) → IsRun e s → stream_in e ≡ s
is_in (Order t n c) s r = absurd r
is_in (Step t words) s r = r
is_in (Finish t n) s r = r
is_in (Lost t why words) s r = r
is_in (Close t) s r = absurd r

-- what a run does, whose client has done all that it could
pub found_after : (p : PlansData) (h g : List Event) (clients : List RunClientData) (s : ℕ) → g ≡ run_event p h s ∷ h → done_at clients s ≡ count p h s → HaveRead p h clients → HaveRead p g clients
found_after p h g clients s is there = found_on p (run_event p h s) h g clients is (λ t. by t (nat_cases t s))
  where
    by : (t : ℕ) → (t ≡ s) ⊎ (t ≢ s) → (written p (run_event p h s ∷ h) t ≡ written p h t) ⊎ (count p h t ≤ done_at clients t)
    by t (inl same) = inr (subst (λ (u : ℕ). count p h u ≤ done_at clients u) (sym same) (omega (arith, there)))
    by t (inr off) = inl (written_other p (run_event p h s) h t (ne_eqb (stream_in (run_event p h s)) t (λ q. off (sym q ∙ is_in (run_event p h s) s (run_is_run p h s)))))

-- ---- one action more

-- what the state of a stream tells of its results is what is written
pub told_with : (p : PlansData) (h : List Event) (s place : ℕ) (next : Option (ℕ × ℕ)) → read_with next place (result_of (state_of p h s)) ≡ read_with next place (result_at p h s)
told_with p h s place None = refl
told_with p h s place (Some dump) = ap (λ (v : ℕ). cond (eqb dump.0 place) ((dump.0, dump.1, v) ∷ []) []) (state_keeps_results p h s dump.1)

pub told_all : (p : PlansData) (h : List Event) (s : ℕ) (dumps : List (ℕ × ℕ)) → map (dump_now (result_of (state_of p h s))) dumps ≡ map (dump_now (result_at p h s)) dumps
told_all p h s [] = refl
told_all p h s (dump ∷ dumps) =
    let one : dump_now (result_of (state_of p h s)) dump ≡ dump_now (result_at p h s) dump = ap (λ (v : ℕ). (dump.0, dump.1, v)) (state_keeps_results p h s dump.1) in
    ap (λ (x : ℕ × ℕ × ℕ). x ∷ map (dump_now (result_of (state_of p h s))) dumps) one ∙ ap (λ (l : List (ℕ × ℕ × ℕ)). dump_now (result_at p h s) dump ∷ l) (told_all p h s dumps)

-- what the code reads at an action, of the client of stream s
pub read_is : (p : PlansData) (h : List Event) (clients : List RunClientData) (s : ℕ) (client : RunClientData) (plan : PlanData) (state : State) (read new : List (ℕ × ℕ × ℕ)) → client ≡ client_of_stream clients s → plan_of p s ≡ plan → state ≡ state_of p h s → new ≡ read → read ≡ client.read ++ read_with (slice_get plan.dumps (length client.read)) client.words.done (result_of state)
    → new ≡ (client_of_stream clients s).read ++ read_with (slice_get (plan_of p s).dumps (length (client_of_stream clients s).read)) (done_at clients s) (result_at p h s)
read_is p h clients s client plan state read new here its_plan told same is =
    same ∙ is
    ∙ ap (λ (x : State). client.read ++ read_with (slice_get plan.dumps (length client.read)) client.words.done (result_of x)) told
    ∙ ap (λ (l : List (ℕ × ℕ × ℕ)). client.read ++ l) (told_with p h s client.words.done (slice_get plan.dumps (length client.read)))
    ∙ ap (λ (c : RunClientData). c.read ++ read_with (slice_get plan.dumps (length c.read)) c.words.done (result_at p h s)) here
    ∙ ap (λ (q : PlanData). (client_of_stream clients s).read ++ read_with (slice_get q.dumps (length (client_of_stream clients s).read)) (done_at clients s) (result_at p h s)) (sym its_plan)

-- the client of stream s goes further, and reads the next dump where it is of its action
pub found_further : (p : PlansData) (h : List Event) (clients : List RunClientData) (s : ℕ) (now : RunClientData) → IsKnown (length clients) s → IsRising p h → GoesFurther p h (done_at clients) (done_at (set clients (s - 1) now)) s
    → now.read ≡ (client_of_stream clients s).read ++ read_with (slice_get (plan_of p s).dumps (length (client_of_stream clients s).read)) (done_at clients s) (result_at p h s) → HaveRead p h clients → HaveRead p h (set clients (s - 1) now)
found_further p h clients s now known rising on is old = λ t k. by t k (nat_cases t s)
  where
    after : List RunClientData
    after = set clients (s - 1) now

    own : IsKnown (length p.plans) s → HasRead p h s (done_at after s) (client_of_stream after s).read
    own k =
        let below = on.below in
        let fresh = rising.fresh s in
        let read : (client_of_stream after s).read ≡ now.read = ap (λ (c : RunClientData). c.read) (client_same clients s now known) in
        subst (λ (d : ℕ). HasRead p h s d (client_of_stream after s).read) (sym on.further)
        (read_further p h s (done_at clients s) (client_of_stream clients s).read (client_of_stream after s).read (omega (arith, below, fresh)) (read ∙ is) (old s k))

    by : (t : ℕ) → IsKnown (length p.plans) t → (t ≡ s) ⊎ (t ≢ s) → HasRead p h t (done_at after t) (client_of_stream after t).read
    by t k (inl same) = subst (λ (u : ℕ). HasRead p h u (done_at after u) (client_of_stream after u).read) (sym same) (own (subst (IsKnown (length p.plans)) same k))
    by t k (inr off) = subst (λ (c : RunClientData). HasRead p h t c.words.done c.read) (sym (client_other clients s t now known.0 off)) (old t k)

-- so it is for the client that the code takes from its row
pub found_acted : (p : PlansData) (h : List Event) (clients : List RunClientData) (s : ℕ) (other : RunClientData) (plan : PlanData) (state : State) (read : List (ℕ × ℕ × ℕ)) (now : RunClientData) → IsKnown (length clients) s → plan_of p s ≡ plan → state ≡ state_of p h s
    → read ≡ (get_or clients (s - 1) other).read ++ read_with (slice_get plan.dumps (length (get_or clients (s - 1) other).read)) (get_or clients (s - 1) other).words.done (result_of state) → now.read ≡ read → IsRising p h → GoesFurther p h (done_at clients) (done_at (set clients (s - 1) now)) s
    → HaveRead p h clients → HaveRead p h (set clients (s - 1) now)
found_acted p h clients s other plan state read now known its_plan told is same rising on = found_further p h clients s now known rising on (read_is p h clients s (get_or clients (s - 1) other) plan state read now.read (client_there clients s other known) its_plan told same is)

-- ---- the end

-- what the client of a stream has read and would read now is all that it reads
pub found_all : (p : PlansData) (h : List Event) (s done : ℕ) (plan : PlanData) (state : State) (read dumps : List (ℕ × ℕ × ℕ)) → plan_of p s ≡ plan → RiseFrom 0 plan.dumps → state ≡ state_of p h s → (standing_of p h s).lost ≡ false → dumps ≡ read ++ read_left plan.dumps read (result_of state) → HasRead p h s done read
    → dumps ≡ dumps_read p h s
found_all p h s done plan state read dumps its_plan rises told kept is old =
    is
    ∙ ap (λ (q : PlanData). read ++ read_left q.dumps read (result_of state)) (sym its_plan)
    ∙ ap (λ (x : State). read ++ read_left (plan_of p s).dumps read (result_of x)) told
    ∙ ap (λ (l : List (ℕ × ℕ × ℕ)). read ++ l) (told_all p h s (drop (length read) (plan_of p s).dumps))
    ∙ read_all p h s done read (subst (λ (q : PlanData). RiseFrom 0 q.dumps) (sym its_plan) rises) old
    ∙ ap (λ (b : Bool). map (dump_read p h s) (cond b [] (plan_of p s).dumps)) (sym kept)

-- a lost stream has no dump
pub found_none : (p : PlansData) (h : List Event) (s : ℕ) (dumps : List (ℕ × ℕ × ℕ)) → (standing_of p h s).lost ≡ true → dumps ≡ [] → dumps ≡ dumps_read p h s
found_none p h s dumps lost is = is ∙ ap (λ (b : Bool). map (dump_read p h s) (cond b [] (plan_of p s).dumps)) (sym lost)

-- ---- before any event

-- a client that has done nothing has read what it should
fresh_found : (p : PlansData) (s : ℕ) (client : RunClientData) → client ≡ fresh_run_client (plan_of p s) → HasRead p [] s client.words.done client.read
fresh_found p s client is = subst (λ (c : RunClientData). HasRead p [] s c.words.done c.read) (sym is) (nothing_read p s)

pub found_fresh : (p : PlansData) (h : List Event) (clients : List RunClientData) → h ≡ [] → clients ≡ map fresh_run_client p.plans → HaveRead p h clients
found_fresh p h clients none begun = subst (λ (x : List Event). HaveRead p x clients) (sym none) by
  where
    by : HaveRead p [] clients
    by zero known = absurd (let low = known.0 in omega (arith, low))
    by (suc k) known =
        let high = known.1 in
        fresh_found p (suc k) (client_of_stream clients (suc k)) (ap (λ (row : List RunClientData). client_of_stream row (suc k)) begun ∙ get_or-map fresh_run_client p.plans k no_plan no_client (omega (arith, high)))
