-- What an event leaves as it was, and what it makes of the phases of a round.
use Rattle.std.proofs.Common.{◌≡◌, ◌≢◌, ℕ, ◌+◌, ◌-◌, ◌≤◌, ◌<◌, ◌⊎◌, inl, inr, eqb, Bool, true, false, not, ◌&&◌, cond, List, ◌∷◌, length, take, refl, sym, ap, subst, ◌∙◌, arith}
use Rattle.std.proofs.lemmas.Bool.{ne_eqb, and_left, and_right, lt-ltb, eqb-true, and_from}
use Rattle.std.proofs.lemmas.Bool.Decides.{nat_tests}
use Rattle.std.specs.Prelude.{nat_lt, slice_get}
use Rattle.gpu_plan.specs.Plans.{PlansData, plan_of}
use Rattle.gpu_plan.specs.Passes.{flushes, bound}
use Rattle.sync_core.specs.Standing.{Standing, is_open}
use Rattle.gpu_journal.specs.declared.event.Event.{Event}
use Rattle.gpu_journal.specs.declared.event.Event.TheVariants.{Order, Step, Finish, Lost, Close}
use Rattle.gpu_journal.specs.World.{Known, world, stream_in, asked_by, known}
use Rattle.gpu_journal.specs.Waits.{deed, standing_of, drawn}
use Rattle.gpu_journal.specs.Facts.{reach}
use Rattle.gpu_journal.specs.Serial.{begins_round, count, stays, has_flush, is_close, is_at_close, order_event}
use Rattle.serial_laws.proofs.First.{nat_cases}
use Rattle.serial_laws.proofs.Others.{moved_by, standing_own, standing_other, known_own, known_other}
use Rattle.serial_laws.proofs.Spent.{asked_open}
use Rattle.serial_laws.proofs.Going.{close_ends}
use Rattle.serial_laws.proofs.Reaches.{reach_order, reach_close}
use Rattle.gpu_run.specs.Clients.{flushes_to}
use Rattle.gpu_run.specs.Rounds.{StandsStill, IsRising, HaveActed, HaveClosed, IsRunning}
use Rattle.gpu_run.proofs.Follows.{follows_order, follows_close}

-- ---- a stream that is open was open

module _ (p : PlansData) (h : List Event) where
  event_open : (e : Event) (n : ℕ) (x : Standing) → is_open (moved_by (deed p e (world p h)) n x) ≡ true → is_open x ≡ true
  event_open (Order s m c) n x o = o
  event_open (Step s words) n x o = sym (asked_open p (asked_by p s words (world p h)) n x) ∙ o
  event_open (Finish s m) n x o = o
  event_open (Lost s why words) n x o = absurd (cc)
  event_open (Close s) n x o = absurd (let off = and_right (not x.lost) false refl in cc)

  pub was_open : (e : Event) (t : ℕ) → stays p (e ∷ h) t ≡ true → stays p h t ≡ true
  was_open e t o = by (eqb (stream_in e) t) refl
    where
      own : stays p (e ∷ h) (stream_in e) ≡ true → stays p h (stream_in e) ≡ true
      own q = event_open e (drawn p h + 1) (standing_of p h (stream_in e)) (sym (ap is_open (standing_own p e h)) ∙ q)

      by : (b : Bool) → eqb (stream_in e) t ≡ b → stays p h t ≡ true
      by true q = subst (λ (s : ℕ). stays p h s ≡ true) (eqb-true (stream_in e) t q) (own (subst (λ (s : ℕ). stays p (e ∷ h) s ≡ true) (sym (eqb-true (stream_in e) t q)) o))
      by false q = sym (ap is_open (standing_other p e h t q)) ∙ o

-- ---- the counts of the rule

pub count_fresh : (p : PlansData) (e : Event) (h : List Event) (t : ℕ) → count p h t ≡ reach p h t → reach p (e ∷ h) t ≡ reach p h t → count p (e ∷ h) t ≡ reach p (e ∷ h) t
count_fresh p e h t f r = by (begins_round p (e ∷ h))
  where
    by : (b : Bool) → cond b (reach p (e ∷ h) t) (count p h t) ≡ reach p (e ∷ h) t
    by true = refl
    by false = f ∙ sym r

pub count_stays : (p : PlansData) (e : Event) (h : List Event) (t : ℕ) → begins_round p (e ∷ h) ≡ false → count p (e ∷ h) t ≡ count p h t
count_stays p e h t off = ap (λ (b : Bool). cond b (reach p (e ∷ h) t) (count p h t)) off

-- how far a client can be hangs on the events of its own stream alone
pub reach_other : (p : PlansData) (e : Event) (h : List Event) (t : ℕ) → eqb (stream_in e) t ≡ false → reach p (e ∷ h) t ≡ reach p h t
reach_other p e h t off = ap (λ (k : Known). bound (plan_of p t).actions k.finished k.tokens) (known_other p e h t off)

-- an event that brings its own stream's client no further brings none
reach_same : (p : PlansData) (e : Event) (h : List Event) (t : ℕ) → reach p (e ∷ h) (stream_in e) ≡ reach p h (stream_in e) → reach p (e ∷ h) t ≡ reach p h t
reach_same p e h t own = by (eqb (stream_in e) t) refl
  where
    by : (b : Bool) → eqb (stream_in e) t ≡ b → reach p (e ∷ h) t ≡ reach p h t
    by true q = subst (λ (s : ℕ). reach p (e ∷ h) s ≡ reach p h s) (eqb-true (stream_in e) t q) own
    by false q = reach_other p e h t q

pub reach_ordered : (p : PlansData) (h : List Event) (s t : ℕ) → reach p (order_event p h s ∷ h) t ≡ reach p h t
reach_ordered p h s t = reach_same p (order_event p h s) h t (reach_order p h s _ _)

pub reach_closed : (p : PlansData) (h : List Event) (s t : ℕ) → reach p (Close s ∷ h) t ≡ reach p h t
reach_closed p h s t = reach_same p (Close s) h t (reach_close p h s)

-- ---- a test that failed fails again

and_fails : (a b c d : Bool) → (a && b) ≡ false → (c ≡ true → a ≡ true) → d ≡ b → (c && d) ≡ false
and_fails a b false d e f g = refl
and_fails true b true d e f g = g ∙ e
and_fails false b true d e f g = absurd (let x : false ≡ true = f refl in cc)

pub flush_again : (p : PlansData) (e : Event) (h : List Event) (t : ℕ) → has_flush p h t ≡ false → (known p (e ∷ h) t).ordered ≡ (known p h t).ordered → count p (e ∷ h) t ≡ count p h t → has_flush p (e ∷ h) t ≡ false
flush_again p e h t f o k =
    and_fails (stays p h t) (nat_lt (known p h t).ordered (flushes (take (count p h t) (plan_of p t).actions)))
    (stays p (e ∷ h) t) (nat_lt (known p (e ∷ h) t).ordered (flushes (take (count p (e ∷ h) t) (plan_of p t).actions))) f
    (was_open p h e t)
    (λ i. nat_lt (o i) (flushes (take (k i) (plan_of p t).actions)))

pub close_again : (p : PlansData) (e : Event) (h : List Event) (t : ℕ) → is_at_close p h t ≡ false → count p (e ∷ h) t ≡ count p h t → is_at_close p (e ∷ h) t ≡ false
close_again p e h t f k =
    and_fails (stays p h t) (is_close (slice_get (plan_of p t).actions (count p h t)))
    (stays p (e ∷ h) t) (is_close (slice_get (plan_of p t).actions (count p (e ∷ h) t))) f
    (was_open p h e t)
    (ap (λ (n : ℕ). is_close (slice_get (plan_of p t).actions n)) k)

not_lt : (m n : ℕ) → m ≡ n → nat_lt m n ≡ false
not_lt m n h = grind (arith, nat_tests)

-- ---- an order by the rule

pub rising_order : (p : PlansData) (h : List Event) (done : ℕ → ℕ) (s : ℕ) → IsRising p h → HaveActed p h done (s - 1) → 0 < s → s ≤ length p.plans → stays p h s ≡ true → (known p h s).ordered < flushes_to (plan_of p s) (reach p h s)
    → IsRising p (order_event p h s ∷ h)
rising_order p h done s r a pos high open' some_flush = record {
  played = (
    follows_order p h s pos high (λ t x y. a.no_flush t x (omega arith))
        (and_from (stays p h s) (nat_lt (known p h s).ordered (flushes (take (count p h s) (plan_of p s).actions))) open'
        (ap (λ (k : ℕ). nat_lt (known p h s).ordered (flushes (take k (plan_of p s).actions))) (r.fresh s) ∙ lt-ltb (known p h s).ordered (flushes_to (plan_of p s) (reach p h s)) some_flush)),
    r.played,
  );
  fresh = λ t. count_fresh p (order_event p h s) h t (r.fresh t) (reach_ordered p h s t);
  chosen = refl;
}

ordered_other : (p : PlansData) (e : Event) (h : List Event) (t : ℕ) → stream_in e ≢ t → (known p (e ∷ h) t).ordered ≡ (known p h t).ordered
ordered_other p e h t differ = ap (λ (k : Known). k.ordered) (known_other p e h t (ne_eqb (stream_in e) t differ))

-- an event that leaves the reach of every client leaves the counts that are fresh
count_same : (p : PlansData) (e : Event) (h : List Event) (t : ℕ) → IsRising p h → reach p (e ∷ h) t ≡ reach p h t → count p (e ∷ h) t ≡ count p h t
count_same p e h t r same = count_fresh p e h t (r.fresh t) same ∙ same ∙ sym (r.fresh t)

-- it changes nothing for the streams before
pub acted_order : (p : PlansData) (h : List Event) (old new : ℕ → ℕ) (s : ℕ) → IsRising p h → HaveActed p h old (s - 1) → ((t : ℕ) → t ≢ s → new t ≡ old t) → HaveActed p (order_event p h s ∷ h) new (s - 1)
acted_order p h old new s r a same =
    let e = order_event p h s in
    record {
      no_flush = λ t x y. flush_again p e h t (a.no_flush t x y) (ordered_other p e h t (λ q. absurd (omega (arith, q, x, y)))) (count_same p e h t r (reach_ordered p h s t));
      there = λ t x y o. same t (omega arith) ∙ a.there t x y (was_open p h e t o) ∙ sym (reach_ordered p h s t);
    }

-- nor does an action without an event
pub acted_passed : (p : PlansData) (h : List Event) (old new : ℕ → ℕ) (s : ℕ) → HaveActed p h old (s - 1) → ((t : ℕ) → t ≢ s → new t ≡ old t) → HaveActed p h new (s - 1)
acted_passed p h old new s a same = record { no_flush = a.no_flush; there = λ t x y o. same t (omega arith) ∙ a.there t x y o }

-- ---- one client more

pub acted_more : (p : PlansData) (h : List Event) (done : ℕ → ℕ) (s : ℕ) → 0 < s → HaveActed p h done (s - 1) → has_flush p h s ≡ false → (stays p h s ≡ true → done s ≡ reach p h s) → HaveActed p h done s
acted_more p h done s pos a f k = record {
  no_flush = λ t x y. flush t x (nat_cases t s) y;
  there = λ t x y. at t x (nat_cases t s) y;
}
  where
    flush : (t : ℕ) → 0 < t → (t ≡ s) ⊎ (t ≢ s) → t ≤ s → has_flush p h t ≡ false
    flush t x (inl is) y = ap (has_flush p h) is ∙ f
    flush t x (inr n) y = a.no_flush t x (omega arith)

    at : (t : ℕ) → 0 < t → (t ≡ s) ⊎ (t ≢ s) → t ≤ s → stays p h t ≡ true → done t ≡ reach p h t
    at t x (inl is) y o = ap done is ∙ k (ap (stays p h) (sym is) ∙ o) ∙ ap (reach p h) (sym is)
    at t x (inr n) y o = a.there t x (omega arith) o

-- a client that can do no action more
pub still_acted : (p : PlansData) (h : List Event) (done : ℕ → ℕ) (s : ℕ) → IsRising p h → 0 < s → HaveActed p h done (s - 1) → StandsStill p h done s → HaveActed p h done s
still_acted p h done s r pos a still =
    acted_more p h done s pos a
    (and_right (stays p h s) (nat_lt (known p h s).ordered (flushes (take (count p h s) (plan_of p s).actions)))
    (ap (λ (m : ℕ). nat_lt (known p h s).ordered (flushes (take m (plan_of p s).actions))) (r.fresh s) ∙ not_lt (known p h s).ordered (flushes_to (plan_of p s) (reach p h s)) still.ordered))
    (λ _. still.there)

-- a client whose stream has ended
pub ended_acted : (p : PlansData) (h : List Event) (done : ℕ → ℕ) (s : ℕ) → 0 < s → HaveActed p h done (s - 1) → stays p h s ≡ false → HaveActed p h done s
ended_acted p h done s pos a off = acted_more p h done s pos a (and_left (stays p h s) (nat_lt (known p h s).ordered (flushes (take (count p h s) (plan_of p s).actions))) off) (λ o. absurd (cc))

-- before any client has acted
pub none_acted : (p : PlansData) (h : List Event) (done : ℕ → ℕ) → HaveActed p h done 0
none_acted p h done = record { no_flush = λ t x y. absurd (omega arith); there = λ t x y. absurd (omega arith) }

-- ---- a close by the rule

pub rising_close : (p : PlansData) (h : List Event) (done : ℕ → ℕ) (s : ℕ) → IsRising p h → HaveActed p h done (length p.plans) → HaveClosed p h (s - 1) → 0 < s → s ≤ length p.plans → is_at_close p h s ≡ true → IsRising p (Close s ∷ h)
rising_close p h done s r a c pos high at = record {
  played = (follows_close p h s pos high a.no_flush (λ t x y. c t x (omega arith)) at, r.played);
  fresh = λ t. count_fresh p (Close s) h t (r.fresh t) (reach_closed p h s t);
  chosen = refl;
}

ordered_closed : (p : PlansData) (h : List Event) (s t : ℕ) → (known p (Close s ∷ h) t).ordered ≡ (known p h t).ordered
ordered_closed p h s t = by (nat_cases s t)
  where
    by : (s ≡ t) ⊎ (s ≢ t) → (known p (Close s ∷ h) t).ordered ≡ (known p h t).ordered
    by (inl is) = subst (λ (u : ℕ). (known p (Close s ∷ h) u).ordered ≡ (known p h u).ordered) is (ap (λ (k : Known). k.ordered) (known_own p (Close s) h))
    by (inr differ) = ordered_other p (Close s) h t differ

pub acted_close : (p : PlansData) (h : List Event) (done : ℕ → ℕ) (s n : ℕ) → IsRising p h → HaveActed p h done n → HaveActed p (Close s ∷ h) done n
acted_close p h done s n r a = record {
  no_flush = λ t x y. flush_again p (Close s) h t (a.no_flush t x y) (ordered_closed p h s t) (count_same p (Close s) h t r (reach_closed p h s t));
  there = λ t x y o. a.there t x y (was_open p h (Close s) t o) ∙ sym (reach_closed p h s t);
}

pub closed_more : (p : PlansData) (h : List Event) (s : ℕ) → HaveClosed p h (s - 1) → is_at_close p h s ≡ false → HaveClosed p h s
closed_more p h s c f = λ t x y. by t x (nat_cases t s) y
  where
    by : (t : ℕ) → 0 < t → (t ≡ s) ⊎ (t ≢ s) → t ≤ s → is_at_close p h t ≡ false
    by t x (inl is) y = ap (is_at_close p h) is ∙ f
    by t x (inr n) y = c t x (omega arith)

-- a stream that has ended does not stand at its Close
pub ended_not_at_close : (p : PlansData) (h : List Event) (s : ℕ) → stays p h s ≡ false → is_at_close p h s ≡ false
ended_not_at_close p h s off = and_left (stays p h s) (is_close (slice_get (plan_of p s).actions (count p h s))) off

pub closed_close : (p : PlansData) (h : List Event) (s : ℕ) → IsRising p h → HaveClosed p h (s - 1) → HaveClosed p (Close s ∷ h) s
closed_close p h s r c =
    closed_more p (Close s ∷ h) s (λ t x y. close_again p (Close s) h t (c t x y) (count_same p (Close s) h t r (reach_closed p h s t)))
    (ended_not_at_close p (Close s ∷ h) s (close_ends p h s))

-- a client that has acted stands at its Close where its next action is one
pub at_close_is : (p : PlansData) (h : List Event) (done : ℕ → ℕ) (s : ℕ) (b : Bool) → IsRising p h → HaveActed p h done (length p.plans) → 0 < s → s ≤ length p.plans → stays p h s ≡ true → is_close (slice_get (plan_of p s).actions (done s)) ≡ b → is_at_close p h s ≡ b
at_close_is p h done s b r a pos high o e =
    ap (λ (x : Bool). x && is_close (slice_get (plan_of p s).actions (count p h s))) o
    ∙ ap (λ (n : ℕ). is_close (slice_get (plan_of p s).actions n)) (r.fresh s ∙ sym (a.there s pos high o)) ∙ e

pub starts_running : (p : PlansData) (h : List Event) (done : ℕ → ℕ) → IsRising p h → HaveActed p h done (length p.plans) → HaveClosed p h (length p.plans) → IsRunning p h done
starts_running p h done r a c = record { no_flush = a.no_flush; no_close = c; there = λ t x y o. a.there t x y o ∙ sym (r.fresh t) }
