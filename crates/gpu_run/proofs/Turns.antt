-- What the events of runs make of a round, and when it ends.
use Rattle.std.proofs.Common.{◌≡◌, ◌≢◌, ℕ, ◌-◌, ◌≤◌, ◌<◌, ◌⊎◌, inl, inr, Bool, true, false, not, cond, Option, Some, None, Result, Ok, Err, List, [], ◌∷◌, length, refl, sym, ap, subst, ◌∙◌, arith}
use Rattle.std.proofs.lemmas.Bool.{ne_eqb}
use Rattle.std.specs.Prelude.{is_some}
use Rattle.gpu_cmd.specs.declared.command.Command.{Command}
use Rattle.gpu_cmd.specs.declared.error.CmdError.{CmdError}
use Rattle.gpu_plan.specs.Plans.{PlansData}
use Rattle.gpu_journal.specs.declared.event.Event.{Event}
use Rattle.gpu_journal.specs.declared.event.Event.TheVariants.{Order, Step, Finish, Lost, Close}
use Rattle.gpu_journal.specs.World.{Known, World, world, stream_in, known, known_after}
use Rattle.gpu_journal.specs.Serial.{first, is_runnable, begins_round, comes_before, choice, runner, judged_event, next_words, run_event, next, IsPlayed, most_events}
use Rattle.serial_laws.specs.Scripts.{AreLawfulPlans}
use Rattle.serial_laws.proofs.First.{first_none, first_fails, best_passes, best_fails, nat_cases}
use Rattle.serial_laws.proofs.Others.{known_own, known_other}
use Rattle.serial_laws.proofs.Choices.{run_is}
use Rattle.serial_laws.proofs.Counts.{count_begun}
use Rattle.serial_laws.proofs.Obeying.{played_is_legal}
use Rattle.serial_laws.proofs.Bounded.{legal_is_bounded}
use Rattle.gpu_run.specs.Rounds.{IsRising, IsRunning, goes_on}
use Rattle.gpu_run.proofs.Follows.{IsSettled, follows_run, follows_none}
use Rattle.gpu_run.proofs.Phases.{was_open, count_stays, flush_again, close_again}

-- ---- an event of a run

abbrev pub IsRun : Event → ℕ → Type 0
IsRun (Order t n c) s = ⊥
IsRun (Step t words) s = t ≡ s
IsRun (Finish t n) s = t ≡ s
IsRun (Lost t why words) s = t ≡ s
IsRun (Close t) s = ⊥

pub run_is_run : (p : PlansData) (h : List Event) (s : ℕ) → IsRun (run_event p h s) s
run_is_run p h s = run_is p h s (λ e. IsRun e s) (λ _. refl) (λ _ answer _. judged answer)
  where
    judged : (answer : Result Command CmdError) → IsRun (judged_event s (next_words p h s) answer) s
    judged (Ok command) = refl
    judged (Err error) = refl

ordered_own : (p : PlansData) (e : Event) (s : ℕ) (w : World) (k : Known) → IsRun e s → (known_after p e w k).ordered ≡ k.ordered
ordered_own p (Order t n c) s w k r = absurd r
ordered_own p (Step t words) s w k r = refl
ordered_own p (Finish t n) s w k r = refl
ordered_own p (Lost t why words) s w k r = refl
ordered_own p (Close t) s w k r = absurd r

-- it orders nothing
pub run_ordered : (p : PlansData) (e : Event) (s : ℕ) (h : List Event) (t : ℕ) → IsRun e s → (known p (e ∷ h) t).ordered ≡ (known p h t).ordered
run_ordered p e s h t r = by (nat_cases (stream_in e) t)
  where
    own : (known p (e ∷ h) (stream_in e)).ordered ≡ (known p h (stream_in e)).ordered
    own = ap (λ (k : Known). k.ordered) (known_own p e h) ∙ ordered_own p e s (world p h) (known p h (stream_in e)) r

    by : (stream_in e ≡ t) ⊎ (stream_in e ≢ t) → (known p (e ∷ h) t).ordered ≡ (known p h t).ordered
    by (inl is) = subst (λ (u : ℕ). (known p (e ∷ h) u).ordered ≡ (known p h u).ordered) is own
    by (inr differ) = ap (λ (k : Known). k.ordered) (known_other p e h t (ne_eqb (stream_in e) t differ))

-- and where no round begins after it, streams go on running
pub running_again : (p : PlansData) (e : Event) (h : List Event) (done : ℕ → ℕ) (s : ℕ) → IsRun e s → IsRunning p h done → begins_round p (e ∷ h) ≡ false → IsRunning p (e ∷ h) done
running_again p e h done s is r free = record {
  no_flush = λ t x y. flush_again p e h t (r.no_flush t x y) (run_ordered p e s h t is) (count_stays p e h t free);
  no_close = λ t x y. close_again p e h t (r.no_close t x y) (count_stays p e h t free);
  there = λ t x y o. r.there t x y (was_open p h e t o) ∙ sym (count_stays p e h t free);
}

-- ---- who runs next

no_round : (p : PlansData) (h : List Event) (o : Option ℕ) → first (is_runnable p h) (length p.plans) ≡ o → begins_round p h ≡ true → first (is_runnable p h) (length p.plans) ≡ None
no_round p h None e b = e
no_round p h (Some t) e b = absurd (let off : begins_round p h ≡ false = ap (λ (o : Option ℕ). not (is_some o)) e in cc)

-- where a stream can run no round begins
pub not_begun : (p : PlansData) (h : List Event) (s : ℕ) → 0 < s → s ≤ length p.plans → is_runnable p h s ≡ true → begins_round p h ≡ false
not_begun p h s pos high e = by (begins_round p h) refl
  where
    by : (b : Bool) → begins_round p h ≡ b → begins_round p h ≡ false
    by true q = absurd (let off = first_fails (is_runnable p h) (length p.plans) (no_round p h (first (is_runnable p h) (length p.plans)) refl q) s pos high in cc)
    by false q = q

-- where the stream goes on, it runs next
pub more_is : (p : PlansData) (e : Event) (h : List Event) (s : ℕ) → IsRun e s → goes_on p (e ∷ h) s ≡ true → (runner p (e ∷ h) ≡ Some s) × (is_runnable p (e ∷ h) s ≡ true)
more_is p (Order t n c) h s r g = absurd r
more_is p (Step t words) h s r g = (ap (λ (b : Bool). cond b (Some t) (choice p (Step t words ∷ h))) (ap (is_runnable p (Step t words ∷ h)) r ∙ g) ∙ ap Some r, g)
more_is p (Finish t n) h s r g = absurd (cc)
more_is p (Lost t why words) h s r g = absurd (cc)
more_is p (Close t) h s r g = absurd r

-- where it does not, there is a new choice
pub stop_is : (p : PlansData) (e : Event) (h : List Event) (s : ℕ) → IsRun e s → goes_on p (e ∷ h) s ≡ false → runner p (e ∷ h) ≡ choice p (e ∷ h)
stop_is p (Order t n c) h s r g = refl
stop_is p (Step t words) h s r g = ap (λ (b : Bool). cond b (Some t) (choice p (Step t words ∷ h))) (ap (is_runnable p (Step t words ∷ h)) r ∙ g)
stop_is p (Finish t n) h s r g = refl
stop_is p (Lost t why words) h s r g = refl
stop_is p (Close t) h s r g = refl

pub settled : (p : PlansData) (h : List Event) (done : ℕ → ℕ) → IsRunning p h done → IsSettled p h
settled p h done r = record { no_flush = r.no_flush; no_close = r.no_close }

-- a turn of a run of stream s
pub record Ran (p : PlansData) (g : List Event) (done : ℕ → ℕ) (s : ℕ) : Type 0 where
  pub played : IsPlayed p g
  pub going : goes_on p g s ≡ true → IsRunning p g done × (runner p g ≡ Some s) × (is_runnable p g s ≡ true)
  pub stopped : goes_on p g s ≡ false → (begins_round p g ≡ false → IsRunning p g done) × (runner p g ≡ choice p g)

pub run_turn : (p : PlansData) (h : List Event) (done : ℕ → ℕ) (s : ℕ) → IsPlayed p h → IsRunning p h done → 0 < s → s ≤ length p.plans → runner p h ≡ Some s → Ran p (run_event p h s ∷ h) done s
run_turn p h done s played r pos high is =
    let e = run_event p h s in
    let run = run_is_run p h s in
    record {
      played = (follows_run p h s (settled p h done r) is, played);
      going = λ g. let m = more_is p e h s run g in (running_again p e h done s run r (not_begun p (e ∷ h) s pos high m.1), m.0, m.1);
      stopped = λ g. (running_again p e h done s run r, stop_is p e h s run g);
    }

-- ---- the end of a phase of runs

-- the scheduler's choice can run
pub chosen_is : (p : PlansData) (h : List Event) (s : ℕ) → choice p h ≡ Some s → (is_runnable p h s ≡ true) × (0 < s) × (s ≤ length p.plans) × (begins_round p h ≡ false)
chosen_is p h s e = let r = best_passes (is_runnable p h) (comes_before p h) (length p.plans) s e in (r.0, r.1, r.2, not_begun p h s r.1 r.2 r.0)

-- where it chooses none, a round begins
pub none_begins : (p : PlansData) (h : List Event) → choice p h ≡ None → begins_round p h ≡ true
none_begins p h e = ap (λ (o : Option ℕ). not (is_some o)) (first_none (is_runnable p h) (length p.plans) (best_fails (is_runnable p h) (comes_before p h) (length p.plans) e))

pub rises : (p : PlansData) (h : List Event) → IsPlayed p h → runner p h ≡ choice p h → choice p h ≡ None → IsRising p h
rises p h y c e = record { played = y; fresh = λ t. count_begun p h t (none_begins p h e); chosen = c }

-- and where nothing was appended, none follows
pub ends : (p : PlansData) (h : List Event) (done : ℕ → ℕ) → IsRunning p h done → runner p h ≡ choice p h → choice p h ≡ None → next p h ≡ None
ends p h done r c e = follows_none p h (settled p h done r) (c ∙ e)

pub ends_same : (p : PlansData) (h g : List Event) (done : ℕ → ℕ) → (g ≡ h) ⊎ (length h < length g) → length g ≤ length h → IsRunning p h done → runner p g ≡ choice p g → choice p g ≡ None → next p g ≡ None
ends_same p h g done (inl same) l r c e = ends p g done (subst (λ (x : List Event). IsRunning p x done) (sym same) r) c e
ends_same p h g done (inr more) l r c e = absurd (omega arith)

pub begins : (p : PlansData) → IsRising p []
begins p = record { played = tt; fresh = λ t. refl; chosen = refl }

-- ---- the measure of the loops

pub fewer : (p : PlansData) (h g : List Event) → AreLawfulPlans p → IsPlayed p g → length h < length g → most_events p - length g < most_events p - length h
fewer p h g lawful y l = let few = legal_is_bounded p g lawful (played_is_legal p g lawful y) in omega arith
