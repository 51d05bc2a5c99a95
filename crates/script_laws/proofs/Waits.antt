-- Kept waits of histories: nothing runs past them, each ends once, and each ending has its event.
use Rattle.std.proofs.Common.{◌≡◌, ℕ, ◌+◌, eqb, length, map, Bool, true, false, not, ◌&&◌, cond, Option, Some, None, List, [], ◌∷◌, ◌++◌, refl, sym, ap, subst, ◌∙◌}
use Rattle.std.specs.Prelude.{filter, All, Contains, nat_lt, slice_index_or}
use Rattle.std.proofs.lemmas.List.Elements.{All-weaker, All-nil, All-append, All-map, All-contains_itself, All-head}
use Rattle.std.proofs.lemmas.Bool.{both_ways, and_parts, and_from, eq-eqb, eqb-true, ltb-true, ltb-false}
use Rattle.gpu_plan.specs.Plans.{PlansData}
use Rattle.stream_state.specs.declared.effect.Effect.{Effect}
use Rattle.stream_state.specs.declared.effect.Effect.TheVariants as effects
use Rattle.sync_core.specs.declared.wait.Wait.{Wait}
use Rattle.sync_core.specs.declared.ending.Ending.{Ending}
use Rattle.sync_core.specs.declared.ending.How.TheVariants.{Release, Guard, Closed}
use Rattle.sync_core.specs.Standing.{Standing, is_open, first_order, contains_number, has_below}
use Rattle.sync_core.specs.Events.{Deed, Ordered, Waited, Released, Finished, WasLost, WasClosed, SyncEvent, happened, orders, moved, standing}
use Rattle.sync_core.specs.Pending.{is_blocked, is_held, still, ends, how_of, ending_of, pending, endings}
use Rattle.sync_core.proofs.Waits.{filter_both}
use Rattle.sync_core.proofs.Keeps.{All-pending}
use Rattle.sync_core.proofs.Targets.{pending_live}
use Rattle.gpu_journal.specs.declared.event.Event.{Event}
use Rattle.gpu_journal.specs.declared.event.Event.TheVariants.{Order, Step, Finish, Lost, Close}
use Rattle.gpu_journal.specs.declared.event.Why.TheVariants.{Error, Memory}
use Rattle.gpu_journal.specs.World.{stream_in, world, asked_by}
use Rattle.gpu_journal.specs.Waits.{deed, deed_asked, sync_of, left_of, pending_in, endings_in}
use Rattle.gpu_journal.specs.Legal.{OfRun, IsLegal}
use Rattle.gpu_journal.proofs.Worlds.{sync_then, sync_none}
use Rattle.serial_laws.proofs.Ends.{complete_idle}
use Rattle.script_laws.specs.Kept.{HaveEnded, EndsSo, HasCause}
use Rattle.script_laws.specs.Laws.{NoneRunsWaiting, RunsAfterEndings, FinishedHaveEnded, EndingsHaveCauses, CompleteWaitsForNone}
use Rattle.script_laws.proofs.Counting.{all_ended, unblocked, Settled, settled_finish, settled_noted}

-- ---- what runs

-- what rule 5 gives for the stream of an event holds for it
of_run : (P Q : ℕ → Type 0) → ((s : ℕ) → P s → Q s) → (e : Event) → OfRun P e → OfRun Q e
of_run P Q f (Order s n c) holds = tt
of_run P Q f (Step s words) holds = f s holds
of_run P Q f (Finish s n) holds = f s holds
of_run P Q f (Lost s (Error error) words) holds = f s holds
of_run P Q f (Lost s Memory words) holds = tt
of_run P Q f (Close s) holds = tt

pub none_runs_waiting : NoneRunsWaiting
none_runs_waiting p g e legal = of_run
    (λ s. is_blocked s (left_of p g s) (pending_in p g) ≡ false)
    (λ s. All (λ (w : Wait). w.stream ≡ s → first_order (left_of p g s) ≡ Some w.order → ⊥) (pending_in p g))
    (λ s free i d lt same first.
    let w = slice_index_or (pending_in p g) i d in
    both_ways (eqb w.stream s && eqb w.order w.order) (unblocked s w.order (left_of p g s) (pending_in p g) first free i d lt)
    (and_from (eqb w.stream s) (eqb w.order w.order) (eq-eqb w.stream s same) (eq-eqb w.order w.order refl)))
    e legal.0.rule_5

pub runs_after_endings : RunsAfterEndings
runs_after_endings p g e legal = of_run
    (λ s. is_blocked s (left_of p g s) (pending_in p g) ≡ false)
    (λ s. (n : ℕ) → first_order (left_of p g s) ≡ Some n → HaveEnded p g s n)
    (λ s free n first t r. all_ended (length p.plans) s n t r (sync_of p g) first free)
    e legal.0.rule_5

-- ---- what is finished

settled : (p : PlansData) (later g : List Event) (s n t r : ℕ) → IsLegal p (later ++ Finish s n ∷ g) → Settled (length p.plans) s n t r (sync_of p (later ++ Finish s n ∷ g))
settled p [] g s n t r legal =
    subst (Settled (length p.plans) s n t r) (sym (sync_then p (Finish s n) g)) (settled_finish (length p.plans) s n t r (sync_of p g) legal.0.rule_4 legal.0.rule_5)
settled p (e ∷ later) g s n t r legal =
    let h = later ++ Finish s n ∷ g in
    subst (Settled (length p.plans) s n t r) (sym (sync_then p e h)) (settled_noted (length p.plans) s n t r (stream_in e) (deed p e (world p h)) (sync_of p h) (settled p later g s n t r legal.1))

pub finished_have_ended : FinishedHaveEnded
finished_have_ended p later g s n legal t r = (settled p later g s n t r legal).same

-- ---- what ends a wait

-- a deed that closes a stream is its close
closed_by : (d : Deed) (n : ℕ) (x : Standing) → x.closed ≡ false → (moved d n x).closed ≡ true → d ≡ WasClosed
closed_by (Ordered fences) n x was now = absurd (cc)
closed_by (Waited t r) n x was now = absurd (cc)
closed_by (Released r) n x was now = absurd (cc)
closed_by Finished n x was now = absurd (cc)
closed_by WasLost n x was now = absurd (cc)
closed_by WasClosed n x was now = refl

asks_no_close : (p : PlansData) (effect : Effect) → deed_asked p effect ≡ Some WasClosed → ⊥
asks_no_close p (effects.Release r) e = absurd (cc)
asks_no_close p (effects.Wait t r) e = absurd (cc)
asks_no_close p (effects.WaitName t r) e = absurd (cc)
asks_no_close p effects.Nothing e = absurd (cc)
asks_no_close p (effects.Token t) e = absurd (cc)
asks_no_close p (effects.Pixels op) e = absurd (cc)
asks_no_close p (effects.Results w) e = absurd (cc)

close_is : (p : PlansData) (e : Event) (h : List Event) → deed p e (world p h) ≡ Some WasClosed → e ≡ Close (stream_in e)
close_is p (Order s n c) h q = absurd (cc)
close_is p (Step s words) h q = absurd (asks_no_close p (asked_by p s words (world p h)) q)
close_is p (Finish s n) h q = absurd (cc)
close_is p (Lost s why words) h q = absurd (cc)
close_is p (Close s) h q = refl

-- what a wait was before the deed that ended it
record Ended (n s : ℕ) (d : Deed) (h : List SyncEvent) (w : Wait) : Type 0 where
  was : Contains (pending n h) w
  held : is_held (standing h) w ≡ true
  live : is_open (standing h w.target) ≡ true
  now : ends (standing ((s, d) ∷ h)) w ≡ true

ended_all : (n s : ℕ) (d : Deed) (h : List SyncEvent) → All (Ended n s d h) (filter (ends (standing ((s, d) ∷ h))) (pending n h))
ended_all n s d h = filter_both (ends (standing ((s, d) ∷ h))) (Ended n s d h) (pending n h) (λ i x lt now. record {
  was = All-contains_itself (pending n h) i x lt;
  held = (and_parts (contains_number (slice_index_or (pending n h) i x).order (standing h (slice_index_or (pending n h) i x).stream).left) (is_held (standing h) (slice_index_or (pending n h) i x)) (All-pending n h i x lt)).1;
  live = (pending_live n h i x lt).live;
  now = now;
})

not_closed : (x : Standing) → is_open x ≡ true → x.closed ≡ false
not_closed x e = by x.lost x.closed e
  where
    by : (a b : Bool) → (not a && not b) ≡ true → b ≡ false
    by true b k = absurd (cc)
    by false true k = absurd (cc)
    by false false k = refl

-- the deed was of the target where this changed
of_target : (s t : ℕ) (d : Deed) (h : List SyncEvent) → (standing h t).closed ≡ false → (standing ((s, d) ∷ h) t).closed ≡ true → (s ≡ t) × (d ≡ WasClosed)
of_target s t d h was now = by (eqb s t) refl now
  where
    by : (b : Bool) → eqb s t ≡ b → (cond b (moved d (orders h + 1) (standing h t)) (standing h t)).closed ≡ true → (s ≡ t) × (d ≡ WasClosed)
    by true q k = (eqb-true s t q, closed_by d (orders h + 1) (standing h t) was k)
    by false q k = absurd (both_ways (standing h t).closed was k)

-- a wait that was held back, and is so no longer, ended as its target says
ends_so : (e : Event) (f g : ℕ → Standing) (w : Wait) → is_held f w ≡ true → ends g w ≡ true → ((g w.target).closed ≡ true → e ≡ Close w.target) → EndsSo e f g w (how_of g w)
ends_so e f g w held now closes = by (nat_lt (g w.target).release w.release) refl (g w.target).closed refl
  where
    parts : (nat_lt (f w.target).release w.release ≡ true) × (has_below w.order (f w.target).left ≡ true)
    parts = and_parts (nat_lt (f w.target).release w.release) (has_below w.order (f w.target).left) held

    none_below : (a b c : Bool) → (a && not (b && c)) ≡ true → b ≡ true → c ≡ false
    none_below true true true k q = absurd (cc)
    none_below true true false k q = refl
    none_below true false c k q = absurd (cc)
    none_below false b c k q = absurd (cc)

    by : (b : Bool) → nat_lt (g w.target).release w.release ≡ b → (c : Bool) → (g w.target).closed ≡ c → EndsSo e f g w (cond b (cond c Closed Guard) Release)
    by true x true y = closes y
    by true x false y = (parts.1, none_below (contains_number w.order (g w.stream).left) (nat_lt (g w.target).release w.release) (has_below w.order (g w.target).left) now x, y)
    by false x c y = (ltb-true (f w.target).release w.release parts.0, ltb-false (g w.target).release w.release x)

ends_by : (p : PlansData) (e : Event) (h : List Event) (d : Deed) → deed p e (world p h) ≡ Some d → (w : Wait) → Ended (length p.plans) (stream_in e) d (sync_of p h) w
    → EndsSo e (standing (sync_of p h)) (standing ((stream_in e, d) ∷ sync_of p h)) w (how_of (standing ((stream_in e, d) ∷ sync_of p h)) w)
ends_by p e h d is w ended = ends_so e (standing (sync_of p h)) (standing ((stream_in e, d) ∷ sync_of p h)) w ended.held ended.now (λ shut.
    let q = of_target (stream_in e) w.target d (sync_of p h) (not_closed (standing (sync_of p h) w.target) ended.live) shut in
    close_is p e h (is ∙ ap Some q.1) ∙ ap Close q.0)

-- an ending of a history is one of each longer history
later_too : (p : PlansData) (e : Event) (h : List Event) (ending : Ending) → HasCause p h ending → HasCause p (e ∷ h) ending
later_too p e h ending c = record { later = e ∷ c.later; event = c.event; before = c.before; whole = ap (λ (g : List Event). e ∷ g) c.whole; wait = c.wait; was = c.was; told = c.told; ended = c.ended }

pub endings_have_causes : EndingsHaveCauses
endings_have_causes p [] = subst (λ (g : List SyncEvent). All (HasCause p []) (endings (length p.plans) g)) (sym (sync_none p)) (All-nil (HasCause p []))
endings_have_causes p (e ∷ h) = by (All-weaker (HasCause p h) (HasCause p (e ∷ h)) (later_too p e h) (endings_in p h) (endings_have_causes p h)) (deed p e (world p h)) refl
  where
    by : All (HasCause p (e ∷ h)) (endings_in p h) → (o : Option Deed) → deed p e (world p h) ≡ o → All (HasCause p (e ∷ h)) (endings_in p (e ∷ h))
    by older None q =
        let is : sync_of p (e ∷ h) ≡ sync_of p h = sync_then p e h ∙ ap (λ (o : Option Deed). happened (stream_in e) o (sync_of p h)) q in
        subst (λ (g : List SyncEvent). All (HasCause p (e ∷ h)) (endings (length p.plans) g)) (sym is) older
    by older (Some d) q =
        let n = length p.plans in
        let g = standing ((stream_in e, d) ∷ sync_of p h) in
        let is : sync_of p (e ∷ h) ≡ (stream_in e, d) ∷ sync_of p h = sync_then p e h ∙ ap (λ (o : Option Deed). happened (stream_in e) o (sync_of p h)) q in
        let new = All-map (HasCause p (e ∷ h)) (ending_of g) (filter (ends g) (pending n (sync_of p h)))
        (All-weaker (Ended n (stream_in e) d (sync_of p h)) (λ (w : Wait). HasCause p (e ∷ h) (ending_of g w)) (λ w ended. record {
          later = [];
          event = e;
          before = h;
          whole = refl;
          wait = w;
          was = ended.was;
          told = refl;
          ended = subst (λ (x : List SyncEvent). EndsSo e (standing (sync_of p h)) (standing x) w (how_of g w)) (sym is) (ends_by p e h d q w ended);
        }) (filter (ends g) (pending n (sync_of p h))) (ended_all n (stream_in e) d (sync_of p h))) in
        subst (λ (x : List SyncEvent). All (HasCause p (e ∷ h)) (endings n x)) (sym is) (All-append (HasCause p (e ∷ h)) (endings n (sync_of p h)) (map (ending_of g) (filter (ends g) (pending n (sync_of p h)))) older new)

-- ---- where all is done

pub complete_waits_for_none : CompleteWaitsForNone
complete_waits_for_none p h legal done = none (pending_in p h) (All-pending (length p.plans) (sync_of p h))
  where
    none : (ws : List Wait) → All (λ w. still (standing (sync_of p h)) w ≡ true) ws → ws ≡ []
    none [] all = refl
    none (w ∷ ws) all =
        let has = (and_parts (contains_number w.order (left_of p h w.stream)) (is_held (standing (sync_of p h)) w) (All-head (λ v. still (standing (sync_of p h)) v ≡ true) w ws all)).0 in
        absurd (both_ways (contains_number w.order (left_of p h w.stream)) (ap (contains_number w.order) (complete_idle p h legal done w.stream)) has)
