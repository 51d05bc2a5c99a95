-- The dumps of a serial history tell what their clients may have found.
use Rattle.std.proofs.Common.{◌≡◌, ℕ, zero, suc, ◌+◌, ◌-◌, ◌≤◌, ◌<◌, eqb, Bool, true, false, not, cond, nat_le, Option, Some, List, [], ◌∷◌, ◌++◌, length, take, IsTrue, refl, sym, ap, subst, ◌∙◌, arith}
use Rattle.std.proofs.lemmas.Bool.{eqb-true, both_ways, ltb-true, and_from, not_from_false}
use Rattle.std.specs.Prelude.{nat_lt, slice_get, is_some}
use Rattle.std.specs.List.{All, flat_map, list_all, range_with_len}
use Rattle.std.proofs.lemmas.Bool.Decides.{nat_tests}
use Rattle.std.proofs.lemmas.List.Elements.{All-head, All-tail}
use Rattle.gpu_plan.specs.declared.plan.Action.{Action}
use Rattle.gpu_plan.specs.declared.plan.Action.TheVariants as actions
use Rattle.gpu_plan.specs.Plans.{PlansData, IsDump, plan_of, no_plan, stays_open}
use Rattle.gpu_plan.specs.Passes.{flushes, bound, passes_if_there}
use Rattle.gpu_plan.proofs.Passing.{passes_below_bound, flushes_all}
use Rattle.sync_core.specs.Events as sync
use Rattle.sync_core.specs.Standing.{Standing, IsKnown}
use Rattle.gpu_journal.specs.declared.event.Event.{Event}
use Rattle.gpu_journal.specs.declared.event.Event.TheVariants.{Order, Step, Finish, Lost, Close}
use Rattle.gpu_journal.specs.World.{Known, World, world, stream_in, asked_by, known, known_after}
use Rattle.gpu_journal.specs.Waits.{deed, standing_of, drawn}
use Rattle.gpu_journal.specs.Facts.{reach}
use Rattle.gpu_journal.specs.Legal.{Obeys, IsLegal}
use Rattle.gpu_journal.specs.Complete.{IsComplete}
use Rattle.gpu_journal.specs.Serial.{is_close, is_runnable, count, serial}
use Rattle.gpu_journal.specs.Written.{result_at}
use Rattle.gpu_journal.specs.Dumps.{MayDump, dumps_of, passed_at}
use Rattle.gpu_journal.proofs.Worlds.{sync_none}
use Rattle.journal_text.specs.Output.{AreDumps, AreDumpsOf, dump_line, dump_lines}
use Rattle.serial_laws.specs.Scripts.{AreLawfulPlans}
use Rattle.serial_laws.proofs.First.{first_none}
use Rattle.serial_laws.proofs.Flushes.{close_is_last, within}
use Rattle.serial_laws.proofs.Others.{moved_by, standing_own, standing_other, known_own, known_other}
use Rattle.serial_laws.proofs.Counts.{reach_grows, count_reach, count_begun}
use Rattle.serial_laws.proofs.Passed.{lawful_of}
use Rattle.serial_laws.proofs.Obeying.{close_of}
use Rattle.serial_laws.proofs.Least.{none_runs}
use Rattle.serial_laws.proofs.Spent.{asked_same}
use Rattle.serial_laws.proofs.Ends.{bound_end, complete_idle}
use Rattle.serial_laws.proofs.Bounded.{serial_is_legal, serial_is_complete}
use Rattle.script_laws.specs.Laws.{DumpsMayBeTold, LaterMayBeTold}

-- ---- where a client has passed the Finish of a dump, enough is finished

le_back : (a b : ℕ) → nat_le a b ≡ true → a ≤ b
le_back a b e = grind (arith, nat_tests)

module _ (p : PlansData) (s : ℕ) (at : ℕ) (is : slice_get (plan_of p s).actions at ≡ Some actions.Finish) where
  -- the first part of a history after which the client has passed it
  split : (h : List Event) → (later : List Event) × (later ++ passed_at p h s at ≡ h)
  split [] = ([], refl)
  split (e ∷ h) = by (nat_lt at (count p h s)) (split h)
    where
      by : (b : Bool) → (later : List Event) × (later ++ passed_at p h s at ≡ h) → (later : List Event) × (later ++ cond b (passed_at p h s at) (e ∷ h) ≡ e ∷ h)
      by true rest = (e ∷ rest.0, ap (λ (g : List Event). e ∷ g) rest.1)
      by false rest = ([], refl)

  far : (h : List Event) → at < count p h s → at < count p (passed_at p h s at) s
  far [] lt = lt
  far (e ∷ h) lt = by (nat_lt at (count p h s)) refl (λ less. far h less)
    where
      by : (b : Bool) → nat_lt at (count p h s) ≡ b → (at < count p h s → at < count p (passed_at p h s at) s) → at < count p (cond b (passed_at p h s at) (e ∷ h)) s
      by true q rest = rest (ltb-true at (count p h s) q)
      by false q rest = lt

  -- after a history whose client has passed it
  passed_enough : (h : List Event) → at < count p h s → flushes (take at (plan_of p s).actions) ≤ (known p h s).finished
  passed_enough h lt =
      let k = known p h s in
      let most = count_reach p h s in
      let passing = passes_below_bound (plan_of p s).actions at k.finished k.tokens (omega (arith, lt, most)) in
      le_back (flushes (take at (plan_of p s).actions)) k.finished (sym (ap (passes_if_there (flushes (take at (plan_of p s).actions)) k.finished k.tokens) is) ∙ passing)

  may_dump : (h : List Event) (place : ℕ) → at < count p h s → MayDump p h s (at, place) (result_at p (passed_at p h s at) s place)
  may_dump h place lt =
      let parts = split h in
      record { later = parts.0; past = passed_at p h s at; first_part = parts.1; enough = passed_enough (passed_at p h s at) (far h lt); found = refl }

-- ---- at the end a client has passed each Finish of its stream, unless that was lost

-- a Finish stands before a Close
before_close : (xs : List Action) (close at : ℕ) → IsTrue (list_all stays_open (take (length xs - 1) xs)) → slice_get xs close ≡ Some actions.Close → slice_get xs at ≡ Some actions.Finish → at < close
before_close xs close at last closes is =
    let end = close_is_last xs close last closes in
    let inside = within xs at actions.Finish is in
    let apart : at ≡ close → ⊥ = λ same. let both : slice_get xs at ≡ Some actions.Close = ap (slice_get xs) same ∙ closes in cc in
    omega (arith, end, inside, apart)

-- where no more flushes stand before the first action that does not pass than are finished, each Finish passes
finish_passes : (xs : List Action) (f at : ℕ) (tokens : List ℕ) → IsTrue (list_all stays_open (take (length xs - 1) xs)) → flushes (take (bound xs f tokens) xs) ≤ f → slice_get xs at ≡ Some actions.Finish → at < bound xs f tokens
finish_passes xs f at tokens last few is = by (is_close (slice_get xs (bound xs f tokens))) refl
  where
    inside : at < length xs
    inside = within xs at actions.Finish is

    by : (b : Bool) → is_close (slice_get xs (bound xs f tokens)) ≡ b → at < bound xs f tokens
    by true q = before_close xs (bound xs f tokens) at last (close_of (slice_get xs (bound xs f tokens)) q) is
    by false q = let all = bound_end xs f tokens few q in omega (arith, all, inside)

-- a closed stream was closed before, or its client has come to its Close
closed_own : (p : PlansData) (h : List Event) (e : Event) (at : ℕ) → AreLawfulPlans p → Obeys p h e → slice_get (plan_of p (stream_in e)).actions at ≡ Some actions.Finish → ((standing_of p h (stream_in e)).closed ≡ true → at < reach p h (stream_in e))
    → (moved_by (deed p e (world p h)) (drawn p h + 1) (standing_of p h (stream_in e))).closed ≡ true → at < reach p h (stream_in e)
closed_own p h (Order s n c) at lawful o is before closed = before closed
closed_own p h (Step s words) at lawful o is before closed = before (sym (asked_same p (asked_by p s words (world p h)) (drawn p h + 1) (standing_of p h s)).1 ∙ closed)
closed_own p h (Finish s n) at lawful o is before closed = before closed
closed_own p h (Lost s why words) at lawful o is before closed = before closed
closed_own p h (Close s) at lawful o is before closed =
    let may = o.rule_12 in
    before_close (plan_of p s).actions (reach p h s) at (lawful_of p s lawful may.still_open.known).closes_last may.reached is

closed_far : (p : PlansData) (h : List Event) (s at : ℕ) → AreLawfulPlans p → IsLegal p h → slice_get (plan_of p s).actions at ≡ Some actions.Finish → (standing_of p h s).closed ≡ true → at < reach p h s
closed_far p [] s at lawful legal is closed = absurd (both_ways (standing_of p [] s).closed (ap (λ (g : List sync.SyncEvent). (sync.standing g s).closed) (sync_none p)) closed)
closed_far p (e ∷ h) s at lawful legal is closed = by (λ c. closed_far p h s at lawful legal.1 is c) (eqb (stream_in e) s) refl
  where
    own : slice_get (plan_of p (stream_in e)).actions at ≡ Some actions.Finish → (standing_of p (e ∷ h) (stream_in e)).closed ≡ true → ((standing_of p h (stream_in e)).closed ≡ true → at < reach p h (stream_in e)) → at < reach p (e ∷ h) (stream_in e)
    own its now before =
        let less = closed_own p h e at lawful legal.0 its before (sym (ap (λ (x : Standing). x.closed) (standing_own p e h)) ∙ now) in
        let grows = reach_grows p e h (stream_in e) in
        omega (arith, less, grows)

    by : ((standing_of p h s).closed ≡ true → at < reach p h s) → (b : Bool) → eqb (stream_in e) s ≡ b → at < reach p (e ∷ h) s
    by before true q =
        subst (λ (t : ℕ). slice_get (plan_of p t).actions at ≡ Some actions.Finish → (standing_of p (e ∷ h) t).closed ≡ true → ((standing_of p h t).closed ≡ true → at < reach p h t) → at < reach p (e ∷ h) t) (eqb-true (stream_in e) s q) own is closed before
    by before false q =
        let less = before (sym (ap (λ (x : Standing). x.closed) (standing_other p e h s q)) ∙ closed) in
        let grows = reach_grows p e h s in
        omega (arith, less, grows)

module _ (p : PlansData) (h : List Event) (lawful : AreLawfulPlans p) (legal : IsLegal p h) (complete : IsComplete p h) where
  -- no number is left, so the clients are as far as they can be
  at_bound : (s : ℕ) → count p h s ≡ reach p h s
  at_bound s = count_begun p h s (ap (λ (o : Option ℕ). not (is_some o)) (first_none (is_runnable p h) (length p.plans) (λ t a b. none_runs p h t (complete_idle p h legal complete t))))

  module _ (s : ℕ) (among : IsKnown (length p.plans) s) (kept : (standing_of p h s).lost ≡ false) where
    all_passed : (at : ℕ) → slice_get (plan_of p s).actions at ≡ Some actions.Finish → at < count p h s
    all_passed at is = let same = at_bound s in let less = by (standing_of p h s).closed refl in omega (arith, same, less)
      where
        by : (b : Bool) → (standing_of p h s).closed ≡ b → at < reach p h s
        by true closed = closed_far p h s at lawful legal is closed
        by false stays =
            let done = complete s record { known = among; stays = and_from _ _ (not_from_false _ kept) (not_from_false _ stays) } in
            let k = known p h s in
            let finished = done.finished in
            let few = flushes_all (plan_of p s).actions (reach p h s) in
            finish_passes (plan_of p s).actions k.finished at k.tokens (lawful_of p s lawful among).closes_last (omega (arith, few, finished)) is

    each_told : (dumps : List (ℕ × ℕ)) → All (IsDump (plan_of p s).areas.results (plan_of p s).actions) dumps → AreDumps p h s dumps (flat_map (dump_line p h s) dumps)
    each_told [] all = refl
    each_told (dump ∷ dumps) all =
        let is = All-head (IsDump (plan_of p s).areas.results (plan_of p s).actions) dump dumps all in (
          result_at p (passed_at p h s dump.0) s dump.1,
          flat_map (dump_line p h s) dumps,
          may_dump p s dump.0 is.0 h dump.1 (all_passed dump.0 is.0),
          refl,
          each_told dumps (All-tail (IsDump (plan_of p s).areas.results (plan_of p s).actions) dump dumps all),
        )

  dumps_lawful : (s : ℕ) → IsKnown (length p.plans) s → All (IsDump (plan_of p s).areas.results (plan_of p s).actions) (plan_of p s).dumps
  dumps_lawful zero among = absurd (let low = among.0 in omega (arith, low))
  dumps_lawful (suc k) among = (lawful.each k no_plan (let high = among.1 in omega (arith, high))).1

  stream_told : (s : ℕ) → IsKnown (length p.plans) s → AreDumps p h s (dumps_of p h s) (flat_map (dump_line p h s) (dumps_of p h s))
  stream_told s among = by (standing_of p h s).lost refl
    where
      by : (b : Bool) → (standing_of p h s).lost ≡ b → AreDumps p h s (cond b [] (plan_of p s).dumps) (flat_map (dump_line p h s) (cond b [] (plan_of p s).dumps))
      by true lost = refl
      by false kept = each_told s among kept (plan_of p s).dumps (dumps_lawful s among)

  streams_told : (from n : ℕ) → 1 ≤ from → from + n ≤ length p.plans + 1 → AreDumpsOf p h (range_with_len from n) (flat_map (λ s. flat_map (dump_line p h s) (dumps_of p h s)) (range_with_len from n))
  streams_told from zero low high = refl
  streams_told from (suc n) low high = (
    flat_map (dump_line p h from) (dumps_of p h from),
    flat_map (λ s. flat_map (dump_line p h s) (dumps_of p h s)) (range_with_len (from + 1) n),
    stream_told from (omega (arith, low), omega (arith, high)),
    refl,
    streams_told (from + 1) n (omega arith) (omega (arith, high)),
  )

pub dumps_may_be_told : DumpsMayBeTold
unfolding dump_lines
dumps_may_be_told p lawful = streams_told p (serial p) lawful (serial_is_legal p lawful) (serial_is_complete p lawful) 1 (length p.plans) (omega arith) (omega arith)

-- ---- later values

finished_own : (p : PlansData) (e : Event) (w : World) (k : Known) → k.finished ≤ (known_after p e w k).finished
finished_own p (Order s n c) w k = omega arith
finished_own p (Step s words) w k = omega arith
finished_own p (Finish s n) w k = omega arith
finished_own p (Lost s why words) w k = omega arith
finished_own p (Close s) w k = omega arith

finished_grows : (p : PlansData) (e : Event) (h : List Event) (s : ℕ) → (known p h s).finished ≤ (known p (e ∷ h) s).finished
finished_grows p e h s = by (eqb (stream_in e) s) refl
  where
    own : (known p h (stream_in e)).finished ≤ (known p (e ∷ h) (stream_in e)).finished
    own = subst (λ (k : Known). (known p h (stream_in e)).finished ≤ k.finished) (sym (known_own p e h)) (finished_own p e (world p h) (known p h (stream_in e)))

    by : (b : Bool) → eqb (stream_in e) s ≡ b → (known p h s).finished ≤ (known p (e ∷ h) s).finished
    by true q = subst (λ (t : ℕ). (known p h t).finished ≤ (known p (e ∷ h) t).finished) (eqb-true (stream_in e) s q) own
    by false q = let same = ap (λ (k : Known). k.finished) (known_other p e h s q) in omega (arith, same)

finished_later : (p : PlansData) (between past : List Event) (s n : ℕ) → n ≤ (known p past s).finished → n ≤ (known p (between ++ past) s).finished
finished_later p [] past s n few = few
finished_later p (e ∷ between) past s n few =
    let rest = finished_later p between past s n few in
    let grows = finished_grows p e (between ++ past) s in
    omega (arith, rest, grows)

pub later_may_be_told : LaterMayBeTold
later_may_be_told p later between past s dump enough =
    record { later = later; past = between ++ past; first_part = refl; enough = finished_later p between past s (flushes (take dump.0 (plan_of p s).actions)) enough; found = refl }
