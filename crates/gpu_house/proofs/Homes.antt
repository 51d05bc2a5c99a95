-- All slots of a house fit again after a call.
use Rattle.std.proofs.Common.{◌≡◌, ℕ, zero, suc, ◌-◌, ◌<◌, eqb, true, false, List, [], ◌∷◌, length, get_or, set, Option, Some, None, refl, sym, ap, subst, ◌∙◌, arith}
use Rattle.std.specs.Prelude.{slice_index_or, slice_get, IfSome, option_map}
use Rattle.std.proofs.lemmas.Bool.Decides.{nat_tests}
use Rattle.atomic_table.specs.Seated.{TableId}
use Rattle.gpu_plan.specs.Plans.{PlansData, plan_of}
use Rattle.gpu_plan.specs.Places.{flush_places}
use Rattle.gpu_fetch.specs.Side.{SideData, finish_published}
use Rattle.sync_core.specs.Standing.{IsKnown, is_open, first_order}
use Rattle.gpu_journal.specs.declared.event.Event.{Event}
use Rattle.gpu_journal.specs.declared.event.Event.TheVariants.{Step, Finish, Lost}
use Rattle.gpu_journal.specs.declared.event.Why.{Why}
use Rattle.gpu_journal.specs.World.{stream_in}
use Rattle.gpu_journal.specs.Waits.{standing_of, left_of}
use Rattle.gpu_journal.specs.Legal.{IsLegal}
use Rattle.serial_laws.proofs.Fitting.{first_some}
use Rattle.serial_laws.proofs.Fronts.{left_open}
use Rattle.serial_laws.proofs.Going.{lost_ends}
use Rattle.house_core.specs.Core.{CoreData, IsOfPlans, IsAway, IsRunOf, out_at, is_home, with_out}
use Rattle.house_core.specs.Desks.{Out, RunData, at_home}
use Rattle.gpu_house.specs.Slots.{SlotData, left_slot, IsAtHome, SlotFits, RunFits}
use Rattle.gpu_house.specs.House.{OutData}
use Rattle.gpu_house.specs.Changes.{with_side, met_by}
use Rattle.gpu_house.proofs.Rows.{each_set, each_kept, slot_there, slot_fits, slot_changed, home_other}
use Rattle.gpu_house.proofs.Cases.{known_here}
use Rattle.gpu_house.proofs.Sides.{other_slot, same_slot, over_slot, step_slot, left_fits, back_fits, finish_fits}

-- ---- whether a stream is at home

none_there : (row : List Out) (i : ℕ) → (get_or (set row i at_home) i at_home).order ≡ 0
none_there [] i = refl
none_there (out ∷ row) zero = refl
none_there (out ∷ row) (suc i) = none_there row i

-- a run has come home
pub home_back : (outs : List Out) (s : ℕ) → is_home (with_out outs s at_home) s ≡ true
home_back outs zero = refl
home_back outs (suc k) = let same : suc k - 1 ≡ k = omega arith in ap (λ (n : ℕ). eqb n 0) (ap (λ (i : ℕ). (get_or (set outs i at_home) k at_home).order) same ∙ none_there outs k)

-- a run is out
pub is_out : (outs : List Out) (s : ℕ) (out : Out) → out_at outs s ≡ out → 0 < out.order → is_home outs s ≡ false
is_out outs s out is positive = ap (λ (o : Out). eqb o.order 0) is ∙ grind (arith, nat_tests)

pub is_away : (core : CoreData) (run : RunData) → IsAway core run → is_home core.outs run.stream ≡ false
is_away core run away = is_out core.outs run.stream _ away.out away.positive

-- ---- all slots

module _ {Side Note : Type 0} (side : Side → SideData) (table : Side → TableId) (mark : Note → ℕ) (note_of : Note → TableId → Type 0) (p : PlansData) (tables : ℕ → TableId) where
  -- the slot of stream s by this core
  abbrev pub FitsAt : CoreData → ℕ → SlotData Side Note → Type 0
  FitsAt core s slot = SlotFits side table mark note_of p tables core.past (is_home core.outs s) s slot

  abbrev pub AllFit : CoreData → List (SlotData Side Note) → Type 0
  AllFit core slots = (k : ℕ) (other : SlotData Side Note) → k < length slots → FitsAt core (suc k) (slice_index_or slots k other)

  -- the slots of all streams but one
  abbrev pub OthersFit : CoreData → CoreData → ℕ → Type 0
  OthersFit old new s = (t : ℕ) (slot : SlotData Side Note) → eqb s t ≡ false → FitsAt old t slot → FitsAt new t slot

  abbrev pub SameHome : CoreData → CoreData → ℕ → Type 0
  SameHome old new s = (t : ℕ) → eqb s t ≡ false → is_home new.outs t ≡ is_home old.outs t

  pub same_outs : (old new : CoreData) (s : ℕ) → new.outs ≡ old.outs → SameHome old new s
  same_outs old new s same t off = ap (λ (outs : List Out). is_home outs t) same

  pub other_outs : (old new : CoreData) (s : ℕ) (out : Out) → 0 < s → new.outs ≡ with_out old.outs s out → SameHome old new s
  other_outs old new s out low same t off = ap (λ (outs : List Out). is_home outs t) same ∙ home_other old.outs s t out low off

  pub others_event : (old new : CoreData) (e : Event) → new.past ≡ e ∷ old.past → SameHome old new (stream_in e) → OthersFit old new (stream_in e)
  others_event old new e past homes t slot off fits =
      subst (λ (h : List Event). SlotFits side table mark note_of p tables h (is_home new.outs t) t slot) (sym past)
      (other_slot side table mark note_of p tables e old.past (is_home old.outs t) (is_home new.outs t) t slot off (homes t off) fits)

  pub others_none : (old new : CoreData) (s : ℕ) → new.past ≡ old.past → SameHome old new s → OthersFit old new s
  others_none old new s past homes t slot off fits =
      subst (λ (h : List Event). SlotFits side table mark note_of p tables h (is_home new.outs t) t slot) (sym past)
      (same_slot side table mark note_of p tables old.past (is_home old.outs t) (is_home new.outs t) t slot (homes t off) fits)

  -- one slot is another now
  pub all_set : (old new : CoreData) (slots : List (SlotData Side Note)) (s : ℕ) (slot : SlotData Side Note) → IsKnown (length slots) s → OthersFit old new s → FitsAt new s slot → AllFit old slots → AllFit new (set slots (s - 1) slot)
  all_set old new slots s slot known others here was = each_set (FitsAt old) (FitsAt new) slots s slot known here others was

  -- none is another
  pub all_kept : (old new : CoreData) (slots : List (SlotData Side Note)) (s : ℕ) → OthersFit old new s → ((slot : SlotData Side Note) → FitsAt old s slot → FitsAt new s slot) → AllFit old slots → AllFit new slots
  all_kept old new slots s others own was = each_kept (FitsAt old) (FitsAt new) slots s own others was

  -- ---- a side comes home

  -- the slot of a stream, as it is read
  pub slot_read : (core : CoreData) (slots : List (SlotData Side Note)) (s t : ℕ) (other : SlotData Side Note) → t ≡ s → IsKnown (length slots) t → other ≡ slice_index_or slots (t - 1) other → AllFit core slots → FitsAt core s other
  slot_read core slots s t other at known read was = subst (λ (s : ℕ). FitsAt core s other) at (subst (FitsAt core t) (sym (read ∙ slot_there slots t other known)) (slot_fits (FitsAt core) slots t known was))

  module _ (books : ℕ → TableId) (run : RunData) (old new : CoreData) (slots : List (SlotData Side Note)) (t : ℕ) (other slot : SlotData Side Note) where
    set_fits : t ≡ run.stream → IsKnown (length slots) t → OthersFit old new run.stream → new.outs ≡ with_out old.outs run.stream at_home → SlotFits side table mark note_of p tables new.past true run.stream slot → AllFit old slots → AllFit new (set slots (t - 1) slot)
    set_fits at known others outs here was =
        let home : is_home new.outs run.stream ≡ true = ap (λ (row : List Out). is_home row run.stream) outs ∙ home_back old.outs run.stream in
        all_set old new slots t slot known (subst (OthersFit old new) (sym at) others) (subst (λ (s : ℕ). FitsAt new s slot) (sym at) (same_slot side table mark note_of p tables new.past true (is_home new.outs run.stream) run.stream slot home here)) was

    -- while its order is unprocessed, or when its stream has ended
    pub came_home : (x : Side) (left : Option Note) → t ≡ run.stream → IsKnown (length slots) t → other ≡ slice_index_or slots (t - 1) other → slot ≡ record other { side = Some x; begun = true; first = left } → RunFits side table mark note_of p tables books run x left
        → OthersFit old new run.stream → new.outs ≡ with_out old.outs run.stream at_home → SlotFits side table mark note_of p tables new.past (is_home old.outs run.stream) run.stream other
        → (is_open (standing_of p new.past run.stream) ≡ true → IsRunOf p new.past run × (length (side x).fetched ≡ run.facts.fetched) × (is_home old.outs run.stream ≡ false))
        → AllFit old slots → AllFit new (set slots (t - 1) slot)
    came_home x left at known read is fits others outs own shows was =
        set_fits at known others outs (subst (SlotFits side table mark note_of p tables new.past true run.stream) (sym is) (back_fits side table mark note_of p tables books run new.past (is_home old.outs run.stream) x left other fits shows own)) was

    -- with no event
    pub came_back : (x : Side) (left : Option Note) → t ≡ run.stream → IsKnown (length slots) t → other ≡ slice_index_or slots (t - 1) other → slot ≡ record other { side = Some x; begun = true; first = left } → RunFits side table mark note_of p tables books run x left
        → new.past ≡ old.past → new.outs ≡ with_out old.outs run.stream at_home
        → (is_open (standing_of p old.past run.stream) ≡ true → IsRunOf p old.past run × (length (side x).fetched ≡ run.facts.fetched) × (is_home old.outs run.stream ≡ false))
        → AllFit old slots → AllFit new (set slots (t - 1) slot)
    came_back x left at known read is fits past outs shows was =
        let low : 0 < run.stream = fits.of_plans.known.0 in
        came_home x left at known read is fits (others_none old new run.stream past (other_outs old new run.stream at_home low outs)) outs
        (subst (λ (h : List Event). SlotFits side table mark note_of p tables h (is_home old.outs run.stream) run.stream other) (sym past) (slot_read old slots run.stream t other at known read was))
        (subst (λ (h : List Event). is_open (standing_of p h run.stream) ≡ true → IsRunOf p h run × (length (side x).fetched ≡ run.facts.fetched) × (is_home old.outs run.stream ≡ false)) (sym past) shows) was

    -- its stream is lost
    pub came_lost : (x : Side) (left : Option Note) (why : Why) (words : List (ℕ × ℕ)) → t ≡ run.stream → IsKnown (length slots) t → other ≡ slice_index_or slots (t - 1) other → slot ≡ record other { side = Some x; begun = true; first = left } → RunFits side table mark note_of p tables books run x left
        → new.past ≡ Lost run.stream why words ∷ old.past → new.outs ≡ with_out old.outs run.stream at_home → AllFit old slots → AllFit new (set slots (t - 1) slot)
    came_lost x left why words at known read is fits past outs was =
        let low : 0 < run.stream = fits.of_plans.known.0 in
        let e = Lost run.stream why words in
        let over = lost_ends p old.past run.stream why words in
        let over' : is_open (standing_of p new.past run.stream) ≡ false = ap (λ (h : List Event). is_open (standing_of p h run.stream)) past ∙ over in
        came_home x left at known read is fits (others_event old new e past (other_outs old new run.stream at_home low outs)) outs
        (over_slot side table mark note_of p tables old.past new.past (is_home old.outs run.stream) run.stream other over' (slot_read old slots run.stream t other at known read was))
        (λ o. absurd (cc)) was

    -- its order is finished
    pub came_done : (x done : Side) (left : Option Note) → t ≡ run.stream → IsKnown (length slots) t → other ≡ slice_index_or slots (t - 1) other → slot ≡ record other { side = Some done; begun = false; first = None } → RunFits side table mark note_of p tables books run x left
        → new.past ≡ Finish run.stream run.order ∷ old.past → new.outs ≡ with_out old.outs run.stream at_home → is_open (standing_of p old.past run.stream) ≡ true → IsRunOf p old.past run → run.facts.get ≡ run.facts.put
        → is_home old.outs run.stream ≡ false → side done ≡ finish_published (met_by (option_map mark left) (side x)) → table done ≡ table x → AllFit old slots → AllFit new (set slots (t - 1) slot)
    came_done x done left at known read is fits past outs open' run_of end out told same was =
        let low : 0 < run.stream = fits.of_plans.known.0 in
        let e = Finish run.stream run.order in
        let here = finish_fits side table mark note_of p tables books run old.past (is_home old.outs run.stream) x done left other fits open' run_of end out told same (slot_read old slots run.stream t other at known read was) in
        set_fits at known (others_event old new e past (other_outs old new run.stream at_home low outs)) outs
        (subst (λ (h : List Event). SlotFits side table mark note_of p tables h true run.stream slot) (sym past) (subst (SlotFits side table mark note_of p tables (e ∷ old.past) true run.stream) (sym is) here)) was

    -- ---- a side leaves

    -- the facts of a run that is taken, and of the slot that its side leaves
    pub record Taken : Type 0 where
      pub plan : IsOfPlans p run
      pub run_of : IsRunOf p old.past run
      pub legal : IsLegal p old.past
      pub at : t ≡ run.stream
      pub known : IsKnown (length slots) t
      pub fits : FitsAt old run.stream other

    pub taken : old.plans ≡ p → IsOfPlans old.plans run → IsRunOf old.plans old.past run → IsLegal old.plans old.past → length slots ≡ length p.plans → t ≡ run.stream → other ≡ slice_index_or slots (t - 1) other → AllFit old slots → Taken
    taken plans plan run_of legal count at read was =
        let plan' : IsOfPlans p run = subst (λ (q : PlansData). IsOfPlans q run) plans plan in
        let known = known_here p slots t run.stream count at plan'.known in
        record {
          plan = plan';
          run_of = subst (λ (q : PlansData). IsRunOf q old.past run) plans run_of;
          legal = subst (λ (q : PlansData). IsLegal q old.past) plans legal;
          at = at;
          known = known;
          fits = slot_read old slots run.stream t other at known read was;
        }

    pub went_out : Taken → slot ≡ left_slot other → new.past ≡ old.past → (out : Out) → new.outs ≡ with_out old.outs run.stream out → is_home new.outs run.stream ≡ false → AllFit old slots → AllFit new (set slots (t - 1) slot)
    went_out it is past out outs away was =
        let low : 0 < run.stream = it.plan.known.0 in
        let first = left_open p old.past run.stream it.legal (first_some (first_order (left_of p old.past run.stream)) run.order it.run_of.order) in
        let placed = ap (slice_get (flush_places (plan_of p run.stream).actions)) (sym it.run_of.finished) ∙ it.plan.place in
        let here = left_fits side table mark note_of p tables old.past (is_home old.outs run.stream) run.stream run.place other first.2 placed it.fits in
        all_set old new slots t slot it.known (subst (OthersFit old new) (sym it.at) (others_none old new run.stream past (other_outs old new run.stream out low outs)))
        (subst (λ (s : ℕ). FitsAt new s slot) (sym it.at) (same_slot side table mark note_of p tables new.past false (is_home new.outs run.stream) run.stream slot away
        (subst (λ (h : List Event). SlotFits side table mark note_of p tables h false run.stream slot) (sym past) (subst (SlotFits side table mark note_of p tables old.past false run.stream) (sym is) here)))) was

    -- its list of fetches is that of the journal
    pub taken_list : (x : Side) → Taken → other.side ≡ Some x → length (side x).fetched ≡ run.facts.fetched
    taken_list x it there =
        let first = left_open p old.past run.stream it.legal (first_some (first_order (left_of p old.past run.stream)) run.order it.run_of.order) in
        let agrees = subst (λ (o : Option Side). IfSome o (λ x. IsAtHome p old.past run.stream (side x))) there (it.fits.agrees first.0) in
        agrees.fetched ∙ sym (ap (λ facts. facts.fetched) it.run_of.facts)

  -- ---- a run that is out does a step

  pub stepped_homes : (old new : CoreData) (slots : List (SlotData Side Note)) (s : ℕ) (words : List (ℕ × ℕ)) (out : Out) → 0 < s → new.past ≡ Step s words ∷ old.past → new.outs ≡ with_out old.outs s out → is_open (standing_of p old.past s) ≡ true
      → is_home old.outs s ≡ false → is_home new.outs s ≡ false → AllFit old slots → AllFit new slots
  stepped_homes old new slots s words out low past outs open' was_out now_out was =
      all_kept old new slots s (others_event old new (Step s words) past (other_outs old new s out low outs)) own was
    where
      own : (slot : SlotData Side Note) → FitsAt old s slot → FitsAt new s slot
      own slot fits =
          subst (λ (h : List Event). SlotFits side table mark note_of p tables h (is_home new.outs s) s slot) (sym past)
          (same_slot side table mark note_of p tables (Step s words ∷ old.past) false (is_home new.outs s) s slot now_out
          (step_slot side table mark note_of p tables old.past s words slot open' (same_slot side table mark note_of p tables old.past (is_home old.outs s) false s slot (sym was_out) fits)))

-- ---- as contracts see it

module _ {Side Note : Type 0} (run : RunData) (x : Side) (left : Option Note) (out : OutData Side Note) (slots seen : List (SlotData Side Note)) (t : ℕ) (other slot : SlotData Side Note) where
  pub side_seen : record { run = run; side = x; note = left } ≡ out → slots ≡ seen → t ≡ run.stream → IsKnown (length slots) t → other ≡ slice_index_or slots (t - 1) other → slot ≡ record other { side = Some x; begun = true; first = left }
      → set slots (t - 1) slot ≡ with_side seen out.run.stream out.side out.note
  side_seen view same at known read is =
      slot_changed (λ (was : SlotData Side Note). record was { side = Some x; begun = true; first = left }) slots seen run.stream t other slot same at known read is
      ∙ ap (λ (o : OutData Side Note). with_side seen o.run.stream o.side o.note) view
