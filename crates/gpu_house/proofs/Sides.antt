-- What the slot of a stream keeps: after an event, and where its side leaves or comes home.
use Rattle.std.proofs.Common.{◌≡◌, ℕ, ◌+◌, ◌≤◌, ◌<◌, eqb, Bool, true, false, cond, List, [], ◌∷◌, ◌++◌, length, drop, map, max, is_some, Option, Some, None, refl, sym, ap, subst, ◌∙◌, arith, option_map}
use Rattle.std.specs.Prelude.{slice_get, IfSome, MatchOption}
use Rattle.std.proofs.lemmas.List.{drop_all}
use Rattle.std.proofs.lemmas.List.Elements.{All-nil, All-cons, All-append, All-drop, All-head}
use Rattle.std.proofs.Math.Nat.{max-eq_right}
use Rattle.std.proofs.lemmas.Option.{IfSome_then}
use Rattle.std.specs.List.{All}
use Rattle.atomic_table.specs.Seated.{TableId}
use Rattle.gpu_plan.specs.Plans.{PlansData, plan_of}
use Rattle.gpu_plan.specs.Places.{flush_places, mark_of}
use Rattle.gpu_plan.specs.Passes.{greatest}
use Rattle.gpu_fetch.specs.Side.{SideData, side_reach, with_met, finish_published}
use Rattle.sync_core.specs.Standing.{is_open, first_order}
use Rattle.gpu_journal.specs.declared.event.Event.{Event}
use Rattle.gpu_journal.specs.declared.event.Event.TheVariants.{Order, Step, Finish}
use Rattle.gpu_journal.specs.World.{Known, stream_in, known, state_of}
use Rattle.gpu_journal.specs.Waits.{standing_of, left_of}
use Rattle.gpu_journal.specs.Legal.{IsLegal}
use Rattle.serial_laws.proofs.Others.{known_other, standing_other}
use Rattle.serial_laws.proofs.Fitting.{first_some}
use Rattle.serial_laws.proofs.Knowns.{known_order, known_finish, step_ordered, step_finished}
use Rattle.serial_laws.proofs.Fronts.{left_open, counts_within}
use Rattle.house_core.specs.Core.{IsOfPlans, IsRunOf, MayHavePut}
use Rattle.house_core.specs.Desks.{RunData}
use Rattle.gpu_house.specs.Slots.{SlotData, note_ahead, left_slot, marks_between, begun_of, HasMet, IsAtHome, NotesFit, SlotFits, RunFits}
use Rattle.gpu_house.specs.Changes.{met_by}
use Rattle.gpu_house.proofs.Behind.{mark_at, mark_rises, queue_first, queue_pushed}

-- nothing is said of what is not there
none_of : {X : Type 0} (P : X → Type 0) (o : Option X) → is_some o ≡ false → IfSome o P
none_of P None e = tt
none_of P (Some x) e = absurd (cc)

is_none : {X : Type 0} (o : Option X) → is_some o ≡ false → o ≡ None
is_none None e = refl
is_none (Some x) e = absurd (cc)

-- what holds of all holds of the first
pub first_of : {X : Type 0} (P : X → Type 0) (xs : List X) → All P xs → IfSome (slice_get xs 0) P
first_of P [] all = tt
first_of P (x ∷ xs) all = All-head P x xs all

-- what a side says is the same of two histories
record SaysSame (p : PlansData) (h g : List Event) (s : ℕ) : Type 0 where
  pub fetched : (state_of p g s).fetched ≡ (state_of p h s).fetched
  pub finished : (known p g s).finished ≡ (known p h s).finished
  pub greatest : greatest (known p g s).tokens ≡ greatest (known p h s).tokens

home_same : (p : PlansData) (h g : List Event) (s : ℕ) (x : SideData) → SaysSame p h g s → IsAtHome p h s x → IsAtHome p g s x
home_same p h g s x same f = record {
  fetched = f.fetched ∙ sym same.fetched;
  finished = f.finished ∙ sym same.finished;
  greatest = f.greatest ∙ sym same.greatest;
  met = subst (λ (n : ℕ). x.met ≤ mark_of (plan_of p s) n) (sym same.finished) f.met;
}

module _ {Side Note : Type 0} (side : Side → SideData) (table : Side → TableId) (mark : Note → ℕ) (note_of : Note → TableId → Type 0) (p : PlansData) (tables : ℕ → TableId) where
  abbrev Slot : List Event → Bool → ℕ → SlotData Side Note → Type 0
  Slot h home s slot = SlotFits side table mark note_of p tables h home s slot

  notes_same : (h g : List Event) (s : ℕ) (slot : SlotData Side Note) → (known p g s).finished ≡ (known p h s).finished → (known p g s).ordered ≡ (known p h s).ordered → NotesFit side table mark note_of p h s slot → NotesFit side table mark note_of p g s slot
  notes_same h g s slot done ordered f =
      let back = sym done in
      record {
        queued = f.queued ∙ ap (λ (n : ℕ). marks_between (plan_of p s) (begun_of n slot.begun) (known p h s).ordered) back ∙ ap (λ (n : ℕ). marks_between (plan_of p s) (begun_of (known p g s).finished slot.begun) n) (sym ordered);
        first = IfSome_then slot.first f.first (λ note it. (it.0, it.1 ∙ ap (mark_of (plan_of p s)) back));
        begun = λ b. let few = f.begun b in omega (arith, few, done, ordered);
        met = λ b n. subst (λ (k : ℕ). IfSome slot.side (λ x. HasMet (plan_of p s) k (side x))) back (f.met b n);
      }

  -- ---- another stream

  pub other_slot : (e : Event) (h : List Event) (home home' : Bool) (t : ℕ) (slot : SlotData Side Note) → eqb (stream_in e) t ≡ false → home' ≡ home → Slot h home t slot → Slot (e ∷ h) home' t slot
  other_slot e h home home' t slot off same f =
      let k = known_other p e h t off in
      let still : is_open (standing_of p (e ∷ h) t) ≡ true → is_open (standing_of p h t) ≡ true = λ o. ap is_open (sym (standing_other p e h t off)) ∙ o in
      record {
        own = f.own;
        queue_shared = f.queue_shared;
        first_shared = f.first_shared;
        at_home = f.at_home ∙ sym same;
        away = f.away;
        agrees = λ o. IfSome_then slot.side (f.agrees (still o)) (λ x it. home_same p h (e ∷ h) t (side x) record { fetched = ap (λ (x : Known). x.state.fetched) k; finished = ap (λ (x : Known). x.finished) k; greatest = ap (λ (x : Known). greatest x.tokens) k } it);
        notes = λ o. notes_same h (e ∷ h) t slot (ap (λ (x : Known). x.finished) k) (ap (λ (x : Known). x.ordered) k) (f.notes (still o));
      }

  -- with no event
  pub same_slot : (h : List Event) (home home' : Bool) (t : ℕ) (slot : SlotData Side Note) → home' ≡ home → Slot h home t slot → Slot h home' t slot
  same_slot h home home' t slot same f = subst (λ (b : Bool). Slot h b t slot) (sym same) f

  -- ---- the stream of the event

  -- of a stream that is lost or closed little is owed
  pub over_slot : (h g : List Event) (home : Bool) (s : ℕ) (slot : SlotData Side Note) → is_open (standing_of p g s) ≡ false → Slot h home s slot → Slot g home s slot
  over_slot h g home s slot over f = record {
    own = f.own;
    queue_shared = f.queue_shared;
    first_shared = f.first_shared;
    at_home = f.at_home;
    away = f.away;
    agrees = λ o. absurd (cc);
    notes = λ o. absurd (cc);
  }

  -- a note stands after the others
  pub order_slot : (h : List Event) (home : Bool) (s n place : ℕ) (note : Note) (slot : SlotData Side Note) → IsLegal p h → is_open (standing_of p h s) ≡ true → slice_get (flush_places (plan_of p s).actions) (known p h s).ordered ≡ Some place
      → mark note ≡ mark_of (plan_of p s) (known p h s).ordered → note_of note (tables s) → Slot h home s slot → Slot (Order s n place ∷ h) home s (record slot { notes = slot.notes ++ note ∷ [] })
  order_slot h home s n place note slot legal open' there is shared f =
      let k = known_order p h s n place in
      let g = Order s n place ∷ h in
      let done : (known p g s).finished ≡ (known p h s).finished = ap (λ (x : Known). x.finished) k in
      let more : (known p g s).ordered ≡ (known p h s).ordered + 1 = ap (λ (x : Known). x.ordered) k in
      let was = f.notes open' in
      let few = counts_within p h s legal in
      let low : begun_of (known p h s).finished slot.begun ≤ (known p h s).ordered = upto (known p h s).finished (known p h s).ordered slot.begun few.0 was.begun in
      record {
        own = f.own;
        queue_shared = All-append (λ note. note_of note (tables s)) slot.notes (note ∷ []) f.queue_shared (All-cons (λ note. note_of note (tables s)) note [] shared (All-nil (λ note. note_of note (tables s))));
        first_shared = f.first_shared;
        at_home = f.at_home;
        away = f.away;
        agrees = λ o. IfSome_then slot.side (f.agrees open') (λ x it. home_same p h g s (side x) record { fetched = ap (λ (x : Known). x.state.fetched) k; finished = done; greatest = ap (λ (x : Known). greatest x.tokens) k } it);
        notes = λ o. record {
          queued = queue_pushed mark (plan_of p s) slot.notes note (begun_of (known p h s).finished slot.begun) (known p h s).ordered place low there is was.queued
              ∙ ap (λ (n : ℕ). marks_between (plan_of p s) (begun_of n slot.begun) ((known p h s).ordered + 1)) (sym done) ∙ ap (λ (n : ℕ). marks_between (plan_of p s) (begun_of (known p g s).finished slot.begun) n) (sym more);
          first = IfSome_then slot.first was.first (λ note it. (it.0, it.1 ∙ ap (mark_of (plan_of p s)) (sym done)));
          begun = λ b. let less = was.begun b in omega (arith, less, done, more);
          met = λ b n. subst (λ (k : ℕ). IfSome slot.side (λ x. HasMet (plan_of p s) k (side x))) (sym done) (was.met b n);
        };
      }
    where
      upto : (done ordered : ℕ) (b : Bool) → done ≤ ordered → (b ≡ true → done < ordered) → begun_of done b ≤ ordered
      upto done ordered true low less = let h = less refl in omega (arith, h)
      upto done ordered false low less = low

  -- a run that is out does a step
  pub step_slot : (h : List Event) (s : ℕ) (words : List (ℕ × ℕ)) (slot : SlotData Side Note) → is_open (standing_of p h s) ≡ true → Slot h false s slot → Slot (Step s words ∷ h) false s slot
  step_slot h s words slot open' f = record {
    own = f.own;
    queue_shared = f.queue_shared;
    first_shared = f.first_shared;
    at_home = f.at_home;
    away = f.away;
    agrees = λ o. none_of (λ x. IsAtHome p (Step s words ∷ h) s (side x)) slot.side f.at_home;
    notes = λ o. notes_same h (Step s words ∷ h) s slot (step_finished p h s words) (step_ordered p h s words) (f.notes open');
  }

  -- ---- a run leaves and comes back

  -- a side leaves with the note of its first order
  pub left_fits : (h : List Event) (home : Bool) (s place : ℕ) (slot : SlotData Side Note) → (known p h s).finished < (known p h s).ordered → slice_get (flush_places (plan_of p s).actions) (known p h s).finished ≡ Some place → Slot h home s slot → Slot h false s (left_slot slot)
  left_fits h home s place slot less there f = record {
    own = tt;
    queue_shared = rest slot.begun;
    first_shared = tt;
    at_home = refl;
    away = λ e. refl;
    agrees = λ o. tt;
    notes = λ o. record { queued = by slot.begun refl (f.notes o); first = tt; begun = λ b. less; met = λ b n. tt };
  }
    where
      rest : (b : Bool) → All (λ note. note_of note (tables s)) (cond b slot.notes (drop 1 slot.notes))
      rest true = f.queue_shared
      rest false = All-drop (λ note. note_of note (tables s)) 1 slot.notes f.queue_shared

      by : (b : Bool) → slot.begun ≡ b → NotesFit side table mark note_of p h s slot → map mark (cond b slot.notes (drop 1 slot.notes)) ≡ marks_between (plan_of p s) ((known p h s).finished + 1) (known p h s).ordered
      by true e was = was.queued ∙ ap (λ (b : Bool). marks_between (plan_of p s) (begun_of (known p h s).finished b) (known p h s).ordered) e
      by false e was = (queue_first mark (plan_of p s) slot.notes (known p h s).finished (known p h s).ordered place less there (was.queued ∙ ap (λ (b : Bool). marks_between (plan_of p s) (begun_of (known p h s).finished b) (known p h s).ordered) e)).1

  module _ (books : ℕ → TableId) (run : RunData) where
    abbrev Run : Side → Option Note → Type 0
    Run x note = RunFits side table mark note_of p tables books run x note

    -- the mark of the flush of a run is one more than its place
    run_mark : (h : List Event) (x : Side) (left : Option Note) → Run x left → IsRunOf p h run → mark_of (plan_of p run.stream) (known p h run.stream).finished ≡ run.place + 1
    run_mark h x left fits is = ap (mark_of (plan_of p run.stream)) (sym is.finished) ∙ mark_at (plan_of p run.stream) run.finished run.place fits.of_plans.place

    -- a side comes home while its order is unprocessed
    pub back_fits : (h : List Event) (home : Bool) (x : Side) (left : Option Note) (slot : SlotData Side Note) → Run x left
        → (is_open (standing_of p h run.stream) ≡ true → IsRunOf p h run × (length (side x).fetched ≡ run.facts.fetched) × (home ≡ false))
        → Slot h home run.stream slot → Slot h true run.stream (record slot { side = Some x; begun = true; first = left })
    back_fits h home x left slot fits shows f = record {
      own = (fits.plan, fits.shared);
      queue_shared = f.queue_shared;
      first_shared = fits.note_shared;
      at_home = refl;
      away = λ e. refl;
      agrees = λ o. let it = shows o in at_home_of o it.0 it.1;
      notes = λ o. let it = shows o in notes_of o it.0 it.2;
    }
      where
        at_home_of : is_open (standing_of p h run.stream) ≡ true → IsRunOf p h run → length (side x).fetched ≡ run.facts.fetched → IsAtHome p h run.stream (side x)
        at_home_of o is whole =
            let at = run_mark h x left fits is in
            let low = fits.behind in
            record {
              fetched = whole ∙ ap (λ facts. facts.fetched) is.facts;
              finished = fits.finished ∙ is.finished;
              greatest = fits.greatest ∙ is.greatest;
              met = omega (arith, at, low);
            }

        first_of : (note : Option Note) → Run x note → IsRunOf p h run → IfSome note (λ note. (true ≡ true) × (mark note ≡ mark_of (plan_of p run.stream) (known p h run.stream).finished))
        first_of None it is = tt
        first_of (Some n) it is = (refl, it.noted ∙ sym (run_mark h x (Some n) it is))

        met_of : (note : Option Note) → Run x note → IsRunOf p h run → note ≡ None → HasMet (plan_of p run.stream) (known p h run.stream).finished (side x)
        met_of None it is e = record { met = it.noted.0 ∙ sym (run_mark h x None it is); reached = it.noted.1 }
        met_of (Some n) it is e = absurd (cc)

        notes_of : is_open (standing_of p h run.stream) ≡ true → IsRunOf p h run → home ≡ false → NotesFit side table mark note_of p h run.stream (record slot { side = Some x; begun = true; first = left })
        notes_of o is out =
            let begun : slot.begun ≡ true = f.away (is_none slot.side (f.at_home ∙ out)) in
            record {
              queued = (f.notes o).queued ∙ ap (λ (b : Bool). marks_between (plan_of p run.stream) (begun_of (known p h run.stream).finished b) (known p h run.stream).ordered) begun;
              first = first_of left fits is;
              begun = λ b. (f.notes o).begun begun;
              met = λ b e. met_of left fits is e;
            }

    -- what a side has met once its order is finished
    met_last : (x : Side) (left : Option Note) → Run x left → (met_by (option_map mark left) (side x)).met ≡ run.place + 1
    met_last x None fits = fits.noted.0
    met_last x (Some n) fits = let low = fits.behind in let is : mark n ≡ run.place + 1 = fits.noted in higher (side x).met (mark n) low is
      where
        higher : (met m : ℕ) → met ≤ run.place + 1 → m ≡ run.place + 1 → max met m ≡ run.place + 1
        higher met m low is = max-eq_right (subst (λ (k : ℕ). met ≤ k) (sym is) low) ∙ is

    met_keeps : {A : Type 0} (of : SideData → A) → ((s : SideData) (m : ℕ) → of (with_met s m) ≡ of s) → (note : Option ℕ) (s : SideData) → of (met_by note s) ≡ of s
    met_keeps of keeps None s = refl
    met_keeps of keeps (Some m) s = keeps s m

    -- a side comes home once its order is finished
    pub finish_fits : (h : List Event) (home : Bool) (x done : Side) (left : Option Note) (slot : SlotData Side Note) → Run x left → is_open (standing_of p h run.stream) ≡ true → IsRunOf p h run → run.facts.get ≡ run.facts.put → home ≡ false
        → side done ≡ finish_published (met_by (option_map mark left) (side x)) → table done ≡ table x → Slot h home run.stream slot → Slot (Finish run.stream run.order ∷ h) true run.stream (record slot { side = Some done; begun = false; first = None })
    finish_fits h home x done left slot fits open' is end out told same f =
        let s = run.stream in
        let g = Finish run.stream run.order ∷ h in
        let k = known_finish p h s run.order in
        let met = met_by (option_map mark left) (side x) in
        let plan : (side done).plan ≡ plan_of p s = ap (λ (d : SideData). d.plan) told ∙ met_keeps (λ d. d.plan) (λ d m. refl) (option_map mark left) (side x) ∙ fits.plan in
        let finished : (known p g s).finished ≡ (known p h s).finished + 1 = ap (λ (x : Known). x.finished) k in
        let ordered : (known p g s).ordered ≡ (known p h s).ordered = ap (λ (x : Known). x.ordered) k in
        let count = fits.finished ∙ is.finished in
        let rises = mark_rises (plan_of p s) run.finished run.place fits.of_plans.place in
        let last : (side done).met ≡ run.place + 1 = ap (λ (d : SideData). d.met) told ∙ met_last x left fits in
        let begun : slot.begun ≡ true = f.away (is_none slot.side (f.at_home ∙ out)) in
        record {
          own = (plan, same ∙ fits.shared);
          queue_shared = f.queue_shared;
          first_shared = tt;
          at_home = refl;
          away = λ e. absurd (cc);
          agrees = λ o. record {
            fetched = ap (λ (d : SideData). length d.fetched) told ∙ met_keeps (λ d. length d.fetched) (λ d m. refl) (option_map mark left) (side x) ∙ fits.whole end ∙ ap (λ facts. facts.fetched) is.facts ∙ sym (ap (λ (x : Known). x.state.fetched) k);
            finished = ap (λ (d : SideData). d.finished) told ∙ ap (λ (n : ℕ). n + 1) (met_keeps (λ d. d.finished) (λ d m. refl) (option_map mark left) (side x) ∙ count) ∙ sym finished;
            greatest = ap (λ (d : SideData). d.greatest) told ∙ met_keeps (λ d. d.greatest) (λ d m. refl) (option_map mark left) (side x) ∙ fits.greatest ∙ is.greatest ∙ sym (ap (λ (x : Known). greatest x.tokens) k);
            met = subst (λ (n : ℕ). (side done).met ≤ mark_of (plan_of p s) n) (ap (λ (n : ℕ). n + 1) is.finished ∙ sym finished) (subst (λ (n : ℕ). n ≤ mark_of (plan_of p s) (run.finished + 1)) (sym last) rises);
          };
          notes = λ o. record {
            queued = (f.notes open').queued
                ∙ ap (λ (b : Bool). marks_between (plan_of p s) (begun_of (known p h s).finished b) (known p h s).ordered) begun
                ∙ ap (λ (n : ℕ). marks_between (plan_of p s) n (known p h s).ordered) (sym finished)
                ∙ ap (λ (n : ℕ). marks_between (plan_of p s) (known p g s).finished n) (sym ordered);
            first = tt;
            begun = λ b. absurd (cc);
            met = λ b e. absurd (cc);
          };
        }

    -- the note of a run, or else what its side has met
    abbrev Noted : Side → Option Note → Type 0
    Noted x left = MatchOption left (((side x).met ≡ run.place + 1) × ((side x).met ≤ side_reach (side x))) (λ n. mark n ≡ run.place + 1)

    -- a run is taken: its side is the one that was at home, and its note that of the first order
    pub taken_fits : (h : List Event) (home : Bool) (x : Side) (left : Option Note) (slot : SlotData Side Note) → IsLegal p h → IsOfPlans p run → IsRunOf p h run → run.book ≡ books run.stream → slot.side ≡ Some x → left ≡ note_ahead slot → Slot h home run.stream slot → Run x left
    taken_fits h home x left slot legal of_plans is book there note f =
        let s = run.stream in
        let first = left_open p h s legal (first_some (first_order (left_of p h s)) run.order is.order) in
        let own = subst (λ (o : Option Side). IfSome o (λ x. ((side x).plan ≡ plan_of p s) × (table x ≡ tables s))) there f.own in
        let agrees = subst (λ (o : Option Side). IfSome o (λ x. IsAtHome p h s (side x))) there (f.agrees first.0) in
        let notes = f.notes first.0 in
        let at : mark_of (plan_of p s) (known p h s).finished ≡ run.place + 1 = ap (mark_of (plan_of p s)) (sym is.finished) ∙ mark_at (plan_of p s) run.finished run.place of_plans.place in
        let low = agrees.met in
        let whole : length (side x).fetched ≡ run.facts.fetched = agrees.fetched ∙ sym (ap (λ facts. facts.fetched) is.facts) in
        record {
          of_plans = of_plans;
          book = book;
          plan = own.0;
          shared = own.1;
          note_shared = subst (λ (o : Option Note). IfSome o (λ n. note_of n (tables s))) (sym note) (shared_ahead slot.begun);
          finished = agrees.finished ∙ sym is.finished;
          greatest = agrees.greatest ∙ sym is.greatest;
          list = omega (arith, whole);
          may = subst (All (MayHavePut p run)) (sym (drop_all run.facts.fetched (side x).fetched (omega (arith, whole)))) (All-nil (MayHavePut p run));
          whole = λ end. whole;
          behind = omega (arith, low, at);
          noted = subst (λ (o : Option Note). Noted x o) (sym note) (by slot.begun refl notes at first.2 there);
        }
      where
        shared_ahead : (b : Bool) → IfSome (cond b slot.first (slice_get slot.notes 0)) (λ n. note_of n (tables run.stream))
        shared_ahead true = f.first_shared
        shared_ahead false = first_of (λ n. note_of n (tables run.stream)) slot.notes f.queue_shared

        begun_note : (o : Option Note) → slot.first ≡ o → NotesFit side table mark note_of p h run.stream slot → mark_of (plan_of p run.stream) (known p h run.stream).finished ≡ run.place + 1 → slot.begun ≡ true → slot.side ≡ Some x → Noted x o
        begun_note None e notes at b there =
            let met = subst (λ (o : Option Side). IfSome o (λ x. HasMet (plan_of p run.stream) (known p h run.stream).finished (side x))) there (notes.met b e) in
            (met.met ∙ at, met.reached)
        begun_note (Some n) e notes at b there = (subst (λ (o : Option Note). IfSome o (λ note. (slot.begun ≡ true) × (mark note ≡ mark_of (plan_of p run.stream) (known p h run.stream).finished))) e notes.first).1 ∙ at

        next_note : (o : Option Note) → MatchOption o ⊥ (λ note. mark note ≡ run.place + 1) → Noted x o
        next_note None m = absurd m
        next_note (Some n) m = m

        by : (b : Bool) → slot.begun ≡ b → NotesFit side table mark note_of p h run.stream slot → mark_of (plan_of p run.stream) (known p h run.stream).finished ≡ run.place + 1 → (known p h run.stream).finished < (known p h run.stream).ordered → slot.side ≡ Some x → Noted x (cond b slot.first (slice_get slot.notes 0))
        by true e notes at less there = begun_note slot.first refl notes at e there
        by false e notes at less there =
            let placed : slice_get (flush_places (plan_of p run.stream).actions) (known p h run.stream).finished ≡ Some run.place = ap (slice_get (flush_places (plan_of p run.stream).actions)) (sym is.finished) ∙ of_plans.place in
            next_note (slice_get slot.notes 0) (queue_first mark (plan_of p run.stream) slot.notes (known p h run.stream).finished (known p h run.stream).ordered run.place less placed
            (notes.queued ∙ ap (λ (b : Bool). marks_between (plan_of p run.stream) (begun_of (known p h run.stream).finished b) (known p h run.stream).ordered) e)).0
