-- A new house keeps its invariant: each side is at home and has done nothing, and nothing was ordered, ended or written.
use Rattle.std.proofs.Common.{◌≡◌, ℕ, zero, suc, ◌+◌, ◌<◌, ◌≤◌, eqb, Bool, true, Option, Some, None, List, [], ◌∷◌, length, get_or, map, replicate, refl, sym, ap, subst, ◌∙◌, arith, option_map}
use Rattle.std.specs.Prelude.{IfSome, slice_get, slice_index_or}
use Rattle.std.proofs.lemmas.List.{length-map, get_or-replicate}
use Rattle.std.proofs.lemmas.List.Elements.{All-nil}
use Rattle.std.proofs.lemmas.Option.{slice_get-map, slice_get-get_or, get_or_from_slice_get}
use Rattle.atomic_table.specs.Seated.{TableId}
use Rattle.gpu_word.specs.Results.{Written}
use Rattle.gpu_plan.specs.Plans.{PlansData, PlanData, no_plan, plan_of}
use Rattle.gpu_plan.specs.Passes.{greatest}
use Rattle.gpu_fetch.specs.Side.{SideData, fresh_side, no_table}
use Rattle.wait_hooks.specs.Marks.{Marks}
use Rattle.wait_hooks.specs.Marks as mark
use Rattle.sync_core.specs.Events.{SyncEvent}
use Rattle.sync_core.specs.Pending.{pending, endings}
use Rattle.gpu_journal.specs.World.{World, known}
use Rattle.gpu_journal.specs.Written.{written}
use Rattle.gpu_journal.proofs.Worlds.{world_none, sync_none}
use Rattle.gpu_journal.proofs.Folding.{written_none}
use Rattle.house_core.specs.Core.{CoreData, is_home}
use Rattle.house_core.specs.Desks.{Out, at_home}
use Rattle.house_core.specs.Invariant.{IsCore}
use Rattle.gpu_house.specs.Names.{table_at}
use Rattle.gpu_house.specs.Slots.{SlotData, marks_between, SlotFits}
use Rattle.gpu_house.specs.Marks.{AreMarked}
use Rattle.gpu_house.specs.Making.{fresh_slot, fresh_slots, AreFreshSides, IsFreshFor, AreFreshResults}
use Rattle.gpu_house.specs.House.{HouseInvariant}
use Rattle.gpu_house.proofs.Homes as homes
use Rattle.gpu_house.proofs.Writings as writings

none_finished : (p : PlansData) (s : ℕ) → 0 ≡ (known p [] s).finished
none_finished p s = sym (ap (λ (w : World). (w.streams s).finished) (world_none p))

none_ordered : (p : PlansData) (s : ℕ) → 0 ≡ (known p [] s).ordered
none_ordered p s = sym (ap (λ (w : World). (w.streams s).ordered) (world_none p))

no_marks : (plan : PlanData) → [] ≡ marks_between plan 0 0
no_marks plan = refl

-- no wait has ended, and none is pending
fresh_marks : (p : PlansData) (base : ℕ) (marks : Marks) → marks.base ≡ base → marks.marks ≡ [] → AreMarked p base [] marks
fresh_marks p base marks based none = record {
  based = based;
  all = none ∙ ap (λ (g : List SyncEvent). map (mark.mark base) (endings (length p.plans) g)) (sym (sync_none p));
  room = subst (λ (g : List SyncEvent). length (pending (length p.plans) g) ≤ marks.spare) (sym (sync_none p)) (omega arith);
}

module _ {Side Note : Type 0} (side : Side → SideData) (table : Side → TableId) (mark : Note → ℕ) (note_of : Note → TableId → Type 0) where
  -- the slot of a stream that has done nothing
  fresh_fits : (p : PlansData) (tables : ℕ → TableId) (home : Bool) (s : ℕ) (x : Side) → side x ≡ fresh_side (plan_of p s) → table x ≡ tables s → home ≡ true → SlotFits side table mark note_of p tables [] home s (fresh_slot x)
  fresh_fits p tables home s x is named at = record {
    own = (ap (λ (d : SideData). d.plan) is, named);
    queue_shared = All-nil (λ note. note_of note (tables s));
    first_shared = tt;
    at_home = sym at;
    away = λ e. absurd (cc);
    agrees = λ o. record {
      fetched = ap (λ (d : SideData). length d.fetched) is ∙ sym (ap (λ (w : World). (w.streams s).state.fetched) (world_none p));
      finished = ap (λ (d : SideData). d.finished) is ∙ none_finished p s;
      greatest = ap (λ (d : SideData). d.greatest) is ∙ sym (ap (λ (w : World). greatest (w.streams s).tokens) (world_none p));
      met = (let none = ap (λ (d : SideData). d.met) is in omega (arith, none));
    };
    notes = λ o. record {
      queued = no_marks (plan_of p s) ∙ ap (λ (n : ℕ). marks_between (plan_of p s) n 0) (none_finished p s) ∙ ap (λ (n : ℕ). marks_between (plan_of p s) (known p [] s).finished n) (none_ordered p s);
      first = tt;
      begun = λ b. absurd (cc);
      met = λ b e. absurd (cc);
    };
  }

  -- the sides are as many as the plans
  as_many : (plans : List PlanData) (words : List TableId) (sides : List Side) → AreFreshSides side table plans words sides → length sides ≡ length plans
  as_many plans words sides fresh = sym (length-map sides side) ∙ ap length fresh.0 ∙ length-map plans fresh_side

  fresh_homes : (p : PlansData) (words : List TableId) (core : CoreData) (sides : List Side) → core.past ≡ [] → core.outs ≡ replicate (length p.plans) at_home → AreFreshSides side table p.plans words sides
      → homes.AllFit side table mark note_of p (table_at words) core (fresh_slots sides)
  fresh_homes p words core sides past outs fresh k other lt = by (slice_get sides k) refl
    where
      count : length (fresh_slots {Note = Note} sides) ≡ length p.plans
      count = length-map sides (fresh_slot {Note = Note}) ∙ as_many p.plans words sides fresh

      within : k < length p.plans
      within = let n = count in omega (arith, lt, n)

      home : is_home core.outs (suc k) ≡ true
      home = ap (λ (row : List Out). is_home row (suc k)) outs ∙ ap (λ (out : Out). eqb out.order 0) (get_or-replicate (length p.plans) k at_home at_home within)

      some_is : {X : Type 0} (x y : X) → Some x ≡ Some y → x ≡ y
      some_is x y e = cc

      by : (found : Option Side) → slice_get sides k ≡ found → SlotFits side table mark note_of p (table_at words) core.past (is_home core.outs (suc k)) (suc k) (slice_index_or (fresh_slots {Note = Note} sides) k other)
      by None e = absurd (let here = slice_get-map (fresh_slot {Note = Note}) sides k ∙ ap (option_map (fresh_slot {Note = Note})) e in let there = slice_get-get_or (fresh_slots {Note = Note} sides) k other lt in cc)
      by (Some x) e =
          let slot = get_or_from_slice_get (fresh_slots {Note = Note} sides) k (fresh_slot {Note = Note} x) other (slice_get-map (fresh_slot {Note = Note}) sides k ∙ ap (option_map (fresh_slot {Note = Note})) e) in
          let plan : slice_get (map fresh_side p.plans) k ≡ Some (fresh_side (plan_of p (suc k))) = slice_get-map fresh_side p.plans k ∙ ap (option_map fresh_side) (slice_get-get_or p.plans k no_plan within) in
          let is : side x ≡ fresh_side (plan_of p (suc k)) = some_is _ _ (sym (slice_get-map side sides k ∙ ap (option_map side) e) ∙ ap (λ l. slice_get l k) fresh.0 ∙ plan) in
          let named : table x ≡ table_at words (suc k) = sym (get_or_from_slice_get words k (table x) no_table (sym (ap (λ l. slice_get l k) fresh.1) ∙ slice_get-map table sides k ∙ ap (option_map table) e)) in
          subst (λ h. SlotFits side table mark note_of p (table_at words) h (is_home core.outs (suc k)) (suc k) (slice_index_or (fresh_slots {Note = Note} sides) k other)) (sym past)
          (subst (SlotFits side table mark note_of p (table_at words) [] (is_home core.outs (suc k)) (suc k)) (sym slot) (fresh_fits p (table_at words) (is_home core.outs (suc k)) (suc k) x is named home))

module _ {Results : Type 0} (takes : Results → ℕ → Bool) (told : Results → Option (List Written)) (results_of : Results → TableId → Type 0) (answers : ℕ → TableId) where
  abbrev Fresh : ℕ → List PlanData → List Results → Type 0
  Fresh s plans results = AreFreshResults takes told results_of answers s plans results

  fresh_count : (s : ℕ) (plans : List PlanData) (results : List Results) → Fresh s plans results → length results ≡ length plans
  fresh_count s [] [] fresh = refl
  fresh_count s [] (r ∷ results) fresh = absurd fresh
  fresh_count s (plan ∷ plans) [] fresh = absurd fresh
  fresh_count s (plan ∷ plans) (r ∷ results) fresh = let rest = fresh_count (suc s) plans results fresh.1 in omega (arith, rest)

  fresh_each : (s : ℕ) (plans : List PlanData) (results : List Results) → Fresh s plans results → (k : ℕ) (plan : PlanData) (other : Results) → k < length results
      → IsFreshFor takes told results_of (get_or plans k plan) (answers (k + s)) (get_or results k other)
  fresh_each s [] [] fresh k plan other lt = absurd (omega arith)
  fresh_each s [] (r ∷ results) fresh k plan other lt = absurd fresh
  fresh_each s (p ∷ plans) [] fresh k plan other lt = absurd fresh
  fresh_each s (p ∷ plans) (r ∷ results) fresh zero plan other lt =
      let at : s ≡ 0 + s = omega arith in
      subst (λ (t : ℕ). IsFreshFor takes told results_of p (answers t) r) at fresh.0
  fresh_each s (p ∷ plans) (r ∷ results) fresh (suc k) plan other lt =
      let at : k + suc s ≡ suc k + s = omega arith in
      subst (λ (t : ℕ). IsFreshFor takes told results_of (get_or plans k plan) (answers t) (get_or results k other)) at (fresh_each (suc s) plans results fresh.1 k plan other (omega arith))

  fresh_results : (p : PlansData) (results : List Results) → Fresh 1 p.plans results → writings.AllFit takes told results_of answers p [] results
  fresh_results p results fresh k other lt =
      let own = fresh_each 1 p.plans results fresh k no_plan other lt in
      let at : k + 1 ≡ suc k = omega arith in
      record { shared = subst (λ (t : ℕ). results_of (get_or results k other) (answers t)) at own.shared; takes_all = own.takes_all; are_written = by own.none_written (told (get_or results k other)) refl }
    where
      by : ((list : List Written) → told (get_or results k other) ≡ Some list → list ≡ []) → (o : Option (List Written)) → told (get_or results k other) ≡ o → IfSome o (λ list. list ≡ written p [] (suc k))
      by none None e = tt
      by none (Some list) e = none list e ∙ sym (written_none p (suc k))

module _ {Side Note Results : Type 0} (side : Side → SideData) (table : Side → TableId) (mark : Note → ℕ) (note_of : Note → TableId → Type 0) (takes : Results → ℕ → Bool) (told : Results → Option (List Written)) (results_of : Results → TableId → Type 0) where
  pub fresh_house : (p : PlansData) (base : ℕ) (words books result_words : List TableId) (marks : Marks) (core : CoreData) (sides : List Side) (slots : List (SlotData Side Note)) (results : List Results)
      → IsCore core → core.plans ≡ p → core.past ≡ [] → core.books ≡ books → core.outs ≡ replicate (length p.plans) at_home → AreFreshSides side table p.plans words sides → slots ≡ fresh_slots sides → AreFreshResults takes told results_of (table_at result_words) 1 p.plans results
      → marks.base ≡ base → marks.marks ≡ [] → HouseInvariant side table mark note_of takes told results_of p base words books result_words marks record { core = core; slots = slots; results = results }
  fresh_house p base words books result_words marks core sides slots results holds plans past booked outs fresh made written_none based none = record {
    core = holds;
    plans = plans;
    booked = booked;
    slots = ap length made ∙ length-map sides fresh_slot ∙ as_many side table mark note_of p.plans words sides fresh;
    homes = subst (homes.AllFit side table mark note_of p (table_at words) core) (sym made) (fresh_homes side table mark note_of p words core sides past outs fresh);
    marked = subst (λ h. AreMarked p base h marks) (sym past) (fresh_marks p base marks based none);
    result_count = fresh_count takes told results_of (table_at result_words) 1 p.plans results written_none;
    results = subst (λ h. writings.AllFit takes told results_of (table_at result_words) p h results) (sym past) (fresh_results takes told results_of (table_at result_words) p results written_none);
  }
