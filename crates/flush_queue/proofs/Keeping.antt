-- Each kind of step keeps the rule of a queue.
use Rattle.std.proofs.Common.{◌≡◌, ℕ, zero, suc, ◌+◌, ◌<◌, List, [], ◌∷◌, ◌++◌, length, set, sym, refl, ap, subst}
use mathlib.Core.Option.{some, some-injective, some-ne-none}
use lib.ListN.{get_elem?}
use Rattle.std.specs.Prelude.{Ok, Err}
use Rattle.atomic_table.specs.Seated.{TableId}
use Rattle.crossbeam_queue.specs.Fifo.{Pushes, Pops, Forks, Learns}
use Rattle.gpu_plan.specs.Plans.{PlanData}
use Rattle.gpu_plan.specs.Passes.{flushes}
use Rattle.shm_words.specs.Seen.{ClientData}
use Rattle.flush_queue.specs.declared.view.View.{View}
use Rattle.flush_queue.specs.declared.view.View.TheVariants.{Fresh, Told, Whole, Poster, Taker}
use Rattle.flush_queue.specs.Views.{Item, note_at, pass_of, count_of, next_note, HasNext, tells, learns, poster_part, taker_part, posts, takes_note}
use Rattle.flush_queue.specs.Rule.{AreFlushes, AreWhole, AreBetween, KeepsQueue, AreLatestOf, AreNextOf}

-- ---- what the rule says of the queue at which an end with this view stands

abbrev Stands : List Item → List View → ℕ → View → Type 0
Stands items views id Fresh = (id ≡ 0) × (views ≡ Fresh ∷ []) × (items ≡ [])
Stands items views id (Told pass) = (id ≡ 0) × (views ≡ Told pass ∷ []) × (items ≡ Err pass ∷ [])
Stands items views id (Whole pass) = (id ≡ 0) × (views ≡ Whole pass ∷ []) × (items ≡ [])
Stands items views id (Poster pass posted) = (id ≡ 0) × (taken : ℕ) × (views ≡ Poster pass posted ∷ Taker pass taken ∷ []) × AreFlushes pass.table pass.plan taken items posted
Stands items views id (Taker pass taken) = (id ≡ 1) × (posted : ℕ) × (views ≡ Poster pass posted ∷ Taker pass taken ∷ []) × AreFlushes pass.table pass.plan taken items posted

whole : (items : List Item) (one : View) → AreWhole items one → Stands items (one ∷ []) 0 one
whole items Fresh are = (refl, refl, are)
whole items (Told pass) are = (refl, refl, are)
whole items (Whole pass) are = (refl, refl, are)
whole items (Poster pass posted) are = absurd are
whole items (Taker pass taken) are = absurd are

module _ (items : List Item) (one other : View) (are : AreBetween items one other) where
  both : one ∷ other ∷ [] ≡ Poster are.pass are.posted ∷ Taker are.pass are.taken ∷ []
  both = λ i. are.poster i ∷ are.taker i ∷ []

  poster : Stands items (one ∷ other ∷ []) 0 one
  poster = subst (Stands items (one ∷ other ∷ []) 0) (sym are.poster) (refl, are.taken, both, are.between)

  taker : Stands items (one ∷ other ∷ []) 1 other
  taker = subst (Stands items (one ∷ other ∷ []) 1) (sym are.taker) (refl, are.posted, both, are.between)

stands : (items : List Item) (views : List View) (id : ℕ) (v : View) → KeepsQueue items views → get_elem? views id ≡ some v → Stands items views id v
stands items [] id v keeps at = absurd keeps
stands items (one ∷ []) zero v keeps at = subst (Stands items (one ∷ []) 0) (some-injective _ _ at) (whole items one keeps)
stands items (one ∷ []) (suc id) v keeps at = absurd (some-ne-none v (sym at))
stands items (one ∷ other ∷ []) zero v keeps at = subst (Stands items (one ∷ other ∷ []) 0) (some-injective _ _ at) (poster items one other keeps)
stands items (one ∷ other ∷ []) (suc zero) v keeps at = subst (Stands items (one ∷ other ∷ []) 1) (some-injective _ _ at) (taker items one other keeps)
stands items (one ∷ other ∷ []) (suc (suc id)) v keeps at = absurd (some-ne-none v (sym at))
stands items (one ∷ other ∷ more ∷ views) id v keeps at = absurd keeps

-- the rule holds where one view of a known list was changed
moved : (items : List Item) (views known : List View) (id at : ℕ) (w : View) → id ≡ at → views ≡ known → KeepsQueue items (set known at w) → KeepsQueue items (set views id w)
moved items views known id at w same are keeps = subst (λ (y : ℕ × List View). KeepsQueue items (set y.1 y.0 w)) (λ i. (sym same i, sym are i)) keeps

-- ---- the pass goes through the queue

pub begins : KeepsQueue [] (Fresh ∷ [])
begins = refl

pub told : (n id : ℕ) (v : View) (pass : ClientData) → v ≡ Fresh → Pushes KeepsQueue n id v (Err pass) (tells v (Err pass))
told n id v pass is items views room keeps at =
    let s = subst (Stands items views id) is (stands items views id v keeps at) in
    (Told pass, moved (items ++ Err pass ∷ []) views (Fresh ∷ []) id 0 (Told pass) s.0 s.1 (ap (λ (l : List Item). l ++ Err pass ∷ []) s.2), refl)

pub is_empty : (id : ℕ) (v : View) → v ≡ Fresh → Learns KeepsQueue id v (λ items. items ≡ [])
is_empty id v is items views keeps at = (subst (Stands items views id) is (stands items views id v keeps at)).2

pub learnt : (id : ℕ) (v : View) → v ≡ Told (pass_of v) → Pops KeepsQueue id v (learns v)
learnt id v is item items views keeps at =
    let s = subst (Stands (item ∷ items) views id) is (stands (item ∷ items) views id v keeps at) in
    (Whole (pass_of v), moved items views (Told (pass_of v) ∷ []) id 0 (Whole (pass_of v)) s.0 s.1 (rest item (Err (pass_of v)) items s.2), (refl, first item (Err (pass_of v)) items s.2))
  where
    first : (x y : Item) (xs : List Item) → x ∷ xs ≡ y ∷ [] → x ≡ y
    first x y xs e = cc

    rest : (x y : Item) (xs : List Item) → x ∷ xs ≡ y ∷ [] → xs ≡ []
    rest x y xs e = cc

pub is_one : (id : ℕ) (v : View) → v ≡ Told (pass_of v) → Learns KeepsQueue id v (λ items. length items ≡ 1)
is_one id v is items views keeps at = ap length (subst (Stands items views id) is (stands items views id v keeps at)).2

pub parted : (id : ℕ) (v : View) → v ≡ Whole (pass_of v) → Forks KeepsQueue id v (poster_part v) (taker_part v)
parted id v is items views keeps at =
    let s = subst (Stands items views id) is (stands items views id v keeps at) in
    let pass = pass_of v in
    subst (λ (y : ℕ × List View). KeepsQueue items (set y.1 y.0 (poster_part v) ++ taker_part v ∷ [])) (λ i. (sym s.0 i, sym s.1 i)) record {
      pass = pass;
      posted = 0;
      taken = 0;
      poster = refl;
      taker = refl;
      between = subst (λ (l : List Item). AreFlushes pass.table pass.plan 0 l 0) (sym s.2) refl;
    }

-- ---- flushes go through the queue

-- after the latest flush comes the next one
next_behind : (words : TableId) (plan : PlanData) (taken posted : ℕ) (items : List Item) → AreFlushes words plan taken items posted → posted < flushes plan.actions → AreFlushes words plan taken (items ++ Ok (note_at words plan posted) ∷ []) (posted + 1)
next_behind words plan taken posted [] are there = (ap (λ (n : ℕ). Ok (note_at words plan n)) (sym are), subst (λ (n : ℕ). n < flushes plan.actions) (sym are) there, ap (λ (n : ℕ). n + 1) are)
next_behind words plan taken posted (item ∷ items) are there = (are.0, are.1, next_behind words plan (taken + 1) posted items are.2 there)

pub posted : (n id : ℕ) (v : View) (item : Item) → v ≡ Poster (pass_of v) (count_of v) → item ≡ Ok (next_note v) → HasNext v → Pushes KeepsQueue n id v item (posts v item)
posted n id v item is note there items views room keeps at =
    let s = subst (Stands items views id) is (stands items views id v keeps at) in
    let pass = pass_of v in
    let w : View = Poster pass (count_of v + 1) in (
      w,
      moved (items ++ item ∷ []) views (Poster pass (count_of v) ∷ Taker pass s.1 ∷ []) id 0 w s.0 s.2 record {
        pass = pass;
        posted = count_of v + 1;
        taken = s.1;
        poster = refl;
        taker = refl;
        between = subst (λ (x : Item). AreFlushes pass.table pass.plan s.1 (items ++ x ∷ []) (count_of v + 1)) (sym note) (next_behind pass.table pass.plan s.1 (count_of v) items s.3 there);
      },
      refl,
    )

pub are_latest : (id : ℕ) (v : View) → v ≡ Poster (pass_of v) (count_of v) → Learns KeepsQueue id v (AreLatestOf v)
are_latest id v is items views keeps at = let s = subst (Stands items views id) is (stands items views id v keeps at) in (s.1, s.3)

pub taken : (id : ℕ) (v : View) → v ≡ Taker (pass_of v) (count_of v) → Pops KeepsQueue id v (takes_note v)
taken id v is item items views keeps at =
    let s = subst (Stands (item ∷ items) views id) is (stands (item ∷ items) views id v keeps at) in
    let pass = pass_of v in
    let w : View = Taker pass (count_of v + 1) in (
      w,
      moved items views (Poster pass s.1 ∷ Taker pass (count_of v) ∷ []) id 1 w s.0 s.2 record {
        pass = pass;
        posted = s.1;
        taken = count_of v + 1;
        poster = refl;
        taker = refl;
        between = s.3.2;
      },
      (refl, s.3.0, s.3.1),
    )

pub are_next : (id : ℕ) (v : View) → v ≡ Taker (pass_of v) (count_of v) → Learns KeepsQueue id v (AreNextOf v)
are_next id v is items views keeps at = let s = subst (Stands items views id) is (stands items views id v keeps at) in (s.1, s.3)
