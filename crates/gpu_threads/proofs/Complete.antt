-- Where no stream is open the history is complete.
use Rattle.std.proofs.Common.{◌≡◌, ◌≢◌, ℕ, ◌-◌, ◌<◌, eqb, Bool, true, false, not, ◌&&◌, cond, List, length, refl, sym, subst, arith}
use Rattle.std.proofs.lemmas.Bool.Decides.{nat_tests}
use Rattle.sync_core.specs.Standing.{IsKnown}
use Rattle.gpu_plan.specs.Plans.{PlansData, plan_of, is_closed}
use Rattle.gpu_plan.specs.Passes.{flushes}
use Rattle.gpu_journal.specs.declared.event.Event.{Event}
use Rattle.gpu_journal.specs.World.{known}
use Rattle.gpu_journal.specs.Waits.{standing_of}
use Rattle.gpu_journal.specs.Complete.{IsComplete}
use Rattle.house_core.specs.Core.{is_done}
use Rattle.gpu_house.specs.declared.answers.Doing.TheVariants.{Open, Lost, AllDone, Closed}
use Rattle.gpu_house.specs.Ending.{doing_of}
use Rattle.gpu_threads.specs.Over.{AreOver}

-- a stream that is neither lost nor closed nor open is done
done_there : (lost closed done : Bool) → not lost && not closed ≡ true → cond lost Lost (cond closed Closed (cond done AllDone Open)) ≢ Open → done ≡ true
done_there true closed done stays over = absurd (cc)
done_there false true done stays over = absurd (cc)
done_there false false true stays over = refl
done_there false false false stays over = absurd (over refl)

done_so : (closed : Bool) (ordered finished all : ℕ) → not closed && (eqb ordered all && eqb finished all) ≡ true → (closed ≡ false) × ((ordered ≡ all) × (finished ≡ all))
done_so true ordered finished all done = absurd (cc)
done_so false ordered finished all done = (refl, (grind (arith, nat_tests), grind (arith, nat_tests)))

pub complete : (p : PlansData) (h : List Event) → AreOver p h (length p.plans) → IsComplete p h
complete p h over s is =
    let x = standing_of p h s in
    let k = known p h s in
    let done = done_there x.lost x.closed (is_done p h s) is.stays (over s is.known) in
    let so = done_so (is_closed (plan_of p s).actions) k.ordered k.finished (flushes (plan_of p s).actions) done in
    record { stays_open = so.0; ordered = so.1.0; finished = so.1.1 }

pub one_more_over : (p : PlansData) (h : List Event) (s : ℕ) → 0 < s → AreOver p h (s - 1) → doing_of p h s ≢ Open → AreOver p h s
one_more_over p h s low before here t known = by (eqb t s) refl
  where
    by : (b : Bool) → eqb t s ≡ b → doing_of p h t ≢ Open
    by true e = let same : t ≡ s = grind (arith, nat_tests) in subst (λ (t : ℕ). doing_of p h t ≢ Open) (sym same) here
    by false e = before t (known.0, (let high = known.1 in let apart : t ≢ s = λ same. absurd (grind (arith, nat_tests)) in omega (arith, apart, high, low)))

-- and where a stream is open the history is not complete
open_so : (lost closed done : Bool) → cond lost Lost (cond closed Closed (cond done AllDone Open)) ≡ Open → (not lost && not closed ≡ true) × (done ≡ false)
open_so true closed done is = absurd (cc)
open_so false true done is = absurd (cc)
open_so false false true is = absurd (cc)
open_so false false false is = (refl, refl)

undone_so : (closed : Bool) (ordered finished all : ℕ) → not closed && (eqb ordered all && eqb finished all) ≡ false → closed ≡ false → ordered ≡ all → finished ≡ all → ⊥
undone_so true ordered finished all undone stays o f = absurd (cc)
undone_so false ordered finished all undone stays o f = absurd (grind (arith, nat_tests))

pub open_left : (p : PlansData) (h : List Event) (s : ℕ) → IsKnown (length p.plans) s → doing_of p h s ≡ Open → IsComplete p h → ⊥
open_left p h s known_so is whole =
    let x = standing_of p h s in
    let k = known p h s in
    let so = open_so x.lost x.closed (is_done p h s) is in
    let done = whole s (record { known = known_so; stays = so.0 }) in
    undone_so (is_closed (plan_of p s).actions) k.ordered k.finished (flushes (plan_of p s).actions) so.1 done.stays_open done.ordered done.finished
