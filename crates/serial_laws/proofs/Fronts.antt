-- In a legal history the first number of an open stream is that of its first flush that is not finished.
use Rattle.std.proofs.Common.{◌≡◌, ℕ, ◌-◌, ◌≤◌, ◌<◌, true, Some, List, length, sym, ap, ◌∙◌, arith, IsSome}
use Rattle.std.specs.Prelude.{slice_get}
use Rattle.gpu_plan.specs.Plans.{PlansData, plan_of}
use Rattle.gpu_plan.specs.Passes.{flushes}
use Rattle.gpu_plan.specs.Places.{flush_places}
use Rattle.sync_core.specs.Standing.{is_open, first_order}
use Rattle.gpu_journal.specs.declared.event.Event.{Event}
use Rattle.gpu_journal.specs.World.{known}
use Rattle.gpu_journal.specs.Waits.{standing_of, left_of}
use Rattle.gpu_journal.specs.Facts.{place_of, flush_of, put_in, put_of}
use Rattle.gpu_journal.specs.Legal.{IsLegal}
use Rattle.serial_laws.proofs.Fitting.{fits, open_of_left}
use Rattle.serial_laws.proofs.Obeying.{first_placed}

-- an open stream has as many unprocessed numbers as flushes that are ordered and not finished
pub left_count : (p : PlansData) (h : List Event) (s : ℕ) → IsLegal p h → is_open (standing_of p h s) ≡ true → length (left_of p h s) ≡ (known p h s).ordered - (known p h s).finished
left_count p h s legal o = let all = (fits p h legal s).its_left o in omega (arith, all)

-- a stream with an unprocessed number is open, and has a flush that is ordered and not finished
pub left_open : (p : PlansData) (h : List Event) (s : ℕ) → IsLegal p h → IsSome (first_order (left_of p h s)) → (is_open (standing_of p h s) ≡ true) × (0 < length (left_of p h s)) × ((known p h s).finished < (known p h s).ordered)
left_open p h s legal some =
    let f = fits p h legal s in
    let o = open_of_left (plan_of p s).actions (place_of h) (known p h s) (standing_of p h s) f some in
    let all = f.its_left o.0 in
    let more = o.1 in
    (o.0, more, omega (arith, all, more))

-- the first unprocessed number stands at the first flush that is not finished
pub front_placed : (p : PlansData) (h : List Event) (s : ℕ) → IsLegal p h → IsSome (first_order (left_of p h s)) → slice_get (flush_places (plan_of p s).actions) (known p h s).finished ≡ Some (flush_of p h s)
front_placed p h s legal some =
    first_placed (place_of h) (flush_places (plan_of p s).actions) (known p h s).finished (left_of p h s) (fits p h legal s).placed (left_open p h s legal some).1

-- so the flush of the first number hangs on the count of finishes alone
pub flush_same : (p : PlansData) (h g : List Event) (s : ℕ) → IsLegal p h → IsLegal p g → IsSome (first_order (left_of p h s)) → IsSome (first_order (left_of p g s)) → (known p h s).finished ≡ (known p g s).finished → flush_of p h s ≡ flush_of p g s
flush_same p h g s legal legal' some some' same =
    let here = front_placed p h s legal some in
    let there = front_placed p g s legal' some' in
    let both : Some (flush_of p h s) ≡ Some (flush_of p g s) = sym here ∙ ap (slice_get (flush_places (plan_of p s).actions)) same ∙ there in
    cc

-- and so does its put
pub put_same : (p : PlansData) (h g : List Event) (s : ℕ) → IsLegal p h → IsLegal p g → IsSome (first_order (left_of p h s)) → IsSome (first_order (left_of p g s)) → (known p h s).finished ≡ (known p g s).finished → put_of p h s ≡ put_of p g s
put_same p h g s legal legal' some some' same = ap (λ (k : ℕ). put_in (slice_get (plan_of p s).actions k)) (flush_same p h g s legal legal' some some' same)

-- no more flushes are finished than are ordered, and no more are ordered than the stream has
pub counts_within : (p : PlansData) (h : List Event) (s : ℕ) → IsLegal p h → ((known p h s).finished ≤ (known p h s).ordered) × ((known p h s).ordered ≤ flushes (plan_of p s).actions)
counts_within p h s legal = let f = fits p h legal s in (f.fewer, f.few)
