-- The room that a finish and the end of a stream give back.
use Rattle.std.proofs.Common.{◌≡◌, ℕ, ◌+◌, ◌-◌, ◌^◌, ◌<◌, ◌≤◌, List, length, get_or, sym, ap, subst, ◌∙◌, arith, true}
use Rattle.gpu_plan.specs.declared.plan.Action.{Action}
use Rattle.gpu_plan.specs.Plans.{plan_of}
use Rattle.gpu_plan.specs.Passes.{flushes}
use Rattle.gpu_plan.proofs.Passing.{flushes_within}
use Rattle.sync_core.specs.Standing.{is_open, IsKnown}
use Rattle.gpu_journal.specs.Waits.{IsOpen, standing_of}
use Rattle.serial_laws.proofs.Flushes.{flushes_end}
use Rattle.serial_laws.proofs.Passed.{lawful_of}
use Rattle.serial_laws.specs.Needs.{need}
use Rattle.serial_laws.proofs.Fronts.{left_count, counts_within}
use Rattle.serial_laws.proofs.Needs.{need_open}
use Rattle.serial_laws.proofs.Drawn.{drawn_few}
use Rattle.house_core.specs.Desks.{DeskData, RunData, desk_at}
use Rattle.house_core.specs.Core.{CoreData, IsOfPlans}
use Rattle.house_core.specs.Invariant.{Parts, CoreInvariant, seen}
use Rattle.house_core.proofs.Again.{Place}
use Rattle.house_core.proofs.Seen.{place_seen, place_of_run}

-- no more flushes are finished than are ordered
pub counts_fit : (c : Parts) (s : ℕ) → CoreInvariant c → Place c s → (desk_at c.desks s).finished ≤ (desk_at c.desks s).ordered
counts_fit c s was place =
    let few = (counts_within c.plans c.past s was.legal).0 in
    let o = place.fits.ordered in
    let f = place.fits.finished in
    omega (arith, few, o, f)

-- an open stream with n flushes that are ordered and not finished needs those and its end
pub room_of_end : (c : Parts) (v : CoreData) (s n : ℕ) (desk other : DeskData) → seen c ≡ v → CoreInvariant c → IsOpen v.plans v.past s → desk ≡ get_or c.desks (s - 1) other → n + desk.finished ≡ desk.ordered
    → (need c.plans c.past s ≡ n + 1) × (n + 1 ≤ c.owed)
room_of_end c v s n desk other view_is was open' found unfinished =
    let place = place_seen c v s view_is was open'.known in
    let there = found ∙ place.there other in
    let stays = (subst (λ (v : CoreData). IsOpen v.plans v.past s) (sym view_is) open').stays in
    let few = (counts_within c.plans c.past s was.legal).0 in
    let o = ap (λ (desk : DeskData). desk.ordered) there ∙ place.fits.ordered in
    let f = ap (λ (desk : DeskData). desk.finished) there ∙ place.fits.finished in
    let left = left_count c.plans c.past s was.legal stays in
    let all = need_open c.plans c.past s stays in
    let part = place.need in
    (omega (arith, few, o, f, left, all), omega (arith, few, o, f, left, all, part))

few_flushes : (actions : List Action) → length actions ≤ 1000000 → flushes actions ≤ 1000000
few_flushes actions few =
    let all = flushes_end actions (length actions) (omega arith) in
    let most = flushes_within actions (length actions) in
    omega (arith, all, most, few)

-- an open stream needs an event at least, and has few flushes
pub room_of_finish : (c : Parts) (v : CoreData) (s : ℕ) (run : RunData) → seen c ≡ v → CoreInvariant c → s ≡ run.stream → IsOfPlans v.plans run → is_open (standing_of v.plans v.past run.stream) ≡ true
    → (1 ≤ c.owed) × ((desk_at c.desks s).finished + 1 < 2 ^ 32)
room_of_finish c v s run view_is was stream plan stays =
    let place = place_of_run c v s run view_is was stream plan in
    let there = subst (λ (s : ℕ). is_open (standing_of c.plans c.past s) ≡ true) (sym stream) (subst (λ (v : CoreData). is_open (standing_of v.plans v.past run.stream) ≡ true) (sym view_is) stays) in
    let all = need_open c.plans c.past s there in
    let counts = counts_within c.plans c.past s was.legal in
    let less = counts.0 in
    let most = counts.1 in
    let few = few_flushes (plan_of c.plans s).actions (lawful_of c.plans s was.lawful place.plan).few in
    let same = place.fits.finished in
    let part = place.need in
    (omega (arith, all, part), omega (arith, less, most, few, same))

-- 32 bits hold the next order number, and one more order of a stream
pub room_of_order : (c : Parts) (v : CoreData) (s : ℕ) → seen c ≡ v → CoreInvariant c → IsKnown (length v.plans.plans) s → (c.sync.drawn + 1 < 2 ^ 32) × ((desk_at c.desks s).ordered + 1 < 2 ^ 32)
room_of_order c v s view_is was known =
    let place = place_seen c v s view_is was known in
    let numbers = drawn_few c.plans c.past was.lawful was.legal in
    let drawn = was.sync.drawn in
    let most = (counts_within c.plans c.past s was.legal).1 in
    let few = few_flushes (plan_of c.plans s).actions (lawful_of c.plans s was.lawful place.plan).few in
    let ordered = place.fits.ordered in
    (omega (arith, numbers, drawn), omega (arith, most, few, ordered))
