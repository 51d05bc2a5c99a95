-- The order of the next flush of a stream.
use Rattle.std.proofs.Common.{◌≡◌, ℕ, ◌-◌, Some, Option, List, get_or, sym, ap, ◌∙◌}
use Rattle.std.specs.Prelude.{slice_get}
use Rattle.gpu_plan.specs.Plans.{plan_of}
use Rattle.gpu_plan.specs.Places.{flush_places}
use Rattle.gpu_journal.specs.World.{known}
use Rattle.house_core.specs.Desks.{DeskData}
use Rattle.house_core.specs.Invariant.{Parts}
use Rattle.house_core.proofs.Again.{Place}

-- what the desk of a stream gives is the place of the first flush that has no order
pub next_placed : (c : Parts) (s ordered place : ℕ) (desk other : DeskData) (found : Option ℕ) → Place c s → desk ≡ get_or c.desks (s - 1) other → ordered ≡ desk.ordered → found ≡ slice_get desk.places ordered → found ≡ Some place
    → slice_get (flush_places (plan_of c.plans s).actions) (known c.plans c.past s).ordered ≡ Some place
next_placed c s ordered place desk other found at_home read counted told is =
    let there = read ∙ at_home.there other in
    let number = counted ∙ ap (λ (desk : DeskData). desk.ordered) there ∙ at_home.fits.ordered in
    let places = ap (λ (desk : DeskData). desk.places) there ∙ at_home.fits.places in
    ap (slice_get (flush_places (plan_of c.plans s).actions)) (sym number) ∙ ap (λ (places : List ℕ). slice_get places ordered) (sym places) ∙ sym told ∙ is
