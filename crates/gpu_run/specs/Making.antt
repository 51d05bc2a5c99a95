-- What the run on one thread is made of.
use Rattle.std.specs.Prelude.{◌≡◌, List, length, map}
use Rattle.std.specs.List.{All}
use Rattle.gpu_plan.specs.Plans.{PlanData}
use Rattle.gpu_fetch.specs.Side.{fresh_side}
use Rattle.house_core.specs.Core.{IsFresh}
use Rattle.gpu_run.specs.declared.parts.Parts.{Parts}
use Rattle.gpu_run.specs.Clients.{fresh_run_client}

-- of each of these plans, in order: a client and a side that have done nothing, results, and a book whose numbers are all 0
pub record AreFreshFor (plans : List PlanData) (parts : Parts) : Type 0 where
  pub clients : parts.clients.items ≡ map fresh_run_client plans
  pub sides : parts.sides.items ≡ map fresh_side plans
  pub results : length parts.results.items ≡ length plans
  pub books : length parts.books.items ≡ length plans
  pub blank : All IsFresh parts.books.items
