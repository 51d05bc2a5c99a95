-- What a run on threads leaves.
use Rattle.std.specs.Prelude.{◌≡◌, ℕ}
use Rattle.gpu_plan.specs.Plans.{PlansData}
use Rattle.gpu_journal.specs.Legal.{IsLegal}
use Rattle.gpu_journal.specs.Complete.{IsComplete}
use Rattle.gpu_journal.specs.Ended.{streams_of}
use Rattle.gpu_threads.specs.declared.threaded_run.ThreadedRun.{ThreadedRun}
use Rattle.gpu_threads.specs.Dumps.{AreAllRead}
use Rattle.gpu_threads.specs.Views.{AreAllLooks}

-- it is a run of these plans, with its marks over a base and a given number of viewers:
-- - its journal is legal and complete
-- - beside it are 17 looks for each viewer, and what the client of each stream has read
pub record IsThreadedRun (p : PlansData) (base viewers : ℕ) (run : ThreadedRun) : Type 0 where
  pub plans : run.report.plans ≡ p
  pub based : run.report.base ≡ base
  pub legal : IsLegal p run.report.past
  pub complete : IsComplete p run.report.past
  pub looks : AreAllLooks p run.report.past viewers run.looks.items
  pub dumps : AreAllRead p run.report.past (streams_of p) run.dumps.items
