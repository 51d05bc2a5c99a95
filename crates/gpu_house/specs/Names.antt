-- What the naming parameter names.
use Rattle.std.specs.Prelude.{ℕ, zero, suc, List, [], slice_index_or}
use Rattle.atomic_table.specs.Seated.{TableId}
use Rattle.logbook.specs.Pages.{Book}
use Rattle.gpu_fetch.specs.Side.{no_table}
use Rattle.gpu_plan.specs.Plans.{PlansData}

-- a script without streams
abbrev pub no_plans : PlansData
no_plans = record { version = 1; plans = [] }

-- the view of nobody
abbrev pub no_view : Book
no_view = record { number = 0; log_name = 0; cells_name = 0 }

-- the table of stream s among the tables from stream 1 on
abbrev pub table_at : List TableId → ℕ → TableId
table_at tables zero = no_table
table_at tables (suc k) = slice_index_or tables k no_table
