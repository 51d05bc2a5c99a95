use Rattle.std.proofs.Common.{map, []}
use Rattle.gpu_fetch.specs.Side.{SideData, no_table}
use Rattle.house_core.specs.Core.{names_of}
use Rattle.gpu_house.specs.Names.{no_view}
use Rattle.gpu_run.proofs.serial.run_one.Given as goal

abbrev pub ghosts-run_named : goal.ghosts-run_named
ghosts-run_named g a = record { plans = a.plans; base = g.H.Hook.base a.hook; words = map (λ (side : SideData). no_table) a.parts.sides.items; books = names_of a.parts.books.items; queues = []; result_words = []; view = no_view }
