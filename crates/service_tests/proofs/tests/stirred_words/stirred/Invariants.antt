use Rattle.std.specs.Prelude.{[], ◌∷◌}
use Rattle.gpu_fetch.specs.Side.{no_table}
use Rattle.gpu_house.specs.Names.{no_view}
use Rattle.service_tests.proofs.tests.stirred_words.stirred.Given as goal

abbrev pub ghosts-drive : goal.ghosts-drive
ghosts-drive a = record { plans = a.plans; base = 0; words = no_table ∷ []; books = a.book.0 ∷ []; queues = []; result_words = []; view = no_view }
