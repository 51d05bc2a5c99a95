use Rattle.std.specs.Prelude.{[], ◌∷◌}
use Rattle.gpu_house.specs.Names.{no_view}
use Rattle.service_tests.proofs.tests.serving.served_two.Given as goal

abbrev pub ghosts-served : goal.ghosts-served
ghosts-served g a = record { plans = a.plans; base = 0; words = a.posted.words.0 ∷ []; books = a.posted.book.0 ∷ []; queues = a.posted.queue ∷ []; result_words = a.posted.words.1 ∷ []; view = no_view }
