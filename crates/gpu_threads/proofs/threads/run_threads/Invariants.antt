use Rattle.house_core.specs.Core.{names_of}
use Rattle.gpu_threads.specs.Rows.{shared_in, results_in}
use Rattle.gpu_threads.specs.Viewers.{view_in}
use Rattle.gpu_threads.proofs.threads.run_threads.Given as goal

abbrev pub ghosts-run_named : goal.ghosts-run_named
ghosts-run_named g a =
    let parts = a.setup.parts in
    record { plans = a.setup.plans; base = g.H.Hook.base a.setup.hook; words = shared_in parts.words.items; books = names_of parts.service.books.items; queues = parts.queues.items; result_words = results_in parts.words.items; view = view_in a.setup.views.writer }
