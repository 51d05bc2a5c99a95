use Rattle.live_view.specs.declared.look.TheConstants.{LOOKS}
use Rattle.gpu_threads.proofs.Crew.{still_clients, not_looked, all_watched}
use Rattle.gpu_threads.proofs.threads.run_hall.Goals as goal

pub run_all-served-requires-clause-clients : goal.run_all-served-requires-clause-clients
run_all-served-requires-clause-clients g c κs within = λ k other few. (c.requires.clients.each k other few).its

pub run_all-served-requires-clause-watches : goal.run_all-served-requires-clause-watches
run_all-served-requires-clause-watches g c κs within = not_looked g.N.Naming.view c.args.crew.watches.items c.requires.watches

pub finish-requires-clause-clients : goal.finish-requires-clause-clients
finish-requires-clause-clients g c =
    let N = g.N.Naming in
    still_clients N.plans N.words N.result_words N.queues c.args.crew.clients.items c.run_all-served.new.crew.clients.items c.requires.clients c.run_all-served.ensures.clients

pub finish-requires-clause-watches : goal.finish-requires-clause-watches
finish-requires-clause-watches g c =
    all_watched g.N.Naming.view LOOKS c.args.crew.watches.items c.run_all-served.new.crew.watches.items c.requires.watches c.run_all-served.ensures.watched
