use Rattle.service_tests.proofs.tests.promises.counts_what_comes.Goals as goal

pub returns : goal.returns
returns g c = c.collect_from.ensures.count
