use Rattle.std.proofs.Common.{◌≡◌, true, ap}
use Rattle.gpu_house.specs.Batches.{member_words, batch_words}
use Rattle.gpu_house.proofs.Going.{goes_further}
use Rattle.service_tests.proofs.Turning.{fetched}
use Rattle.service_tests.specs.Alone.{IsOutAlone}
use Rattle.service_tests.proofs.Batching.{committed}
use Rattle.service_tests.proofs.tests.drive.turn_batch.Given.{Over}
use Rattle.service_tests.proofs.tests.drive.turn_batch.Goals.{In-Ok-step_batch}
use Rattle.service_tests.proofs.tests.drive.turn_batch.Goals as goal

-- the run has taken its next batch, and is still out where it goes on
has : (g : Over) (c : In-Ok-step_batch g) → goes_further c.in-Ok-step_batch.next ≡ true → IsOutAlone g.P.ServiceSide.belongs g.P.ServiceSide.note_belongs g.P.ServiceSide.results_belong g.P.ServiceSide.side c.args.words.now c.step_batch.new.self c.step_batch.new.run
has g c on =
    let S = g.P.ServiceSide in
    let e = c.in-Ok.ensures in
    let t = c.in-Ok-step_batch.ensures in
    let batch = c.in-Ok.batch in
    let mid = fetched S.belongs S.note_belongs S.results_belong S.side c.args.words.now c.args.house.now c.args.run c.fetch_batch.new.self (batch_words batch) c.requires e.keeps e.fetches.grows in
    committed S.belongs S.note_belongs S.results_belong S.side c.args.words.now g.N.Naming.plans record { house = c.args.house.now; out = c.fetch_batch.new.self; drawn = c.args.drawn.now.items } record { house = c.step_batch.new.self; out = c.step_batch.new.run; drawn = c.step_batch.new.drawn.items } (member_words batch)
    mid.stream mid.all t.keeps S.mark c.in-Ok-step_batch.next t.commits t.ready on

-- a run that goes on
pub returns-in-More : goal.returns-in-More
returns-in-More g c = (has g (goal.at.returns-in-More g c).In-Ok-step_batch) (ap goes_further c.in-More.is)

pub returns-in-FlushEnd : goal.returns-in-FlushEnd
returns-in-FlushEnd g c = (has g (goal.at.returns-in-FlushEnd g c).In-Ok-step_batch) (ap goes_further c.in-FlushEnd.is)
