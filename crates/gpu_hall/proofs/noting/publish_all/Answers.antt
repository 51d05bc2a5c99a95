use Rattle.std.proofs.Common.{◌≡◌, length, ap, ◌∙◌}
use Rattle.gpu_hall.proofs.Viewed.{view_published, all_shown, err_first}
use Rattle.gpu_hall.proofs.noting.publish_all.Goals as goal

pub returns-clause-fits : goal.returns-clause-fits
returns-clause-fits g c =
    let N = g.N.Naming in
    let h = c.args.house.now.core.past in
    let count = c.count.ensures ∙ ap length c.journal.ensures.past in
    view_published N.plans N.view h c.count.result c.args.writer.now c.publish.new.self count c.requires.fits c.publish.ensures.view c.publish.result
    c.publish.ensures.versions c.publish.ensures.images c.publish.ensures.handed c.publish.ensures.kept c.publish.ensures.tried

pub returns-clause-all : goal.returns-clause-all
returns-clause-all g c =
    let N = g.N.Naming in
    let h = c.args.house.now.core.past in
    let count = c.count.ensures ∙ ap length c.journal.ensures.past in
    all_shown N.plans N.view h c.count.result c.args.writer.now c.publish.new.self count c.requires.fits c.publish.ensures.view c.publish.result c.publish.ensures.versions

pub returns-clause-stays : goal.returns-clause-stays
returns-clause-stays g c =
    let old = c.args.writer.now in
    let new = c.publish.new.self in
    err_first (new.versions ≡ old.versions) (new.images ≡ old.images) (new.noted ≡ old.noted) c.publish.result c.publish.ensures.kept
