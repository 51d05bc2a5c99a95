use Rattle.std.proofs.Common.{◌+◌, Option, Some, None, false, length}
use Rattle.std.specs.Prelude.{IfNone}
use Rattle.std.proofs.lemmas.Option.{IfSome_then}
use Rattle.gpu_house.specs.Batches.{member_words}
use Rattle.gpu_hall.specs.Commits.{WentHome}
use Rattle.gpu_hall.specs.Laws.{GrowsBy}
use Rattle.gpu_hall.proofs.Grown.{steps_grow, returns_grow}
use Rattle.service_tests.proofs.tests.promises.commit_more.Goals as goal

-- what follows from a fact follows where there is no run
follows : {T : Type 0} (A B : Type 0) (r : Option T) → (A → B) → IfNone r A → IfNone r B
follows A B (Some on) so fact = tt
follows A B None so fact = so fact

pub returns-clause-goes : goal.returns-clause-goes
returns-clause-goes g c =
    IfSome_then c.commit.result c.commit.ensures.more (λ on went. steps_grow g.N.Naming.plans c.args.hall.now.past c.commit.new.self.past c.args.run.run.stream (member_words c.args.batch) false went.steps)

pub returns-clause-ends : goal.returns-clause-ends
returns-clause-ends g c =
    let p = g.N.Naming.plans in
    let old = c.args.hall.now in
    let new = c.commit.new.self in
    let run = c.args.run.run in
    let members = member_words c.args.batch in
    follows (WentHome p old new run members) (GrowsBy (length members + 1) old.past new.past) c.commit.result (λ went. returns_grow p old.past new.past run.stream run.order members went.how went.came) c.commit.ensures.home

pub returns-clause-steps : goal.returns-clause-steps
returns-clause-steps g c = IfSome_then c.commit.result c.commit.ensures.more (λ on went. went.steps)

pub returns-clause-home : goal.returns-clause-home
returns-clause-home g c = c.commit.ensures.home
