use Rattle.std.proofs.Common.{◌≡◌, ℕ, List, ◌++◌, sym, ap, ◌∙◌}
use Rattle.gpu_fetch.specs.Fetched.{FetchedData}
use Rattle.gpu_house.proofs.Going.{goes_further}
use Rattle.service_tests.proofs.Turning.{HasStepped, may_step, fetched, stepped}
use Rattle.service_tests.proofs.tests.drive.turn.Given.{Over}
use Rattle.service_tests.proofs.tests.drive.turn.Goals.{In-Ok-step}
use Rattle.service_tests.proofs.tests.drive.turn.Goals as goal

pub step-requires : goal.step-requires
step-requires g c =
    let S = g.P.ServiceSide in
    let e = c.in-Ok.ensures in
    let found = c.of-fetched.result in
    let is = c.of-fetched.ensures.is in
    let same : c.fetch.new.list.items ≡ found.words = sym (ap (λ (f : FetchedData). f.words) is ∙ c.deref.ensures.value) in
    let grows = e.fetches.grows ∙ ap (λ (list : List (ℕ × ℕ)). (S.side c.args.run.side).fetched ++ list) same in
    let facts = ap (λ (f : FetchedData). f.facts) is ∙ c.of-facts.ensures ∙ c.facts.ensures.facts in
    may_step S.belongs S.note_belongs S.results_belong S.side c.args.words.now c.args.house.now c.args.run c.fetch.new.self found c.requires e.keeps grows facts

-- the run has taken its next command, however that was answered
has : (g : Over) (c : In-Ok-step g) → HasStepped g.P.ServiceSide.belongs g.P.ServiceSide.note_belongs g.P.ServiceSide.results_belong g.P.ServiceSide.side c.args.words.now g.N.Naming.plans c.step.new.self c.step.new.run (goes_further c.in-Ok-step.progress.next)
has g c =
    let S = g.P.ServiceSide in
    let e = c.in-Ok.ensures in
    let t = c.in-Ok-step.ensures in
    let found = c.of-fetched.result.words in
    let same : c.fetch.new.list.items ≡ found = sym (ap (λ (f : FetchedData). f.words) c.of-fetched.ensures.is ∙ c.deref.ensures.value) in
    let grows = e.fetches.grows ∙ ap (λ (list : List (ℕ × ℕ)). (S.side c.args.run.side).fetched ++ list) same in
    let mid = fetched S.belongs S.note_belongs S.results_belong S.side c.args.words.now c.args.house.now c.args.run c.fetch.new.self found c.requires e.keeps grows in
    stepped S.belongs S.note_belongs S.results_belong S.side c.args.words.now g.N.Naming.plans c.args.house.now c.step.new.self c.fetch.new.self c.step.new.run found mid t.keeps _ c.in-Ok-step.progress.next t.steps.steps

-- a run that goes on
pub returns-in-More : goal.returns-in-More
returns-in-More g c = (has g (goal.at.returns-in-More g c).In-Ok-step).on (ap goes_further (sym c.into_next.ensures ∙ c.in-More.is))

pub returns-in-FlushEnd : goal.returns-in-FlushEnd
returns-in-FlushEnd g c = (has g (goal.at.returns-in-FlushEnd g c).In-Ok-step).on (ap goes_further (sym c.into_next.ensures ∙ c.in-FlushEnd.is))

-- a run that goes back
pub back-requires : goal.back-requires
back-requires g c = record { list = (has g (goal.at.back-requires g c).In-Ok-step).list }
