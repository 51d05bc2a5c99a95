use Rattle.std.proofs.Common.{◌≡◌, ◌≤◌, length, subst, ◌∙◌, arith}
use Rattle.std.specs.List.{All}
use Rattle.gpu_plan.specs.Plans.{IsDump, RiseFrom}
use Rattle.thread_parts.proofs.Going.{made}
use Rattle.thread_parts.proofs.client.Client.make.Goals as goal

pub invariant_of-result : goal.invariant_of-result
invariant_of-result c =
    let plan = c.args.plan.now in
    let planned = c.in_ok-planned.planned in
    let dumps = c.in_ok-dumps.dumps in
    let all : planned.items ≡ plan.dumps = c.in_ok-planned.ensures.items ∙ c.dumps.ensures.value in
    let room : length planned.items ≤ dumps.cap = (let a = c.len.ensures in let b = planned.ok in let d = c.in_ok-dumps.ensures.capacity in omega (arith, a, b, d)) in
    made c.args.stream plan c.args.pass c.args.poster c.args.reader dumps.items planned.items dumps.cap c.requires.pass c.requires.poster c.requires.fresh c.requires.places c.in_ok-dumps.ensures.items all
    (subst (All (IsDump plan.areas.results plan.actions)) c.dumps.ensures.value c.dumps.ensures.lawful) (subst (RiseFrom 0) c.dumps.ensures.value c.dumps.ensures.rising) c.shows_lawful.ensures.actions.few room
