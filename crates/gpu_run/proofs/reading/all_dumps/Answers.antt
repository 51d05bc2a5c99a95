use Rattle.std.proofs.Common.{◌+◌, List, [], ◌∷◌, ◌++◌, length, sym, ap, subst, ◌∙◌, arith}
use Rattle.std.proofs.lemmas.List.{length-append, append_assoc}
use Rattle.gpu_plan.specs.Plans.{PlansData}
use Rattle.gpu_run.specs.Clients.{RunClientData}
use Rattle.gpu_run.specs.Dumps.{dumps_read}
use Rattle.gpu_run.specs.Reading.{HasRead}
use Rattle.gpu_run.proofs.DumpLists.{next_client, one_more}
use Rattle.gpu_run.proofs.reading.all_dumps.Goals as goal

pub overflow_add-stream : goal.overflow_add-stream
overflow_add-stream g c =
    let i = c.loop-client.invariant in
    let below = (next_client c.args.clients.items c.loop-client.yielded c.next.new.self.rest.items c.loop-client.client-iterator.rest.items c.in-Some.client c.loop-client.stream i.left c.in-Some.ensures.steps.0 i.place).1 in
    let many = c.requires.many in
    let count = c.count-count.ensures.count in
    let few = c.count-count.ensures.few in
    let same = ap (λ (q : PlansData). length q.plans) c.plans.ensures in
    omega (arith, below, many, count, few, same)

pub dumps_of-requires-clause-read : goal.dumps_of-requires-clause-read
dumps_of-requires-clause-read g c =
    let i = c.loop-client.invariant in
    let next = next_client c.args.clients.items c.loop-client.yielded c.next.new.self.rest.items c.loop-client.client-iterator.rest.items c.in-Some.client c.loop-client.stream i.left c.in-Some.ensures.steps.0 i.place in
    let below = next.1 in
    let many = c.requires.many in
    subst (λ (x : RunClientData). HasRead g.N.Naming.plans c.args.house.now.core.past (c.loop-client.stream + 1) x.words.done x.read) next.0 (c.requires.read (c.loop-client.stream + 1) (omega arith, omega (arith, below, many)))

pub loop-client-preserved : goal.loop-client-preserved
loop-client-preserved g c =
    let i = c.loop-client.invariant in
    let at = i.place in
    let sum = length-append c.loop-client.yielded (c.in-Some.client ∷ []) in
    record {
      can_next = tt;
      is_finite = tt;
      place = omega (arith, at, sum);
      left = i.left ∙ ap (λ (l : List RunClientData). c.loop-client.yielded ++ l) c.in-Some.ensures.steps.0 ∙ sym (append_assoc c.loop-client.yielded (c.in-Some.client ∷ []) c.next.new.self.rest.items);
      all = one_more (dumps_read g.N.Naming.plans c.args.house.now.core.past) c.loop-client.stream c.loop-client.all.items c.push.new.self.items c.in_ok-dumps_of.field-0 i.all c.in_ok-dumps_of.ensures c.in_ok-push.ensures.items;
    }
