use Rattle.std.proofs.Common.{length, replicate, sym, ap, subst, ◌∙◌}
use Rattle.gpu_plan.specs.Plans.{PlansData}
use Rattle.house_core.specs.Desks.{at_home}
use Rattle.gpu_house.specs.Names.{table_at}
use Rattle.gpu_run.specs.Clients.{done_at}
use Rattle.gpu_run.specs.Rounds.{IsRising}
use Rattle.gpu_run.proofs.AllFound.{found_fresh}
use Rattle.gpu_run.proofs.Phases.{none_acted}
use Rattle.gpu_run.proofs.Starting.{plain_results, served_fresh}
use Rattle.gpu_run.proofs.Turns.{begins}
use Rattle.gpu_run.proofs.serial.run_named.Goals as goal

pub make-requires-clause-results : goal.make-requires-clause-results
make-requires-clause-results g c = plain_results (table_at g.N.Naming.result_words) 1 c.args.plans.plans c.args.parts.results.items (c.requires.fresh.results ∙ ap (λ (p : PlansData). length p.plans) (sym c.requires.plans))

pub play_out-requires : goal.play_out-requires
play_out-requires g c =
    let p = g.N.Naming.plans in
    let e = c.in_ok-house.ensures in
    let clients = c.args.parts.clients.items in
    let begun = c.requires.fresh.clients in
    record {
      lawful = c.requires.lawful;
      rising = subst (IsRising p) (sym e.past) (begins p);
      served = served_fresh p c.in_ok-house.house c.args.parts.sides.items clients e.past (e.outs ∙ ap (λ (q : PlansData). replicate (length q.plans) at_home) c.requires.plans) e.slots c.requires.fresh.sides begun;
      read = found_fresh p c.in_ok-house.house.core.past clients e.past begun;
      come = none_acted p c.in_ok-house.house.core.past (done_at clients);
    }
