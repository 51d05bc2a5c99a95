use Rattle.std.proofs.Common.{◌-◌, get_or, refl, sym, ap, ◌∙◌}
use Rattle.std.specs.Prelude.{slice_get}
use Rattle.gpu_plan.specs.Plans.{PlansData, plan_of}
use Rattle.gpu_run.specs.Clients.{client_of_stream}
use Rattle.gpu_run.proofs.Putting.{HasPut, its_plan, has_put, puts_stand, puts_further}
use Rattle.gpu_run.proofs.act.put_all.Given.{Over}
use Rattle.gpu_run.proofs.act.put_all.Goals as goal

pub put_all-requires : goal.put_all-requires
put_all-requires g c =
    its_plan g.N.Naming.plans c.args.house.now c.args.clients.now c.args.stream c.plan.result.now c.index-clients-stream.result c.requires.known c.requires.stands.served (ap (λ (q : PlansData). slice_get q.plans (c.args.stream - 1)) (sym c.plans.ensures) ∙ c.plan.ensures)

has : (g : Over) (c : goal.After-put_all g) → HasPut (plan_of g.N.Naming.plans c.args.stream).actions (client_of_stream c.args.clients.now c.args.stream) c.put_all.new.self
has g c =
    let e = c.put_all.ensures in
    has_put g.N.Naming.plans c.args.clients.now c.args.stream c.plan.result.now (get_or c.args.clients.now (c.args.stream - 1) c.index-clients-stream.result) c.index-clients-stream.result c.put_all.new.self c.requires.known c.requires.stands.served.many.as_clients refl (ap (λ (q : PlansData). slice_get q.plans (c.args.stream - 1)) (sym c.plans.ensures) ∙ c.plan.ensures)
    record { plan = e.plan; read = e.read; further = e.further; puts = e.puts; beside = e.beside; notes = e.notes }

pub returns-clause-stands : goal.returns-clause-stands
returns-clause-stands g c = puts_stand g.N.Naming.plans c.args.house.now c.args.clients.now c.args.stream c.put_all.new.self c.requires.known c.requires.stands (has g c)

pub returns-clause-further : goal.returns-clause-further
returns-clause-further g c = puts_further g.N.Naming.plans c.args.house.now c.args.clients.now c.args.stream c.put_all.new.self c.requires.known c.requires.stands (has g c)
