use Rattle.script_main.proofs.OnThreads.{ready_output}
use Rattle.script_main.proofs.on_threads.run_plans.Goals as goal

pub returns : goal.returns
returns g c =
    let made = c.make.ensures in
    ready_output c.args.plans (g.H.Hook.base c.args.hook) c.args.team.viewers c.in_ok-ran.ran c.make.result c.in_ok-ran.ensures made.report made.dumps made.looks
