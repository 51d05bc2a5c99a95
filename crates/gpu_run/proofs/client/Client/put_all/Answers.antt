use Rattle.std.proofs.Common.{◌≡◌, refl, sym, ap, ◌∙◌}
use Rattle.gpu_run.specs.Clients.{RunClientData}
use Rattle.gpu_run.proofs.Putting.{counted_puts}
use Rattle.gpu_run.proofs.client.Client.put_all.Goals as goal

pub invariant_of-self : goal.invariant_of-self
invariant_of-self c =
    let e = c.put_all-self-inside.ensures in
    let plan : c.args.plan.now ≡ c.self.inside.words.plan = c.requires ∙ ap (λ (x : RunClientData). x.words.plan) (sym c.self.view_is) in
    counted_puts c.self.inside.words c.put_all-self-inside.new.self c.args.plan.now c.put_all-self-inside.result c.self.inside.flushed c.self.inside.flushed plan e.plan e.done refl c.self.invariant.made e.further e.puts
