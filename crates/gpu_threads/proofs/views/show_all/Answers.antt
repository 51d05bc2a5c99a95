use Rattle.std.proofs.Common.{List, length, subst, arith}
use Rattle.gpu_plan.specs.Plans.{PlansData}
use Rattle.gpu_journal.specs.declared.event.Event.{Event}
use Rattle.gpu_threads.specs.Views.{AreAllLooks}
use Rattle.gpu_threads.proofs.Watched.{viewers_of}
use Rattle.gpu_threads.proofs.views.show_all.Goals as goal

pub look_all-seen-requires-clause-viewers : goal.look_all-seen-requires-clause-viewers
look_all-seen-requires-clause-viewers g c = viewers_of c.in_ok-shown.shown g.N.Naming.view c.args.watches.items c.in_ok-shown.ensures.named c.requires

pub look_all-seen-requires-clause-room : goal.look_all-seen-requires-clause-room
look_all-seen-requires-clause-room g c = let a = c.in-Ok.ensures.capacity in let b = c.len.ensures in let d = c.args.watches.ok in omega (arith, a, b, d)

pub look_all-seen-requires-clause-none : goal.look_all-seen-requires-clause-none
look_all-seen-requires-clause-none g c = c.in-Ok.ensures.items

pub returns-clause-looks : goal.returns-clause-looks
returns-clause-looks g c =
    let N = g.N.Naming in
    let n = length c.args.watches.items in
    let looks = c.look_all-seen.result.items in
    subst (λ (h : List Event). AreAllLooks N.plans h n looks) c.in_ok-shown.ensures.past
    (subst (λ (p : PlansData). AreAllLooks p c.in_ok-shown.shown.past n looks) c.in_ok-shown.ensures.plans c.look_all-seen.ensures.looks)
