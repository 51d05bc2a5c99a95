use Rattle.std.proofs.Common.{rules}
use Rattle.gpu_threads.proofs.threads.play_left.Goals as goal

pub all_done-requires : goal.all_done-requires
all_done-requires g c = c.loop.invariant.clients

pub new-ground-requires : goal.new-ground-requires
new-ground-requires g c = c.requires.shared

pub turn_each-requires : goal.turn_each-requires
turn_each-requires g c = c.loop.invariant.clients

pub returns-then-all_done-clause-complete : goal.returns-then-all_done-clause-complete
returns-then-all_done-clause-complete g c = c.all_done.ensures.over (search rules)

pub returns-then-all_done-clause-clients : goal.returns-then-all_done-clause-clients
returns-then-all_done-clause-clients g c = c.loop.invariant.clients

pub returns-then-all_done-clause-through : goal.returns-then-all_done-clause-through
returns-then-all_done-clause-through g c = c.all_done.ensures.through (search rules)

pub loop-preserved : goal.loop-preserved
loop-preserved g c = record { can_next = search rules; is_finite = search rules; clients = c.turn_each.ensures }
