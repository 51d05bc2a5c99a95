use Rattle.std.proofs.Common.{take, reverse}
use Rattle.gpu_journal.specs.Replaying.{Shows}
use Rattle.gpu_journal.proofs.replaying.replay.Given as goal

-- the images and the states are those that the events so far leave
abbrev pub invariant-loop-index : goal.invariant-loop-index
invariant-loop-index l = Shows l.plans (reverse (take l.index (reverse l.journal.events))) l.images l.states.items
