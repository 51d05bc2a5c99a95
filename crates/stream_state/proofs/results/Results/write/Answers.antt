-- The values after growth are as before, with zeros after, which the writes do not see.
use Rattle.std.proofs.Common.{◌++◌, ◌-◌, length, replicate, ap, ◌∙◌}
use Rattle.stream_state.specs.Writes.{end_of_writes, after_writes}
use Rattle.stream_state.proofs.Writings.{after_growth, grown_enough}
use Rattle.stream_state.proofs.results.Results.write.Goals as goal

pub set-requires : goal.set-requires
set-requires c = rw c.in_ok-grow.ensures.grown (rw c.end_of.ensures (grown_enough (end_of_writes c.args.writes.now) c.args.self.now))

pub returns-clause-written : goal.returns-clause-written
returns-clause-written c = c.set.ensures ∙ ap (after_writes c.args.writes.now) c.in_ok-grow.ensures.grown ∙ ap (λ end. after_writes c.args.writes.now (c.args.self.now ++ replicate (end - length c.args.self.now) 0)) c.end_of.ensures ∙ after_growth c.args.writes.now c.args.self.now
