use Rattle.gpu_cmd.specs.Lawful.{places_of}
use Rattle.gpu_plan.proofs.draft.Draft.act.Goals as goal

pub add_action-requires-clause-within : goal.add_action-requires-clause-within
add_action-requires-clause-within c = c.requires.within (places_of c.in-Some.plan.areas)

pub invariant_of-self : goal.invariant_of-self
invariant_of-self c = record { few = c.args.self.now.few; within = c.args.self.now.within; flushed = c.args.self.now.flushed; counted = c.args.self.now.counted; counted_flushes = c.args.self.now.counted_flushes }

pub invariant_of-self-then-is_closed : goal.invariant_of-self-then-is_closed
invariant_of-self-then-is_closed c = record { few = c.args.self.now.few; within = c.args.self.now.within; flushed = c.args.self.now.flushed; counted = rw c.in-Some.is at c.args.self.now.counted; counted_flushes = rw c.in-Some.is at c.args.self.now.counted_flushes }

pub invariant_of-self-then-self-ge-MOST_ACTIONS : goal.invariant_of-self-then-self-ge-MOST_ACTIONS
invariant_of-self-then-self-ge-MOST_ACTIONS c = record { few = c.args.self.now.few; within = c.args.self.now.within; flushed = c.args.self.now.flushed; counted = rw c.in-Some.is at c.args.self.now.counted; counted_flushes = rw c.in-Some.is at c.args.self.now.counted_flushes }
