use Rattle.gpu_plan.proofs.draft.Draft.flush.Goals as goal

pub invariant_of-self : goal.invariant_of-self
invariant_of-self c = record { few = c.args.self.now.few; within = c.args.self.now.within; flushed = c.args.self.now.flushed; counted = c.args.self.now.counted; counted_flushes = c.args.self.now.counted_flushes }

pub invariant_of-self-then-is_closed : goal.invariant_of-self-then-is_closed
invariant_of-self-then-is_closed c = record { few = c.args.self.now.few; within = c.args.self.now.within; flushed = c.args.self.now.flushed; counted = rw c.in-Some.is at c.args.self.now.counted; counted_flushes = rw c.in-Some.is at c.args.self.now.counted_flushes }

pub invariant_of-self-then-many : goal.invariant_of-self-then-many
invariant_of-self-then-many c = record { few = c.args.self.now.few; within = c.args.self.now.within; flushed = c.args.self.now.flushed; counted = rw c.in-Some.is at c.args.self.now.counted; counted_flushes = rw c.in-Some.is at c.args.self.now.counted_flushes }

pub invariant_of-self-then-self-ge-MOST_FLUSHES : goal.invariant_of-self-then-self-ge-MOST_FLUSHES
invariant_of-self-then-self-ge-MOST_FLUSHES c = record { few = c.args.self.now.few; within = c.args.self.now.within; flushed = c.args.self.now.flushed; counted = rw c.in-Some.is at c.args.self.now.counted; counted_flushes = rw c.in-Some.is at c.args.self.now.counted_flushes }

pub invariant_of-self-then-self-ge-MOST_ACTIONS : goal.invariant_of-self-then-self-ge-MOST_ACTIONS
invariant_of-self-then-self-ge-MOST_ACTIONS c = record { few = c.args.self.now.few; within = c.args.self.now.within; flushed = c.args.self.now.flushed; counted = rw c.in-Some.is at c.args.self.now.counted; counted_flushes = rw c.in-Some.is at c.args.self.now.counted_flushes }
