use Rattle.verify_input.proofs.Names.{◌≡◌, ◌≤◌, length, map, drop, take, RiseFrom, flushes, Dump, past_of}
use Rattle.verify_input.proofs.Dues.{IsTaking}
use Rattle.verify_input.proofs.Lefts.{dumps_left}
use Rattle.verify_input.proofs.sections.take_dumps_of.Given as goal

-- the flushes before the last dump are counted, and its place is that of no later dump
abbrev pub invariant-loop-dump : goal.invariant-loop-dump
invariant-loop-dump l = record {
  left : l.left ≡ drop l.done l.plan.actions;
  within : l.done ≤ length l.plan.actions;
  least : l.least ≡ flushes (take l.done l.plan.actions);
  rising : RiseFrom l.done (drop l.dump-index l.plan.dumps);
  taking : IsTaking l.history.plans.now (past_of l.history) (map (λ dump. Dump l.stream dump) l.plan.dumps) (dumps_left l.stream l.plan.dumps l.dump-index) l.fn.rest l.rest 0;
}
