use Rattle.std.proofs.Common.{◌≡◌, ◌-◌, ◌≤◌, ◌<◌, ◌^◌, length}
use Rattle.gpu_fetch.specs.Plain.{ArePuts, HoldItsValues}
use Rattle.gpu_fetch.proofs.plain.words.PlainWords.put_all.Given as goal

abbrev pub invariant-loop-actions : goal.invariant-loop-actions
invariant-loop-actions l = record {
  plan : l.self-inside.plan ≡ l.initial.self-inside.plan;
  fits : l.done < 2 ^ 32;
  further : l.initial.self-inside.done ≤ l.done;
  stored : HoldItsValues l.initial.self-inside.plan.value l.done l.self-inside.values.items;
  puts : ArePuts l.plan.actions l.initial.self-inside.done l.done;
}

abbrev pub decreases-loop-actions : goal.decreases-loop-actions
decreases-loop-actions l = length l.actions - l.done
