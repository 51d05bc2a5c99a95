use Rattle.std.proofs.Common.{◌≡◌, length, take, drop}
use Rattle.gpu_house.specs.Batches.{batch_words}
use Rattle.gpu_house.proofs.Committed.{Stands}
use Rattle.gpu_house.proofs.house.House.step_batch.Given as goal

-- the members before the index were executed, and the others are those that the run comes to
abbrev pub invariant-loop-index : goal.invariant-loop-index
invariant-loop-index g l = record {
  stands : Stands g.P.ServiceSide.side g.P.ServiceSide.mark g.P.ServiceSide.belongs g.P.ServiceSide.note_belongs g.P.ServiceSide.results_belong g.N.Naming.plans l.words
      record { house = l.fn.self; out = l.fn.run; drawn = l.fn.drawn.items } record { house = l.self; out = l.run; drawn = l.drawn.items } (take l.index l.fn.batch) (drop l.index l.fn.batch);
  from : l.from ≡ length (batch_words (take l.index l.fn.batch));
}
