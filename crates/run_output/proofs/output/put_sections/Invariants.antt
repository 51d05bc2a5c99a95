use Rattle.std.proofs.Common.{take}
use Rattle.std.specs.List.{concat}
use Rattle.std.specs.Prelude.{Ok}
use Rattle.gpu_io.specs.declared.failed.Failed.{Failed}
use Rattle.run_output.specs.Pieces.{Puts}
use Rattle.run_output.proofs.Texts.{section_texts}
use Rattle.run_output.proofs.output.put_sections.Given as goal

abbrev pub invariant-loop-index : goal.invariant-loop-index
invariant-loop-index g l =
    Puts {T = Unit {0}} {E = Failed} g.K.Sink.written g.K.Sink.faults l.fn.sink l.fn.page.gathered l.sink l.page.gathered (Ok tt)
    (concat (take l.index (section_texts l.run)))
