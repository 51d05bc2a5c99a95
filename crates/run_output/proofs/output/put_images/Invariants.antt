use Rattle.std.proofs.Common.{map, length, take}
use Rattle.std.specs.List.{concat}
use Rattle.journal_text.specs.Picture.{image_text}
use Rattle.std.specs.Prelude.{Ok}
use Rattle.gpu_io.specs.declared.failed.Failed.{Failed}
use Rattle.run_output.specs.Pieces.{Puts}
use Rattle.run_output.proofs.output.put_images.Given as goal

abbrev pub invariant-loop-image : goal.invariant-loop-image
invariant-loop-image g l =
    Puts {T = Unit {0}} {E = Failed} g.K.Sink.written g.K.Sink.faults l.fn.sink l.fn.page.gathered l.sink l.page.gathered (Ok tt)
    (concat (take (length l.yielded) (map image_text l.images)))
