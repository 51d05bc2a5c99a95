-- With all streams at home none can be taken exactly where no stream has an unprocessed number.
use Rattle.std.proofs.Common.{Bool, sym, ap, ◌∙◌}
use Rattle.std.specs.Prelude.{◌&&◌}
use Rattle.std.proofs.Math.Bool.{and-false}
use Rattle.gpu_journal.specs.Serial.{is_runnable}
use Rattle.serial_laws.proofs.Least.{none_left, none_runs}
use Rattle.serial_laws.proofs.Choosing.{none_at_home}
use Rattle.gpu_house.specs.Laws.{NoneIsTaken}

pub none_is_taken : NoneIsTaken
none_is_taken p h at_home legal home = (
  λ none t. none_left p h legal (λ s some within. ap (λ (b : Bool). b && is_runnable p h s) (sym (home s (some, within))) ∙ (none_at_home p h at_home).0 none s (some, within)) t,
  λ idle. (none_at_home p h at_home).1 (λ t known. ap (λ (b : Bool). at_home t && b) (none_runs p h t (idle t)) ∙ and-false (at_home t)),
)
