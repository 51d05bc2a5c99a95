use Rattle.serial_laws.proofs.Bounded.{serial_is_complete}
use Rattle.serial_laws.proofs.laws.serial_history_is_legal_and_complete.Goals as goal

pub returns-clause-complete : goal.returns-clause-complete
returns-clause-complete c = serial_is_complete
