-- Rules 4 and 5 give rule 6.
use Rattle.gpu_journal.specs.declared.event.Event.TheVariants.{Order, Step, Finish, Lost, Close}
use Rattle.gpu_journal.specs.declared.event.Why.TheVariants.{Error, Memory}
use Rattle.gpu_journal.proofs.Worlds.{known_of_left}
use Rattle.serial_laws.proofs.Fitting.{first_some}
use Rattle.serial_laws.proofs.Further.{flush_reached}
use Rattle.script_laws.specs.Laws.{SixAlwaysHolds}

pub six_always_holds : SixAlwaysHolds
six_always_holds p g (Order s n c) lawful legal four five = tt
six_always_holds p g (Step s words) lawful legal four five = flush_reached p g s lawful legal (record { isknown = known_of_left p g s legal four; some = four; free = five })
six_always_holds p g (Finish s n) lawful legal four five = let some = first_some _ n four in flush_reached p g s lawful legal (record { isknown = known_of_left p g s legal some; some = some; free = five })
six_always_holds p g (Lost s (Error error) words) lawful legal four five = flush_reached p g s lawful legal (record { isknown = known_of_left p g s legal four; some = four; free = five })
six_always_holds p g (Lost s Memory words) lawful legal four five = tt
six_always_holds p g (Close s) lawful legal four five = tt
