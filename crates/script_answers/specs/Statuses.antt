-- The statuses: their numbers, what people hear of them, and which speak of an input.
use Rattle.std.specs.Prelude.{ℕ, Bool, true, false, Option, Some, None}
use Rattle.script_answers.specs.declared.status.Status.{Status}
use Rattle.script_answers.specs.declared.status.Status.TheVariants as status
use Rattle.script_answers.specs.declared.fault.Fault.{Fault}
use Rattle.script_answers.specs.declared.fault.Fault.TheVariants as fault

-- the number that ends the program
abbrev pub status_code : Status → ℕ
status_code status.Ok = 0
status_code status.SomeLost = 1
status_code status.Usage = 2
status_code status.ReadFault = 3
status_code status.WriteFault = 4
status_code (status.Refused line kind) = 5
status_code status.NoMemory = 6
status_code status.TooLong = 7
status_code status.MemoryLost = 8
status_code (status.No event rule) = 9
status_code (status.Differs line what) = 9
status_code status.NotComplete = 10
status_code (status.NoJournal line) = 11

-- the text that standard error gets, named by its place in the table of texts: none for Ok
abbrev pub status_fault : Status → Option Fault
status_fault status.Ok = None
status_fault status.SomeLost = Some fault.SomeLost
status_fault status.Usage = Some fault.Usage
status_fault status.ReadFault = Some fault.Read
status_fault status.WriteFault = Some fault.Write
status_fault (status.Refused line kind) = Some (fault.Refused line kind)
status_fault status.NoMemory = Some fault.Memory
status_fault status.TooLong = Some fault.TooLong
status_fault status.MemoryLost = Some fault.MemoryLost
status_fault (status.No event rule) = Some (fault.No event rule)
status_fault (status.Differs line what) = Some (fault.Differs line what)
status_fault status.NotComplete = Some fault.NotComplete
status_fault (status.NoJournal line) = Some (fault.NoJournal line)

-- the status tells that all of a text was written
abbrev pub tells_all : Status → Bool
tells_all status.Ok = true
tells_all status.SomeLost = true
tells_all status.MemoryLost = true
tells_all _ = false

-- the status speaks of the input: a text of it was written, or something is wrong with it
abbrev pub speaks : Status → Bool
speaks (status.Refused line kind) = true
speaks (status.No event rule) = true
speaks (status.Differs line what) = true
speaks status.NotComplete = true
speaks (status.NoJournal line) = true
speaks ending = tells_all ending
