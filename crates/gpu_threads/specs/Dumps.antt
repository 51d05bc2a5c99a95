-- What the clients of a run on threads have read.
use Rattle.std.specs.Prelude.{◌≡◌, ℕ, List, [], ◌∷◌, false}
use Rattle.gpu_plan.specs.Plans.{PlansData}
use Rattle.gpu_journal.specs.declared.event.Event.{Event}
use Rattle.gpu_journal.specs.Waits.{standing_of}
use Rattle.gpu_journal.specs.Dumps.{MayDump, dumps_of}
use Rattle.thread_parts.specs.Clients.{ThreadClientData, HasReadAll}

-- this was read of a dump of stream s: the dump's action place and result place, and a value that may be told of it
pub record IsRead (p : PlansData) (h : List Event) (s : ℕ) (dump : ℕ × ℕ) (read : ℕ × ℕ × ℕ) : Type 0 where
  pub action : read.0 ≡ dump.0
  pub place : read.1 ≡ dump.1
  pub value : MayDump p h s dump read.2

-- this was read of these dumps of stream s, one read for each, in order
abbrev pub AreRead : PlansData → List Event → ℕ → List (ℕ × ℕ) → List (ℕ × ℕ × ℕ) → Type 0
AreRead p h s [] [] = Unit {0}
AreRead p h s (dump ∷ dumps) (read ∷ reads) = IsRead p h s dump read × AreRead p h s dumps reads
AreRead p h s _ _ = ⊥

-- there is a list of reads for each of these streams, in order: of all dumps of its plan, or of none where the stream was lost
abbrev pub AreAllRead : PlansData → List Event → List ℕ → List (List (ℕ × ℕ × ℕ)) → Type 0
AreAllRead p h [] [] = Unit {0}
AreAllRead p h (s ∷ streams) (reads ∷ more) = AreRead p h s (dumps_of p h s) reads × AreAllRead p h streams more
AreAllRead p h _ _ = ⊥

-- the client has read each dump of its plan, unless its stream is lost
abbrev pub IsThrough : PlansData → List Event → ThreadClientData → Type 0
IsThrough p h client = (standing_of p h client.stream).lost ≡ false → HasReadAll client
