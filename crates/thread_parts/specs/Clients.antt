-- What contracts see of a client on a thread, and what it keeps.
use Rattle.std.specs.Prelude.{◌≡◌, ℕ, ◌<◌, ◌≤◌, ◌==◌, nat_lt, List, ◌++◌, length, map, take, Option, Some, None, MatchOption, IfSome, option_to_list, if◌then◌else◌}
use Rattle.std.specs.List.{All, filter}
use Rattle.gpu_cmd.specs.Spans.{words_in}
use Rattle.gpu_plan.specs.Plans.{PlanData, IsDump, RiseFrom}
use Rattle.gpu_plan.specs.Passes.{flushes}
use Rattle.gpu_plan.specs.declared.acting.TheConstants.{MOST_ACTIONS}
use Rattle.shm_words.specs.Seen as seen
use Rattle.shm_words.specs.Seen.{NoteData, flushes_before}
use Rattle.flush_queue.specs.Seen.{EndData, one_more, note_of}
use Rattle.flush_queue.specs.Clients.{HasPostedAll}
use Rattle.result_words.specs.Seen.{ReaderData}

-- its stream, its pass, its end of the queue, a note that is still to be posted, its reader, the dump that it must read next, and
-- what it has read: the action place, the result place and the value of each dump
pub record ThreadClientData : Type 0 where
  pub stream : ℕ
  pub pass : seen.ClientData
  pub poster : EndData
  pub held : Option NoteData
  pub reader : ReaderData
  pub due : Option (ℕ × ℕ)
  pub dumps : List (ℕ × ℕ × ℕ)

-- ---- flushes

-- the note is of the flush that must be posted next, and with it all flushes that the pass has done are posted
pub record IsHeldNote (pass : seen.ClientData) (poster : EndData) (note : NoteData) : Type 0 where
  pub next : note ≡ note_of poster
  pub there : poster.count < flushes poster.plan.actions
  pub others : HasPostedAll pass (one_more poster)

-- the pass and the poster are of the same words and plan, and each flush that the pass has done is posted, but for one that is held
abbrev pub ArePosted : seen.ClientData → EndData → Option NoteData → Type 0
ArePosted pass poster held = MatchOption held (HasPostedAll pass poster) (IsHeldNote pass poster)

-- ---- dumps

-- the dumps of a plan whose actions are among the first k
abbrev pub dumps_to : ℕ → List (ℕ × ℕ) → List (ℕ × ℕ)
dumps_to k dumps = filter (λ dump. nat_lt dump.0 k) dumps

-- the dump, where it is of this action
abbrev pub due_in : Option (ℕ × ℕ) → ℕ → Option (ℕ × ℕ)
due_in None action = None
due_in (Some dump) action = if dump.0 == action then Some dump else None

-- the dump that was read: its action place and its result place
abbrev pub dump_of : ℕ × ℕ × ℕ → ℕ × ℕ
dump_of read = (read.0, read.1)

-- what the reader was asked for a dump, and gave; the read asks for as many finishes as flushes stand before the dump's action
abbrev pub read_for : PlanData → ℕ × ℕ × ℕ → ℕ × ℕ × ℕ
read_for plan read = (read.1, flushes (take read.0 plan.actions), read.2)

-- the dumps that were read and then the one that is due are, in order, those of the plan whose actions the pass has done; the reader
-- was asked for them and for nothing else; and it has every result place of the plan
pub record HasReadDumps (pass : seen.ClientData) (reader : ReaderData) (due : Option (ℕ × ℕ)) (dumps : List (ℕ × ℕ × ℕ)) : Type 0 where
  pub in_order : map dump_of dumps ++ option_to_list due ≡ dumps_to pass.done pass.plan.dumps
  pub reads : reader.reads ≡ map (read_for pass.plan) dumps
  pub places : words_in pass.plan.areas.results ≤ reader.places

-- ---- what the type of a client keeps

-- what a client has at hand of its plan and of its pass: the dumps, how many actions and how many flushes were done, and room for
-- each dump
pub record HasAtHand (pass : seen.ClientData) (due : Option (ℕ × ℕ)) (planned : List (ℕ × ℕ)) (position flushed room : ℕ) : Type 0 where
  pub planned_is : planned ≡ pass.plan.dumps
  pub lawful : All (IsDump pass.plan.areas.results pass.plan.actions) planned
  pub rising : RiseFrom 0 planned
  pub few : length pass.plan.actions ≤ MOST_ACTIONS
  pub place : position ≡ pass.done
  pub count : flushed ≡ flushes_before pass
  pub due_asks : IfSome due (λ dump. flushed ≡ flushes (take dump.0 pass.plan.actions))
  pub due_there : IfSome due (λ dump. dump.1 < words_in pass.plan.areas.results)
  pub room_is : length planned ≤ room

pub record IsThreadClient (client : ThreadClientData) (planned : List (ℕ × ℕ)) (position flushed room : ℕ) : Type 0 where
  pub posted : ArePosted client.pass client.poster client.held
  pub read : HasReadDumps client.pass client.reader client.due client.dumps
  pub counted : HasAtHand client.pass client.due planned position flushed room

-- the client is of the same stream, words, plan, queue and result words
pub record IsSameClient (old new : ThreadClientData) : Type 0 where
  pub stream : new.stream ≡ old.stream
  pub shared : new.pass.table ≡ old.pass.table
  pub plan : new.pass.plan ≡ old.pass.plan
  pub queue : new.poster.queue ≡ old.poster.queue
  pub results : new.reader.table ≡ old.reader.table

-- it has read each dump of its plan
abbrev pub HasReadAll : ThreadClientData → Type 0
HasReadAll client = map dump_of client.dumps ≡ client.pass.plan.dumps
