-- What one action of a client comes to.
use Rattle.std.specs.Prelude.{◌≡◌, ◌⊎◌, ℕ, ◌+◌, [], ◌∷◌, ◌++◌, take, Some, None, IsSome}
use Rattle.crossbeam_queue.specs.Fifo.{Held}
use Rattle.gpu_plan.specs.Passes.{flushes}
use Rattle.shm_words.specs.declared.client.Acted.{Acted}
use Rattle.shm_words.specs.declared.client.Acted.TheVariants as acted
use Rattle.shm_words.specs.Acts.{Acts}
use Rattle.flush_queue.specs.Seen.{one_more, AreLatest}
use Rattle.result_words.specs.Seen.{Answers}
use Rattle.thread_parts.specs.declared.client.Act.{Act}
use Rattle.thread_parts.specs.declared.client.Act.TheVariants.{Went, Full, NotYet, Unread, AtClose, End}
use Rattle.thread_parts.specs.Clients.{ThreadClientData}

-- the note that was held is posted, and nothing else has changed
pub record HasPosted (old new : ThreadClientData) : Type 0 where
  pub held : IsSome old.held
  pub becomes : new ≡ record old { poster = one_more old.poster; held = None }

-- a dump was due and is read, and nothing else has changed
pub record HasReadDump (old new : ThreadClientData) : Type 0 where
  pub dump : ℕ × ℕ
  pub value : ℕ
  pub due : old.due ≡ Some dump
  pub becomes : new ≡ record old { reader = new.reader; due = None; dumps = old.dumps ++ (dump.0, dump.1, value) ∷ [] }

-- no note was held and none is, no dump was due, and one action more is done
pub record HasDone (old new : ThreadClientData) : Type 0 where
  pub none_held : old.held ≡ None
  pub none_due : old.due ≡ None
  pub none_left : new.held ≡ None
  pub one_done : new.pass.done ≡ old.pass.done + 1

-- a note is held which the queue did not take, that held 16 notes
pub record IsQueueFull (new : ThreadClientData) : Type 0 where
  pub held : IsSome new.held
  pub full : Held 16 (AreLatest new.poster)

-- a dump was due, and fewer finishes were counted than it asks for; nothing else has changed
pub record IsUnread (old new : ThreadClientData) : Type 0 where
  pub dump : ℕ × ℕ
  pub due : old.due ≡ Some dump
  pub too_few : Answers old.reader.counts new.reader.counts (flushes (take dump.0 old.pass.plan.actions)) None
  pub becomes : new ≡ record old { reader = new.reader }

-- no note is held and no dump is due, and the pass was asked for its next action, which came to this; nothing else has changed
pub record HasTried (old new : ThreadClientData) (answer : Acted) : Type 0 where
  pub none_held : old.held ≡ None
  pub none_due : old.due ≡ None
  pub acts : Acts old.pass new.pass answer
  pub becomes : new ≡ record old { pass = new.pass }

-- it went on: a held note was posted, a due dump was read, or one action more is done
abbrev pub HasGone : ThreadClientData → ThreadClientData → Type 0
HasGone old new = HasPosted old new ⊎ (HasReadDump old new ⊎ HasDone old new)

abbrev pub DoesAct : ThreadClientData → ThreadClientData → Act → Type 0
DoesAct old new Went = HasGone old new
DoesAct old new Full = IsQueueFull new
DoesAct old new NotYet = HasTried old new acted.NotYet
DoesAct old new Unread = IsUnread old new
DoesAct old new AtClose = HasTried old new acted.AtClose
DoesAct old new End = HasTried old new acted.End
