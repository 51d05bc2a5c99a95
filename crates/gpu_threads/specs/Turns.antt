-- What a turn of a client comes to.
use Rattle.std.specs.Prelude.{◌⊎◌}
use Rattle.shm_words.specs.declared.client.Acted.TheVariants.{NotYet, AtClose, End}
use Rattle.thread_parts.specs.declared.client.Act.{Act}
use Rattle.thread_parts.specs.declared.client.Act.TheVariants as act
use Rattle.gpu_threads.specs.declared.turns.ClientTurn.{ClientTurn}
use Rattle.gpu_threads.specs.declared.turns.ClientTurn.TheVariants.{Went, Waiting, Ended}
use Rattle.thread_parts.specs.Clients.{ThreadClientData, IsSameClient}
use Rattle.thread_parts.specs.Acts.{HasGone, IsQueueFull, IsUnread, HasTried}

-- the client could not go on: its await does not pass, its queue did not take a note, the dump that is due could not be read, or it
-- stands at its Close
abbrev pub HasStopped : ThreadClientData → ThreadClientData → Type 0
HasStopped old new = HasTried old new NotYet ⊎ (IsQueueFull new ⊎ (IsUnread old new ⊎ HasTried old new AtClose))

-- the client has come to its end: no action is left, or it stood at its Close
abbrev pub HasEnded : ThreadClientData → ThreadClientData → Type 0
HasEnded old new = HasTried old new End ⊎ HasTried old new AtClose

-- an action came to this; but a client that stood at its Close may have come to its end
abbrev pub TurnsSo : ThreadClientData → ThreadClientData → Act → Type 0
TurnsSo old new act.Went = HasGone old new
TurnsSo old new act.Full = IsQueueFull new
TurnsSo old new act.NotYet = HasTried old new NotYet
TurnsSo old new act.Unread = IsUnread old new
TurnsSo old new act.AtClose = HasTried old new AtClose
TurnsSo old new act.End = HasEnded old new

-- the client that comes back is of the same stream, words, plan, queue and result words. It went where it did one action, posted the
-- note that it held, or read the dump that was due; it waits only where it could not go on; and it has ended only where it could not
-- go on or no action is left
abbrev pub Turns : ThreadClientData → ClientTurn → Type 0
Turns old (Went new) = IsSameClient old new × HasGone old new
Turns old (Waiting new) = IsSameClient old new × HasStopped old new
Turns old (Ended new) = IsSameClient old new × (HasTried old new End ⊎ HasStopped old new)
