-- What a client has posted.
use Rattle.std.specs.Prelude.{◌≡◌}
use Rattle.shm_words.specs.Seen.{ClientData, flushes_before}
use Rattle.flush_queue.specs.Seen.{EndData}

-- the poster is of the client's words and plan, and each flush that the client has done was posted
pub record HasPostedAll (client : ClientData) (poster : EndData) : Type 0 where
  pub words : poster.words ≡ client.table
  pub plan : poster.plan ≡ client.plan
  pub count : poster.count ≡ flushes_before client
