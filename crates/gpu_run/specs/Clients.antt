-- The clients of the run on one thread.
use Rattle.std.specs.Prelude.{◌≡◌, ℕ, zero, suc, List, [], take, slice_index_or}
use Rattle.gpu_plan.specs.Plans.{PlanData, no_plan}
use Rattle.gpu_plan.specs.Passes.{flushes}
use Rattle.gpu_fetch.specs.Plain.{PlainData, fresh_words}

-- of one stream: its words, and the dumps that it has read
pub record RunClientData : Type 0 where
  pub words : PlainData
  pub read : List (ℕ × ℕ × ℕ)

-- no action is done, and nothing is read
abbrev pub fresh_run_client : PlanData → RunClientData
fresh_run_client plan = record { words = fresh_words plan; read = [] }

-- the client of a stream that no script has
abbrev pub no_client : RunClientData
no_client = fresh_run_client no_plan

-- the client of stream s among those from stream 1 on
abbrev pub client_of_stream : List RunClientData → ℕ → RunClientData
client_of_stream clients zero = no_client
client_of_stream clients (suc k) = slice_index_or clients k no_client

-- how many actions the client of stream s has done
abbrev pub done_at : List RunClientData → ℕ → ℕ
done_at clients s = (client_of_stream clients s).words.done

-- how many flushes stand among the first actions
abbrev pub flushes_to : PlanData → ℕ → ℕ
flushes_to plan k = flushes (take k plan.actions)

-- what a client keeps of its words: how many actions it has done, and how many of them are flushes
pub record IsCounted (words : PlainData) (position flushed : ℕ) : Type 0 where
  pub place : position ≡ words.done
  pub made : flushed ≡ flushes_to words.plan words.done
