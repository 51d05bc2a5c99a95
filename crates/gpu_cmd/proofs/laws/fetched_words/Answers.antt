-- Each clause is a lemma on the definitions.
use Rattle.gpu_cmd.proofs.Memories.{words_of_memory, memory_copied}
use Rattle.gpu_cmd.proofs.laws.fetched_words.Goals as goal

pub returns-clause-words : goal.returns-clause-words
returns-clause-words c = words_of_memory

pub returns-clause-memory : goal.returns-clause-memory
returns-clause-memory c = memory_copied
