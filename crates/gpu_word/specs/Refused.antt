-- A refusal, as contracts see it.
use Rattle.gpu_word.specs.declared.memory.Memory.{Memory}

-- every refusal is seen as this value
abbrev pub refused : Memory
refused = record { _refusal = tt }
