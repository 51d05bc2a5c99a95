use Rattle.std.proofs.Common.{◌≡◌, take}
use Rattle.gpu_word.specs.Bytes.{values_of, bytes_of}
use Rattle.gpu_word.proofs.bytes.all_bytes.Given as goal

abbrev pub invariant-loop-word : goal.invariant-loop-word
invariant-loop-word l = l.bytes.items ≡ bytes_of (values_of (take l.word-index l.words))
