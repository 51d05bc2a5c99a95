use Rattle.std.proofs.Common.{◌≡◌, length, take, map, vec_len}
use Rattle.std.specs.Prelude.{vec_capacity}
use Rattle.gpu_word.specs.Bytes.{values_of}
use Rattle.gpu_store.proofs.Words.{word_texel}
use Rattle.gpu_store.proofs.conversion.unpack_words.Given as goal

abbrev pub invariant-loop-word : goal.invariant-loop-word
invariant-loop-word l = record {
  texels : l.items.items ≡ map word_texel (values_of (take l.word-index l.words));
  len : vec_len l.items ≡ l.word-index;
  room : vec_capacity l.items ≡ length l.words;
}
