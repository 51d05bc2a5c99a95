use Rattle.std.proofs.Common.{map, ap, ◌∙◌, arith}
use Rattle.std.proofs.lemmas.List.{take_all}
use Rattle.gpu_word.specs.Bytes.{values_of}
use Rattle.gpu_store.proofs.Words.{word_texel, texels_of_words}
use Rattle.gpu_store.proofs.conversion.unpack_words.Goals as goal

pub returns-clause-texels : goal.returns-clause-texels
returns-clause-texels c =
    let words = c.args.words.now in
    c.of.ensures
    ∙ c.loop-word.invariant.texels
    ∙ ap (λ l. map word_texel (values_of l)) (take_all c.loop-word.word-index words (omega arith))
    ∙ texels_of_words (values_of words)
