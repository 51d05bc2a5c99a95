-- The texels are those of whole words.
use Rattle.std.proofs.Common.{◌≡◌, ◌*◌, ◌/◌, take, drop, IfOk, sym, ap, ◌∙◌, subst, arith}
use Rattle.gpu_word.specs.declared.format.Format.TheVariants.{Rgba8}
use Rattle.gpu_word.specs.Bytes.{values_of, bytes_of}
use Rattle.gpu_word.proofs.Parts.{take-bytes_of, values_within}
use Rattle.gpu_store.specs.Conversion.{texels_of, first_texels}
use Rattle.stream_state.specs.Steps.{ring_words_in, transfer_bytes}
use Rattle.stream_state.proofs.words.transfer_texels.Goals as goal

pub returns-then-count-eq0-clause-texels : goal.returns-then-count-eq0-clause-texels
unfolding transfer_bytes first_texels
returns-then-count-eq0-clause-texels c = rw c.if-count-eq0.true (c.of.ensures ∙ c.new.ensures.items)

pub returns-clause-texels : goal.returns-clause-texels
unfolding transfer_bytes
returns-clause-texels c =
    let words = c.args.words.now in
    let ring = ring_words_in words in
    let n = c.args.count / 4 in
    let transfer = drop ring (values_of words) in
    let whole : 4 * n ≡ c.args.count = omega (arith, c.requires.whole) in
    let front : c.split_at-2.result.0.now ≡ take n (drop ring words) =
    c.split_at-2.ensures.front ∙ ap (take n) (c.split_at.ensures.back ∙ ap (λ k. drop k words) c.ring_words.ensures) in
    let bytes : bytes_of (values_of c.split_at-2.result.0.now) ≡ take c.args.count (bytes_of transfer) =
    ap (λ l. bytes_of (values_of l)) front
    ∙ ap bytes_of (values_within ring n words)
    ∙ sym (take-bytes_of n transfer)
    ∙ ap (λ k. take k (bytes_of transfer)) whole in
    subst (λ bytes. IfOk c.unpack_words.result (λ texels. texels ≡ texels_of Rgba8 bytes)) bytes c.unpack_words.ensures.texels
