use Rattle.std.proofs.Common.{◌≡◌, ◌∙◌, ℕ, ◌+◌, ◌*◌, List, [], ◌∷◌, ◌++◌, drop, ap, sym, arith, rules}
use Rattle.std.proofs.lemmas.List.FromFn.{map-range_with_len_more}
use Rattle.gpu_word.specs.declared.format.Format.{Format}
use Rattle.gpu_word.specs.Formats.{format_bytes}
use Rattle.gpu_store.specs.Conversion.{texel_of, first_texels}
use Rattle.gpu_store.proofs.conversion.unpack_as.Goals as goal

-- one texel more
first_texels-more : (format : Format) (bytes : List ℕ) (i : ℕ)
    → first_texels format bytes i ++ texel_of format (drop (i * format_bytes format) bytes) ∷ [] ≡ first_texels format bytes (i + 1)
unfolding first_texels
first_texels-more format bytes i = sym (map-range_with_len_more (λ i. texel_of format (drop (i * format_bytes format) bytes)) 0 i i (omega arith))

pub loop-i-init : goal.loop-i-init
unfolding first_texels
loop-i-init c = record { texels = c.in_ok-items.ensures.items; len = search rules; room = search rules }

pub loop-i-preserved : goal.loop-i-preserved
loop-i-preserved c = record {
  texels =
      c.push_reserved.ensures.items ∙ ap (λ items. items ++ c.texel_from.result ∷ []) c.loop-i.invariant.texels
      ∙ ap (λ item. first_texels c.args.format c.args.bytes.now c.loop-i.i ++ item ∷ [])
      (c.texel_from.ensures ∙ ap (λ size. texel_of c.args.format (drop (c.loop-i.i * size) c.args.bytes.now)) c.bytes-size.ensures)
      ∙ first_texels-more c.args.format c.args.bytes.now c.loop-i.i;
  len = search rules;
  room = search rules;
}
