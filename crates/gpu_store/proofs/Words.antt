-- Texels whose bytes are those of words.
use Rattle.std.proofs.Common.{◌≡◌, ℕ, ◌*◌, ◌/◌, ◌<◌, List, [], ◌∷◌, length, map, drop, get_or, sym, ap, ◌∙◌, arith, drop-cons}
use Rattle.std.proofs.lemmas.List.{get_or-map, length-map}
use Rattle.std.proofs.lemmas.List.FromFn.{fill_by_all}
use Rattle.gpu_word.specs.declared.format.Format.TheVariants.{Rgba8}
use Rattle.gpu_word.specs.Bytes.{bytes_of}
use Rattle.gpu_word.proofs.Parts.{drop-bytes_of, length-bytes_of}
use Rattle.gpu_store.specs.Conversion.{texel_of, texels_of, first_texels}

-- the texel of the bytes of a word
abbrev pub word_texel : ℕ → ℕ
word_texel word = texel_of Rgba8 (bytes_of (word ∷ []))

-- the texel that begins at a word
texel_at : (values : List ℕ) (k : ℕ) → k < length values → texel_of Rgba8 (drop (k * 4) (bytes_of values)) ≡ word_texel (get_or values k 0)
texel_at values k more =
    let four : k * 4 ≡ 4 * k = omega arith in
    ap (texel_of Rgba8) (ap (λ n. drop n (bytes_of values)) four ∙ drop-bytes_of k values ∙ ap bytes_of (drop-cons values k 0 more))

-- the texels of the bytes are those of the words
pub texels_of_words : (values : List ℕ) → map word_texel values ≡ texels_of Rgba8 (bytes_of values)
unfolding first_texels
texels_of_words values =
    let bytes = bytes_of values in
    let all : length bytes ≡ 4 * length values = length-bytes_of values in
    let count : length values ≡ length bytes / 4 = omega arith in
    fill_by_all (λ i. texel_of Rgba8 (drop (i * 4) bytes)) (map word_texel values) (length values) 0 (length-map values word_texel)
    (λ k more. get_or-map word_texel values k 0 0 more ∙ sym (texel_at values k more))
    ∙ ap (first_texels Rgba8 bytes) count
