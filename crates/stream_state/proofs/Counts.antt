-- How many bytes and texels are made.
use Rattle.std.proofs.Common.{◌≡◌, ℕ, ◌+◌, ◌*◌, ◌/◌, ◌≤◌, Some, List, length, drop, refl, ap, ◌∙◌, arith}
use Rattle.std.proofs.lemmas.List.FromFn.{length-map-range_with_len}
use Rattle.gpu_word.specs.declared.format.Format.{Format}
use Rattle.gpu_word.specs.declared.format.Format.TheVariants.{Rgba8, Rgb565, Rgba4444, L8}
use Rattle.gpu_word.specs.Formats.{format_of, format_bytes}
use Rattle.gpu_cmd.specs.declared.areas.Areas.{Areas}
use Rattle.gpu_cmd.specs.declared.areas.Span.{Span}
use Rattle.gpu_cmd.specs.Spans.{span_at, words_in}
use Rattle.gpu_cmd.specs.Lawful.{IsLawfulAreas}
use Rattle.gpu_cmd.specs.Ranges.{texel_bytes}
use Rattle.gpu_store.specs.Conversion.{texel_of, texels_of, first_texels}

texels_counted : (format : Format) (bytes : List ℕ) (count : ℕ) → length bytes ≡ count * format_bytes format → length (texels_of format bytes) ≡ count
unfolding first_texels
texels_counted Rgba8 bytes count h = length-map-range_with_len (λ i. texel_of Rgba8 (drop (i * 4) bytes)) 0 (length bytes / 4) ∙ omega arith
texels_counted Rgb565 bytes count h = length-map-range_with_len (λ i. texel_of Rgb565 (drop (i * 2) bytes)) 0 (length bytes / 2) ∙ omega arith
texels_counted Rgba4444 bytes count h = length-map-range_with_len (λ i. texel_of Rgba4444 (drop (i * 2) bytes)) 0 (length bytes / 2) ∙ omega arith
texels_counted L8 bytes count h = length-map-range_with_len (λ i. texel_of L8 (drop (i * 1) bytes)) 0 (length bytes / 1) ∙ omega arith

-- as many texels as their bytes are for
pub upload_counted : (number : ℕ) (format : Format) (bytes texels : List ℕ) (w h : ℕ) → format_of number ≡ Some format → length bytes ≡ w * h * texel_bytes number → texels ≡ texels_of format bytes → length texels ≡ w * h
upload_counted number format bytes texels w h e n t =
    let size : texel_bytes number ≡ format_bytes format = rw e refl in
    ap length t ∙ texels_counted format bytes (w * h) (n ∙ ap (λ k. w * h * k) size)

-- result memories begin low
pub span_low : (areas : Areas) (memory : ℕ) (span : Span) → IsLawfulAreas areas → span_at areas.results memory ≡ Some span → span.base ≤ 65536
span_low areas memory span lawful e =
    let ends : span.base + span.words ≤ 0 + words_in areas.results = lawful.results.ended memory span e in
    let few : words_in areas.results ≤ 65536 = lawful.results.few in
    omega arith
