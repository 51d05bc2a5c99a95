-- The conversion of bytes into texels.
use Rattle.std.specs.Prelude.{ℕ, ◌+◌, ◌*◌, ◌/◌, ◌%◌, ◌^◌, List, length, map, drop, slice_index}
use Rattle.std.specs.List.{range_with_len}
use Rattle.gpu_word.specs.declared.format.Format.{Format}
use Rattle.gpu_word.specs.declared.format.Format.TheVariants.{Rgba8, Rgb565, Rgba4444, L8}
use Rattle.gpu_word.specs.Formats.{format_bytes}

-- the texel of red, green, blue and alpha, each from 0 to 255
abbrev pub texel : ℕ → ℕ → ℕ → ℕ → ℕ
texel r g b a = r * 2 ^ 24 + g * 2 ^ 16 + b * 2 ^ 8 + a

-- a channel that reaches from 0 to `most`, spread over 0 to 255
abbrev pub widened : ℕ → ℕ → ℕ
widened channel most = channel * 255 / most

-- the number of the first two bytes, the low one first
abbrev pub pair : List ℕ → ℕ
pair bytes = slice_index bytes 0 + slice_index bytes 1 * 2 ^ 8

-- five bits of red, six of green and five of blue
abbrev pub texel_565 : ℕ → ℕ
texel_565 v = texel (widened (v / 2048) 31) (widened (v / 32 % 64) 63) (widened (v % 32) 31) 255

-- four bits each of red, green, blue and alpha
abbrev pub texel_4444 : ℕ → ℕ
texel_4444 v = texel (widened (v / 4096) 15) (widened (v / 256 % 16) 15) (widened (v / 16 % 16) 15) (widened (v % 16) 15)

-- the texel of the format that begins these bytes
abbrev pub texel_of : Format → List ℕ → ℕ
texel_of Rgba8 bytes = texel (slice_index bytes 0) (slice_index bytes 1) (slice_index bytes 2) (slice_index bytes 3)
texel_of Rgb565 bytes = texel_565 (pair bytes)
texel_of Rgba4444 bytes = texel_4444 (pair bytes)
texel_of L8 bytes = texel (slice_index bytes 0) (slice_index bytes 0) (slice_index bytes 0) 255

-- the first `count` texels of the bytes, one after the other
unfoldable pub first_texels : Format → List ℕ → ℕ → List ℕ
first_texels format bytes count = map (λ i. texel_of format (drop (i * format_bytes format) bytes)) (range_with_len 0 count)

-- all texels of the bytes
abbrev pub texels_of : Format → List ℕ → List ℕ
texels_of format bytes = first_texels format bytes (length bytes / format_bytes format)
