-- The texel formats, by their numbers and their bytes.
use Rattle.std.specs.Prelude.{ℕ, Option, Some, None, ◌==◌, if◌then◌else◌}
use Rattle.gpu_word.specs.declared.format.Format.{Format}
use Rattle.gpu_word.specs.declared.format.Format.TheVariants.{Rgba8, Rgb565, Rgba4444, L8}

-- the format of a number
abbrev pub format_of : ℕ → Option Format
format_of number = if number == 1 then Some Rgba8 else (if number == 2 then Some Rgb565 else (if number == 3 then Some Rgba4444 else (if number == 4 then Some L8 else None)))

-- how many bytes a texel of the format takes
abbrev pub format_bytes : Format → ℕ
format_bytes Rgba8 = 4
format_bytes Rgb565 = 2
format_bytes Rgba4444 = 2
format_bytes L8 = 1
