-- The sum of all texels.
use Rattle.std.specs.Prelude.{ℕ, ◌%◌, ◌^◌}
use Rattle.std.specs.List.{sum, sum_by}
use Rattle.gpu_store.specs.Images.{Pictures}

-- the sum of all texels of all images, modulo 2^32
unfoldable pub texel_sum : Pictures → ℕ
texel_sum images = sum_by (λ entry. sum entry.1.texels) images % 2 ^ 32
