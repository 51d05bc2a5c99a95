use Rattle.std.proofs.Common.{◌≡◌, ℕ, ◌*◌, ◌%◌, Some, List, ap}
use Rattle.gpu_word.specs.declared.format.Format.TheVariants.{Rgba8}
use Rattle.gpu_cmd.specs.Ranges.{texel_bytes}
use Rattle.gpu_store.specs.declared.op.Op.TheVariants.{Upload}
use Rattle.gpu_store.specs.Picture.{rectangle}
use Rattle.gpu_store.specs.Conversion.{texels_of}
use Rattle.stream_state.specs.Steps.{transfer_bytes, texels_in}
use Rattle.stream_state.proofs.state.StreamState.upload_op.Goals as goal

-- texels that are words, from the start of a word on
from_word : (words : List (ℕ × ℕ)) (format offset count size : ℕ) (texels : List ℕ) → format ≡ 1 → offset % 4 ≡ 0 → count ≡ size → texels ≡ texels_of Rgba8 (transfer_bytes words 0 count) → texels ≡ texels_in format (transfer_bytes words offset size)
unfolding transfer_bytes
from_word words format offset count size texels one start same are = rw (one, start, ← same) are

pub returns-then-memory_offset-eq0-clause-op : goal.returns-then-memory_offset-eq0-clause-op
returns-then-memory_offset-eq0-clause-op c =
    let u = c.in-UploadRect in
    let size = u.w * u.h * texel_bytes u.format in
    let found = c.in_ok-texels-in-UploadRect in
    rw u.is
    (ap (λ texels. Some (Upload u.image (rectangle u.x u.y u.w u.h) texels))
    (from_word c.args.words.now u.format u.memory_offset c.texels_bytes-count.result size found.texels c.if-format-eq-WORDS.true c.if-memory_offset-eq0.true c.texels_bytes-count.ensures.bytes found.ensures.texels))
