-- What a step of drawing leaves in a list of texels.
use Rattle.std.specs.Prelude.{◌≡◌, ℕ, ◌+◌, ◌-◌, ◌*◌, ◌<◌, ◌≤◌, ◌&&◌, ◌++◌, min, replicate, nat_le, nat_lt, List, length, slice_index, if◌then◌else◌}
use Rattle.gpu_store.specs.declared.canvas.TheConstants.{MOST_SIDE}
use Rattle.gpu_store.specs.declared.rect.Rect.{Rect}

-- `count` places from `from` on hold what `texel` gives for their distance from it, and each other place stays
pub record IsWritten (from count : ℕ) (texel : ℕ → ℕ) (old new : List ℕ) : Type 0 where
  pub sized : length new ≡ length old
  pub shown : (k : ℕ) → k < length old
      → slice_index new k ≡ (if nat_le from k && nat_lt k (from + count) then texel (k - from) else slice_index old k)

-- the rows of the rectangle from `first` to below `last` show `texel` of its own columns and rows, and each other texel stays
pub record IsDrawn (width : ℕ) (rect : Rect) (texel : ℕ → ℕ → ℕ) (first last : ℕ) (old new : List ℕ) : Type 0 where
  pub sized : length new ≡ length old
  pub shown : (x y : ℕ) → x < width → y * width + x < length old
      → slice_index new (y * width + x) ≡ (if nat_le rect.x x && nat_lt x (rect.x + rect.w) && nat_le first y && nat_lt y last then texel (x - rect.x) (y - rect.y) else slice_index old (y * width + x))

-- the texels of which only these are written: those after them are 0
abbrev pub canvas_texels : ℕ → List ℕ → List ℕ
canvas_texels count items = items ++ replicate (count - length items) 0

-- there is room for all texels; and where not all are written, those of one longest row are, or all there are, and they are 0
pub record IsCanvas (count capacity : ℕ) (items : List ℕ) : Type 0 where
  pub within : length items ≤ count
  pub room : count ≤ capacity
  pub blank : length items < count → items ≡ replicate (min count MOST_SIDE) 0
