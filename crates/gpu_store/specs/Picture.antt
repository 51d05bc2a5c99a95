-- One image, its rectangles, and what is drawn into them.
use Rattle.std.specs.Prelude.{◌≡◌, ◌≤◌, ℕ, ◌+◌, ◌-◌, ◌*◌, ◌/◌, ◌%◌, Bool, ◌&&◌, nat_le, nat_lt, List, length, map, take, drop, slice_index, if◌then◌else◌}
use Rattle.std.specs.List.{range_with_len}
use Rattle.gpu_store.specs.declared.canvas.TheConstants.{MOST_SIDE}
use Rattle.gpu_store.specs.declared.rect.Rect.{Rect}

-- an image: its width, its height, and its texels row after row
pub record Picture : Type 0 where
  pub width : ℕ
  pub height : ℕ
  pub texels : List ℕ

-- how many texels an image has
abbrev pub texel_count : Picture → ℕ
texel_count picture = picture.width * picture.height

-- an image has as many texels as its size says
abbrev pub IsWhole : Picture → Type 0
IsWhole picture = length picture.texels ≡ texel_count picture

-- what holds of every stored image: no side is above 4,096, and it has as many texels as its size says
pub record IsStored (width height : ℕ) (texels : List ℕ) : Type 0 where
  pub wide : width ≤ MOST_SIDE
  pub high : height ≤ MOST_SIDE
  pub whole : length texels ≡ width * height

-- the texel in column x of row y
abbrev pub texel_at : Picture → ℕ → ℕ → ℕ
texel_at picture x y = slice_index picture.texels (y * picture.width + x)

-- the texels of row y, from left to right
abbrev pub texel_row : Picture → ℕ → List ℕ
texel_row picture y = take picture.width (drop (y * picture.width) picture.texels)

-- the image of this size whose texel in column x of row y is `texel x y`
unfoldable pub painted : ℕ → ℕ → (ℕ → ℕ → ℕ) → Picture
painted width height texel = record {
  width = width;
  height = height;
  texels = map (λ place. texel (place % width) (place / width)) (range_with_len 0 (width * height));
}

-- the rectangle of these four numbers
abbrev pub rectangle : ℕ → ℕ → ℕ → ℕ → Rect
rectangle x y w h = record { x = x; y = y; w = w; h = h }

-- column x of row y lies in the rectangle
abbrev pub is_inside : Rect → ℕ → ℕ → Bool
is_inside rect x y = nat_le rect.x x && nat_lt x (rect.x + rect.w) && nat_le rect.y y && nat_lt y (rect.y + rect.h)

-- the image has room for the rectangle
abbrev pub has_rect : Picture → Rect → Bool
has_rect picture rect = nat_le (rect.x + rect.w) picture.width && nat_le (rect.y + rect.h) picture.height

-- the image whose rectangle shows `texel` of its own columns and rows, and which is as before elsewhere
unfoldable pub redrawn : Picture → Rect → (ℕ → ℕ → ℕ) → Picture
redrawn picture rect texel =
    painted picture.width picture.height (λ x y. if is_inside rect x y then texel (x - rect.x) (y - rect.y) else texel_at picture x y)
