-- The images, and what an operation does to them.
use Rattle.std.specs.Prelude.{◌≡◌, ◌≤◌, ℕ, ◌+◌, ◌*◌, Bool, ◌&&◌, nat_le, Option, Some, None, is_none, Result, Ok, Err, List, length, slice_index}
use Rattle.std.specs.Ordering.{nat_cmp}
use Rattle.std.specs.Map.{lookup, set_value, remove_entry, keys_of, values_of}
use Rattle.std.specs.BTreeMap.{is_at, insert_entry}
use Rattle.std.specs.List.{sum_by, All}
use Rattle.gpu_word.specs.Outcome.{◌>>=◌, unless}
use Rattle.gpu_store.specs.declared.canvas.TheConstants.{MOST_SIDE}
use Rattle.gpu_store.specs.declared.images.TheConstants.{MOST_TEXELS}
use Rattle.gpu_store.specs.declared.op.Op.{Op}
use Rattle.gpu_store.specs.declared.op.Op.TheVariants.{Create, Delete, Clear, Copy, Upload}
use Rattle.gpu_store.specs.declared.op.Answer.{Answer}
use Rattle.gpu_store.specs.declared.op.Answer.TheVariants.{Done, InvalidValue, InvalidOperation, OutOfTexels}
use Rattle.gpu_store.specs.declared.rect.Rect.{Rect}
use Rattle.gpu_store.specs.Picture.{Picture, texel_at, painted, rectangle, has_rect, texel_count, redrawn}

-- the images in rising order of their numbers
abbrev pub Pictures : Type 0
Pictures = List (ℕ × Picture)

-- the image of this number
abbrev pub picture_of : Pictures → ℕ → Option Picture
picture_of images image = lookup (is_at (nat_cmp image)) images

-- the images with another picture at a number that is there
abbrev pub replaced : Pictures → ℕ → Picture → Pictures
replaced images image picture = set_value (is_at (nat_cmp image)) images picture

-- the images with one more, in its place in the order
abbrev pub with_image : Pictures → ℕ → Picture → Pictures
with_image images image picture = insert_entry nat_cmp images image picture

-- the images without this one
abbrev pub without : Pictures → ℕ → Pictures
without images image = remove_entry (is_at (nat_cmp image)) images

-- how many texels all images have together
abbrev pub total_texels : Pictures → ℕ
total_texels images = sum_by texel_count (values_of images)

-- the numbers of the images, in rising order
abbrev pub numbers : Pictures → List ℕ
numbers images = keys_of images

-- the count of all texels is right and within 4,194,304, and no image is empty
pub record AreCounted (texels : ℕ) (images : Pictures) : Type 0 where
  pub counted : texels ≡ total_texels images
  pub within : texels ≤ MOST_TEXELS
  pub filled : All (λ picture. 1 ≤ texel_count picture) (values_of images)

-- an upload brings as many texels as its rectangle has
abbrev pub HasItsTexels : Op → Type 0
HasItsTexels (Create image width height) = Unit {0}
HasItsTexels (Delete image) = Unit {0}
HasItsTexels (Clear image rect texel) = Unit {0}
HasItsTexels (Copy source sx sy target dx dy w h) = Unit {0}
HasItsTexels (Upload image rect texels) = length texels ≡ rect.w * rect.h

-- the operation makes an image
abbrev pub IsCreate : Op → Type 0
IsCreate (Create image width height) = Unit {0}
IsCreate (Delete image) = ⊥
IsCreate (Clear image rect texel) = ⊥
IsCreate (Copy source sx sy target dx dy w h) = ⊥
IsCreate (Upload image rect texels) = ⊥

-- an image may have a side of 1 to 4,096 texels
abbrev pub is_side : ℕ → Bool
is_side side = nat_le 1 side && nat_le side MOST_SIDE

-- the picture that was found, or refused where there is none
abbrev pub present : Option Picture → Result Picture Answer
present (Some picture) = Ok picture
present None = Err InvalidOperation

-- one image of zeros more, unless it is there, a side is out of range or the texels would be too many
abbrev pub created : Pictures → ℕ → ℕ → ℕ → Result Pictures Answer
created images image width height = do
  _ ← unless (is_none (picture_of images image)) InvalidOperation
  _ ← unless (is_side width && is_side height) InvalidValue
  _ ← unless (nat_le (total_texels images + width * height) MOST_TEXELS) OutOfTexels
  Ok (with_image images image (painted width height (λ x y. 0)))

-- one image less, unless it is missing
abbrev pub deleted : Pictures → ℕ → Result Pictures Answer
deleted images image = do
  _ ← present (picture_of images image)
  Ok (without images image)

-- an image is drawn upon, unless it is missing or the rectangle lies outside
abbrev pub drawn_upon : Pictures → ℕ → Rect → (ℕ → ℕ → ℕ) → Result Pictures Answer
drawn_upon images image rect texel = do
  picture ← present (picture_of images image)
  _ ← unless (has_rect picture rect) InvalidValue
  Ok (replaced images image (redrawn picture rect texel))

-- the target shows what the source showed before, unless one of them is missing or one of the rectangles lies outside
abbrev pub with_copy : Pictures → ℕ → ℕ → ℕ → ℕ → Rect → Result Pictures Answer
with_copy images source sx sy target rect = do
  from ← present (picture_of images source)
  to ← present (picture_of images target)
  _ ← unless (has_rect from (rectangle sx sy rect.w rect.h) && has_rect to rect) InvalidValue
  Ok (replaced images target (redrawn to rect (λ x y. texel_at from (sx + x) (sy + y))))

-- the images after an operation, or the answer that refuses it
unfoldable pub outcome : Pictures → Op → Result Pictures Answer
outcome images (Create image width height) = created images image width height
outcome images (Delete image) = deleted images image
outcome images (Clear image rect texel) = drawn_upon images image rect (λ x y. texel)
outcome images (Copy source sx sy target dx dy w h) = with_copy images source sx sy target (rectangle dx dy w h)
outcome images (Upload image rect texels) = drawn_upon images image rect (λ x y. slice_index texels (y * rect.w + x))

-- the answer of an operation, and the images after it
pub record Applied : Type 0 where
  pub answer : Answer
  pub images : Pictures

-- Done with the images after it; an operation that is refused leaves the images as they were
abbrev pub settled : Pictures → Result Pictures Answer → Applied
settled images (Ok after) = record { answer = Done; images = after }
settled images (Err answer) = record { answer = answer; images = images }

-- what an image operation does: its answer, and the images after it
unfoldable pub apply : Pictures → Op → Applied
apply images op = settled images (outcome images op)
