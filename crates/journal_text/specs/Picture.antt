-- The text of images.
use Rattle.std.specs.Prelude.{ℕ, List, ◌++◌, codes, map}
use Rattle.std.specs.List.{flat_map, join_with_byte, range_with_len}
use Rattle.gpu_store.specs.Picture.{Picture, texel_row}
use Rattle.gpu_store.specs.Images.{Pictures}
use Rattle.journal_text.specs.Digits.{hex8, number_text}

-- the line of an image: its number, its width and its height
unfoldable pub head_text : ℕ → ℕ → ℕ → List ℕ
head_text image width height = codes "image" ++ number_text image ++ number_text width ++ number_text height ++ codes "\n"

-- the line of a row: its texels with a space between each two
unfoldable pub row_text : List ℕ → List ℕ
row_text texels = join_with_byte 32 (map hex8 texels) ++ codes "\n"

-- the lines of an image: its own, and one for each of its rows from the top
unfoldable pub image_text : ℕ × Picture → List ℕ
image_text entry = head_text entry.0 entry.1.width entry.1.height ++ flat_map (λ y. row_text (texel_row entry.1 y)) (range_with_len 0 entry.1.height)

-- the lines of all images, in rising order of their numbers
unfoldable pub picture_text : Pictures → List ℕ
picture_text images = flat_map image_text images
