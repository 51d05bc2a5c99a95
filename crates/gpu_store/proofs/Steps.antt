-- What each operation does, case by case.
use Rattle.std.proofs.Common.{◌≡◌, ◌≢◌, ℕ, ◌+◌, ◌*◌, ◌&&◌, Bool, true, false, Option, Some, None, Result, Ok, Err, List, slice_index, refl, sym, ap, subst, ◌∙◌}
use Rattle.std.specs.Prelude.{nat_le, is_some, is_none}
use Rattle.std.proofs.lemmas.Bool.{and_left, and_right}
use Rattle.gpu_store.specs.declared.op.Op.{Op}
use Rattle.gpu_store.specs.declared.op.Op.TheVariants.{Create, Delete, Clear, Copy, Upload}
use Rattle.gpu_store.specs.declared.op.Answer.{Answer}
use Rattle.gpu_store.specs.declared.op.Answer.TheVariants.{Done, InvalidValue, InvalidOperation, OutOfTexels}
use Rattle.gpu_store.specs.declared.rect.Rect.{Rect}
use Rattle.gpu_store.specs.Picture.{Picture, rectangle, texel_at, painted, has_rect, redrawn}
use Rattle.gpu_store.specs.Images.{Pictures, Applied, picture_of, replaced, with_image, without, created, deleted, drawn_upon, with_copy, is_side, total_texels, outcome, settled, apply}

-- Create
pub apply-Create : (images : Pictures) (image width height : ℕ) → apply images (Create image width height) ≡ settled images (created images image width height)
unfolding apply outcome
apply-Create images image width height = refl

-- Delete
pub apply-Delete : (images : Pictures) (image : ℕ) → apply images (Delete image) ≡ settled images (deleted images image)
unfolding apply outcome
apply-Delete images image = refl

-- Clear
pub apply-Clear : (images : Pictures) (image : ℕ) (rect : Rect) (texel : ℕ) → apply images (Clear image rect texel) ≡ settled images (drawn_upon images image rect (λ x y. texel))
unfolding apply outcome
apply-Clear images image rect texel = refl

-- Copy
pub apply-Copy : (images : Pictures) (source sx sy target dx dy w h : ℕ)
    → apply images (Copy source sx sy target dx dy w h) ≡ settled images (with_copy images source sx sy target (rectangle dx dy w h))
unfolding apply outcome
apply-Copy images source sx sy target dx dy w h = refl

-- Upload
pub apply-Upload : (images : Pictures) (image : ℕ) (rect : Rect) (texels : List ℕ)
    → apply images (Upload image rect texels) ≡ settled images (drawn_upon images image rect (λ x y. slice_index texels (y * rect.w + x)))
unfolding apply outcome
apply-Upload images image rect texels = refl

-- an answer other than Done leaves the images as they were
pub apply-refused : (images : Pictures) (op : Op) → (apply images op).answer ≢ Done → (apply images op).images ≡ images
unfolding apply
apply-refused images op refused = of_outcome (outcome images op) refused
  where
    of_outcome : (end : Result Pictures Answer) → (settled images end).answer ≢ Done → (settled images end).images ≡ images
    of_outcome (Ok after) refused = absurd (refused refl)
    of_outcome (Err answer) refused = refl

-- a refused operation's answer, with the images as they were
abbrev pub refused : Pictures → Answer → Applied
refused images answer = record { answer = answer; images = images }

-- a done operation
abbrev pub done : Pictures → Applied
done after = record { answer = Done; images = after }

drawn_upon-missing : (images : Pictures) (image : ℕ) (rect : Rect) (texel : ℕ → ℕ → ℕ) → picture_of images image ≡ None
    → settled images (drawn_upon images image rect texel) ≡ refused images InvalidOperation
drawn_upon-missing images image rect texel missing = rw missing refl

drawn_upon-outside : (images : Pictures) (image : ℕ) (rect : Rect) (texel : ℕ → ℕ → ℕ) (picture : Picture) → picture_of images image ≡ Some picture → has_rect picture rect ≡ false
    → settled images (drawn_upon images image rect texel) ≡ refused images InvalidValue
drawn_upon-outside images image rect texel picture there outside = rw (there, outside) refl

drawn_upon-done : (images : Pictures) (image : ℕ) (rect : Rect) (texel : ℕ → ℕ → ℕ) (picture : Picture) → picture_of images image ≡ Some picture → has_rect picture rect ≡ true
    → settled images (drawn_upon images image rect texel) ≡ done (replaced images image (redrawn picture rect texel))
drawn_upon-done images image rect texel picture there fit = rw (there, fit) refl

-- Clear, case by case
pub clear-missing : (images : Pictures) (image : ℕ) (rect : Rect) (texel : ℕ) → picture_of images image ≡ None
    → apply images (Clear image rect texel) ≡ refused images InvalidOperation
clear-missing images image rect texel missing =
    apply-Clear images image rect texel ∙ drawn_upon-missing images image rect (λ x y. texel) missing

pub clear-outside : (images : Pictures) (image : ℕ) (rect : Rect) (texel : ℕ) (picture : Picture) → picture_of images image ≡ Some picture → has_rect picture rect ≡ false
    → apply images (Clear image rect texel) ≡ refused images InvalidValue
clear-outside images image rect texel picture there outside =
    apply-Clear images image rect texel ∙ drawn_upon-outside images image rect (λ x y. texel) picture there outside

pub clear-done : (images : Pictures) (image : ℕ) (rect : Rect) (texel : ℕ) (picture : Picture) → picture_of images image ≡ Some picture → has_rect picture rect ≡ true
    → apply images (Clear image rect texel) ≡ done (replaced images image (redrawn picture rect (λ x y. texel)))
clear-done images image rect texel picture there fit =
    apply-Clear images image rect texel ∙ drawn_upon-done images image rect (λ x y. texel) picture there fit

-- Upload, case by case
pub upload-missing : (images : Pictures) (image : ℕ) (rect : Rect) (texels : List ℕ) → picture_of images image ≡ None
    → apply images (Upload image rect texels) ≡ refused images InvalidOperation
upload-missing images image rect texels missing =
    apply-Upload images image rect texels ∙ drawn_upon-missing images image rect (λ x y. slice_index texels (y * rect.w + x)) missing

pub upload-outside : (images : Pictures) (image : ℕ) (rect : Rect) (texels : List ℕ) (picture : Picture) → picture_of images image ≡ Some picture → has_rect picture rect ≡ false
    → apply images (Upload image rect texels) ≡ refused images InvalidValue
upload-outside images image rect texels picture there outside =
    apply-Upload images image rect texels ∙ drawn_upon-outside images image rect (λ x y. slice_index texels (y * rect.w + x)) picture there outside

pub upload-done : (images : Pictures) (image : ℕ) (rect : Rect) (texels : List ℕ) (picture : Picture) → picture_of images image ≡ Some picture → has_rect picture rect ≡ true
    → apply images (Upload image rect texels) ≡ done (replaced images image (redrawn picture rect (λ x y. slice_index texels (y * rect.w + x))))
upload-done images image rect texels picture there fit =
    apply-Upload images image rect texels ∙ drawn_upon-done images image rect (λ x y. slice_index texels (y * rect.w + x)) picture there fit

-- Delete, case by case
pub delete-missing : (images : Pictures) (image : ℕ) → picture_of images image ≡ None → apply images (Delete image) ≡ refused images InvalidOperation
delete-missing images image missing = apply-Delete images image ∙ (rw missing refl)

pub delete-done : (images : Pictures) (image : ℕ) (picture : Picture) → picture_of images image ≡ Some picture → apply images (Delete image) ≡ done (without images image)
delete-done images image picture there = apply-Delete images image ∙ (rw there refl)

-- Create, case by case
pub create-there : (images : Pictures) (image width height : ℕ) → is_some (picture_of images image) ≡ true
    → apply images (Create image width height) ≡ refused images InvalidOperation
create-there images image width height there = apply-Create images image width height ∙ (rw (present_none (picture_of images image) there) refl)
  where
    present_none : (found : Option Picture) → is_some found ≡ true → is_none found ≡ false
    present_none (Some picture) there = refl
    present_none None there = cc

-- what a look-up that finds nothing says
pub missing_from : (found : Option Picture) → is_some found ≡ false → found ≡ None
missing_from (Some picture) missing = cc
missing_from None missing = refl

pub create-sides : (images : Pictures) (image width height : ℕ) → picture_of images image ≡ None → (is_side width && is_side height) ≡ false
    → apply images (Create image width height) ≡ refused images InvalidValue
create-sides images image width height missing sides = apply-Create images image width height ∙ (rw (missing, sides) refl)

pub create-many : (images : Pictures) (image width height : ℕ) → picture_of images image ≡ None → (is_side width && is_side height) ≡ true
    → nat_le (total_texels images + width * height) 4194304 ≡ false
    → apply images (Create image width height) ≡ refused images OutOfTexels
create-many images image width height missing sides many = apply-Create images image width height ∙ (rw (missing, sides, many) refl)

pub create-done : (images : Pictures) (image width height : ℕ) → picture_of images image ≡ None → (is_side width && is_side height) ≡ true
    → nat_le (total_texels images + width * height) 4194304 ≡ true
    → apply images (Create image width height) ≡ done (with_image images image (painted width height (λ x y. 0)))
create-done images image width height missing sides room = apply-Create images image width height ∙ (rw (missing, sides, room) refl)

-- Copy, case by case
pub copy-no_source : (images : Pictures) (source sx sy target dx dy w h : ℕ) → picture_of images source ≡ None
    → apply images (Copy source sx sy target dx dy w h) ≡ refused images InvalidOperation
copy-no_source images source sx sy target dx dy w h missing = apply-Copy images source sx sy target dx dy w h ∙ (rw missing refl)

pub copy-no_target : (images : Pictures) (source sx sy target dx dy w h : ℕ) (from : Picture) → picture_of images source ≡ Some from → picture_of images target ≡ None
    → apply images (Copy source sx sy target dx dy w h) ≡ refused images InvalidOperation
copy-no_target images source sx sy target dx dy w h from there missing = apply-Copy images source sx sy target dx dy w h ∙ (rw (there, missing) refl)

pub copy-outside : (images : Pictures) (source sx sy target dx dy w h : ℕ) (from to : Picture) → picture_of images source ≡ Some from → picture_of images target ≡ Some to
    → (has_rect from (rectangle sx sy w h) && has_rect to (rectangle dx dy w h)) ≡ false
    → apply images (Copy source sx sy target dx dy w h) ≡ refused images InvalidValue
copy-outside images source sx sy target dx dy w h from to source_there target_there outside =
    apply-Copy images source sx sy target dx dy w h ∙ (rw (source_there, target_there, outside) refl)

pub copy-done : (images : Pictures) (source sx sy target dx dy w h : ℕ) (from to : Picture) → picture_of images source ≡ Some from → picture_of images target ≡ Some to
    → (has_rect from (rectangle sx sy w h) && has_rect to (rectangle dx dy w h)) ≡ true
    → apply images (Copy source sx sy target dx dy w h) ≡ done (replaced images target (redrawn to (rectangle dx dy w h) (λ x y. texel_at from (sx + x) (sy + y))))
copy-done images source sx sy target dx dy w h from to source_there target_there fit =
    apply-Copy images source sx sy target dx dy w h ∙ (rw (source_there, target_there, fit) refl)

-- a copy that is done has both images, and both rectangles lie inside
pub record Copies (images : Pictures) (source sx sy target dx dy w h : ℕ) : Type 0 where
  pub from : Picture
  pub to : Picture
  pub source_there : picture_of images source ≡ Some from
  pub target_there : picture_of images target ≡ Some to
  pub source_fits : has_rect from (rectangle sx sy w h) ≡ true
  pub target_fits : has_rect to (rectangle dx dy w h) ≡ true

not_done : (images : Pictures) (end : Applied) (answer : Answer) → end ≡ refused images answer → end.answer ≡ Done → answer ≡ Done
not_done images end answer is isdone = sym (ap (λ end. end.answer) is) ∙ isdone

pub copy-is_done : (images : Pictures) (source sx sy target dx dy w h : ℕ) → (apply images (Copy source sx sy target dx dy w h)).answer ≡ Done
    → Copies images source sx sy target dx dy w h
copy-is_done images source sx sy target dx dy w h isdone = by_source (picture_of images source) refl
  where
    by_fit : (from to : Picture) → picture_of images source ≡ Some from → picture_of images target ≡ Some to
        → (first second : Bool) → has_rect from (rectangle sx sy w h) ≡ first → has_rect to (rectangle dx dy w h) ≡ second → Copies images source sx sy target dx dy w h
    by_fit from to source_there target_there true true first second =
        record { from = from; to = to; source_there = source_there; target_there = target_there; source_fits = first; target_fits = second }
    by_fit from to source_there target_there true false first second =
        let bad : InvalidValue ≡ Done = not_done images _ InvalidValue (copy-outside images source sx sy target dx dy w h from to source_there target_there (and_right _ _ second)) isdone in cc
    by_fit from to source_there target_there false second first _ =
        let bad : InvalidValue ≡ Done = not_done images _ InvalidValue (copy-outside images source sx sy target dx dy w h from to source_there target_there (and_left _ _ first)) isdone in cc

    by_target : (from : Picture) → picture_of images source ≡ Some from → (found : Option Picture) → picture_of images target ≡ found → Copies images source sx sy target dx dy w h
    by_target from source_there (Some to) target_there = by_fit from to source_there target_there _ _ refl refl
    by_target from source_there None missing =
        let bad : InvalidOperation ≡ Done = not_done images _ InvalidOperation (copy-no_target images source sx sy target dx dy w h from source_there missing) isdone in cc

    by_source : (found : Option Picture) → picture_of images source ≡ found → Copies images source sx sy target dx dy w h
    by_source (Some from) source_there = by_target from source_there _ refl
    by_source None missing =
        let bad : InvalidOperation ≡ Done = not_done images _ InvalidOperation (copy-no_source images source sx sy target dx dy w h missing) isdone in cc

-- the rectangles of a copy that is done lie inside the images
pub copy-fits : (images : Pictures) (source sx sy target dx dy w h : ℕ) (from to : Picture) → (apply images (Copy source sx sy target dx dy w h)).answer ≡ Done
    → picture_of images source ≡ Some from → picture_of images target ≡ Some to
    → (has_rect from (rectangle sx sy w h) ≡ true) × (has_rect to (rectangle dx dy w h) ≡ true)
copy-fits images source sx sy target dx dy w h from to isdone source_there target_there =
    let copies = copy-is_done images source sx sy target dx dy w h isdone in
    let same_source : Some copies.from ≡ Some from = sym copies.source_there ∙ source_there in
    let same_target : Some copies.to ≡ Some to = sym copies.target_there ∙ target_there in
    let from_is : copies.from ≡ from = cc in
    let to_is : copies.to ≡ to = cc in
    (subst (λ (picture : Picture). has_rect picture (rectangle sx sy w h) ≡ true) from_is copies.source_fits, subst (λ (picture : Picture). has_rect picture (rectangle dx dy w h) ≡ true) to_is copies.target_fits)
