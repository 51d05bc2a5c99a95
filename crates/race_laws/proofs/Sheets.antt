-- Images as a function of their numbers, and what an operation does to them where the texels of all images are few.
use Rattle.std.proofs.Common.{◌≡◌, ℕ, ◌+◌, ◌*◌, ◌≤◌, eqb, Bool, true, false, ◌&&◌, cond, Option, Some, None, Result, Ok, Err, is_some, is_none, slice_index, refl, sym, ap, ◌∙◌, arith}
use Rattle.std.proofs.lemmas.Bool.{eqb-true, eqb-false, le-leb}
use Rattle.gpu_word.specs.Outcome.{◌>>=◌, unless}
use Rattle.gpu_store.specs.declared.op.Op.{Op}
use Rattle.gpu_store.specs.declared.op.Op.TheVariants.{Create, Delete, Clear, Copy, Upload}
use Rattle.gpu_store.specs.declared.op.Answer.{Answer}
use Rattle.gpu_store.specs.declared.op.Answer.TheVariants.{Done, InvalidValue, InvalidOperation}
use Rattle.gpu_store.specs.declared.rect.Rect.{Rect}
use Rattle.gpu_store.specs.Picture.{Picture, texel_at, painted, redrawn, rectangle, has_rect}
use Rattle.gpu_store.specs.Images.{Pictures, Applied, picture_of, replaced, with_image, without, total_texels, is_side, present, apply}
use Rattle.gpu_store.proofs.Counting.{texel_count-drawn, texel_count-painted}
use Rattle.gpu_store.proofs.Steps.{refused, done, create-there, create-sides, create-done, delete-missing, delete-done, clear-missing, clear-outside, clear-done, upload-missing, upload-outside, upload-done, copy-no_source, copy-no_target, copy-outside, copy-done}
use Rattle.race_laws.proofs.Rising.{Rising, added, replaced_one, removed}

-- what is found at each number
abbrev pub Sheet : Type 0
Sheet = ℕ → Option Picture

-- the image that an operation changes, and the one that it reads
abbrev pub target : Op → ℕ
target (Create image width height) = image
target (Delete image) = image
target (Clear image rect texel) = image
target (Copy source sx sy other dx dy w h) = other
target (Upload image rect texels) = image

abbrev pub origin : Op → ℕ
origin (Create image width height) = image
origin (Delete image) = image
origin (Clear image rect texel) = image
origin (Copy source sx sy other dx dy w h) = source
origin (Upload image rect texels) = image

-- what a drawing makes of the image that it is drawn upon
abbrev pub drawing : Rect → (ℕ → ℕ → ℕ) → Option Picture → Result (Option Picture) Answer
drawing rect texel to = present to >>= λ picture. unless (has_rect picture rect) InvalidValue >>= λ _. Ok (Some (redrawn picture rect texel))

abbrev pub copying : ℕ → ℕ → Rect → Option Picture → Option Picture → Result (Option Picture) Answer
copying sx sy rect from to =
    present from >>= λ picture. present to >>= λ other. unless (has_rect picture (rectangle sx sy rect.w rect.h) && has_rect other rect) InvalidValue
    >>= λ _. Ok (Some (redrawn other rect (λ x y. texel_at picture (sx + x) (sy + y))))

-- what an operation makes of its target, from what it reads and what is there, or how it is refused
abbrev pub fate : Op → Option Picture → Option Picture → Result (Option Picture) Answer
fate (Create image width height) from to = unless (is_none to) InvalidOperation >>= λ _. unless (is_side width && is_side height) InvalidValue >>= λ _. Ok (Some (painted width height (λ x y. 0)))
fate (Delete image) from to = present to >>= λ picture. Ok None
fate (Clear image rect texel) from to = drawing rect (λ x y. texel) to
fate (Copy source sx sy other dx dy w h) from to = copying sx sy (rectangle dx dy w h) from to
fate (Upload image rect texels) from to = drawing rect (λ x y. slice_index texels (y * rect.w + x)) to

abbrev pub fate_in : Op → Sheet → Result (Option Picture) Answer
fate_in op images = fate op (images (origin op)) (images (target op))

abbrev pub answer_of : Result (Option Picture) Answer → Answer
answer_of (Ok new) = Done
answer_of (Err answer) = answer

-- the images with a new one at a number, unless it was refused
abbrev pub put : Sheet → ℕ → Result (Option Picture) Answer → Sheet
put images number (Ok new) = λ i. cond (eqb number i) new (images i)
put images number (Err answer) = images

-- the images after an operation
abbrev pub drawn : Op → Sheet → Sheet
drawn op images = put images (target op) (fate_in op images)

-- the texels that an operation asks for
abbrev pub texels_asked : Op → ℕ
texels_asked (Create image width height) = width * height
texels_asked (Delete image) = 0
texels_asked (Clear image rect texel) = 0
texels_asked (Copy source sx sy other dx dy w h) = 0
texels_asked (Upload image rect texels) = 0

-- ---- the operations of the definition are these, where there is room

pub record Linked (images : Pictures) (op : Op) (end : Applied) : Type 0 where
  pub answer : end.answer ≡ answer_of (fate_in op (picture_of images))
  pub found : (i : ℕ) → picture_of end.images i ≡ drawn op (picture_of images) i
  pub rising : Rising end.images
  pub total : total_texels end.images ≤ total_texels images + texels_asked op

-- refused, and so is the fate
off : (images : Pictures) (op : Op) (answer : Answer) → Rising images → apply images op ≡ refused images answer → fate_in op (picture_of images) ≡ Err answer → Linked images op (apply images op)
off images op answer r is fated = rw is record {
  answer = sym (ap answer_of fated);
  found = λ i. sym (ap (λ (f : Result (Option Picture) Answer). put (picture_of images) (target op) f i) fated);
  rising = r;
  total = omega arith;
}

-- what is found where one number changed
changed : (images after : Pictures) (number : ℕ) (new : Option Picture) → picture_of after number ≡ new → ((q : ℕ) → (number ≡ q → ⊥) → picture_of after q ≡ picture_of images q)
    → (i : ℕ) → picture_of after i ≡ cond (eqb number i) new (picture_of images i)
changed images after number new own others i = by (eqb number i) refl
  where
    by : (b : Bool) → eqb number i ≡ b → picture_of after i ≡ cond b new (picture_of images i)
    by true q = ap (λ n. picture_of after n) (sym (eqb-true number i q)) ∙ own
    by false q = others i (eqb-false number i q)

-- done, and so is the fate
on : (images : Pictures) (op : Op) (after : Pictures) (new : Option Picture) → apply images op ≡ done after → fate_in op (picture_of images) ≡ Ok new → picture_of after (target op) ≡ new
    → ((q : ℕ) → (target op ≡ q → ⊥) → picture_of after q ≡ picture_of images q) → Rising after → total_texels after ≤ total_texels images + texels_asked op → Linked images op (apply images op)
on images op after new is fated own others r total = rw is record {
  answer = sym (ap answer_of fated);
  found = λ i. changed images after (target op) new own others i ∙ sym (ap (λ (f : Result (Option Picture) Answer). put (picture_of images) (target op) f i) fated);
  rising = r;
  total = total;
}

drawing_missing : (rect : Rect) (texel : ℕ → ℕ → ℕ) (o : Option Picture) → o ≡ None → drawing rect texel o ≡ Err InvalidOperation
drawing_missing rect texel o is = ap (drawing rect texel) is

drawing_outside : (rect : Rect) (texel : ℕ → ℕ → ℕ) (o : Option Picture) (picture : Picture) → o ≡ Some picture → has_rect picture rect ≡ false → drawing rect texel o ≡ Err InvalidValue
drawing_outside rect texel o picture is out = ap (drawing rect texel) is ∙ (rw out refl)

drawing_done : (rect : Rect) (texel : ℕ → ℕ → ℕ) (o : Option Picture) (picture : Picture) → o ≡ Some picture → has_rect picture rect ≡ true → drawing rect texel o ≡ Ok (Some (redrawn picture rect texel))
drawing_done rect texel o picture is fits = ap (drawing rect texel) is ∙ (rw fits refl)

-- another picture of the same size, at a number that is there
redrawn_on : (images : Pictures) (op : Op) (number : ℕ) (picture : Picture) (rect : Rect) (texel : ℕ → ℕ → ℕ) → target op ≡ number → Rising images → picture_of images number ≡ Some picture
    → apply images op ≡ done (replaced images number (redrawn picture rect texel)) → fate_in op (picture_of images) ≡ Ok (Some (redrawn picture rect texel)) → Linked images op (apply images op)
redrawn_on images op number picture rect texel at r there is fated =
    let new = redrawn picture rect texel in
    let one = replaced_one images number picture new there in
    let size = texel_count-drawn picture rect texel in
    let total = one.total in
    on images op (replaced images number new) (Some new) is fated
    (ap (λ n. picture_of (replaced images number new) n) at ∙ one.own)
    (λ q apart. one.others q (λ same. apart (at ∙ same)))
    (one.rising r) (omega (arith, size, total))

pub linked : (images : Pictures) (op : Op) → Rising images → total_texels images + texels_asked op ≤ 4194304 → Linked images op (apply images op)
linked images (Create image width height) r room = by (picture_of images image) refl (is_side width && is_side height) refl
  where
    op : Op
    op = Create image width height

    fated : (o : Option Picture) (b : Bool) → picture_of images image ≡ o → (is_side width && is_side height) ≡ b
        → fate_in op (picture_of images) ≡ (unless (is_none o) InvalidOperation >>= λ _. unless b InvalidValue >>= λ _. Ok (Some (painted width height (λ x y. 0))))
    fated o b found sides = λ i. unless (is_none (found i)) InvalidOperation >>= λ _. unless (sides i) InvalidValue >>= λ _. Ok (Some (painted width height (λ x y. 0)))

    by : (o : Option Picture) → picture_of images image ≡ o → (b : Bool) → (is_side width && is_side height) ≡ b → Linked images op (apply images op)
    by (Some picture) found b sides = off images op InvalidOperation r (create-there images image width height (ap is_some found)) (fated (Some picture) b found sides)
    by None found false sides = off images op InvalidValue r (create-sides images image width height found sides) (fated None false found sides)
    by None found true sides =
        let new = painted width height (λ x y. 0) in
        let one = added images image new found in
        let size = texel_count-painted width height (λ x y. 0) in
        let total = one.total in
        on images op (with_image images image new) (Some new) (create-done images image width height found sides (le-leb (total_texels images + width * height) 4194304 room)) (fated None true found sides)
        one.own one.others (one.rising r) (omega (arith, size, total))
linked images (Delete image) r room = by (picture_of images image) refl
  where
    by : (o : Option Picture) → picture_of images image ≡ o → Linked images (Delete image) (apply images (Delete image))
    by None found = off images (Delete image) InvalidOperation r (delete-missing images image found) (ap (fate (Delete image) (picture_of images image)) found)
    by (Some picture) found =
        let one = removed images image r in
        on images (Delete image) (without images image) None (delete-done images image picture found) (ap (fate (Delete image) (picture_of images image)) found) one.own one.others one.rising (one.total (total_texels images + 0) (omega arith))
linked images (Clear image rect texel) r room = by (picture_of images image) refl
  where
    op : Op
    op = Clear image rect texel

    at : (picture : Picture) → picture_of images image ≡ Some picture → (b : Bool) → has_rect picture rect ≡ b → Linked images op (apply images op)
    at picture found false fits = off images op InvalidValue r (clear-outside images image rect texel picture found fits) (drawing_outside rect (λ x y. texel) (picture_of images image) picture found fits)
    at picture found true fits = redrawn_on images op image picture rect (λ x y. texel) refl r found (clear-done images image rect texel picture found fits) (drawing_done rect (λ x y. texel) (picture_of images image) picture found fits)

    by : (o : Option Picture) → picture_of images image ≡ o → Linked images op (apply images op)
    by None found = off images op InvalidOperation r (clear-missing images image rect texel found) (drawing_missing rect (λ x y. texel) (picture_of images image) found)
    by (Some picture) found = at picture found (has_rect picture rect) refl
linked images (Upload image rect texels) r room = by (picture_of images image) refl
  where
    op : Op
    op = Upload image rect texels

    texel : ℕ → ℕ → ℕ
    texel x y = slice_index texels (y * rect.w + x)

    at : (picture : Picture) → picture_of images image ≡ Some picture → (b : Bool) → has_rect picture rect ≡ b → Linked images op (apply images op)
    at picture found false fits = off images op InvalidValue r (upload-outside images image rect texels picture found fits) (drawing_outside rect texel (picture_of images image) picture found fits)
    at picture found true fits = redrawn_on images op image picture rect texel refl r found (upload-done images image rect texels picture found fits) (drawing_done rect texel (picture_of images image) picture found fits)

    by : (o : Option Picture) → picture_of images image ≡ o → Linked images op (apply images op)
    by None found = off images op InvalidOperation r (upload-missing images image rect texels found) (drawing_missing rect texel (picture_of images image) found)
    by (Some picture) found = at picture found (has_rect picture rect) refl
linked images (Copy source sx sy other dx dy w h) r room = by (picture_of images source) refl (picture_of images other) refl
  where
    op : Op
    op = Copy source sx sy other dx dy w h

    rect : Rect
    rect = rectangle dx dy w h

    fated : (o q : Option Picture) → picture_of images source ≡ o → picture_of images other ≡ q → fate_in op (picture_of images) ≡ copying sx sy rect o q
    fated o q from to = λ i. copying sx sy rect (from i) (to i)

    at : (picture old : Picture) → picture_of images source ≡ Some picture → picture_of images other ≡ Some old → (b : Bool) → (has_rect picture (rectangle sx sy w h) && has_rect old rect) ≡ b → Linked images op (apply images op)
    at picture old from to false fits = off images op InvalidValue r (copy-outside images source sx sy other dx dy w h picture old from to fits) (fated (Some picture) (Some old) from to ∙ (rw fits refl))
    at picture old from to true fits =
        redrawn_on images op other old rect (λ x y. texel_at picture (sx + x) (sy + y)) refl r to (copy-done images source sx sy other dx dy w h picture old from to fits) (fated (Some picture) (Some old) from to ∙ (rw fits refl))

    by : (o : Option Picture) → picture_of images source ≡ o → (q : Option Picture) → picture_of images other ≡ q → Linked images op (apply images op)
    by None from q to = off images op InvalidOperation r (copy-no_source images source sx sy other dx dy w h from) (fated None q from to)
    by (Some picture) from None to = off images op InvalidOperation r (copy-no_target images source sx sy other dx dy w h picture from to) (fated (Some picture) None from to)
    by (Some picture) from (Some old) to = at picture old from to (has_rect picture (rectangle sx sy w h) && has_rect old rect) refl
