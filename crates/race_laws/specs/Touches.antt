-- What steps touch of the images, and which of them conflict.
use Rattle.std.specs.Prelude.{◌≡◌, ℕ, ◌+◌, ◌*◌, ◌≤◌, Bool, true, false, not, ◌&&◌, ◌||◌, ◌==◌, nat_lt, max, min, List, [], ◌∷◌}
use Rattle.std.specs.List.{list_any}
use Rattle.gpu_cmd.specs.declared.command.Command.{Command}
use Rattle.gpu_cmd.specs.declared.command.Command.TheVariants.{CreateImage, DeleteImage, ClearRect, CopyRect, UploadRect, UploadBucket, UploadBuffer}
use Rattle.gpu_store.specs.declared.rect.Rect.{Rect}
use Rattle.gpu_store.specs.Picture.{rectangle}
use Rattle.stream_state.specs.Steps.{command_in}
use Rattle.gpu_journal.specs.declared.event.Event.{Event}
use Rattle.gpu_journal.specs.declared.event.Event.TheVariants.{Step}

-- ---- touches

-- all of an image, whether it is there or not, or a rectangle of it
pub data Area : Type 0 where
  Whole : Area
  Part : Rect → Area

-- an image, what is touched of it, and whether that is written; else it is read
pub record Touch : Type 0 where
  pub image : ℕ
  pub area : Area
  pub writes : Bool

abbrev pub reads_part : ℕ → Rect → Touch
reads_part image rect = record { image = image; area = Part rect; writes = false }

abbrev pub writes_part : ℕ → Rect → Touch
writes_part image rect = record { image = image; area = Part rect; writes = true }

abbrev pub writes_whole : ℕ → Touch
writes_whole image = record { image = image; area = Whole; writes = true }

-- what a command touches, whether it fails or not
abbrev pub touched : Command → List Touch
touched (CreateImage image width height) = writes_whole image ∷ []
touched (DeleteImage image) = writes_whole image ∷ []
touched (ClearRect image x y w h texel) = writes_part image (rectangle x y w h) ∷ []
touched (CopyRect source sx sy target dx dy w h) = reads_part source (rectangle sx sy w h) ∷ writes_part target (rectangle dx dy w h) ∷ []
touched (UploadRect image x y w h format memory offset) = writes_part image (rectangle x y w h) ∷ []
touched (UploadBucket image x y w h format bucket) = writes_part image (rectangle x y w h) ∷ []
touched (UploadBuffer image x y w h format buffer offset) = writes_part image (rectangle x y w h) ∷ []
touched _ = []

-- what a step of these words touches
abbrev pub touches : List (ℕ × ℕ) → List Touch
touches words = touched (command_in words)

-- ---- conflicts

-- of n numbers from a on and m numbers from b on, one is the same
abbrev pub meet : ℕ → ℕ → ℕ → ℕ → Bool
meet a n b m = nat_lt (max a b) (min (a + n) (b + m))

-- two areas of one image have a common texel, or one of them is the whole
abbrev pub overlaps : Area → Area → Bool
overlaps Whole b = true
overlaps (Part r) Whole = true
overlaps (Part r) (Part q) = meet r.x r.w q.x q.w && meet r.y r.h q.y q.h

-- two touches overlap, and one of them writes
abbrev pub clashes : Touch → Touch → Bool
clashes a b = (a.image == b.image) && (overlaps a.area b.area && (a.writes || b.writes))

-- two steps of these words conflict
abbrev pub conflict : List (ℕ × ℕ) → List (ℕ × ℕ) → Bool
conflict words others = list_any (λ a. list_any (clashes a) (touches others)) (touches words)

-- ---- histories

-- the stream and the words of each step, the newest first
abbrev pub steps_in : List Event → List (ℕ × List (ℕ × ℕ))
steps_in [] = []
steps_in (Step s words ∷ h) = (s, words) ∷ steps_in h
steps_in (e ∷ h) = steps_in h

-- a step of stream s with these words conflicts with none of these steps of other streams
abbrev pub is_apart : ℕ → List (ℕ × ℕ) → List (ℕ × List (ℕ × ℕ)) → Bool
is_apart s words [] = true
is_apart s words (step ∷ steps) = (s == step.0 || not (conflict words step.1)) && is_apart s words steps

-- no two of these steps of different streams conflict
abbrev pub are_apart : List (ℕ × List (ℕ × ℕ)) → Bool
are_apart [] = true
are_apart (step ∷ steps) = is_apart step.0 step.1 steps && are_apart steps

-- no two steps of different streams conflict
abbrev pub AreApart : List Event → Type 0
AreApart h = are_apart (steps_in h) ≡ true

-- ---- the quota of texels

-- how many texels a command asks for
abbrev pub texels_made : Command → ℕ
texels_made (CreateImage image width height) = width * height
texels_made _ = 0

-- how many texels these steps ask for together
abbrev pub all_made : List (ℕ × List (ℕ × ℕ)) → ℕ
all_made [] = 0
all_made (step ∷ steps) = texels_made (command_in step.1) + all_made steps

-- no more than all images may have together, so none is refused for the others' texels, whatever the order
abbrev pub Fits : List Event → Type 0
Fits h = all_made (steps_in h) ≤ 4194304
