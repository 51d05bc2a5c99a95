-- The lines that are due in a whole output, and the first that is off.
use Rattle.std.specs.Prelude.{◌≡◌, ℕ, zero, suc, ◌+◌, ◌/◌, ◌≤◌, min, List, [], ◌∷◌, ◌++◌, length, map, replicate, codes, bytes_eq, Bool, false, Some, count_by}
use Rattle.std.specs.List.{flat_map, range_with_len}
use Rattle.gpu_store.specs.Picture.{Picture}
use Rattle.gpu_plan.specs.Plans.{PlansData}
use Rattle.gpu_journal.specs.declared.event.Event.{Event}
use Rattle.gpu_journal.specs.World.{replay}
use Rattle.gpu_journal.specs.Ended.{streams_of}
use Rattle.gpu_journal.specs.Dumps.{MayDump, dumps_of}
use Rattle.journal_text.specs.Lines.{dump_text, view_text}
use Rattle.journal_text.specs.Parts.{image_lines, lines_of_streams, lines_of_marks}
use Rattle.journal_verify.specs.Followed.{sum_after}
use Rattle.verify_input.specs.Parts.{words_on}
use Rattle.verify_input.specs.Found.{head_of}
use Rattle.verify_input.specs.declared.what.What.{What}
use Rattle.verify_input.specs.declared.what.What.TheVariants as what
use Rattle.live_view.specs.declared.look.TheConstants.{LOOKS, ALL_LOOKS}
use Rattle.live_view.specs.declared.making.TheConstants.{MOST_VIEWERS}

-- ---- a line that is due

-- a line that is due: exactly this one of a part, that of a dump of a stream, that of a look of a viewer, or that of its last
-- look
pub data Due : Type 0 where
  Same : What → List ℕ → Due
  Dump : ℕ → ℕ × ℕ → Due
  Look : ℕ → Due
  LastLook : ℕ → Due

-- what it is of
abbrev pub what_of : Due → What
what_of (Same part line) = part
what_of (Dump s dump) = what.Dump
what_of (Look viewer) = what.View
what_of (LastLook viewer) = what.View

-- a line that may stand there, after a look of so many events, and of how many events it is a look itself:
-- - a dump has a value that may be told of it
-- - a look is of a prefix that is not shorter than the one before, and has the sum of all texels after it
-- - the last look of a viewer is of all events
abbrev pub MayStand : PlansData → List Event → Due → ℕ → List ℕ → ℕ → Type 0
MayStand p h (Same part due) least line then = (line ≡ due) × (then ≡ 0)
MayStand p h (Dump s dump) least line then =
    (value : ℕ) × MayDump p h s dump value × (line ≡ dump_text s dump.0 dump.1 value) × (then ≡ 0)
MayStand p h (Look viewer) least line then =
    (least ≤ then) × (then ≤ length h) × (line ≡ view_text viewer then (sum_after p h then))
MayStand p h (LastLook viewer) least line then =
    (line ≡ view_text viewer (length h) (sum_after p h (length h))) × (then ≡ 0)

-- ---- all lines that are due

-- exactly these lines of a part
abbrev pub same_lines : What → List (List ℕ) → List Due
same_lines part lines = map (λ line. Same part line) lines

-- the lines of an image
abbrev pub lines_of_image : ℕ × Picture → List (List ℕ)
lines_of_image entry = image_lines entry.0 (Some entry.1)

-- the lines of all images
abbrev pub picture_lines : PlansData → List Event → List (List ℕ)
picture_lines p h = flat_map lines_of_image (replay p h)

-- the dumps of a stream
abbrev pub dumps_due : PlansData → List Event → ℕ → List Due
dumps_due p h s = map (λ dump. Dump s dump) (dumps_of p h s)

-- the looks of a viewer
abbrev pub looks_due : ℕ → List Due
looks_due viewer = replicate LOOKS (Look viewer) ++ LastLook viewer ∷ []

-- the parts of what stands after a journal
abbrev pub images_due : PlansData → List Event → List Due
images_due p h = same_lines what.Image (picture_lines p h)

abbrev pub streams_due : PlansData → List Event → List Due
streams_due p h = same_lines what.Stream (lines_of_streams p h)

abbrev pub marks_due : PlansData → ℕ → List Event → List Due
marks_due p base h = same_lines what.Mark (lines_of_marks p base h)

abbrev pub all_dumps_due : PlansData → List Event → List Due
all_dumps_due p h = flat_map (dumps_due p h) (streams_of p)

abbrev pub viewers_due : ℕ → List Due
viewers_due viewers = flat_map looks_due (range_with_len 1 viewers)

-- all lines after the journal of a history, with marks over a base and a given number of viewers
unfoldable pub dues : PlansData → ℕ → List Event → ℕ → List Due
dues p base h viewers = images_due p h ++ streams_due p h ++ marks_due p base h ++ all_dumps_due p h ++ viewers_due viewers

-- the lines before the journal
abbrev pub heads_due : PlansData → List Due
heads_due p = same_lines what.Name (head_of p)

-- ---- the judgement on lines

-- the lines begin with such as are due, after a look of so many events, and these stand after them
abbrev pub AreTakenOff : PlansData → List Event → List Due → ℕ → List (List ℕ) → ℕ → List (List ℕ) → Type 0
AreTakenOff p h [] least lines then rest = (then ≡ least) × (rest ≡ lines)
AreTakenOff p h (due ∷ dues) least [] then rest = ⊥
AreTakenOff p h (due ∷ dues) least (line ∷ lines) then rest =
    (mid : ℕ) × MayStand p h due least line mid × AreTakenOff p h dues mid lines then rest

-- the line after a given number of others is the first that is not as it is due, or the first that is missing
abbrev pub IsOff : PlansData → List Event → List Due → ℕ → List (List ℕ) → ℕ → What → Type 0
IsOff p h [] least lines k part = ⊥
IsOff p h (due ∷ dues) least [] k part = (k ≡ 0) × (part ≡ what.Missing)
IsOff p h (due ∷ dues) least (line ∷ lines) zero part = (part ≡ what_of due) × ((mid : ℕ) → MayStand p h due least line mid → ⊥)
IsOff p h (due ∷ dues) least (line ∷ lines) (suc k) part =
    (mid : ℕ) × MayStand p h due least line mid × IsOff p h dues mid lines k part

-- the lines are those that are due, and no more
abbrev pub AreDue : PlansData → List Event → List Due → List (List ℕ) → Type 0
AreDue p h dues lines = (then : ℕ) × AreTakenOff p h dues 0 lines then []

-- a line stands after those that are due, of which there is this number
pub record IsMore (p : PlansData) (h : List Event) (dues : List Due) (lines : List (List ℕ)) (k : ℕ) : Type 0 where
  pub then : ℕ
  pub line : List ℕ
  pub rest : List (List ℕ)
  pub taken : AreTakenOff p h dues 0 lines then (line ∷ rest)
  pub count : k ≡ length dues

-- the line after a given number of others is the first that is off
abbrev pub IsFirstOff : PlansData → List Event → List Due → List (List ℕ) → ℕ → What → Type 0
IsFirstOff p h dues lines k what.More = IsMore p h dues lines k
IsFirstOff p h dues lines k part = IsOff p h dues 0 lines k part

-- ---- viewers

-- the first word of a line is `view`
abbrev pub begins_view : List (List ℕ) → Bool
begins_view [] = false
begins_view (word ∷ words) = bytes_eq word (codes "view")

-- as many viewers as the view lines among these need, where each has all its looks, and no more than a view has
abbrev pub viewers_in : List (List ℕ) → ℕ
viewers_in lines = min MOST_VIEWERS ((count_by (λ line. begins_view (words_on line)) lines + LOOKS) / ALL_LOOKS)
