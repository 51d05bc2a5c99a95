-- The parts of the output as lists of lines.
use Rattle.std.specs.Prelude.{ℕ, List, [], ◌∷◌, map, Option, Some, None}
use Rattle.std.specs.List.{range_with_len}
use Rattle.gpu_store.specs.Picture.{Picture, texel_row}
use Rattle.gpu_plan.specs.Plans.{PlansData, plan_of}
use Rattle.wait_hooks.specs.Marks.{mark}
use Rattle.gpu_journal.specs.declared.event.Event.{Event}
use Rattle.gpu_journal.specs.World.{state_of}
use Rattle.gpu_journal.specs.Waits.{endings_in}
use Rattle.gpu_journal.specs.Ended.{streams_of, end_of}
use Rattle.journal_text.specs.Text.{tally_of, stream_text}
use Rattle.journal_text.specs.Picture.{head_text, row_text}
use Rattle.journal_text.specs.Lines.{journal_head, name_text, mark_text}

-- the head line of version 2, and the line of each stream's name
abbrev pub heads : PlansData → List (List ℕ)
heads p = journal_head ∷ map (λ s. name_text s (plan_of p s).name) (streams_of p)

-- an image that is there: its own line, and the line of each of its rows
abbrev pub image_lines : ℕ → Option Picture → List (List ℕ)
image_lines image None = []
image_lines image (Some picture) =
    head_text image picture.width picture.height ∷ map (λ y. row_text (texel_row picture y)) (range_with_len 0 picture.height)

-- the line of each stream
abbrev pub lines_of_streams : PlansData → List Event → List (List ℕ)
lines_of_streams p h = map (λ s. stream_text s (tally_of (state_of p h s)) (end_of h s)) (streams_of p)

-- the line of each ending, with its mark over a base
abbrev pub lines_of_marks : PlansData → ℕ → List Event → List (List ℕ)
lines_of_marks p base h = map (λ ending. mark_text ending (mark base ending)) (endings_in p h)
