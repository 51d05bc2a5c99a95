-- The text that a run writes of its history, and the lines of its dumps.
use Rattle.std.specs.Prelude.{◌≡◌, ℕ, ◌==◌, List, [], ◌∷◌, ◌++◌, reverse, if◌then◌else◌}
use Rattle.std.specs.List.{flat_map}
use Rattle.gpu_plan.specs.Plans.{PlansData, plan_of}
use Rattle.sync_core.specs.declared.ending.Ending.{Ending}
use Rattle.gpu_journal.specs.declared.event.Event.{Event}
use Rattle.gpu_journal.specs.World.{state_of, replay}
use Rattle.gpu_journal.specs.Waits.{endings_in}
use Rattle.gpu_journal.specs.Ended.{streams_of, end_of}
use Rattle.gpu_journal.specs.Written.{result_at}
use Rattle.gpu_journal.specs.Dumps.{MayDump, dumps_of, passed_at}
use Rattle.journal_text.specs.Text.{journal_text, tally_of, stream_text}
use Rattle.journal_text.specs.Picture.{picture_text}
use Rattle.journal_text.specs.Lines.{journal_head, name_text, mark_text, dump_text}

-- version 2 alone has a head line, and the lines of its streams' names
abbrev pub head_lines : PlansData → List ℕ
head_lines p = if p.version == 2 then journal_head ++ flat_map (λ s. name_text s (plan_of p s).name) (streams_of p) else []

-- the line of each stream
abbrev pub stream_lines : PlansData → List Event → List ℕ
stream_lines p h = flat_map (λ s. stream_text s (tally_of (state_of p h s)) (end_of h s)) (streams_of p)

-- the line of each ending, with its mark
abbrev pub mark_lines : PlansData → (Ending → ℕ) → List Event → List ℕ
mark_lines p mark h = flat_map (λ ending. mark_text ending (mark ending)) (endings_in p h)

-- the output: the head and the names, the journal, the images, the streams, and each ending with its mark, where mark
-- tells what the stored callback answers
unfoldable pub output : PlansData → (Ending → ℕ) → List Event → List ℕ
output p mark h = head_lines p ++ journal_text (reverse h) ++ picture_text (replay p h) ++ stream_lines p h ++ mark_lines p mark h

-- ---- the dumps of any run

-- the text is that of these dumps of stream s, each with a value that may be told of it
abbrev pub AreDumps : PlansData → List Event → ℕ → List (ℕ × ℕ) → List ℕ → Type 0
AreDumps p h s [] text = text ≡ []
AreDumps p h s (dump ∷ dumps) text = (value : ℕ) × (rest : List ℕ) × MayDump p h s dump value × (text ≡ dump_text s dump.0 dump.1 value ++ rest) × AreDumps p h s dumps rest

-- the text is that of the dumps of these streams, one stream after the other
abbrev pub AreDumpsOf : PlansData → List Event → List ℕ → List ℕ → Type 0
AreDumpsOf p h [] text = text ≡ []
AreDumpsOf p h (s ∷ streams) text = (own : List ℕ) × (rest : List ℕ) × AreDumps p h s (dumps_of p h s) own × (text ≡ own ++ rest) × AreDumpsOf p h streams rest

-- the text is that of all dumps of a run
abbrev pub AreDumpLines : PlansData → List Event → List ℕ → Type 0
AreDumpLines p h text = AreDumpsOf p h (streams_of p) text

-- ---- the dumps of the run on one thread

-- the line of a dump, with what its client found when it passed
abbrev pub dump_line : PlansData → List Event → ℕ → ℕ × ℕ → List ℕ
dump_line p h s dump = dump_text s dump.0 dump.1 (result_at p (passed_at p h s dump.0) s dump.1)

-- the lines of all dumps
unfoldable pub dump_lines : PlansData → List Event → List ℕ
dump_lines p h = flat_map (λ s. flat_map (dump_line p h s) (dumps_of p h s)) (streams_of p)
