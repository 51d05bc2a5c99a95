-- The scripts that are generated from a size and a seed.
use Rattle.std.specs.Prelude.{ℕ, zero, suc, false, ◌+◌, ◌-◌, ◌*◌, ◌%◌, List, [], ◌∷◌, ◌++◌, codes, decimal}
use Rattle.std.specs.Fmt.{digits}
use Rattle.std.specs.List.{flat_map}
use Rattle.script_generator.specs.Draws.{after_draws, below}

-- a space and a number in decimal digits
abbrev pub spaced_number : ℕ → List ℕ
spaced_number number = codes " " ++ decimal number

-- a space and a value in hexadecimal digits of lower case, without leading zeros
abbrev pub value_text : ℕ → List ℕ
value_text value = codes " " ++ digits 16 false value

-- the first place of a round's block: the second half of the ring in odd rounds, and the first in even ones
abbrev pub base_of : ℕ → ℕ
base_of round = 32 * (round % 2)

-- a WaitToken for the token of a round of another stream
abbrev pub wait_words : ℕ → ℕ → List ℕ
wait_words other round = 0x20200004 ∷ other ∷ round ∷ 0 ∷ []

-- a ClearRect of one texel of a stream's image
abbrev pub clear_words : ℕ → ℕ → ℕ → ℕ → List ℕ
clear_words stream x y texel = 0x20800007 ∷ stream ∷ x ∷ y ∷ 1 ∷ 1 ∷ texel ∷ []

-- a CopyRect of sixteen texels of another stream's image
abbrev pub copy_words : ℕ → ℕ → List ℕ
copy_words other stream = 0x20a00009 ∷ other ∷ 0 ∷ 0 ∷ stream ∷ 8 ∷ 8 ∷ 4 ∷ 4 ∷ []

-- an UploadRect of one texel
abbrev pub upload_words : ℕ → ℕ → ℕ → List ℕ
upload_words stream x y = 0x20c00009 ∷ stream ∷ x ∷ y ∷ 1 ∷ 1 ∷ 1 ∷ 0 ∷ 0 ∷ []

-- an InsertFence with the token of a round
abbrev pub fence_words : ℕ → List ℕ
fence_words round = 0x20000003 ∷ round ∷ 0 ∷ []

-- the block of a round of a stream, where the state before it is this. The draws are in order the other stream, a place, a
-- texel, and a place to upload to.
abbrev pub block : ℕ → ℕ → ℕ → List ℕ
block stream round state =
    let other = 1 + below 4 (after_draws 1 state) in
    wait_words other round
    ++ clear_words stream (below 16 (after_draws 2 state)) (below 16 (after_draws 3 state)) (after_draws 4 state)
    ++ copy_words other stream
    ++ upload_words stream (below 16 (after_draws 5 state)) (below 16 (after_draws 6 state))
    ++ fence_words round

-- the lines of a round: its block, the word that is uploaded, a flush of the block, and an await
abbrev pub round_lines : ℕ → List ℕ → ℕ → List ℕ
round_lines round words uploaded =
    codes "put" ++ spaced_number (base_of round) ++ flat_map value_text words
    ++ codes "\nfill 0 0" ++ value_text uploaded
    ++ codes "\nflush" ++ spaced_number (32 - base_of round) ++ codes "\nfinish\n"

-- the same of a round of a stream, where the state before it is this; the word is the seventh draw
unfoldable pub round_text : ℕ → ℕ → ℕ → List ℕ
round_text stream round state = round_lines round (block stream round state) (after_draws 7 state)

-- the lines of a given number of rounds from one on, where the state before them is this
unfoldable pub rounds : ℕ → ℕ → ℕ → ℕ → List ℕ
rounds zero stream round state = []
rounds (suc more) stream round state = round_text stream round state ++ rounds more stream (round + 1) (after_draws 7 state)

-- the lines of a stream before its rounds: it creates its image
unfoldable pub start_text : List ℕ → ℕ → List ℕ
start_text priority stream =
    codes "stream" ++ spaced_number stream ++ codes " " ++ priority ++ codes " 64\nmemory 0 16\nput 0"
    ++ flat_map value_text (0x20400004 ∷ stream ∷ 16 ∷ 16 ∷ 28 ∷ []) ++ codes "\nflush 32\nfinish\n"

-- the lines of a stream with a given number of rounds
abbrev pub stream_script : List ℕ → ℕ → ℕ → ℕ → List ℕ
stream_script priority size stream state = start_text priority stream ++ rounds size stream 1 state

-- the lines of streams with these priorities from one on, with a given number of rounds each
unfoldable pub stream_scripts : List (List ℕ) → ℕ → ℕ → ℕ → List ℕ
stream_scripts [] size stream state = []
stream_scripts (priority ∷ priorities) size stream state = stream_script priority size stream state ++ stream_scripts priorities size (stream + 1) (after_draws (7 * size) state)

-- the script of a size and a seed
unfoldable pub generated : ℕ → ℕ → List ℕ
generated size seed = codes "gpu-script 1\n" ++ stream_scripts (codes "low" ∷ codes "low" ∷ codes "normal" ∷ codes "high" ∷ []) size 1 seed
