-- The lines of the output beside those of events, streams and images.
use Rattle.std.specs.Prelude.{ℕ, List, ◌++◌, codes}
use Rattle.gpu_cmd.specs.declared.name.Name.{Name}
use Rattle.sync_core.specs.declared.ending.Ending.{Ending}
use Rattle.sync_core.specs.declared.ending.How.{How}
use Rattle.sync_core.specs.declared.ending.How.TheVariants.{Release, Guard, Closed}
use Rattle.journal_text.specs.Digits.{hex8, number_text}

-- the first line of the output of a script of version 2
abbrev pub journal_head : List ℕ
journal_head = codes "gpu-journal 2\n"

-- the line of a stream's name: its number, its namespace and its id
unfoldable pub name_text : ℕ → Name → List ℕ
name_text stream name = codes "name" ++ number_text stream ++ number_text name.namespace ++ number_text name.id ++ codes "\n"

-- how a wait ended
abbrev pub how_text : How → List ℕ
how_text Release = codes " release"
how_text Guard = codes " guard"
how_text Closed = codes " closed"

-- the line of an ending: who waited, on what, how the wait ended, and its mark
unfoldable pub mark_text : Ending → ℕ → List ℕ
mark_text ending value =
    codes "mark" ++ number_text ending.stream ++ number_text ending.order ++ number_text ending.target ++ number_text ending.release
    ++ how_text ending.how ++ number_text value ++ codes "\n"

-- the line of a dump: its stream, its action place, its result place and its value
unfoldable pub dump_text : ℕ → ℕ → ℕ → ℕ → List ℕ
dump_text stream place index value =
    codes "dump" ++ number_text stream ++ number_text place ++ number_text index ++ codes " " ++ hex8 value ++ codes "\n"

-- the line of a look: its viewer, how many events it saw, and the sum of all texels after these
unfoldable pub view_text : ℕ → ℕ → ℕ → List ℕ
view_text viewer events sum = codes "view" ++ number_text viewer ++ number_text events ++ codes " " ++ hex8 sum ++ codes "\n"
