-- The lines after a journal are lines.
use Rattle.verify_input.proofs.Names.{◌≡◌, ℕ, true, false, not, List, [], ◌∷◌, ◌++◌, map, refl, codes, list_all, join_with_byte, All-weaker, ends_line, Ending, hex8, number_text, Tally, why_text, end_text, tally_text, stream_text, head_text, row_text, how_text, mark_text, dump_text, view_text, IsLine}
use Rattle.gpu_cmd.specs.Errors.{code_of}
use Rattle.sync_core.specs.declared.ending.How.{How}
use Rattle.sync_core.specs.declared.ending.How.TheVariants.{Release, Guard, Closed}
use Rattle.gpu_journal.specs.declared.event.Why.{Why}
use Rattle.gpu_journal.specs.declared.event.Why.TheVariants.{Error, Memory}
use Rattle.gpu_journal.specs.declared.end.End as ends
use Rattle.gpu_journal.specs.declared.end.End.TheVariants as end
use Rattle.verify_input.proofs.Lines.{IsInk, ink_value, feed_none}
use Rattle.verify_input.proofs.Heads.{Plain, letters, both, number, line}

-- a label, or a value, after a text
label : {a : List ℕ} → Plain a → (text : List ℕ) → list_all (λ byte. not (ends_line byte)) text ≡ true → Plain (a ++ text)
label {a} front text e = both {a = a} {b = text} front (letters text e)

hex : {a : List ℕ} → Plain a → (v : ℕ) → Plain (a ++ hex8 v)
hex {a} front v = both {a = a} {b = hex8 v} front (record { none = All-weaker IsInk (λ byte. ends_line byte ≡ false) feed_none (hex8 v) (ink_value v) })

nothing : Plain []
nothing = letters [] refl

-- ---- the line of a stream

why_plain : (why : Why) → Plain (why_text why)
why_plain (Error error) = number {a = []} nothing (code_of error)
why_plain Memory = letters (codes " memory") refl

end_plain : (ended : ends.End) → Plain (end_text ended)
end_plain end.Done = letters (codes " done") refl
end_plain (end.Lost why) = both {a = codes " lost"} {b = why_text why} (letters (codes " lost") refl) (why_plain why)
end_plain end.Closed = letters (codes " closed") refl

tally_plain : (tally : Tally) → Plain (tally_text tally)
tally_plain tally =
    let entries = number (letters (codes " entries") refl) tally.entries in
    let release = number (label entries (codes " release") refl) tally.release in
    let token = number (label release (codes " token") refl) tally.token in
    let words = number (label token (codes " words") refl) tally.words in
    let all = both words (number (number (number (letters (codes " errors") refl) tally.errors.0) tally.errors.1) tally.errors.2) in
    all

pub stream_line : (stream : ℕ) (tally : Tally) (ended : ends.End) → IsLine (stream_text stream tally ended)
unfolding stream_text
stream_line stream tally ended = line (both (both (number (letters (codes "stream") refl) stream) (end_plain ended)) (tally_plain tally)) refl

-- ---- the lines of an image

pub image_line : (image width height : ℕ) → IsLine (head_text image width height)
unfolding head_text
image_line image width height = line (number (number (number (letters (codes "image") refl) image) width) height) refl

pub texels_plain : (texels : List ℕ) → Plain (join_with_byte 32 (map hex8 texels))
texels_plain [] = nothing
texels_plain (x ∷ []) = hex {a = []} nothing x
texels_plain (x ∷ y ∷ texels) =
    let all = both (hex nothing x) (both (letters (codes " ") refl) (texels_plain (y ∷ texels))) in
    all

pub row_line : (texels : List ℕ) → IsLine (row_text texels)
unfolding row_text
row_line texels = line (texels_plain texels) refl

-- ---- the lines of marks, dumps and looks

how_plain : (how : How) → Plain (how_text how)
how_plain Release = letters (codes " release") refl
how_plain Guard = letters (codes " guard") refl
how_plain Closed = letters (codes " closed") refl

pub mark_line : (ending : Ending) (value : ℕ) → IsLine (mark_text ending value)
unfolding mark_text
mark_line ending value =
    let waited = number (number (number (number (letters (codes "mark") refl) ending.stream) ending.order) ending.target) ending.release in
    line (number (both waited (how_plain ending.how)) value) refl

-- what stands before the value of a dump
abbrev pub dump_front : ℕ → ℕ → ℕ → List ℕ
dump_front stream place index = codes "dump" ++ number_text stream ++ number_text place ++ number_text index ++ codes " "

pub dump_line : (stream place index value : ℕ) → IsLine (dump_text stream place index value)
unfolding dump_text
dump_line stream place index value = line (hex (label (number (number (number (letters (codes "dump") refl) stream) place) index) (codes " ") refl) value) refl

pub view_line : (viewer events sum : ℕ) → IsLine (view_text viewer events sum)
unfolding view_text
view_line viewer events sum = line (hex (label (number (number (letters (codes "view") refl) viewer) events) (codes " ") refl) sum) refl
