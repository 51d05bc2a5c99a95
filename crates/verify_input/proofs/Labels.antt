-- With which word the lines of an output begin.
use Rattle.verify_input.proofs.Names.{◌≡◌, ℕ, Bool, true, false, cond, not, List, [], ◌∷◌, ◌++◌, map, length, refl, ap, ◌∙◌, arith, codes, bytes_eq, filter, All, list_all, flat_map, join_with_byte, and_parts, not-true, false_from_ne_true, nat_tests, bytes_eq-Decides, All-nil, All-cons, All-head, All-tail, All-append, All-weaker, slice_split_none, slice_split_at, texel_row, Pictures, is_blank, is_empty, words_of, Ending, Event, Order, Step, Lost, Close, End, Tally, hex8, event_text, stream_text, head_text, row_text, journal_head, name_text, mark_text, dump_text, view_text, length-hex8, HasNoFeed, words_on, begins_part, lines_of_image, begins_view}
use Rattle.gpu_cmd.specs.declared.name.Name.{Name}
use Rattle.gpu_journal.specs.declared.event.Event.TheVariants.{Finish}
use Rattle.verify_input.proofs.Lines.{IsInk, ink_value}
use Rattle.verify_input.proofs.Wholes.{kept_front}
use Rattle.verify_input.proofs.Feeds.{texels_plain}
use Rattle.verify_input.proofs.Viewers.{views_in, one_more}

abbrev IsBlack : ℕ → Type 0
IsBlack byte = is_blank byte ≡ false

black_letters : (text : List ℕ) → list_all (λ byte. not (is_blank byte)) text ≡ true → All IsBlack text
black_letters [] e = All-nil IsBlack
black_letters (byte ∷ text) e =
    let both = and_parts (not (is_blank byte)) (list_all (λ byte. not (is_blank byte)) text) e in
    All-cons IsBlack byte text (not-true (is_blank byte) both.0) (black_letters text both.1)

black_value : (value : ℕ) → All IsBlack (hex8 value)
black_value value = All-weaker IsInk IsBlack (λ byte high. grind (arith, nat_tests)) (hex8 value) (ink_value value)

-- a word with a space after it is the first
word_first : (word more : List ℕ) → All IsBlack word → is_empty word ≡ false → words_of (word ++ 32 ∷ more) ≡ word ∷ words_of more
unfolding words_of
word_first word more black some = ap (λ (runs : List (List ℕ)). filter (λ run. not (is_empty run)) runs) (slice_split_at is_blank word 32 more black refl) ∙ rw some refl

-- and so is one alone
word_alone : (word : List ℕ) → All IsBlack word → is_empty word ≡ false → words_of word ≡ word ∷ []
unfolding words_of
word_alone word black some = ap (λ (runs : List (List ℕ)). filter (λ run. not (is_empty run)) runs) (slice_split_none is_blank word black) ∙ rw some refl

own_words : (own : List ℕ) → HasNoFeed own → words_on (own ++ 10 ∷ []) ≡ words_of own
own_words own none = ap words_of (kept_front own none)

-- what a first word of letters says of all words, with a space after it
says : (f : List (List ℕ) → Bool) {b : Bool} (word more : List ℕ) → list_all (λ byte. not (is_blank byte)) word ≡ true → is_empty word ≡ false → f (word ∷ words_of more) ≡ b → f (words_of (word ++ 32 ∷ more)) ≡ b
says f word more black some e = ap f (word_first word more (black_letters word black) some) ∙ e

-- ---- lines that end a journal, and lines that do not; lines of looks, and others

abbrev pub Ends : List ℕ → Type 0
Ends line = begins_part (words_on line) ≡ true

abbrev pub Goes : List ℕ → Type 0
Goes line = begins_part (words_on line) ≡ false

abbrev pub IsView : Bool → List ℕ → Type 0
IsView b line = begins_view (words_on line) ≡ b

pub image_part : (image width height : ℕ) → Ends (head_text image width height) × IsView false (head_text image width height)
unfolding head_text
image_part image width height = (says begins_part (codes "image") _ refl refl refl, says begins_view (codes "image") _ refl refl refl)

pub stream_part : (stream : ℕ) (tally : Tally) (ended : End) → Ends (stream_text stream tally ended) × IsView false (stream_text stream tally ended)
unfolding stream_text
stream_part stream tally ended = (says begins_part (codes "stream") _ refl refl refl, says begins_view (codes "stream") _ refl refl refl)

pub mark_part : (ending : Ending) (value : ℕ) → Ends (mark_text ending value) × IsView false (mark_text ending value)
unfolding mark_text
mark_part ending value = (says begins_part (codes "mark") _ refl refl refl, says begins_view (codes "mark") _ refl refl refl)

pub dump_part : (stream place index value : ℕ) → Ends (dump_text stream place index value) × IsView false (dump_text stream place index value)
unfolding dump_text
dump_part stream place index value = (says begins_part (codes "dump") _ refl refl refl, says begins_view (codes "dump") _ refl refl refl)

pub view_ends : (viewer events sum : ℕ) → Ends (view_text viewer events sum)
unfolding view_text
view_ends viewer events sum = says begins_part (codes "view") _ refl refl refl

pub view_own : (viewer events sum : ℕ) → IsView true (view_text viewer events sum)
unfolding view_text
view_own viewer events sum = says begins_view (codes "view") _ refl refl refl

pub head_goes : Goes journal_head
head_goes = says begins_part (codes "gpu-journal") _ refl refl refl

pub name_goes : (stream : ℕ) (name : Name) → Goes (name_text stream name)
unfolding name_text
name_goes stream name = says begins_part (codes "name") _ refl refl refl

pub event_goes : (event : Event) → Goes (event_text event)
unfolding event_text
event_goes (Order stream order place) = says begins_part (codes "order") _ refl refl refl
event_goes (Step stream words) = says begins_part (codes "step") _ refl refl refl
event_goes (Finish stream order) = says begins_part (codes "finish") _ refl refl refl
event_goes (Lost stream why words) = says begins_part (codes "lost") _ refl refl refl
event_goes (Close stream) = says begins_part (codes "close") _ refl refl refl

-- a value is not the word `view`
value_other : (value : ℕ) (words : List (List ℕ)) → begins_view (hex8 value ∷ words) ≡ false
value_other value words = false_from_ne_true (bytes_eq (hex8 value) (codes "view")) (λ e.
    let same : hex8 value ≡ codes "view" = (bytes_eq-Decides (hex8 value) (codes "view")).0 e in
    let eight = length-hex8 value in
    let four : length (hex8 value) ≡ 4 = ap length same in
    absurd (omega (arith, eight, four)))

filled_value : (value : ℕ) → is_empty (hex8 value) ≡ false
filled_value value = let eight = length-hex8 value in grind (arith, nat_tests, eight)

row_other : (texels : List ℕ) → IsView false (row_text texels)
unfolding row_text words_of
row_other [] = refl
row_other (x ∷ []) = ap begins_view (own_words (hex8 x) (texels_plain (x ∷ [])).none ∙ word_alone (hex8 x) (black_value x) (filled_value x)) ∙ value_other x []
row_other (x ∷ y ∷ texels) =
    let more = join_with_byte 32 (map hex8 (y ∷ texels)) in
    ap begins_view (own_words (hex8 x ++ 32 ∷ more) (texels_plain (x ∷ y ∷ texels)).none ∙ word_first (hex8 x) more (black_value x) (filled_value x)) ∙ value_other x (words_of more)

-- ---- how many of some lines are lines of looks

pub others_seen : (lines behind : List (List ℕ)) → All (IsView false) lines → views_in (lines ++ behind) ≡ views_in behind
others_seen [] behind other = refl
others_seen (line ∷ lines) behind other =
    let rest = others_seen lines behind (All-tail (IsView false) line lines other) in
    let one = one_more line (lines ++ behind) (words_on line) refl in
    let none : ◌≡◌ {A = ℕ} (cond (begins_view (words_on line)) 1 0) 0 = ap (λ (b : Bool). cond b 1 0) (All-head (IsView false) line lines other) in
    omega (arith, rest, one, none)

pub looks_seen : (lines : List (List ℕ)) → All (IsView true) lines → views_in lines ≡ length lines
looks_seen [] own = refl
looks_seen (line ∷ lines) own =
    let rest = looks_seen lines (All-tail (IsView true) line lines own) in
    let one = one_more line lines (words_on line) refl in
    let each : ◌≡◌ {A = ℕ} (cond (begins_view (words_on line)) 1 0) 1 = ap (λ (b : Bool). cond b 1 0) (All-head (IsView true) line lines own) in
    omega (arith, rest, one, each)

-- what holds of the line of each item holds of all of them
pub all_lines : {A : Type 0} (P : List ℕ → Type 0) (f : A → List ℕ) → ((x : A) → P (f x)) → (xs : List A) → All P (map f xs)
all_lines P f each [] = All-nil P
all_lines P f each (x ∷ xs) = All-cons P (f x) (map f xs) (each x) (all_lines P f each xs)

pub images_other : (images : Pictures) → All (IsView false) (flat_map lines_of_image images)
images_other [] = All-nil (IsView false)
images_other (entry ∷ images) =
    All-append (IsView false) (lines_of_image entry) (flat_map lines_of_image images)
    (All-cons (IsView false) (head_text entry.0 entry.1.width entry.1.height) _ (image_part entry.0 entry.1.width entry.1.height).1 (all_lines (IsView false) (λ y. row_text (texel_row entry.1 y)) (λ y. row_other (texel_row entry.1 y)) _))
    (images_other images)
