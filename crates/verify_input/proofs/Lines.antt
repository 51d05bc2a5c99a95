-- The lines of a journal text.
use Rattle.std.proofs.Common.{◌≡◌, ℕ, zero, suc, ◌+◌, ◌^◌, ◌<◌, ◌≤◌, true, false, ltb, Some, None, List, [], ◌∷◌, ◌++◌, map, length, length-append, take, drop, get_or, refl, sym, ap, subst, ◌∙◌, append_assoc, arith}
use Rattle.std.specs.Prelude.{codes, position}
use Rattle.std.specs.Char.{digit_value}
use Rattle.std.specs.List.{All, list_all, flat_map, slice_split, join_with_byte, position_or_len}
use Rattle.std.specs.Str.Parse.{AllDigits}
use Rattle.std.proofs.lemmas.Bool.{ltb-true, ltb-false, and_parts}
use Rattle.std.proofs.lemmas.Bool.Decides.{nat_tests}
use Rattle.std.proofs.lemmas.Fmt.{decimal_is_IsNumeral}
use Rattle.std.proofs.lemmas.List.{append-nil, append_cancel_right, take-append-drop, drop_more, get_or-take, get_or_at, length-take, nil_from_length}
use Rattle.std.proofs.lemmas.List.Elements.{All-nil, All-cons, All-head, All-tail, All-append, All-weaker, All-push, All-get_or, All-from_get_or}
use Rattle.std.proofs.lemmas.List.Concat.{flat_map-append}
use Rattle.std.proofs.lemmas.List.Quantifiers.{position-Some}
use Rattle.std.proofs.lemmas.List.Sums.{fails_before_first}
use Rattle.std.proofs.lemmas.List.Splits.{slice_split_none, slice_split_at, join_with_byte-slice_split}
use Rattle.gpu_cmd.specs.declared.error.CmdError.TheVariants.{InvalidSize, OutOfBounds, UnknownCommand, InvalidArguments, Quota}
use Rattle.gpu_journal.specs.declared.event.Event.{Event}
use Rattle.gpu_journal.specs.declared.event.Event.TheVariants.{Order, Step, Finish, Lost, Close}
use Rattle.gpu_journal.specs.declared.event.Why.{Why}
use Rattle.gpu_journal.specs.declared.event.Why.TheVariants.{Error, Memory}
use Rattle.journal_text.specs.Digits.{numeral, hex8, number_text}
use Rattle.journal_text.specs.Text.{word_text, why_text, event_text, journal_text}
use Rattle.journal_text.specs.Laws.{HasWords}
use Rattle.journal_text.proofs.Numerals.{numeral_decimal}
use Rattle.journal_text.proofs.Telling.{different_texts}
use Rattle.script_lines.specs.Text.{ends_line}
use Rattle.script_lines.proofs.Cuts.{not_found}
use Rattle.verify_input.specs.Said.{is_space, pieces_said, line_said}
use Rattle.verify_input.specs.Reading.{IsWord, HasNumbersOfWords, HasNoFeed, IsJournal, whole_lines, IsLineOf, IsFirstBad, RefusedIsNoJournal, JournalIsOne}
use Rattle.verify_input.proofs.Numbers.{value_digits}
use Rattle.verify_input.proofs.Words.{word_piece}
use Rattle.verify_input.proofs.Events.{why_piece, event_pieces, pieces_told, pieces_there}

-- ---- a line is its pieces, joined by spaces

why_spelled : (why : Why) → why_text why ≡ 32 ∷ why_piece why
why_spelled (Error error) = refl
why_spelled Memory = refl

pub regroup : (a b c d : List ℕ) → ((a ++ (32 ∷ b)) ++ (32 ∷ c)) ++ d ≡ a ++ (32 ∷ (b ++ (32 ∷ (c ++ d))))
regroup a b c d = simp append_assoc

-- a piece has neither a space nor a line feed
abbrev pub IsInk : ℕ → Type 0
IsInk byte = 32 < byte

pub ink_digits : (radix : ℕ) (ds : List ℕ) → radix ≤ 16 → AllDigits radix ds → All IsInk ds
ink_digits radix [] low are = All-nil IsInk
ink_digits radix (c ∷ cs) low are =
    let small : digit_value c < 16 = let first : digit_value c < radix = are.0 in omega arith in
    let ink : 32 < c = grind (arith, nat_tests) in
    All-cons IsInk c cs ink (ink_digits radix cs low are.1)

pub ink_number : (n : ℕ) → n < 2 ^ 32 → All IsInk (numeral n)
ink_number n small = rw (numeral_decimal n (omega arith)) (ink_digits 10 _ (omega arith) (decimal_is_IsNumeral n (omega arith)).0.1)

pub ink_value : (v : ℕ) → All IsInk (hex8 v)
ink_value v = ink_digits 16 (hex8 v) (omega arith) (value_digits v)

pub ink_word : (word : ℕ × ℕ) → IsWord word → All IsInk (word_piece word)
ink_word word is = All-append IsInk (numeral word.0) (58 ∷ hex8 word.1) (ink_number word.0 is.0) (All-cons IsInk 58 (hex8 word.1) (omega arith) (ink_value word.1))

-- all bytes of all pieces
abbrev pub AreInk : List (List ℕ) → Type 0
AreInk [] = Unit {0}
AreInk (x ∷ xs) = All IsInk x × AreInk xs

ink_words : (words : List (ℕ × ℕ)) → All IsWord words → AreInk (map word_piece words)
ink_words [] are = tt
ink_words (word ∷ words) are = (ink_word word (All-head IsWord word words are), ink_words words (All-tail IsWord word words are))

pub ink_letters : (text : List ℕ) → list_all (λ byte. ltb 32 byte) text ≡ true → All IsInk text
ink_letters [] e = All-nil IsInk
ink_letters (c ∷ cs) e = let both = and_parts (ltb 32 c) (list_all (λ byte. ltb 32 byte) cs) e in All-cons IsInk c cs (ltb-true _ _ both.0) (ink_letters cs both.1)

ink_why : (why : Why) → All IsInk (why_piece why)
unfolding numeral
ink_why Memory = ink_letters (codes "memory") refl
ink_why (Error InvalidSize) = ink_letters (codes "1") refl
ink_why (Error OutOfBounds) = ink_letters (codes "2") refl
ink_why (Error UnknownCommand) = ink_letters (codes "3") refl
ink_why (Error InvalidArguments) = ink_letters (codes "4") refl
ink_why (Error Quota) = ink_letters (codes "6") refl

ink_event : (event : Event) → HasNumbersOfWords event → AreInk (event_pieces event)
ink_event (Order stream order place) is = (ink_letters (codes "order") refl, (ink_number stream is.0, (ink_number order is.1, (ink_number place is.2, tt))))
ink_event (Step stream words) is = (ink_letters (codes "step") refl, (ink_number stream is.0, ink_words words is.1))
ink_event (Finish stream order) is = (ink_letters (codes "finish") refl, (ink_number stream is.0, (ink_number order is.1, tt)))
ink_event (Lost stream (Error error) words) is = (ink_letters (codes "lost") refl, (ink_number stream is.0, (ink_why (Error error), ink_words words is.1)))
ink_event (Lost stream Memory words) is = rw (is.1) (ink_letters (codes "lost") refl, (ink_number stream is.0, (ink_why Memory, tt)))
ink_event (Close stream) is = (ink_letters (codes "close") refl, (ink_number stream is, tt))

pub no_space : (x : List ℕ) → All IsInk x → All (λ byte. is_space byte ≡ false) x
no_space x ink = All-weaker IsInk (λ byte. is_space byte ≡ false) (λ byte high. grind (arith, nat_tests)) x ink

pub split_joined : (x : List ℕ) (xs : List (List ℕ)) → AreInk (x ∷ xs) → slice_split is_space (join_with_byte 32 (x ∷ xs)) ≡ x ∷ xs
split_joined x [] ink = slice_split_none is_space x (no_space x ink.0)
split_joined x (y ∷ ys) ink =
    slice_split_at is_space x 32 (join_with_byte 32 (y ∷ ys)) (no_space x ink.0) refl
    ∙ ap (λ (rest : List (List ℕ)). x ∷ rest) (split_joined y ys ink.1)

event_split : (event : Event) → HasNumbersOfWords event → slice_split is_space (join_with_byte 32 (event_pieces event)) ≡ event_pieces event
event_split (Order stream order place) is = split_joined _ _ (ink_event (Order stream order place) is)
event_split (Step stream words) is = split_joined _ _ (ink_event (Step stream words) is)
event_split (Finish stream order) is = split_joined _ _ (ink_event (Finish stream order) is)
event_split (Lost stream why words) is = split_joined _ _ (ink_event (Lost stream why words) is)
event_split (Close stream) is = split_joined _ _ (ink_event (Close stream) is)

joined_words : (x : List ℕ) (words : List (ℕ × ℕ)) → join_with_byte 32 (x ∷ map word_piece words) ≡ x ++ flat_map word_text words
joined_words x [] = sym (append-nil x)
joined_words x (word ∷ words) =
    let more = joined_words (word_piece word) words in
    let spelled : word_text word ≡ 32 ∷ word_piece word = ap (λ (text : List ℕ). 32 ∷ text) (append_assoc (numeral word.0) (58 ∷ []) (hex8 word.1)) in
    ap (λ (rest : List ℕ). x ++ 32 ∷ rest) more ∙ ap (λ (first : List ℕ). x ++ (first ++ flat_map word_text words)) (sym spelled)

-- the line of an event is its pieces, joined by spaces, with a line feed
pub event_joined : (event : Event) → event_text event ≡ join_with_byte 32 (event_pieces event) ++ 10 ∷ []
unfolding event_text
event_joined (Order stream order place) = ap (λ (rest : List ℕ). rest ++ 10 ∷ []) (regroup (codes "order") (numeral stream) (numeral order) (number_text place))
event_joined (Step stream words) = ap (λ (rest : List ℕ). rest ++ 10 ∷ []) (append_assoc (codes "step") (number_text stream) (flat_map word_text words) ∙ ap (λ (rest : List ℕ). codes "step" ++ 32 ∷ rest) (sym (joined_words (numeral stream) words)))
event_joined (Finish stream order) = ap (λ (rest : List ℕ). rest ++ 10 ∷ []) (append_assoc (codes "finish") (number_text stream) (number_text order))
event_joined (Lost stream why words) = ap (λ (rest : List ℕ). rest ++ 10 ∷ []) (
    ap (λ (text : List ℕ). codes "lost" ++ number_text stream ++ text ++ flat_map word_text words) (why_spelled why)
    ∙ regroup (codes "lost") (numeral stream) (why_piece why) (flat_map word_text words)
    ∙ ap (λ (rest : List ℕ). codes "lost" ++ 32 ∷ numeral stream ++ 32 ∷ rest) (sym (joined_words (why_piece why) words)))
event_joined (Close stream) = refl

-- ---- what a line says is whose line it is

pub line_told : (line : List ℕ) (event : Event) → line_said line ≡ Some event → IsLineOf (line ++ 10 ∷ []) event
unfolding line_said
line_told line event e =
    let told = pieces_told (slice_split is_space line) event e in
    let is : line ≡ join_with_byte 32 (event_pieces event) = sym (join_with_byte-slice_split 32 line) ∙ ap (join_with_byte 32) told.0 in
    (told.1, ap (λ (text : List ℕ). text ++ 10 ∷ []) is ∙ sym (event_joined event))

pub line_there : (line : List ℕ) (event : Event) → IsLineOf (line ++ 10 ∷ []) event → line_said line ≡ Some event
unfolding line_said
line_there line event is =
    let same : line ≡ join_with_byte 32 (event_pieces event) = append_cancel_right line (join_with_byte 32 (event_pieces event)) (10 ∷ []) (is.1 ∙ event_joined event) in
    ap (λ (text : List ℕ). pieces_said (slice_split is_space text)) same ∙ ap pieces_said (event_split event is.0) ∙ pieces_there event is.0

-- ---- lines of a text

pub feed_none : (b : ℕ) → IsInk b → ends_line b ≡ false
feed_none b high = grind (arith, nat_tests)

joined_no_feed : (pieces : List (List ℕ)) → AreInk pieces → HasNoFeed (join_with_byte 32 pieces)
joined_no_feed [] ink = All-nil (λ byte. ends_line byte ≡ false)
joined_no_feed (x ∷ []) ink = All-weaker IsInk (λ byte. ends_line byte ≡ false) feed_none x ink.0
joined_no_feed (x ∷ y ∷ ys) ink =
    All-append (λ byte. ends_line byte ≡ false) x (32 ∷ join_with_byte 32 (y ∷ ys)) (All-weaker IsInk (λ byte. ends_line byte ≡ false) feed_none x ink.0)
    (All-cons (λ byte. ends_line byte ≡ false) 32 (join_with_byte 32 (y ∷ ys)) refl (joined_no_feed (y ∷ ys) ink.1))

pub event_no_feed : (event : Event) → HasNumbersOfWords event → HasNoFeed (join_with_byte 32 (event_pieces event))
event_no_feed event is = joined_no_feed (event_pieces event) (ink_event event is)

-- the first line of a text
pub lines_first : (front rest : List ℕ) → HasNoFeed front → whole_lines (front ++ 10 ∷ rest) ≡ (front ++ 10 ∷ []) ∷ whole_lines rest
lines_first [] rest none = refl
lines_first (b ∷ front) rest none = rw (All-head (λ byte. ends_line byte ≡ false) b front none, lines_first front rest (All-tail (λ byte. ends_line byte ≡ false) b front none)) refl

lines_last : (b : ℕ) (text : List ℕ) → HasNoFeed (b ∷ text) → whole_lines (b ∷ text) ≡ (b ∷ text) ∷ []
lines_last b [] none = rw (All-head (λ byte. ends_line byte ≡ false) b [] none) refl
lines_last b (c ∷ text) none = rw (All-head (λ byte. ends_line byte ≡ false) b (c ∷ text) none, lines_last c text (All-tail (λ byte. ends_line byte ≡ false) b (c ∷ text) none)) refl

-- the lines of a text that begins with a journal
journal_lines : (events : List Event) (rest : List ℕ) → All HasNumbersOfWords events → whole_lines (flat_map event_text events ++ rest) ≡ map event_text events ++ whole_lines rest
journal_lines [] rest are = refl
journal_lines (event ∷ events) rest are =
    let written = All-head HasNumbersOfWords event events are in
    let front = join_with_byte 32 (event_pieces event) in
    let more = flat_map event_text events ++ rest in
    let flat : flat_map event_text (event ∷ events) ++ rest ≡ front ++ 10 ∷ more =
    append_assoc (event_text event) (flat_map event_text events) rest ∙ ap (λ (text : List ℕ). text ++ more) (event_joined event) ∙ append_assoc front (10 ∷ []) more in
    ap whole_lines flat ∙ lines_first front more (event_no_feed event written)
    ∙ (λ i. sym (event_joined event) i ∷ journal_lines events rest (All-tail HasNumbersOfWords event events are) i)

-- ---- the first line that is no event's

bad_behind : (events : List Event) (line : List ℕ) (more : List (List ℕ)) → All HasNumbersOfWords events → ((event : Event) → IsLineOf line event → ⊥) → IsFirstBad (map event_text events ++ line ∷ more) (length events)
bad_behind [] line more are bad = bad
bad_behind (event ∷ events) line more are bad = ((event, (All-head HasNumbersOfWords event events are, refl)), bad_behind events line more (All-tail HasNumbersOfWords event events are) bad)

none_bad : (events : List Event) (k : ℕ) → All HasNumbersOfWords events → IsFirstBad (map event_text events) k → ⊥
none_bad [] k are bad = bad
none_bad (event ∷ events) zero are bad = bad event (All-head HasNumbersOfWords event events are, refl)
none_bad (event ∷ events) (suc k) are bad = none_bad events k (All-tail HasNumbersOfWords event events are) bad.1

-- the lines of a journal text are those of its events
pub told_lines : (text : List ℕ) (events : List Event) → IsJournal text events → whole_lines text ≡ map event_text events
unfolding journal_text
told_lines text events is = ap whole_lines (is.is ∙ sym (append-nil (flat_map event_text events))) ∙ journal_lines events [] is.written ∙ append-nil (map event_text events)

pub refused_is_no_journal : RefusedIsNoJournal
refused_is_no_journal text k events bad is = none_bad events k is.written (subst (λ (lines : List (List ℕ)). IsFirstBad lines k) (told_lines text events is) bad)

has_words : (event : Event) → HasNumbersOfWords event → HasWords event
has_words (Order stream order place) is = All-nil (λ word. word.1 < 2 ^ 32)
has_words (Step stream words) is = All-weaker IsWord (λ word. word.1 < 2 ^ 32) (λ word both. both.1) words is.1
has_words (Finish stream order) is = All-nil (λ word. word.1 < 2 ^ 32)
has_words (Lost stream (Error error) words) is = All-weaker IsWord (λ word. word.1 < 2 ^ 32) (λ word both. both.1) words is.1
has_words (Lost stream Memory words) is = rw (is.1) (All-nil (λ word. word.1 < 2 ^ 32))
has_words (Close stream) is = All-nil (λ word. word.1 < 2 ^ 32)

pub journal_is_one : JournalIsOne
journal_is_one text g h first second = different_texts g h (All-weaker HasNumbersOfWords HasWords has_words g first.written) (All-weaker HasNumbersOfWords HasWords has_words h second.written) (sym first.is ∙ second.is)

-- ---- a text that is read up to some place

-- the events of what was read, and the text after it
pub record IsRead (text : List ℕ) (events : List Event) (rest : List ℕ) : Type 0 where
  pub is : text ≡ flat_map event_text events ++ rest
  pub written : All HasNumbersOfWords events
  pub few : length events + length rest ≤ length text

pub read_none : (text : List ℕ) → IsRead text [] text
read_none text = record { is = refl; written = All-nil HasNumbersOfWords; few = omega arith }

pub read_more : (text : List ℕ) (events : List Event) (rest front behind : List ℕ) (event : Event) → IsRead text events rest → rest ≡ front ++ 10 ∷ behind → line_said front ≡ Some event → IsRead text (events ++ event ∷ []) behind
read_more text events rest front behind event read cut said =
    let is = line_told front event said in
    let line : front ++ 10 ∷ behind ≡ event_text event ++ behind = sym (append_assoc front (10 ∷ []) behind) ∙ ap (λ (text : List ℕ). text ++ behind) is.1 in
    let one : flat_map event_text (events ++ event ∷ []) ≡ flat_map event_text events ++ event_text event = flat_map-append event_text events (event ∷ []) ∙ ap (λ (text : List ℕ). flat_map event_text events ++ text) (append-nil (event_text event)) in
    let shorter : length rest ≡ length front + suc (length behind) = ap length cut ∙ length-append front (10 ∷ behind) in
    let before = read.few in
    record {
      is = read.is ∙ ap (λ (text : List ℕ). flat_map event_text events ++ text) (cut ∙ line) ∙ sym (append_assoc (flat_map event_text events) (event_text event) behind) ∙ ap (λ (text : List ℕ). text ++ behind) (sym one);
      written = All-push HasNumbersOfWords events event read.written is.0;
      few = omega (arith, length-append events (event ∷ []));
    }

pub read_all : (text : List ℕ) (events : List Event) (rest : List ℕ) → IsRead text events rest → length rest ≡ 0 → IsJournal text events
unfolding journal_text
read_all text events rest read none = record { is = read.is ∙ ap (λ (rest : List ℕ). flat_map event_text events ++ rest) (nil_from_length rest none) ∙ append-nil (flat_map event_text events); written = read.written }

pub read_bad : (text : List ℕ) (events : List Event) (rest front behind : List ℕ) → IsRead text events rest → rest ≡ front ++ 10 ∷ behind → HasNoFeed front → line_said front ≡ None → IsFirstBad (whole_lines text) (length events)
read_bad text events rest front behind read cut none said =
    let lines = ap whole_lines read.is ∙ journal_lines events rest read.written ∙ ap (λ (rest : List (List ℕ)). map event_text events ++ rest) (ap whole_lines cut ∙ lines_first front behind none) in
    subst (λ (lines : List (List ℕ)). IsFirstBad lines (length events)) (sym lines) (bad_behind events (front ++ 10 ∷ []) (whole_lines behind) read.written (λ event is. let told = line_there front event is in absurd (cc)))

-- a text with a line feed behind it has one
pub feed_there : (front : List ℕ) → HasNoFeed (front ++ 10 ∷ []) → ⊥
feed_there front none =
    let at = All-get_or (λ byte. ends_line byte ≡ false) (front ++ 10 ∷ []) (length front) 0 (omega (arith, length-append front (10 ∷ []))) none in
    let byte : get_or (front ++ 10 ∷ []) (length front) 0 ≡ 10 = get_or_at front 10 [] 0 (length front) refl in
    let feed : ends_line 10 ≡ false = subst (λ byte. ends_line byte ≡ false) byte at in
    absurd (cc)

-- a line without a line feed is no event's
no_event : (line : List ℕ) (event : Event) → HasNoFeed line → IsLineOf line event → ⊥
no_event line event none is = feed_there (join_with_byte 32 (event_pieces event)) (subst HasNoFeed (is.1 ∙ event_joined event) none)

pub read_open : (text : List ℕ) (events : List Event) (rest : List ℕ) → IsRead text events rest → 0 < length rest → HasNoFeed rest → IsFirstBad (whole_lines text) (length events)
read_open text events [] read some none = absurd (omega arith)
read_open text events (b ∷ rest) read some none =
    let lines = ap whole_lines read.is ∙ journal_lines events (b ∷ rest) read.written ∙ ap (λ (rest : List (List ℕ)). map event_text events ++ rest) (lines_last b rest none) in
    subst (λ (lines : List (List ℕ)). IsFirstBad lines (length events)) (sym lines) (bad_behind events (b ∷ rest) [] read.written (λ event is. no_event (b ∷ rest) event none is))

-- ---- the first line feed

pub feed_found : (text : List ℕ) (at : ℕ) → position ends_line text ≡ Some at → (text ≡ take at text ++ 10 ∷ drop (at + 1) text) × HasNoFeed (take at text)
feed_found text at e =
    let found = position-Some ends_line text at 0 e in
    let byte : get_or text at 0 ≡ 10 = let test = found.1 in grind (arith, nat_tests) in (
      sym (take-append-drop at text) ∙ ap (λ (rest : List ℕ). take at text ++ rest) (drop_more text at 0 found.0 ∙ ap (λ b. b ∷ drop (at + 1) text) byte),
      All-from_get_or (λ byte. ends_line byte ≡ false) (take at text) 0 (λ k lt. let below : k < at = omega (arith, length-take at text) in rw (get_or-take at text k 0 below) (found.2 k below)),
    )

pub feed_missing : (text : List ℕ) → position ends_line text ≡ None → HasNoFeed text
feed_missing text e =
    let far : length text ≤ position_or_len ends_line text = ltb-false _ _ (not_found (ltb (position_or_len ends_line text) (length text)) (position_or_len ends_line text) e) in
    λ k d lt. fails_before_first ends_line text k d (omega arith)
