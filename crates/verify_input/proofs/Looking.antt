-- What is read at its place in the line of a dump or of a look is what the line names.
use Rattle.verify_input.proofs.Names.{◌≡◌, ℕ, ◌-◌, ◌^◌, ◌<◌, ◌≤◌, Some, List, [], ◌∷◌, ◌++◌, length, length-append, take, drop, inl, inr, refl, sym, ap, subst, ◌∙◌, append_assoc, arith, codes, unwrap_or, slice_split, join_with_byte, take_at, drop_at, append_cancel_right, numeral, hex8, view_text, length-hex8, HasNoFeed, whole_lines, IsFirstLine, IsLine, EndsWith, look_said, BeginsWithLook}
use Rattle.verify_input.specs.Said.{is_space, pieces_of, own_value}
use Rattle.verify_input.proofs.Numbers.{own_number_there, own_value_there}
use Rattle.verify_input.proofs.Lines.{feed_there, AreInk, ink_letters, ink_number, ink_value, split_joined, regroup, lines_first}
use Rattle.verify_input.proofs.Wholes.{last_whole}
use Rattle.verify_input.proofs.Feeds.{view_line}

-- ---- the value of a dump

pub ends_long : (text : List ℕ) (count value : ℕ) → EndsWith text count value → (9 ≤ count) × (count ≤ length text)
ends_long text count value ends =
    let all = ap length ends.is in
    let one = length-append (ends.front ++ hex8 value) (10 ∷ ends.rest) in
    let two = length-append ends.front (hex8 value) in
    let eight = length-hex8 value in
    let counted = ends.counted in
    (omega (arith, counted), omega (arith, all, one, two, eight, counted))

pub ends_digits : (text front digits : List ℕ) (count value : ℕ) → EndsWith text count value → front ≡ take (count - 1) text → digits ≡ drop (count - 9) front → own_value digits ≡ Some value
ends_digits text front digits count value ends first last =
    let eight = length-hex8 value in
    let counted = ends.counted in
    let two = length-append ends.front (hex8 value) in
    let whole : front ≡ ends.front ++ hex8 value =
    first ∙ ap (take (count - 1)) ends.is ∙ take_at (ends.front ++ hex8 value) (10 ∷ ends.rest) (count - 1) (omega (arith, two, eight, counted)) in
    let own : digits ≡ hex8 value =
    last ∙ ap (drop (count - 9)) whole ∙ drop_at ends.front (hex8 value) (count - 9) (omega (arith, counted)) in
    ap own_value own ∙ own_value_there value ends.small

-- ---- the line of a look

view_joined : (viewer events sum : ℕ) → view_text viewer events sum ≡ join_with_byte 32 (codes "view" ∷ numeral viewer ∷ numeral events ∷ hex8 sum ∷ []) ++ 10 ∷ []
unfolding view_text
view_joined viewer events sum =
    let front = (codes "view" ++ 32 ∷ numeral viewer) ++ 32 ∷ numeral events in
    ap (λ (rest : List ℕ). rest ++ 10 ∷ []) (append_assoc front (32 ∷ []) (hex8 sum) ∙ regroup (codes "view") (numeral viewer) (numeral events) (32 ∷ hex8 sum))

look_there : (viewer events sum : ℕ) (line : List ℕ) → viewer < 2 ^ 32 → events < 2 ^ 32 → sum < 2 ^ 32 → line ++ 10 ∷ [] ≡ view_text viewer events sum → look_said (pieces_of line) ≡ (events, sum)
unfolding look_said
look_there viewer events sum line known few small is =
    let joined = codes "view" ∷ numeral viewer ∷ numeral events ∷ hex8 sum ∷ [] in
    let own : line ≡ join_with_byte 32 joined = append_cancel_right line (join_with_byte 32 joined) (10 ∷ []) (is ∙ view_joined viewer events sum) in
    let ink : AreInk joined = (ink_letters (codes "view") refl, (ink_number viewer known, (ink_number events few, (ink_value sum, tt)))) in
    let split = ap (slice_split is_space) own ∙ split_joined (codes "view") (numeral viewer ∷ numeral events ∷ hex8 sum ∷ []) ink in
    ap (λ (pieces : List (List ℕ)). look_said (drop 1 pieces)) split
    ∙ (λ i. (unwrap_or (own_number_there events few i) 0, unwrap_or (own_value_there sum small i) 0))

-- the first line of a text that begins with one that has a line feed
first_is : (text line rest own : List ℕ) (lines : List (List ℕ)) → IsFirstLine text line rest → IsLine own → whole_lines text ≡ own ∷ lines → line ++ 10 ∷ [] ≡ own
first_is text line rest own lines (none, inl e) one is =
    let first : whole_lines text ≡ (line ++ 10 ∷ []) ∷ whole_lines rest = ap whole_lines e ∙ lines_first line rest none in
    cc
first_is text line rest own lines (none, inr last) one is =
    let first : whole_lines text ≡ line ∷ [] = ap whole_lines last.0 ∙ last_whole line last.2 none in
    let same : line ≡ own = cc in
    absurd (feed_there one.line (subst HasNoFeed (same ∙ one.is) none))

pub look_first : (text line rest : List ℕ) (look : ℕ × ℕ) → IsFirstLine text line rest → BeginsWithLook text look → look_said (pieces_of line) ≡ look
look_first text line rest look cut begins =
    look_there begins.viewer look.0 look.1 line begins.known begins.few begins.small
    (first_is text line rest (view_text begins.viewer look.0 look.1) begins.rest cut (view_line begins.viewer look.0 look.1) begins.is)

pub no_look : (text : List ℕ) (look : ℕ × ℕ) → text ≡ [] → BeginsWithLook text look → ⊥
no_look text look none begins = let nil : [] ≡ view_text begins.viewer look.0 look.1 ∷ begins.rest = sym (ap whole_lines none) ∙ begins.is in absurd (cc)
