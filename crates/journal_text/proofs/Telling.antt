-- Which history a text is.
use Rattle.std.proofs.Common.{◌≡◌, ℕ, ◌^◌, ◌<◌, true, false, List, [], ◌∷◌, ◌++◌, drop, refl, sym, ap, ◌∙◌, append_assoc, arith}
use Rattle.std.specs.Prelude.{codes}
use Rattle.std.specs.List.{All, flat_map}
use Rattle.std.proofs.lemmas.List.{append-nil}
use Rattle.std.proofs.lemmas.List.Elements.{All-head, All-tail}
use Rattle.gpu_word.proofs.Pieces.{three_pieces, four_pieces, five_pieces}
use Rattle.gpu_cmd.specs.Errors.{code_of}
use Rattle.gpu_journal.specs.declared.event.Event.{Event}
use Rattle.gpu_journal.specs.declared.event.Event.TheVariants.{Order, Step, Finish, Lost, Close}
use Rattle.gpu_journal.specs.declared.event.Why.{Why}
use Rattle.gpu_journal.specs.declared.event.Why.TheVariants.{Error, Memory}
use Rattle.gpu_journal.proofs.Errors.{same_error}
use Rattle.journal_text.specs.Digits.{hex8, number_text}
use Rattle.journal_text.specs.Text.{word_text, why_text, event_text, journal_text}
use Rattle.journal_text.specs.Laws.{HasWords, begins_other_part}
use Rattle.journal_text.proofs.Numerals.{ends, behind_first, numeral_first, number_cut, hex_cut}

-- the first byte, or 0
abbrev first : List ℕ → ℕ
first [] = 0
first (b ∷ rest) = b

word_flat : (word : ℕ × ℕ) (x : List ℕ) → word_text word ++ x ≡ number_text word.0 ++ (58 ∷ hex8 word.1 ++ x)
word_flat word x = append_assoc (number_text word.0 ++ codes ":") (hex8 word.1) x ∙ append_assoc (number_text word.0) (codes ":") (hex8 word.1 ++ x)

word_cut : (v w : ℕ × ℕ) (x y : List ℕ) → v.1 < 2 ^ 32 → w.1 < 2 ^ 32 → word_text v ++ x ≡ word_text w ++ y → (v ≡ w) × (x ≡ y)
word_cut v w x y small_v small_w e =
    let place = number_cut v.0 w.0 (58 ∷ hex8 v.1 ++ x) (58 ∷ hex8 w.1 ++ y) refl refl (sym (word_flat v x) ∙ e ∙ word_flat w y) in
    let value = hex_cut v.1 w.1 x y small_v small_w (ap behind_first place.1) in
    let at : v.0 ≡ w.0 = place.0 in
    let is : v.1 ≡ w.1 = value.0 in
    let same : (v.0, v.1) ≡ (w.0, w.1) = cc in
    (same, value.1)

-- words of 32 bits
abbrev Small : ℕ × ℕ → Type 0
Small word = word.1 < 2 ^ 32

words_cut : (v w : List (ℕ × ℕ)) (x y : List ℕ) → All Small v → All Small w → flat_map word_text v ++ (10 ∷ x) ≡ flat_map word_text w ++ (10 ∷ y) → (v ≡ w) × (x ≡ y)
words_cut [] [] x y small_v small_w e = (refl, ap behind_first e)
words_cut [] (b ∷ w) x y small_v small_w e = absurd (omega (arith, ap first e))
words_cut (a ∷ v) [] x y small_v small_w e = absurd (omega (arith, ap first e))
words_cut (a ∷ v) (b ∷ w) x y small_v small_w e =
    let flat = sym (append_assoc (word_text a) (flat_map word_text v) (10 ∷ x)) ∙ e ∙ append_assoc (word_text b) (flat_map word_text w) (10 ∷ y) in
    let one = word_cut a b (flat_map word_text v ++ (10 ∷ x)) (flat_map word_text w ++ (10 ∷ y)) (All-head Small a v small_v) (All-head Small b w small_w) flat in
    let more = words_cut v w x y (All-tail Small a v small_v) (All-tail Small b w small_w) one.1 in
    let same : a ≡ b = one.0 in
    let rest : v ≡ w = more.0 in
    (cc, more.1)

words_end : (words : List (ℕ × ℕ)) (x : List ℕ) → ends (flat_map word_text words ++ (10 ∷ x)) ≡ true
words_end [] x = refl
words_end (word ∷ words) x = refl

why_cut : (a b : Why) (x y : List ℕ) → ends x ≡ true → ends y ≡ true → why_text a ++ x ≡ why_text b ++ y → (a ≡ b) × (x ≡ y)
why_cut (Error a) (Error b) x y ex ey e =
    let parts = number_cut (code_of a) (code_of b) x y ex ey e in
    (ap Error (same_error a b parts.0), parts.1)
why_cut (Error a) Memory x y ex ey e =
    let digit = numeral_first (code_of a) 109 x (codes "emory" ++ y) (ap behind_first e) in
    absurd (omega (arith, digit.1))
why_cut Memory (Error b) x y ex ey e =
    let digit = numeral_first (code_of b) 109 y (codes "emory" ++ x) (sym (ap behind_first e)) in
    absurd (omega (arith, digit.1))
why_cut Memory Memory x y ex ey e = (refl, ap (drop 7) e)

order_flat : (stream order place : ℕ) (x : List ℕ) → event_text (Order stream order place) ++ x ≡ codes "order" ++ (number_text stream ++ (number_text order ++ (number_text place ++ (10 ∷ x))))
unfolding event_text
order_flat stream order place x = five_pieces (codes "order") (number_text stream) (number_text order) (number_text place) (codes "\n") x

step_flat : (stream : ℕ) (words : List (ℕ × ℕ)) (x : List ℕ) → event_text (Step stream words) ++ x ≡ codes "step" ++ (number_text stream ++ (flat_map word_text words ++ (10 ∷ x)))
unfolding event_text
step_flat stream words x = four_pieces (codes "step") (number_text stream) (flat_map word_text words) (codes "\n") x

finish_flat : (stream order : ℕ) (x : List ℕ) → event_text (Finish stream order) ++ x ≡ codes "finish" ++ (number_text stream ++ (number_text order ++ (10 ∷ x)))
unfolding event_text
finish_flat stream order x = four_pieces (codes "finish") (number_text stream) (number_text order) (codes "\n") x

lost_flat : (stream : ℕ) (why : Why) (words : List (ℕ × ℕ)) (x : List ℕ) → event_text (Lost stream why words) ++ x ≡ codes "lost" ++ (number_text stream ++ (why_text why ++ (flat_map word_text words ++ (10 ∷ x))))
unfolding event_text
lost_flat stream why words x = five_pieces (codes "lost") (number_text stream) (why_text why) (flat_map word_text words) (codes "\n") x

close_flat : (stream : ℕ) (x : List ℕ) → event_text (Close stream) ++ x ≡ codes "close" ++ (number_text stream ++ (10 ∷ x))
unfolding event_text
close_flat stream x = three_pieces (codes "close") (number_text stream) (codes "\n") x

order_cut : (s t m n c d : ℕ) (x y : List ℕ) → event_text (Order s m c) ++ x ≡ event_text (Order t n d) ++ y → (Order s m c ≡ Order t n d) × (x ≡ y)
order_cut s t m n c d x y e =
    let behind = ap (drop 5) (sym (order_flat s m c x) ∙ e ∙ order_flat t n d y) in
    let one = number_cut s t (number_text m ++ (number_text c ++ (10 ∷ x))) (number_text n ++ (number_text d ++ (10 ∷ y))) refl refl behind in
    let two = number_cut m n (number_text c ++ (10 ∷ x)) (number_text d ++ (10 ∷ y)) refl refl one.1 in
    let three = number_cut c d (10 ∷ x) (10 ∷ y) refl refl two.1 in
    let a : s ≡ t = one.0 in
    let b : m ≡ n = two.0 in
    let p : c ≡ d = three.0 in
    (cc, ap behind_first three.1)

step_cut : (s t : ℕ) (v w : List (ℕ × ℕ)) (x y : List ℕ) → All Small v → All Small w → event_text (Step s v) ++ x ≡ event_text (Step t w) ++ y → (Step s v ≡ Step t w) × (x ≡ y)
step_cut s t v w x y small_v small_w e =
    let behind = ap (drop 4) (sym (step_flat s v x) ∙ e ∙ step_flat t w y) in
    let one = number_cut s t (flat_map word_text v ++ (10 ∷ x)) (flat_map word_text w ++ (10 ∷ y)) (words_end v x) (words_end w y) behind in
    let two = words_cut v w x y small_v small_w one.1 in
    let a : s ≡ t = one.0 in
    let b : v ≡ w = two.0 in
    (cc, two.1)

finish_cut : (s t m n : ℕ) (x y : List ℕ) → event_text (Finish s m) ++ x ≡ event_text (Finish t n) ++ y → (Finish s m ≡ Finish t n) × (x ≡ y)
finish_cut s t m n x y e =
    let behind = ap (drop 6) (sym (finish_flat s m x) ∙ e ∙ finish_flat t n y) in
    let one = number_cut s t (number_text m ++ (10 ∷ x)) (number_text n ++ (10 ∷ y)) refl refl behind in
    let two = number_cut m n (10 ∷ x) (10 ∷ y) refl refl one.1 in
    let a : s ≡ t = one.0 in
    let b : m ≡ n = two.0 in
    (cc, ap behind_first two.1)

why_first : (why : Why) (x : List ℕ) → ends (why_text why ++ x) ≡ true
why_first (Error error) x = refl
why_first Memory x = refl

lost_cut : (s t : ℕ) (a b : Why) (v w : List (ℕ × ℕ)) (x y : List ℕ) → All Small v → All Small w → event_text (Lost s a v) ++ x ≡ event_text (Lost t b w) ++ y → (Lost s a v ≡ Lost t b w) × (x ≡ y)
lost_cut s t a b v w x y small_v small_w e =
    let last = flat_map word_text v ++ (10 ∷ x) in
    let last' = flat_map word_text w ++ (10 ∷ y) in
    let behind = ap (drop 4) (sym (lost_flat s a v x) ∙ e ∙ lost_flat t b w y) in
    let one = number_cut s t (why_text a ++ last) (why_text b ++ last') (why_first a last) (why_first b last') behind in
    let two = why_cut a b last last' (words_end v x) (words_end w y) one.1 in
    let three = words_cut v w x y small_v small_w two.1 in
    let p : s ≡ t = one.0 in
    let q : a ≡ b = two.0 in
    let r : v ≡ w = three.0 in
    (cc, three.1)

close_cut : (s t : ℕ) (x y : List ℕ) → event_text (Close s) ++ x ≡ event_text (Close t) ++ y → (Close s ≡ Close t) × (x ≡ y)
close_cut s t x y e =
    let behind = ap (drop 5) (sym (close_flat s x) ∙ e ∙ close_flat t y) in
    let one = number_cut s t (10 ∷ x) (10 ∷ y) refl refl behind in
    (ap Close one.0, ap behind_first one.1)

-- the line of an event can be told from what stands after it
event_cut : (a b : Event) (x y : List ℕ) → HasWords a → HasWords b → event_text a ++ x ≡ event_text b ++ y → (a ≡ b) × (x ≡ y)
unfolding event_text
event_cut (Order s m c) (Order t n d) x y small_a small_b e = order_cut s t m n c d x y e
event_cut (Step s v) (Step t w) x y small_a small_b e = step_cut s t v w x y small_a small_b e
event_cut (Finish s m) (Finish t n) x y small_a small_b e = finish_cut s t m n x y e
event_cut (Lost s a v) (Lost t b w) x y small_a small_b e = lost_cut s t a b v w x y small_a small_b e
event_cut (Close s) (Close t) x y small_a small_b e = close_cut s t x y e
event_cut a b x y small_a small_b e = absurd (omega (arith, ap first e))

-- no line of a journal begins with the first word of another part
pub events_are_apart : (event : Event) (behind : List ℕ) → begins_other_part (event_text event ++ behind) ≡ false
unfolding event_text
events_are_apart (Order stream order place) behind = refl
events_are_apart (Step stream words) behind = refl
events_are_apart (Finish stream order) behind = refl
events_are_apart (Lost stream why words) behind = refl
events_are_apart (Close stream) behind = refl

-- a text that begins with an event is none of the other parts
not_other : (event : Event) (more x y : List ℕ) → begins_other_part x ≡ true → x ≡ (event_text event ++ more) ++ y → ⊥
not_other event more x y other e =
    let is : begins_other_part (event_text event ++ (more ++ y)) ≡ true = ap begins_other_part (sym (e ∙ append_assoc (event_text event) more y)) ∙ other in
    let apart : begins_other_part (event_text event ++ (more ++ y)) ≡ false = events_are_apart event (more ++ y) in
    absurd cc

pub journal_cut : (g h : List Event) (x y : List ℕ) → All HasWords g → All HasWords h → begins_other_part x ≡ true → begins_other_part y ≡ true
    → flat_map event_text g ++ x ≡ flat_map event_text h ++ y → (g ≡ h) × (x ≡ y)
journal_cut [] [] x y small_g small_h ox oy e = (refl, e)
journal_cut [] (b ∷ h) x y small_g small_h ox oy e = absurd (not_other b (flat_map event_text h) x y ox e)
journal_cut (a ∷ g) [] x y small_g small_h ox oy e = absurd (not_other a (flat_map event_text g) y x oy (sym e))
journal_cut (a ∷ g) (b ∷ h) x y small_g small_h ox oy e =
    let flat = sym (append_assoc (event_text a) (flat_map event_text g) x) ∙ e ∙ append_assoc (event_text b) (flat_map event_text h) y in
    let one = event_cut a b (flat_map event_text g ++ x) (flat_map event_text h ++ y) (All-head HasWords a g small_g) (All-head HasWords b h small_h) flat in
    let more = journal_cut g h x y (All-tail HasWords a g small_g) (All-tail HasWords b h small_h) ox oy one.1 in
    let same : a ≡ b = one.0 in
    let rest : g ≡ h = more.0 in
    (cc, more.1)

pub output_tells : (g h : List Event) (x y : List ℕ) → All HasWords g → All HasWords h → begins_other_part x ≡ true → begins_other_part y ≡ true
    → journal_text g ++ x ≡ journal_text h ++ y → (g ≡ h) × (x ≡ y)
unfolding journal_text
output_tells g h x y small_g small_h ox oy e = journal_cut g h x y small_g small_h ox oy e

pub different_texts : (g h : List Event) → All HasWords g → All HasWords h → journal_text g ≡ journal_text h → g ≡ h
different_texts g h small_g small_h e =
    (output_tells g h [] [] small_g small_h refl refl (append-nil (journal_text g) ∙ e ∙ sym (append-nil (journal_text h)))).0
