-- Texts that are written one after the other.
use Rattle.std.proofs.Common.{◌≡◌, ℕ, ◌+◌, ◌*◌, List, [], ◌++◌, refl, sym, ap, ◌∙◌, append_assoc}
use Rattle.std.proofs.lemmas.Grind.{flat_map-append}
use Rattle.std.proofs.lemmas.List.{append-nil}
use Rattle.std.specs.Prelude.{codes}
use Rattle.std.specs.Fmt.{digits}
use Rattle.std.specs.List.{flat_map}
use Rattle.script_generator.specs.Draws.{next_draw, below}
use Rattle.script_generator.specs.Generator.{spaced_number, value_text, wait_words, clear_words, copy_words, upload_words, fence_words, block}

-- one text after another that was written after it
pub joined : (out one two text behind : List ℕ) → one ≡ out ++ text → two ≡ one ++ behind → two ≡ out ++ (text ++ behind)
joined out one two text behind first second = second ∙ ap (λ texts. texts ++ behind) first ∙ append_assoc out text behind

-- six pieces that are written one after the other, and nothing after them
pub six_pieces : (out a b c d e f : List ℕ) → (((((out ++ a) ++ b) ++ c) ++ d) ++ e) ++ f ≡ out ++ (a ++ (b ++ (c ++ (d ++ (e ++ (f ++ []))))))
six_pieces out a b c d e f = simp (append_assoc, append-nil)

-- the pieces of a block are one text
pub block_said : (out a b c d new : List ℕ) (stream round state d1 d2 d3 d4 d5 d6 other x y to_x to_y : ℕ)
    → d1 ≡ next_draw state → d2 ≡ next_draw d1 → d3 ≡ next_draw d2 → d4 ≡ next_draw d3 → d5 ≡ next_draw d4 → d6 ≡ next_draw d5
    → other ≡ below 4 d1 → x ≡ below 16 d2 → y ≡ below 16 d3 → to_x ≡ below 16 d5 → to_y ≡ below 16 d6
    → a ≡ out ++ flat_map value_text (wait_words (1 + other) round)
    → b ≡ a ++ flat_map value_text (clear_words stream x y d4)
    → c ≡ b ++ flat_map value_text (copy_words (1 + other) stream)
    → d ≡ c ++ flat_map value_text (upload_words stream to_x to_y)
    → new ≡ d ++ flat_map value_text (fence_words round)
    → new ≡ out ++ flat_map value_text (block stream round state)
block_said out a b c d new stream round state d1 d2 d3 d4 d5 d6 other x y to_x to_y one two three four five six with_other with_x with_y with_to_x with_to_y first second third fourth fifth =
    let wait = wait_words (1 + other) round in
    let clear = clear_words stream x y d4 in
    let copy = copy_words (1 + other) stream in
    let upload = upload_words stream to_x to_y in
    let fence = fence_words round in
    let behind_four : new ≡ c ++ flat_map value_text (upload ++ fence) = joined c d new (flat_map value_text upload) (flat_map value_text fence) fourth fifth ∙ ap (λ text. c ++ text) (sym (flat_map-append value_text upload fence)) in
    let behind_three : new ≡ b ++ flat_map value_text (copy ++ (upload ++ fence)) = joined b c new (flat_map value_text copy) (flat_map value_text (upload ++ fence)) third behind_four ∙ ap (λ text. b ++ text) (sym (flat_map-append value_text copy (upload ++ fence))) in
    let behind_two : new ≡ a ++ flat_map value_text (clear ++ (copy ++ (upload ++ fence))) = joined a b new (flat_map value_text clear) (flat_map value_text (copy ++ (upload ++ fence))) second behind_three ∙ ap (λ text. a ++ text) (sym (flat_map-append value_text clear (copy ++ (upload ++ fence)))) in
    let whole : new ≡ out ++ flat_map value_text (wait ++ (clear ++ (copy ++ (upload ++ fence)))) = joined out a new (flat_map value_text wait) (flat_map value_text (clear ++ (copy ++ (upload ++ fence)))) first behind_two ∙ ap (λ text. out ++ text) (sym (flat_map-append value_text wait (clear ++ (copy ++ (upload ++ fence))))) in
    let same : wait ++ (clear ++ (copy ++ (upload ++ fence))) ≡ block stream round state = rw (with_other, with_x, with_y, with_to_x, with_to_y, six, five, four, three, two, one) refl in
    whole ∙ ap (λ words. out ++ flat_map value_text words) same

-- the number of the first half of the ring
pub first_half : (half : ℕ) → half ≡ 0 → codes " 0" ≡ spaced_number (32 * half)
unfolding digits
first_half half none = rw none refl

-- the number of the second half
pub second_half : (half : ℕ) → half ≡ 1 → codes " 32" ≡ spaced_number (32 * half)
unfolding digits
second_half half one = rw one refl
