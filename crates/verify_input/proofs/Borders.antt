-- A text that is gone through line by line, up to a border.
use Rattle.verify_input.proofs.Names.{◌≡◌, ℕ, ◌+◌, ◌-◌, ◌<◌, ◌≤◌, true, false, List, [], ◌∷◌, ◌++◌, length, length-append, take, drop, Bor, Some, None, refl, sym, ap, ◌∙◌, append_assoc, arith, append-nil, take_at, drop_at, words_of, whole_lines, Border, words_on, is_end, before, behind, IsFirstLine, IsCutAt}
use Rattle.verify_input.proofs.Wholes.{Starts, starts}

-- a given number of lines of a text ends no part, and this is after them
pub record IsOn (border : Border) (text rest : List ℕ) (count : ℕ) : Type 0 where
  pub front : List ℕ
  pub done : List (List ℕ)
  pub is : text ≡ front ++ rest
  pub here : whole_lines front ≡ done
  pub closed : 0 < length rest → (x : List ℕ) → whole_lines (front ++ x) ≡ done ++ whole_lines x
  pub first : before border (whole_lines text) ≡ done ++ before border (whole_lines rest)
  pub further : behind border (whole_lines text) ≡ behind border (whole_lines rest)
  pub counted : count ≡ length done
  pub few : count + length rest ≤ length text

pub on_none : (border : Border) (text : List ℕ) → IsOn border text text 0
on_none border text = record {
  front = [];
  done = [];
  is = refl;
  here = refl;
  closed = λ some x. refl;
  first = refl;
  further = refl;
  counted = refl;
  few = omega arith;
}

-- the line is none that ends the part
line_goes : (border : Border) (line : List ℕ) (lines : List (List ℕ)) (words : List (List ℕ)) → words_on line ≡ words → is_end border words ≡ false
    → (before border (line ∷ lines) ≡ line ∷ before border lines) × (behind border (line ∷ lines) ≡ behind border lines)
line_goes border line lines words e goes = (rw (e, goes) refl, rw (e, goes) refl)

-- the line ends the part
line_ends : (border : Border) (line : List ℕ) (lines : List (List ℕ)) (words : List (List ℕ)) → words_on line ≡ words → is_end border words ≡ true → (before border (line ∷ lines) ≡ []) × (behind border (line ∷ lines) ≡ Some lines)
line_ends border line lines words e ends = (rw (e, ends) refl, rw (e, ends) refl)

some_left : (text line rest : List ℕ) → Starts text line rest → length rest < length text
some_left text line rest first = let some = first.some in omega (arith, ap length first.is, length-append first.whole rest)

pub on_more : (border : Border) (text rest line more : List ℕ) (count : ℕ) → IsOn border text rest count → IsFirstLine rest line more → is_end border (words_of line) ≡ false → IsOn border text more (count + 1)
on_more border text rest line more count on cut goes =
    let first = starts rest line more cut in
    let whole = first.whole in
    let next = line_goes border whole (whole_lines more) (words_of line) first.words goes in
    let less = some_left rest line more first in
    let some : 0 < length rest = omega arith in
    let few = on.few in
    let counted = on.counted in
    record {
      front = on.front ++ whole;
      done = on.done ++ whole ∷ [];
      is = on.is ∙ ap (λ (rest : List ℕ). on.front ++ rest) first.is ∙ sym (append_assoc on.front whole more);
      here = on.closed some whole ∙ ap (λ (lines : List (List ℕ)). on.done ++ lines) first.alone;
      closed = λ left x.
          ap whole_lines (append_assoc on.front whole x)
          ∙ on.closed some (whole ++ x)
          ∙ ap (λ (lines : List (List ℕ)). on.done ++ lines) (first.closed left x)
          ∙ sym (append_assoc on.done (whole ∷ []) (whole_lines x));
      first = on.first
          ∙ ap (λ (lines : List (List ℕ)). on.done ++ lines) (ap (before border) first.lines ∙ next.0)
          ∙ sym (append_assoc on.done (whole ∷ []) (before border (whole_lines more)));
      further = on.further ∙ ap (behind border) first.lines ∙ next.1;
      counted = omega (arith, length-append on.done (whole ∷ []));
      few = omega arith;
    }

-- ---- where no line is left

drop_whole : {A : Type 0} (xs : List A) → drop (length xs) xs ≡ []
drop_whole xs = ap (drop (length xs)) (sym (append-nil xs)) ∙ drop_at xs [] (length xs) refl

pub cut_all : (border : Border) (text rest : Bor (List ℕ)) (count : ℕ) → IsOn border text.now rest.now count → rest.now ≡ [] → IsCutAt border text.now (record { part = text; lines = count; rest = None })
cut_all border text rest count on nil =
    let done : before border (whole_lines text.now) ≡ on.done = on.first ∙ ap (λ (rest : List ℕ). on.done ++ before border (whole_lines rest)) nil ∙ append-nil on.done in
    let all : whole_lines text.now ≡ before border (whole_lines text.now) = ap whole_lines (on.is ∙ ap (λ (rest : List ℕ). on.front ++ rest) nil ∙ append-nil on.front) ∙ on.here ∙ sym done in
    record {
      front = all;
      count = on.counted ∙ ap length (sym done);
      rest = on.further ∙ ap (λ (rest : List ℕ). behind border (whole_lines rest)) nil;
      left = ap whole_lines (drop_whole text.now) ∙ sym (drop_whole (whole_lines text.now)) ∙ ap (λ (lines : List (List ℕ)). drop (length lines) (whole_lines text.now)) all;
    }

-- ---- where a line ends the part

take_front : (front rest : List ℕ) → take (length (front ++ rest) - length rest) (front ++ rest) ≡ front
take_front front rest = take_at front rest (length (front ++ rest) - length rest) (omega (arith, length-append front rest))

pub cut_end : (border : Border) (text rest : List ℕ) (line : List ℕ) (part more : Bor (List ℕ)) (count : ℕ) → IsOn border text rest count → IsFirstLine rest line more.now → is_end border (words_of line) ≡ true → part.now ≡ take (length text - length rest) text
    → IsCutAt border text (record { part = part; lines = count; rest = Some more })
cut_end border text rest line part more count on cut ends cutted =
    let first = starts rest line more.now cut in
    let next = line_ends border first.whole (whole_lines more.now) (words_of line) first.words ends in
    let less = some_left rest line more.now first in
    let front : part.now ≡ on.front = cutted ∙ ap (λ (text : List ℕ). take (length text - length rest) text) on.is ∙ take_front on.front rest in
    let done : before border (whole_lines text) ≡ on.done = on.first ∙ ap (λ (lines : List (List ℕ)). on.done ++ lines) (ap (before border) first.lines ∙ next.0) ∙ append-nil on.done in
    let lines : whole_lines text ≡ on.done ++ whole_lines rest = ap whole_lines on.is ∙ on.closed (omega arith) rest in
    let left : drop (length part.now) text ≡ rest = (λ i. drop (length (front i)) (on.is i)) ∙ drop_at on.front rest (length on.front) refl in
    let right : drop (length (before border (whole_lines text))) (whole_lines text) ≡ whole_lines rest = (λ i. drop (length (done i)) (lines i)) ∙ drop_at on.done (whole_lines rest) (length on.done) refl in
    record {
      front = ap whole_lines front ∙ on.here ∙ sym done;
      count = on.counted ∙ ap length (sym done);
      rest = on.further ∙ ap (behind border) first.lines ∙ next.1;
      left = ap whole_lines left ∙ sym right;
    }
