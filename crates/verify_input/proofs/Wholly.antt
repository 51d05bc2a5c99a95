-- The verdict on an input with an output, by the verdict on its parts.
use Rattle.verify_input.proofs.Names.{◌≡◌, ℕ, zero, suc, ◌+◌, ◌-◌, ◌≤◌, Bool, true, false, cond, inr, List, [], ◌∷◌, ◌++◌, length, length-append, drop, refl, Option, Some, None, Ok, sym, ap, subst, ◌∙◌, arith, option_map, concat, length-drop, concat-append, PlansData, Event, journal_text, ends_line, byte_before, whole_lines, IsJournal, words_on, is_end, before, behind, script_part, script_in, head_of, IsFirstOther, same_lines, heads_due, IsOff, HasTaken, Rest, What, output_part, IsAfterScript, TellsAll, LacksEvent, FindsAll, FindsWhole, Border, Script, Journal, Finding, Refused, NoJournal, No, Differs, NotComplete, Yes}
use Rattle.verify_input.specs.declared.what.What.TheVariants as what
use Rattle.verify_input.proofs.Outputs.{same_taken}
use Rattle.verify_input.proofs.Wholes.{concat_whole}

-- the line that ends a part stands between what is before it and what is behind it
parted_by : (b : Bool) (line : List ℕ) (lines rest before_them : List (List ℕ)) (found : Option (List (List ℕ))) → (found ≡ Some rest → length lines ≡ length before_them + 1 + length rest)
    → cond b (Some lines) found ≡ Some rest → suc (length lines) ≡ length (cond b [] (line ∷ before_them)) + 1 + length rest
parted_by true line lines rest front found more e = let same : lines ≡ rest = cc in omega (arith, ap length same)
parted_by false line lines rest front found more e = let all = more e in omega (arith, all)

pub parted : (border : Border) (lines rest : List (List ℕ)) → behind border lines ≡ Some rest → length lines ≡ length (before border lines) + 1 + length rest
parted border [] rest e = absurd (cc)
parted border (line ∷ lines) rest e = parted_by (is_end border (words_on line)) line lines rest (before border lines) (behind border lines) (parted border lines rest) e

-- they stand before the others
front_by : (b : Bool) (line : List ℕ) (lines front : List (List ℕ)) → front ++ drop (length front) lines ≡ lines → cond b [] (line ∷ front) ++ drop (length (cond b [] (line ∷ front))) (line ∷ lines) ≡ line ∷ lines
front_by true line lines front e = refl
front_by false line lines front e = ap (λ (ls : List (List ℕ)). line ∷ ls) e

before_all : (border : Border) (lines : List (List ℕ)) → before border lines ++ drop (length (before border lines)) lines ≡ lines
before_all border [] = refl
before_all border (line ∷ lines) = front_by (is_end border (words_on line)) line lines (before border lines) (before_all border lines)

pub before_few : (border : Border) (lines : List (List ℕ)) → length (before border lines) ≤ length lines
before_few border lines = omega (arith, ap length (before_all border lines), length-append (before border lines) (drop (length (before border lines)) lines))

-- the other lines are some of the output's
others_few : (p : PlansData) (lines : List (List ℕ)) (events : List Event) (others : List (List ℕ)) → TellsAll p lines events others → length others ≤ length lines
others_few p lines events others told =
    let one = ap length told.headed in
    let two = length-append (head_of p) told.rest in
    let three = ap length told.left in
    let four = length-drop (length (before Journal told.rest)) told.rest in
    omega (arith, one, two, three, four)

module _ (input : List ℕ) (base count : ℕ) (p : PlansData) (lines : List (List ℕ)) (after : IsAfterScript input p count lines) where
  -- all lines of the input are those of the script, the line `journal`, and those of the output
  all_lines : length (whole_lines input) ≡ count + 1 + length lines
  all_lines =
      let all = parted Script (whole_lines input) lines after.output.there in
      let counted = after.counted in
      omega (arith, all, counted)

  pub found_whole : (events : List Event) (others : List (List ℕ)) (start : ℕ) → start ≡ count + 2 + (length lines - length others) → TellsAll p lines events others → (finding : Finding) → FindsAll p base events others start finding
      → FindsWhole base input finding
  found_whole events others start at told (Refused line kind) found = absurd found
  found_whole events others start at told (NoJournal line) found = absurd found
  found_whole events others start at told (Differs line what) found =
      let few = others_few p lines events others told in
      let here = found.2 in
      inr (p, events, others, record { lines = lines; there = after.output; told = told; whole = found.0 }, found.1, omega (arith, few, at, here, all_lines), found.3)
  found_whole events others start at told (No event rule) found = (p, lines, after.output, events, others, told, found)
  found_whole events others start at told NotComplete found = (p, lines, after.output, events, others, told, found)
  found_whole events others start at told (Yes images number) found =
      (p, events, others, record { lines = lines; there = after.output; told = told; whole = found.0 }, found.1, found.2, found.3)

-- where there is no line `journal`
pub whole_missing : (input : List ℕ) (base count : ℕ) (p : PlansData) → script_in input ≡ Ok p → count ≡ length (script_part input) → output_part input ≡ None → FindsWhole base input (NoJournal (count + 1))
whole_missing input base count p script counted none =
    (p, script, subst (λ (o : Option (List (List ℕ))). LacksEvent p (length (script_part input)) o (count + 1)) (sym none) (ap (λ n. n + 1) counted))

-- ---- the verdict on the lines of an output, by the verdict on its parts

heads_count : (p : PlansData) → length (heads_due p) ≡ length (head_of p)
heads_count p = by (head_of p)
  where
    by : (lines : List (List ℕ)) → length (same_lines what.Name lines) ≡ length lines
    by [] = refl
    by (line ∷ lines) = ap suc (by lines)

-- the first line of the head that is off is another
pub head_off : (p : PlansData) (heads : List (List ℕ)) (l : ℕ) (lines : List (List ℕ)) (k : ℕ) (part : What) → IsOff p [] (same_lines what.Name heads) l lines k part → IsFirstOther heads lines k
head_off p [] l lines k part off = absurd off
head_off p (head ∷ heads) l [] zero part off = tt
head_off p (head ∷ heads) l [] (suc k) part off = let none = off.0 in absurd (omega (arith, none))
head_off p (head ∷ heads) l (line ∷ lines) zero part off = λ same. off.1 0 (same, refl)
head_off p (head ∷ heads) l (line ∷ lines) (suc k) part off = (off.1.0, head_off p heads off.0 lines k part off.2)

module _ {p : PlansData} {old new : Rest} (taken : HasTaken p [] (heads_due p) 0 old new 0) where
  -- the lines of the head are taken off
  pub headed : whole_lines old.text.now ≡ head_of p ++ whole_lines new.text.now
  headed = (same_taken p [] what.Name (head_of p) 0 (whole_lines old.text.now) 0 (whole_lines new.text.now) refl taken.taken).0

  pub head_counted : new.line ≡ old.line + length (head_of p)
  head_counted = let number = taken.number in omega (arith, number, heads_count p)

  pub told_all : (part after : List ℕ) (events : List Event) → whole_lines part ≡ before Journal (whole_lines new.text.now) → IsJournal part events
      → whole_lines after ≡ drop (length (before Journal (whole_lines new.text.now))) (whole_lines new.text.now) → TellsAll p (whole_lines old.text.now) events (whole_lines after)
  told_all part after events cut is others = record {
    rest = whole_lines new.text.now;
    headed = headed;
    told = sym cut ∙ ap whole_lines is.is;
    written = is.written;
    left = others;
  }

  -- the number of the line with which the other lines begin
  pub begins_at : (after : List ℕ) (count n : ℕ) → old.line ≡ count + 2 → n ≡ length (before Journal (whole_lines new.text.now)) → n ≤ length (whole_lines new.text.now)
      → whole_lines after ≡ drop (length (before Journal (whole_lines new.text.now))) (whole_lines new.text.now)
      → new.line + n ≡ count + 2 + (length (whole_lines old.text.now) - length (whole_lines after))
  begins_at after count n first is few others =
      let one = ap length headed in
      let two = length-append (head_of p) (whole_lines new.text.now) in
      let three = ap length others in
      let four = length-drop (length (before Journal (whole_lines new.text.now))) (whole_lines new.text.now) in
      omega (arith, one, two, three, four, head_counted, first, is, few)

-- the lines behind a line of a text are those of a text, and so are those behind a part
joined_tail : (byte : ℕ) (lines : List (List ℕ)) → drop 1 (byte_before byte lines) ≡ drop 1 lines
joined_tail byte [] = refl
joined_tail byte (line ∷ lines) = refl

tail_whole : (text : List ℕ) → whole_lines (concat (drop 1 (whole_lines text))) ≡ drop 1 (whole_lines text)
tail_whole [] = refl
tail_whole (byte ∷ text) =
    let rest = tail_whole text in
    let same = joined_tail byte (whole_lines text) in
    elim (ends_line byte) as (λ b. whole_lines (concat (drop 1 (cond b ((byte ∷ []) ∷ whole_lines text) (byte_before byte (whole_lines text))))) ≡ drop 1 (cond b ((byte ∷ []) ∷ whole_lines text) (byte_before byte (whole_lines text)))) [
      | true ↦ ap whole_lines (concat_whole text)
      | false ↦ ap (λ (ls : List (List ℕ)). whole_lines (concat ls)) same ∙ rest ∙ sym same
    ]

behind_by : (b : Bool) (lines rest : List (List ℕ)) (found : Option (List (List ℕ))) → lines ≡ whole_lines (concat lines) → (found ≡ Some rest → rest ≡ whole_lines (concat rest)) → cond b (Some lines) found ≡ Some rest → rest ≡ whole_lines (concat rest)
behind_by true lines rest found own more e = let same : lines ≡ rest = cc in subst (λ (ls : List (List ℕ)). ls ≡ whole_lines (concat ls)) same own
behind_by false lines rest found own more e = more e

behind_whole : (border : Border) (lines : List (List ℕ)) → lines ≡ whole_lines (concat lines) → (rest : List (List ℕ)) → behind border lines ≡ Some rest → rest ≡ whole_lines (concat rest)
behind_whole border [] whole rest e = absurd (cc)
behind_whole border (line ∷ lines) whole rest e =
    let own : lines ≡ whole_lines (concat lines) = sym (subst (λ (ls : List (List ℕ)). whole_lines (concat (drop 1 ls)) ≡ drop 1 ls) (sym whole) (tail_whole (concat (line ∷ lines)))) in
    behind_by (is_end border (words_on line)) lines rest (behind border lines) own (behind_whole border lines own rest) e

-- the lines of an output are those of its text
pub output_lines : (input written : List ℕ) → option_map concat (output_part input) ≡ Some written → output_part input ≡ Some (whole_lines written)
output_lines input written e = by (output_part input) refl e
  where
    by : (found : Option (List (List ℕ))) → output_part input ≡ found → option_map concat found ≡ Some written → output_part input ≡ Some (whole_lines written)
    by None at is = absurd (cc)
    by (Some lines) at is =
        let same : concat lines ≡ written = cc in
        at ∙ ap (λ (ls : List (List ℕ)). Some ls) (behind_whole Script (whole_lines input) (ap whole_lines (sym (concat_whole input))) lines at ∙ ap whole_lines same)

-- the text of all lines of an output
pub told_text : (p : PlansData) (lines : List (List ℕ)) (events : List Event) (others : List (List ℕ)) → TellsAll p lines events others → concat lines ≡ concat (head_of p) ++ (journal_text events ++ concat others)
told_text p lines events others told =
    let front = before Journal told.rest in
    let rest : concat told.rest ≡ journal_text events ++ concat others =
    ap concat (sym (before_all Journal told.rest) ∙ ap (λ (ls : List (List ℕ)). front ++ ls) (sym told.left))
    ∙ concat-append front others
    ∙ ap (λ (l : List ℕ). l ++ concat others) (ap concat told.told ∙ concat_whole (journal_text events)) in
    ap concat told.headed ∙ concat-append (head_of p) told.rest ∙ ap (λ (l : List ℕ). concat (head_of p) ++ l) rest
