-- One finding alone is that of an input with an output.
use Rattle.verify_input.proofs.Names.{◌≡◌, ◌⊎◌, inl, inr, ℕ, ◌+◌, ◌-◌, List, [], ◌++◌, length, drop, reverse, Option, Some, None, Result, Ok, refl, sym, ap, subst, ◌∙◌, arith, All, concat, append_cancel_left, Kind, PlansData, Event, journal_text, wrong_is_illegal, HasNumbersOfWords, IsFirstBad, whole_lines, before, script_part, script_in, head_of, dues, heads_due, IsOff, AreDue, IsFirstOff, viewers_in, FindsOf, IsWholeHistory, output_part, HasOutput, AreHeaded, TellsAll, LacksEvent, FindsAll, FindsWhole, WholeFindingIsOne, Journal, What, Finding, Refused, NoJournal, No, Differs, NotComplete, Yes}
use Rattle.verify_input.specs.declared.what.What.TheVariants.{Name}
use Rattle.verify_input.proofs.Lines.{refused_is_no_journal, journal_is_one}
use Rattle.verify_input.proofs.Wholes.{concat_whole}
use Rattle.verify_input.proofs.Offered.{same_offered}
use Rattle.verify_input.proofs.Onlys.{bad_is_one, events_are_one, IsOf, is_one, of_plans, of_lines}
use Rattle.verify_input.proofs.Alone.{off_not_taken, off_is_one, first_off_is_one, off_not_due}

-- ---- one finding alone is that of events and of the lines after them

module _ (p : PlansData) (base : ℕ) (events : List Event) (others : List (List ℕ)) (start : ℕ) where
  -- the finding is that a line of a whole history is off
  record IsOfOff (finding : Finding) : Type 0 where
    k : ℕ
    what : What
    whole : IsWholeHistory p (reverse events)
    off : IsFirstOff p (reverse events) (dues p base (reverse events) (viewers_in others)) others k what
    is : finding ≡ Differs (start + k) what

  -- or it is that of the events, and lines of a whole history are due
  record IsOfDue (finding : Finding) : Type 0 where
    found : FindsOf p events finding
    due : IsWholeHistory p (reverse events) → AreDue p (reverse events) (dues p base (reverse events) (viewers_in others)) others

  off_or_due : (finding : Finding) → FindsAll p base events others start finding → IsOfOff finding ⊎ IsOfDue finding
  off_or_due (Refused line kind) found = absurd found
  off_or_due (NoJournal line) found = absurd found
  off_or_due (Differs line what) found = inl (record { k = found.1; what = what; whole = found.0; off = found.3; is = ap (λ (l : ℕ). Differs l what) found.2 })
  off_or_due (No event rule) found = inr (record { found = found; due = λ whole. absurd (wrong_is_illegal p events event rule found whole.legal) })
  off_or_due NotComplete found = inr (record { found = found; due = λ whole. absurd (found.unfinished whole.complete) })
  off_or_due (Yes images count) found = inr (record { found = (found.0, found.2, found.3); due = λ whole. found.1 })

  all_is_one : (one other : Finding) → FindsAll p base events others start one → FindsAll p base events others start other → one ≡ other
  all_is_one one other a b = by (off_or_due one a) (off_or_due other b)
    where
      by : IsOfOff one ⊎ IsOfDue one → IsOfOff other ⊎ IsOfDue other → one ≡ other
      by (inl a) (inl b) =
          let same = first_off_is_one p (reverse events) (dues p base (reverse events) (viewers_in others)) others a.k b.k a.what b.what a.off b.off in
          let at : a.k ≡ b.k = same.0 in
          let part : a.what ≡ b.what = same.1 in
          let all : Differs (start + a.k) a.what ≡ Differs (start + b.k) b.what = (λ i. Differs (start + at i) (part i)) in
          a.is ∙ all ∙ sym b.is
      by (inl a) (inr b) = absurd (off_not_due p (reverse events) (dues p base (reverse events) (viewers_in others)) others a.k a.what a.off (b.due a.whole))
      by (inr a) (inl b) = absurd (off_not_due p (reverse events) (dues p base (reverse events) (viewers_in others)) others b.k b.what b.off (a.due b.whole))
      by (inr a) (inr b) = events_are_one p events one other a.found b.found

-- ---- a finding by what is read, part by part, after a script of a given number of lines

-- the finding is that of a head of which a line is off
abbrev IsOfHead : PlansData → ℕ → List (List ℕ) → Finding → Type 0
IsOfHead p count lines finding =
    (k : ℕ) × (what : What) × IsOff p [] (heads_due p) 0 lines k what × (finding ≡ Differs (count + 1 + (k + 1)) what)

-- the finding is that of a journal of which a line is no event's
abbrev IsOfLine : PlansData → ℕ → List (List ℕ) → Finding → Type 0
IsOfLine p count rest finding =
    (k : ℕ) × IsFirstBad (before Journal rest) k × (finding ≡ NoJournal (count + 1 + length (head_of p) + (k + 1)))

-- the finding is that of a journal that tells events, and of the lines after it, in an input of a given number of lines
record IsOfEvents (p : PlansData) (base total : ℕ) (rest : List (List ℕ)) (finding : Finding) : Type 0 where
  events : List Event
  others : List (List ℕ)
  told : before Journal rest ≡ whole_lines (journal_text events)
  written : All HasNumbersOfWords events
  left : others ≡ drop (length (before Journal rest)) rest
  found : FindsAll p base events others (total - length others + 1) finding

-- the finding is that of the lines after the head
abbrev IsOfRest : PlansData → ℕ → ℕ → ℕ → List (List ℕ) → Finding → Type 0
IsOfRest p base count total rest finding = IsOfLine p count rest finding ⊎ IsOfEvents p base total rest finding

-- the finding is that of the lines of an output
abbrev IsOfLines : ℕ → ℕ → ℕ → PlansData → List (List ℕ) → Finding → Type 0
IsOfLines base count total p lines finding =
    IsOfHead p count lines finding ⊎ ((rest : List (List ℕ)) × AreHeaded p lines rest × IsOfRest p base count total rest finding)

-- ---- one finding alone is that of what is read

-- lines of events alone have none that is no event's
line_not_told : (rest : List (List ℕ)) (k : ℕ) (events : List Event) → IsFirstBad (before Journal rest) k → before Journal rest ≡ whole_lines (journal_text events) → All HasNumbersOfWords events → ⊥
line_not_told rest k events bad told written =
    refused_is_no_journal (journal_text events) k events (subst (λ (lines : List (List ℕ)). IsFirstBad lines k) told bad) (record { is = refl; written = written })

-- a head that is there has no line that is off
head_not_off : (p : PlansData) (lines rest : List (List ℕ)) (k : ℕ) (part : What) → AreHeaded p lines rest → IsOff p [] (heads_due p) 0 lines k part → ⊥
head_not_off p lines rest k part headed off =
    off_not_taken p [] (heads_due p) 0 (head_of p ++ rest) k part 0 rest
    (subst (λ (ls : List (List ℕ)). IsOff p [] (heads_due p) 0 ls k part) headed off)
    (same_offered p [] Name (head_of p) rest)

told_are_one : (p : PlansData) (base total : ℕ) (rest : List (List ℕ)) (one other : Finding) → IsOfEvents p base total rest one → IsOfEvents p base total rest other → one ≡ other
told_are_one p base total rest one other a b =
    let lines = sym a.told ∙ b.told in
    let is : journal_text a.events ≡ journal_text b.events = sym (concat_whole (journal_text a.events)) ∙ ap concat lines ∙ concat_whole (journal_text b.events) in
    let events : a.events ≡ b.events = journal_is_one (journal_text a.events) a.events b.events (record { is = refl; written = a.written }) (record { is = is; written = b.written }) in
    let others : a.others ≡ b.others = a.left ∙ sym b.left in
    all_is_one p base b.events b.others (total - length b.others + 1) one other
    (subst (λ (ls : List (List ℕ)). FindsAll p base b.events ls (total - length ls + 1) one) others
    (subst (λ (es : List Event). FindsAll p base es a.others (total - length a.others + 1) one) events a.found))
    b.found

rest_is_one : (p : PlansData) (base count total : ℕ) (rest : List (List ℕ)) (one other : Finding) → IsOfRest p base count total rest one → IsOfRest p base count total rest other → one ≡ other
rest_is_one p base count total rest one other (inl a) (inl b) =
    a.2 ∙ ap (λ (k : ℕ). NoJournal (count + 1 + length (head_of p) + (k + 1))) (bad_is_one (before Journal rest) a.0 b.0 a.1 b.1) ∙ sym b.2
rest_is_one p base count total rest one other (inl a) (inr b) = absurd (line_not_told rest a.0 b.events a.1 b.told b.written)
rest_is_one p base count total rest one other (inr a) (inl b) = absurd (line_not_told rest b.0 a.events b.1 a.told a.written)
rest_is_one p base count total rest one other (inr a) (inr b) = told_are_one p base total rest one other a b

lines_are_one : (base count total : ℕ) (p : PlansData) (lines : List (List ℕ)) (one other : Finding) → IsOfLines base count total p lines one → IsOfLines base count total p lines other → one ≡ other
lines_are_one base count total p lines one other (inl a) (inl b) =
    let same = off_is_one p [] (heads_due p) 0 lines a.0 b.0 a.1 b.1 a.2 b.2 in
    let at : a.0 ≡ b.0 = same.0 in
    let is : a.1 ≡ b.1 = same.1 in
    let all : Differs (count + 1 + (a.0 + 1)) a.1 ≡ Differs (count + 1 + (b.0 + 1)) b.1 = (λ i. Differs (count + 1 + (at i + 1)) (is i)) in
    a.3 ∙ all ∙ sym b.3
lines_are_one base count total p lines one other (inl a) (inr b) = absurd (head_not_off p lines b.0 a.0 a.1 b.1 a.2)
lines_are_one base count total p lines one other (inr a) (inl b) = absurd (head_not_off p lines a.0 b.0 b.1 a.1 b.2)
lines_are_one base count total p lines one other (inr a) (inr b) =
    let same = append_cancel_left (head_of p) a.0 b.0 (sym a.1 ∙ b.1) in
    rest_is_one p base count total b.0 one other (subst (λ (rest : List (List ℕ)). IsOfRest p base count total rest one) same a.2) b.2

-- ---- each finding of an input is that of what is read

of_lack : (p : PlansData) (base count total line : ℕ) (lines : Option (List (List ℕ))) → LacksEvent p count lines line → IsOf (IsOfLines base count total) count (Ok p) lines (NoJournal line)
of_lack p base count total line None lacks = ap NoJournal lacks
of_lack p base count total line (Some lines) lacks = inr (lacks.0, lacks.1, inl (lacks.2, lacks.4, ap NoJournal lacks.3))

module _ (base : ℕ) (input : List ℕ) where
  abbrev Found : PlansData → List (List ℕ) → Finding → Type 0
  Found = IsOfLines base (length (script_part input)) (length (whole_lines input))

  abbrev IsOfInput : Finding → Type 0
  IsOfInput finding = IsOf Found (length (script_part input)) (script_in input) (output_part input) finding

  of_output : (p : PlansData) (lines : List (List ℕ)) (finding : Finding) → HasOutput input p lines → Found p lines finding → IsOfInput finding
  of_output p lines finding has found = of_lines Found (length (script_part input)) (script_in input) (output_part input) p lines finding has.script has.there found

  of_events : (p : PlansData) (lines : List (List ℕ)) (events : List Event) (others : List (List ℕ)) (finding : Finding) → HasOutput input p lines → TellsAll p lines events others
      → FindsAll p base events others (length (whole_lines input) - length others + 1) finding → IsOfInput finding
  of_events p lines events others finding has all found =
      of_output p lines finding has
      (inr (all.rest, all.headed, inr (record { events = events; others = others; told = all.told; written = all.written; left = all.left; found = found })))

  of_all : (finding : Finding) → FindsWhole base input finding → IsOfInput finding
  of_all (Refused line kind) found = subst (λ (s : Result PlansData (ℕ × Kind)). IsOf Found (length (script_part input)) s (output_part input) (Refused line kind)) (sym found) refl
  of_all (NoJournal line) found =
      of_plans Found (length (script_part input)) (script_in input) (output_part input) found.0 (NoJournal line) found.1 (of_lack found.0 base (length (script_part input)) (length (whole_lines input)) line (output_part input) found.2)
  of_all (No event rule) found = of_events found.0 found.1 found.3 found.4 (No event rule) found.2 found.5 found.6
  of_all (Differs line what) (inl found) =
      of_output found.0 found.1 (Differs line what) found.2 (inl (found.3, what, found.5, ap (λ (l : ℕ). Differs l what) found.4))
  of_all (Differs line what) (inr found) =
      let at = found.5 in
      of_events found.0 found.3.lines found.1 found.2 (Differs line what) found.3.there found.3.told (found.3.whole, found.4, omega (arith, at), found.6)
  of_all NotComplete found = of_events found.0 found.1 found.3 found.4 NotComplete found.2 found.5 found.6
  of_all (Yes images count) found =
      of_events found.0 found.3.lines found.1 found.2 (Yes images count) found.3.there found.3.told (found.3.whole, found.4, found.5, found.6)

pub whole_finding_is_one : WholeFindingIsOne
whole_finding_is_one base input one other a b =
    is_one (IsOfLines base (length (script_part input)) (length (whole_lines input))) (lines_are_one base (length (script_part input)) (length (whole_lines input))) (length (script_part input)) (script_in input) (output_part input) one other
    (of_all base input one a) (of_all base input other b)
