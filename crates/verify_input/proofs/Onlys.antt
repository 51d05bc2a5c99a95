-- One finding alone is that of an input.
use Rattle.verify_input.proofs.Names.{◌≡◌, ℕ, ◌+◌, ◌-◌, ◌<◌, zero, suc, ◌⊎◌, inl, inr, List, [], ◌∷◌, ◌++◌, length, take, reverse, Option, Some, None, Result, Ok, Err, refl, sym, ap, subst, ◌∙◌, arith, slice_get, concat, cases_order, take-take, append_cancel_left, Kind, PlansData, Event, IsLegal, journal_text, IsFirstBad, whole_lines, IsFirstWrong, wrong_is_illegal, rule_is_one, Finding, Refused, NoJournal, No, Differs, NotComplete, Yes, script_part, journal_part, script_in, head_of, TellsBehind, Records, IsFirstOther, LacksText, Finds, FindsOf, FindingIsOne}
use Rattle.verify_input.proofs.Lines.{refused_is_no_journal, journal_is_one}
use Rattle.journal_verify.specs.Rules.{BreaksFirst}
use Rattle.verify_input.proofs.Wholes.{concat_whole}

-- ---- one line alone is the first that is another

pub bad_is_one : (lines : List (List ℕ)) (j k : ℕ) → IsFirstBad lines j → IsFirstBad lines k → j ≡ k
bad_is_one [] j k one other = absurd one
bad_is_one (line ∷ lines) zero zero one other = refl
bad_is_one (line ∷ lines) zero (suc k) one other = absurd (one other.0.0 other.0.1)
bad_is_one (line ∷ lines) (suc j) zero one other = absurd (other one.0.0 one.0.1)
bad_is_one (line ∷ lines) (suc j) (suc k) one other = ap suc (bad_is_one lines j k one.1 other.1)

other_is_one : (heads lines : List (List ℕ)) (j k : ℕ) → IsFirstOther heads lines j → IsFirstOther heads lines k → j ≡ k
other_is_one [] lines j k one other = bad_is_one lines j k one other
other_is_one (head ∷ heads) [] zero zero one other = refl
other_is_one (head ∷ heads) [] zero (suc k) one other = absurd other
other_is_one (head ∷ heads) [] (suc j) k one other = absurd one
other_is_one (head ∷ heads) (line ∷ lines) zero zero one other = refl
other_is_one (head ∷ heads) (line ∷ lines) zero (suc k) one other = absurd (one other.0)
other_is_one (head ∷ heads) (line ∷ lines) (suc j) zero one other = absurd (other one.0)
other_is_one (head ∷ heads) (line ∷ lines) (suc j) (suc k) one other = ap suc (other_is_one heads lines j k one.1 other.1)

-- a text with such a line tells no events
none_other : (heads rest : List (List ℕ)) (k : ℕ) → IsFirstOther heads (heads ++ rest) k → (j : ℕ) × IsFirstBad rest j
none_other [] rest k other = (k, other)
none_other (head ∷ heads) rest zero other = absurd (other refl)
none_other (head ∷ heads) rest (suc k) other = none_other heads rest k other.1

not_told : (heads text : List (List ℕ)) (k : ℕ) (events : List Event) → IsFirstOther heads text k → TellsBehind heads text events → ⊥
not_told heads text k events other told =
    let bad = none_other heads (whole_lines (journal_text events)) k (subst (λ (text : List (List ℕ)). IsFirstOther heads text k) told.lines other) in
    refused_is_no_journal (journal_text events) bad.0 events bad.1 (record { is = refl; written = told.written })

-- ---- one list of events alone is told

told_is_one : (heads text : List (List ℕ)) (g h : List Event) → TellsBehind heads text g → TellsBehind heads text h → g ≡ h
told_is_one heads text g h one other =
    let same = append_cancel_left heads (whole_lines (journal_text g)) (whole_lines (journal_text h)) (sym one.lines ∙ other.lines) in
    let is : journal_text g ≡ journal_text h = sym (concat_whole (journal_text g)) ∙ ap concat same ∙ concat_whole (journal_text h) in
    journal_is_one (journal_text g) g h (record { is = refl; written = one.written }) (record { is = is; written = other.written })

-- ---- one event alone is the first that is wrong, by one rule

wrong_before : (p : PlansData) (events : List Event) (m n r q : ℕ) → m < n → IsFirstWrong p events m r → IsFirstWrong p events n q → ⊥
wrong_before p events m n r q less one other =
    let some = one.counted in
    let within : m - 1 < n - 1 = omega arith in
    let front : take (m - 1) (take (n - 1) events) ≡ take (m - 1) events = take-take (m - 1) (n - 1) events (omega arith) in
    wrong_is_illegal p (take (n - 1) events) m r
    (record {
      counted = one.counted;
      event = one.event;
      there = slice_get-take (n - 1) (m - 1) events within ∙ one.there;
      before = subst (λ (events : List Event). IsLegal p (reverse events)) (sym front) one.before;
      breaks = subst (λ (events : List Event). BreaksFirst p (reverse events) one.event r) (sym front) one.breaks;
    })
    other.before
  where
    slice_get-take : (n m : ℕ) (events : List Event) → m < n → slice_get (take n events) m ≡ slice_get events m
    slice_get-take zero m events lt = absurd (omega arith)
    slice_get-take (suc n) m [] lt = refl
    slice_get-take (suc n) zero (event ∷ events) lt = refl
    slice_get-take (suc n) (suc m) (event ∷ events) lt = slice_get-take n m events (omega arith)

wrong_at : (p : PlansData) (events : List Event) (n r q : ℕ) → IsFirstWrong p events n r → IsFirstWrong p events n q → r ≡ q
wrong_at p events n r q one other =
    let same : one.event ≡ other.event = let a = one.there in let b = other.there in cc in
    rule_is_one p (reverse (take (n - 1) events)) other.event r q (subst (λ (event : Event). BreaksFirst p (reverse (take (n - 1) events)) event r) same one.breaks) other.breaks

wrong_is_one : (p : PlansData) (events : List Event) (m n r q : ℕ) → IsFirstWrong p events m r → IsFirstWrong p events n q → No m r ≡ No n q
wrong_is_one p events m n r q one other =
    elim (cases_order m n) [
      | inl same ↦ (let rule = wrong_at p events n r q (subst (λ m. IsFirstWrong p events m r) same one) other in (λ i. No (same i) (rule i)))
      | inr apart ↦ elim apart [ inl less ↦ absurd (wrong_before p events m n r q less one other) | inr more ↦ absurd (wrong_before p events n m q r more other one) ]
    ]

pub events_are_one : (p : PlansData) (events : List Event) (one other : Finding) → FindsOf p events one → FindsOf p events other → one ≡ other
events_are_one p events (Refused line kind) other one two = absurd one
events_are_one p events (NoJournal line) other one two = absurd one
events_are_one p events (Differs line what) other one two = absurd one
events_are_one p events one (Refused line kind) a two = absurd two
events_are_one p events one (NoJournal line) a two = absurd two
events_are_one p events one (Differs line what) a two = absurd two
events_are_one p events (No event rule) (No other another) one two = wrong_is_one p events event other rule another one two
events_are_one p events (No event rule) NotComplete one two = absurd (wrong_is_illegal p events event rule one two.legal)
events_are_one p events (No event rule) (Yes images count) one two = absurd (wrong_is_illegal p events event rule one two.0.legal)
events_are_one p events NotComplete (No event rule) one two = absurd (wrong_is_illegal p events event rule two one.legal)
events_are_one p events NotComplete NotComplete one two = refl
events_are_one p events NotComplete (Yes images count) one two = absurd (one.unfinished two.0.complete)
events_are_one p events (Yes images count) (No event rule) one two = absurd (wrong_is_illegal p events event rule two one.0.legal)
events_are_one p events (Yes images count) NotComplete one two = absurd (two.unfinished one.0.complete)
events_are_one p events (Yes images count) (Yes others number) one two =
    let left : images ≡ others = one.1 ∙ sym two.1 in
    let counted : count ≡ number = one.2 ∙ sym two.2 in
    (λ i. Yes (left i) (counted i))

-- ---- one finding alone is that of what a script of a given number of lines says, and of the lines after it

abbrev pub IsOf : (PlansData → List (List ℕ) → Finding → Type 0) → ℕ → Result PlansData (ℕ × Kind) → Option (List (List ℕ)) → Finding → Type 0
IsOf Found count (Err fault) lines finding = finding ≡ Refused fault.0 fault.1
IsOf Found count (Ok p) None finding = finding ≡ NoJournal (count + 1)
IsOf Found count (Ok p) (Some lines) finding = Found p lines finding

pub is_one : (Found : PlansData → List (List ℕ) → Finding → Type 0) → ((p : PlansData) (lines : List (List ℕ)) (one other : Finding) → Found p lines one → Found p lines other → one ≡ other)
    → (count : ℕ) (script : Result PlansData (ℕ × Kind)) (lines : Option (List (List ℕ))) (one other : Finding) → IsOf Found count script lines one → IsOf Found count script lines other → one ≡ other
is_one Found each count (Err fault) lines one other a b = a ∙ sym b
is_one Found each count (Ok p) None one other a b = a ∙ sym b
is_one Found each count (Ok p) (Some lines) one other a b = each p lines one other a b

-- by the plans that it says
pub of_plans : (Found : PlansData → List (List ℕ) → Finding → Type 0) (count : ℕ) (script : Result PlansData (ℕ × Kind)) (lines : Option (List (List ℕ))) (p : PlansData) (finding : Finding) → script ≡ Ok p → IsOf Found count (Ok p) lines finding
    → IsOf Found count script lines finding
of_plans Found count script lines p finding says found = subst (λ (s : Result PlansData (ℕ × Kind)). IsOf Found count s lines finding) (sym says) found

-- and by the lines
pub of_lines : (Found : PlansData → List (List ℕ) → Finding → Type 0) (count : ℕ) (script : Result PlansData (ℕ × Kind)) (there : Option (List (List ℕ))) (p : PlansData) (lines : List (List ℕ)) (finding : Finding) → script ≡ Ok p → there ≡ Some lines → Found p lines finding
    → IsOf Found count script there finding
of_lines Found count script there p lines finding says is found = of_plans Found count script there p finding says (subst (λ (o : Option (List (List ℕ))). IsOf Found count (Ok p) o finding) (sym is) found)

-- ---- one finding alone is that of an input

-- the finding is that of a text of which a line is another, or of the events that it tells
abbrev IsOfText : ℕ → PlansData → List (List ℕ) → Finding → Type 0
IsOfText count p text finding =
    ((k : ℕ) × IsFirstOther (head_of p) text k × (finding ≡ NoJournal (count + 1 + (k + 1)))) ⊎ ((events : List Event) × TellsBehind (head_of p) text events × FindsOf p events finding)

text_is_one : (count : ℕ) (p : PlansData) (text : List (List ℕ)) (one other : Finding) → IsOfText count p text one → IsOfText count p text other → one ≡ other
text_is_one count p text one other (inl a) (inl b) = a.2 ∙ ap (λ k. NoJournal (count + 1 + (k + 1))) (other_is_one (head_of p) text a.0 b.0 a.1 b.1) ∙ sym b.2
text_is_one count p text one other (inl a) (inr b) = absurd (not_told (head_of p) text a.0 b.0 a.1 b.1)
text_is_one count p text one other (inr a) (inl b) = absurd (not_told (head_of p) text b.0 a.0 b.1 a.1)
text_is_one count p text one other (inr a) (inr b) = events_are_one p b.0 one other (subst (λ (events : List Event). FindsOf p events one) (told_is_one (head_of p) text a.0 b.0 a.1 b.1) a.2) b.2

of_lack : (p : PlansData) (count line : ℕ) (text : Option (List (List ℕ))) → LacksText p count text line → IsOf (IsOfText count) count (Ok p) text (NoJournal line)
of_lack p count line None lacks = ap NoJournal lacks
of_lack p count line (Some text) lacks = inl (lacks.0, lacks.2, ap NoJournal lacks.1)

module _ (input : List ℕ) where
  abbrev IsOfInput : Finding → Type 0
  IsOfInput finding = IsOf (IsOfText (length (script_part input))) (length (script_part input)) (script_in input) (journal_part input) finding

  of_records : (p : PlansData) (events : List Event) (finding : Finding) → Records input p events → FindsOf p events finding → IsOfInput finding
  of_records p events finding records found = of_lines (IsOfText (length (script_part input))) (length (script_part input)) (script_in input) (journal_part input) p records.text finding records.script records.there (inr (events, records.told, found))

  of_all : (finding : Finding) → Finds input finding → IsOfInput finding
  of_all (Refused line kind) found = subst (λ (s : Result PlansData (ℕ × Kind)). IsOf (IsOfText (length (script_part input))) (length (script_part input)) s (journal_part input) (Refused line kind)) (sym found) refl
  of_all (NoJournal line) found =
      of_plans (IsOfText (length (script_part input))) (length (script_part input)) (script_in input) (journal_part input) found.0 (NoJournal line) found.1 (of_lack found.0 (length (script_part input)) line (journal_part input) found.2)
  of_all (Differs line what) found = absurd found
  of_all (No event rule) found = of_records found.0 found.1 (No event rule) found.2 found.3
  of_all NotComplete found = of_records found.0 found.1 NotComplete found.2 found.3
  of_all (Yes images events) found = of_records found.0 found.1 (Yes images events) found.2 (found.3, found.4, found.5)

pub finding_is_one : FindingIsOne
finding_is_one input one other a b =
    is_one (IsOfText (length (script_part input))) (text_is_one (length (script_part input))) (length (script_part input)) (script_in input) (journal_part input) one other (of_all input one a) (of_all input other b)
