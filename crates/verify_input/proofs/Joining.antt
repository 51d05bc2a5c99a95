-- The verdict on an input, by the verdict on its parts.
use Rattle.verify_input.proofs.Names.{◌≡◌, ℕ, ◌+◌, List, length, Option, Some, None, MatchOption, Bor, Result, Ok, Err, sym, ap, subst, ◌∙◌, IfOk, concat, PlansData, script_of, whole_lines, Script, Journal, Finding, Refused, NoJournal, No, Differs, NotComplete, Yes, before, behind, script_part, journal_from, script_in, LacksText, HasNoJournal, Finds, FindsIn}
use Rattle.verify_input.proofs.Wholes.{concat_whole}

-- the text of the script
pub script_is : (input part : List ℕ) → whole_lines part ≡ script_part input → script_of part ≡ script_in input
script_is input part e = ap script_of (sym (concat_whole part) ∙ ap concat e)

-- the text after the line `journal`
pub text_there : (input : List ℕ) (rest : Option (Bor (List ℕ))) (text : Bor (List ℕ)) → rest ≡ Some text
    → MatchOption rest (behind Script (whole_lines input) ≡ None) (λ text. behind Script (whole_lines input) ≡ Some (whole_lines text.now)) → behind Script (whole_lines input) ≡ Some (whole_lines text.now)
text_there input None text is found = absurd (cc)
text_there input (Some other) text is found = let same : other ≡ text = cc in found ∙ ap (λ (text : Bor (List ℕ)). Some (whole_lines text.now)) same

pub text_missing : (input : List ℕ) (rest : Option (Bor (List ℕ))) → rest ≡ None
    → MatchOption rest (behind Script (whole_lines input) ≡ None) (λ text. behind Script (whole_lines input) ≡ Some (whole_lines text.now)) → behind Script (whole_lines input) ≡ None
text_missing input None is found = found
text_missing input (Some other) is found = absurd (cc)

found_behind : (input text : List ℕ) (p : PlansData) (count : ℕ) (finding : Finding) → script_in input ≡ Ok p → count ≡ length (script_part input) → behind Script (whole_lines input) ≡ Some (whole_lines text)
    → FindsIn p count (before Journal (whole_lines text)) finding → Finds input finding
found_behind input text p count (Refused line kind) script lines there found = absurd found
found_behind input text p count (Differs line what) script lines there found = absurd found
found_behind input text p count (NoJournal line) script lines there found = (p, script, subst (λ (text : Option (List (List ℕ))). LacksText p (length (script_part input)) text line) (sym (ap journal_from there)) (subst (λ n. LacksText p n (Some (before Journal (whole_lines text))) line) lines found))
found_behind input text p count (No event rule) script lines there found = (p, found.0, record { script = script; text = before Journal (whole_lines text); there = ap journal_from there; told = found.1 }, found.2)
found_behind input text p count NotComplete script lines there found = (p, found.0, record { script = script; text = before Journal (whole_lines text); there = ap journal_from there; told = found.1 }, found.2)
found_behind input text p count (Yes images events) script lines there found = (p, found.0, record { script = script; text = before Journal (whole_lines text); there = ap journal_from there; told = found.1 }, found.2.0, found.2.1, found.2.2)

pub found_all : {E : Type 0} (input text : List ℕ) (p : PlansData) (count : ℕ) (finding : Result Finding E) → script_in input ≡ Ok p → count ≡ length (script_part input) → behind Script (whole_lines input) ≡ Some (whole_lines text)
    → IfOk finding (λ finding. FindsIn p count (before Journal (whole_lines text)) finding) → IfOk finding (λ finding. Finds input finding)
found_all input text p count (Ok finding) script lines there found = found_behind input text p count finding script lines there found
found_all input text p count (Err error) script lines there found = found

pub found_missing : (input : List ℕ) (p : PlansData) (count : ℕ) → script_in input ≡ Ok p → count ≡ length (script_part input) → behind Script (whole_lines input) ≡ None → HasNoJournal input (count + 1)
found_missing input p count script lines none = (p, script, subst (λ (text : Option (List (List ℕ))). LacksText p (length (script_part input)) text (count + 1)) (sym (ap journal_from none)) (ap (λ n. n + 1) lines))
