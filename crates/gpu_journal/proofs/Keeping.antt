-- A journal keeps its events: the words of later events change no event before.
use Rattle.std.proofs.Common.{◌≡◌, ℕ, ◌-◌, ◌≤◌, List, [], ◌∷◌, ◌++◌, length, reverse, take, drop, slice_range, refl, ap, subst, ◌∙◌, arith, All}
use Rattle.std.proofs.lemmas.List.{take-append-le, drop-append-le, length-drop, map_push, reverse-append}
use Rattle.std.proofs.lemmas.List.Elements.{All-head, All-tail}
use Rattle.gpu_journal.specs.declared.entry.Entry.{Entry}
use Rattle.gpu_journal.specs.declared.entry.Entry.TheVariants as entry
use Rattle.gpu_journal.specs.declared.event.Event.{Event}
use Rattle.gpu_journal.specs.declared.event.Event.TheVariants.{Step, Lost}
use Rattle.gpu_journal.specs.Entries.{event_of, events_of, LiesInWords}

part_before : (words more : List (ℕ × ℕ)) (from end : ℕ) → from ≤ end → end ≤ length words → slice_range (words ++ more) from end ≡ slice_range words from end
part_before words more from end order within =
    let long : end - from ≤ length (drop from words) = omega (arith, length-drop from words) in
    ap (take (end - from)) (drop-append-le from words more (omega arith)) ∙ take-append-le (end - from) (drop from words) more long

entry_before : (words more : List (ℕ × ℕ)) (e : Entry) → LiesInWords words e → event_of (words ++ more) e ≡ event_of words e
entry_before words more (entry.Order s n c) h = refl
entry_before words more (entry.Step s from end) h = ap (Step s) (part_before words more from end h.0 h.1)
entry_before words more (entry.Finish s n) h = refl
entry_before words more (entry.Lost s why from end) h = ap (Lost s why) (part_before words more from end h.0 h.1)
entry_before words more (entry.Close s) h = refl

events_before : (words more : List (ℕ × ℕ)) (entries : List Entry) → All (LiesInWords words) entries → events_of (words ++ more) entries ≡ events_of words entries
events_before words more [] h = refl
events_before words more (e ∷ entries) h =
    ap (λ (x : Event). x ∷ events_of (words ++ more) entries) (entry_before words more e (All-head (LiesInWords words) e entries h))
    ∙ ap (λ (xs : List Event). event_of words e ∷ xs) (events_before words more entries (All-tail (LiesInWords words) e entries h))

-- one event more
pub events_more : (words more new : List (ℕ × ℕ)) (entries entries' : List Entry) (e : Entry) (event : Event) → new ≡ words ++ more → entries' ≡ entries ++ e ∷ [] → All (LiesInWords words) entries → event_of new e ≡ event
    → reverse (events_of new entries') ≡ event ∷ reverse (events_of words entries)
events_more words more new entries entries' e event list added h is =
    let here : event_of (words ++ more) e ≡ event = subst (λ (ws : List (ℕ × ℕ)). event_of ws e ≡ event) list is in
    let all : reverse (events_of (words ++ more) (entries ++ e ∷ [])) ≡ event ∷ reverse (events_of words entries) =
    ap reverse (map_push (event_of (words ++ more)) entries e)
    ∙ reverse-append (events_of (words ++ more) entries) (event_of (words ++ more) e ∷ [])
    ∙ ap (λ (x : Event). x ∷ reverse (events_of (words ++ more) entries)) here
    ∙ ap (λ (xs : List Event). event ∷ reverse xs) (events_before words more entries h) in
    rw (list, added) all
