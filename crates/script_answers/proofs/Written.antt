-- The events of a legal history have numbers of 32 bits.
use Rattle.std.proofs.Common.{◌≡◌, ℕ, ◌<◌, ◌≤◌, ◌^◌, List, [], ◌∷◌, Some, length, reverse, sym, subst, arith}
use Rattle.std.specs.List.{All}
use Rattle.std.proofs.lemmas.List.{reverse-append}
use Rattle.std.proofs.lemmas.List.Elements.{All-nil, All-head, All-push}
use Rattle.gpu_plan.specs.Plans.{PlansData, plan_of}
use Rattle.sync_core.specs.declared.wait.Number.{Number}
use Rattle.sync_core.specs.Standing.{IsKnown, first_order}
use Rattle.sync_core.proofs.Numbers.{left_drawn}
use Rattle.gpu_journal.specs.declared.event.Event.{Event}
use Rattle.gpu_journal.specs.declared.event.Event.TheVariants.{Order, Step, Finish, Lost, Close}
use Rattle.gpu_journal.specs.declared.event.Why.TheVariants.{Error, Memory}
use Rattle.gpu_journal.specs.World.{known}
use Rattle.gpu_journal.specs.Waits.{sync_of, left_of, drawn}
use Rattle.gpu_journal.specs.Legal.{Obeys, IsLegal}
use Rattle.serial_laws.specs.Scripts.{AreLawfulPlans}
use Rattle.serial_laws.proofs.Passed.{lawful_of}
use Rattle.serial_laws.proofs.Spent.{obeys_known}
use Rattle.serial_laws.proofs.Drawn.{drawn_within}
use Rattle.serial_laws.proofs.Flushes.{flushes_before}
use Rattle.script_laws.proofs.Outputs.{event_small}
use Rattle.run_output.proofs.Rooms.{obeying_room}
use Rattle.verify_input.specs.Reading.{IsWord, HasNumbersOfWords}

stream_small : (p : PlansData) (s : ℕ) → AreLawfulPlans p → IsKnown (length p.plans) s → s < 2 ^ 32
stream_small p s lawful is = let high = is.1 in let few = lawful.together.streams in omega (arith, high, few)

words_small : (words : List (ℕ × ℕ)) → All (λ word. word.0 < 69632) words → All (λ word. word.1 < 2 ^ 32) words → All IsWord words
words_small words near small = λ k d lt. let place = near k d lt in (omega (arith, place), small k d lt)

first_below : (most : ℕ) (left : List Number) (n : ℕ) → All (λ (number : Number). number.order ≤ most) left → first_order left ≡ Some n → n ≤ most
first_below most [] n low first = absurd (cc)
first_below most (number ∷ left) n low first =
    let same : number.order ≡ n = cc in
    let here = All-head (λ (number : Number). number.order ≤ most) number left low in
    omega (arith, same, here)

event_written : (p : PlansData) (e : Event) (h : List Event) → AreLawfulPlans p → IsLegal p h → Obeys p h e → HasNumbersOfWords e
event_written p (Order s n c) h lawful legal o =
    let is = obeys_known p (Order s n c) h legal o in
    let number = o.rule_2 in
    let most = drawn_within p h legal in
    let flushes = lawful.together.flushes in
    let place = (flushes_before (plan_of p s).actions (known p h s).ordered c o.rule_3).1 in
    let few = (lawful_of p s lawful is).few in
    (stream_small p s lawful is, omega (arith, number, most, flushes), omega (arith, place, few))
event_written p (Step s words) h lawful legal o =
    (stream_small p s lawful (obeys_known p (Step s words) h legal o), words_small words (obeying_room p h (Step s words) lawful legal o).near (event_small p (Step s words) h lawful legal o))
event_written p (Finish s n) h lawful legal o =
    let number = first_below (drawn p h) (left_of p h s) n (left_drawn (sync_of p h) s) o.rule_4 in
    let most = drawn_within p h legal in
    let flushes = lawful.together.flushes in
    (stream_small p s lawful (obeys_known p (Finish s n) h legal o), omega (arith, number, most, flushes))
event_written p (Lost s (Error error) words) h lawful legal o =
    (stream_small p s lawful (obeys_known p (Lost s (Error error) words) h legal o), words_small words (obeying_room p h (Lost s (Error error) words) lawful legal o).near (event_small p (Lost s (Error error) words) h lawful legal o))
event_written p (Lost s Memory words) h lawful legal o = (stream_small p s lawful (obeys_known p (Lost s Memory words) h legal o), o.rule_11.1)
event_written p (Close s) h lawful legal o = stream_small p s lawful (obeys_known p (Close s) h legal o)

-- the oldest first
pub all_written : (p : PlansData) (h : List Event) → AreLawfulPlans p → IsLegal p h → All HasNumbersOfWords (reverse h)
all_written p [] lawful legal = All-nil HasNumbersOfWords
all_written p (e ∷ h) lawful legal =
    subst (All HasNumbersOfWords) (sym (reverse-append (e ∷ []) h)) (All-push HasNumbersOfWords (reverse h) e (all_written p h lawful legal.1) (event_written p e h lawful legal.1 legal.0))
