-- The lines of a legal history have room.
use Rattle.std.proofs.Common.{◌≡◌, ℕ, zero, suc, ◌+◌, ◌≤◌, ◌<◌, List, [], ◌∷◌, length, get_or, reverse, sym, ap, subst, arith}
use Rattle.std.specs.List.{All}
use Rattle.std.specs.List.Sorted.{IsStrictlyIncreasing}
use Rattle.std.proofs.lemmas.List.{length-map, get_or-map}
use Rattle.std.proofs.lemmas.List.Elements.{All-get_or, All-append, All-cons}
use Rattle.std.proofs.lemmas.Grind.{reverse_onto}
use Rattle.gpu_cmd.specs.declared.areas.Areas.{Areas}
use Rattle.gpu_cmd.specs.declared.facts.StreamFacts.{StreamFacts}
use Rattle.gpu_cmd.specs.Lawful.{IsLawfulAreas, IsLawfulFacts, places_of}
use Rattle.gpu_cmd.specs.Copied.{fetched_places, places_listed}
use Rattle.gpu_cmd.proofs.Rising.{places_rise, places_are_there}
use Rattle.gpu_plan.specs.Plans.{PlansData, plan_of}
use Rattle.stream_state.proofs.Finding.{facts_lawful}
use Rattle.gpu_journal.specs.declared.event.Event.{Event}
use Rattle.gpu_journal.specs.declared.event.Event.TheVariants.{Order, Step, Finish, Lost, Close}
use Rattle.gpu_journal.specs.declared.event.Why.TheVariants.{Error, Memory}
use Rattle.gpu_journal.specs.Facts.{facts_at, put_of}
use Rattle.gpu_journal.specs.World.{state_of}
use Rattle.gpu_journal.specs.Legal.{Obeys, IsLegal}
use Rattle.gpu_journal.proofs.Worlds.{states_within, known_of_left}
use Rattle.serial_laws.specs.Scripts.{AreLawfulPlans}
use Rattle.serial_laws.proofs.Passed.{lawful_of}
use Rattle.run_output.specs.Parts.{LineHasRoom}

-- numbers that rise are at least their places
rises_least : (xs : List ℕ) (k : ℕ) → IsStrictlyIncreasing xs → k < length xs → k ≤ get_or xs k 0
rises_least xs zero rises lt = omega arith
rises_least xs (suc k) rises lt =
    let before = rises_least xs k rises (omega arith) in
    let next : suc k ≡ k + 1 = omega arith in
    let more : get_or xs k 0 < get_or xs (suc k) 0 = rw next (rises k (omega arith)) in
    omega (arith, before, more)

-- so there are no more of them than numbers below a bound
rises_few : (xs : List ℕ) (most : ℕ) → IsStrictlyIncreasing xs → All (λ x. x < most) xs → length xs ≤ most
rises_few [] most rises below = omega arith
rises_few (x ∷ xs) most rises below =
    let last = rises_least (x ∷ xs) (length xs) rises (omega arith) in
    let under : get_or (x ∷ xs) (length xs) 0 < most = All-get_or (λ n. n < most) (x ∷ xs) (length xs) 0 (omega arith) below in
    omega (arith, last, under)

few_places : (areas : Areas) → IsLawfulAreas areas → places_of areas ≤ 69632
few_places areas lawful = omega (arith, lawful.ring_most, lawful.memories.few)

-- words that must be fetched are few, at places that are low
fetched_room : (words : List (ℕ × ℕ)) (facts : StreamFacts) → IsLawfulFacts facts → places_listed words ≡ fetched_places words facts → (length words ≤ 69632) × All (λ word. word.0 < 69632) words
fetched_room words facts lawful listed =
    let few = few_places facts.areas lawful.areas in
    let there : All (λ place. place < places_of facts.areas) (places_listed words) = subst (All (λ place. place < places_of facts.areas)) (sym listed) (places_are_there words facts lawful) in
    let rises : IsStrictlyIncreasing (places_listed words) = subst IsStrictlyIncreasing (sym listed) (places_rise words facts lawful) in (
      omega (arith, length-map words (λ (word : ℕ × ℕ). word.0), rises_few (places_listed words) (places_of facts.areas) rises there, few),
      low_words words (places_of facts.areas) few there,
    )
  where
    low_words : (ws : List (ℕ × ℕ)) (most : ℕ) → most ≤ 69632 → All (λ place. place < most) (places_listed ws) → All (λ word. word.0 < 69632) ws
    low_words ws most few there k d lt =
        let here : get_or (places_listed ws) k 0 < most = All-get_or (λ n. n < most) (places_listed ws) k 0 (omega (arith, length-map ws (λ (word : ℕ × ℕ). word.0))) there in
        omega (arith, here, get_or-map (λ (word : ℕ × ℕ). word.0) ws k d 0 lt)

-- the event of a legal history has room
pub obeying_room : (p : PlansData) (h : List Event) (e : Event) → AreLawfulPlans p → IsLegal p h → Obeys p h e → LineHasRoom e
obeying_room p h (Order s n c) lawful legal o = record { few = omega arith; near = λ k d lt. absurd (omega arith) }
obeying_room p h (Finish s n) lawful legal o = record { few = omega arith; near = λ k d lt. absurd (omega arith) }
obeying_room p h (Close s) lawful legal o = record { few = omega arith; near = λ k d lt. absurd (omega arith) }
obeying_room p h (Lost s Memory words) lawful legal o =
    let none : words ≡ [] = o.rule_11.1 in
    record { few = omega (arith, ap length none); near = λ k d lt. absurd (omega (arith, ap length none)) }
obeying_room p h (Lost s (Error error) words) lawful legal o =
    let areas = (lawful_of p s lawful (known_of_left p h s legal o.rule_4)).laid_out in
    let both = fetched_room words (facts_at p h s) (facts_lawful (plan_of p s).areas (put_of p h s) (state_of p h s) areas (states_within p h s areas legal).bounded) o.rule_7.1 in
    record { few = both.0; near = both.1 }
obeying_room p h (Step s words) lawful legal o =
    let areas = (lawful_of p s lawful (known_of_left p h s legal o.rule_4)).laid_out in
    let both = fetched_room words (facts_at p h s) (facts_lawful (plan_of p s).areas (put_of p h s) (state_of p h s) areas (states_within p h s areas legal).bounded) o.rule_7.1 in
    record { few = both.0; near = both.1 }

pub legal_room : (p : PlansData) (h : List Event) → AreLawfulPlans p → IsLegal p h → All LineHasRoom (reverse h)
legal_room p [] lawful legal = λ k d lt. absurd (omega arith)
legal_room p (e ∷ h) lawful legal =
    let last : All LineHasRoom (e ∷ []) = All-cons LineHasRoom e [] (obeying_room p h e lawful legal.1 legal.0) (λ k d lt. absurd (omega arith)) in
    subst (All LineHasRoom) (sym (reverse_onto h e [])) (All-append LineHasRoom (reverse h) (e ∷ []) (legal_room p h lawful legal.1) last)
