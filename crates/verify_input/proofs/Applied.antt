-- The laws of findings, on which no proof rests, each applied once: if one said less, this could not be shown.
use Rattle.verify_input.proofs.Names.{◌≡◌, ap, ℕ, List, Pictures, What, Finding, No, Differs, NotComplete, Yes, Finds, FindsWhole, FindingIsOne, WholeFindingIsOne}

-- of an input of which an event breaks a rule, it is not found that the history is only not complete
no_more : FindingIsOne → (input : List ℕ) (event rule : ℕ) → Finds input (No event rule) → Finds input NotComplete → ⊥
no_more law input event rule breaks lacks = let same : No event rule ≡ NotComplete = law input (No event rule) NotComplete breaks lacks in absurd cc

-- of an input with a whole output that is right, it is not found that a line is off
none_off : WholeFindingIsOne → (base : ℕ) (input : List ℕ) (images : Pictures) (events line : ℕ) (what : What) → FindsWhole base input (Yes images events) → FindsWhole base input (Differs line what) → ⊥
none_off law base input images events line what right off = let same : Yes images events ≡ Differs line what = law base input (Yes images events) (Differs line what) right off in absurd cc

-- whatever is said of what is found of an input, there is one answer, by whichever of two findings it is given
one_answer : FindingIsOne → {A : Type 0} (answer : Finding → A) (input : List ℕ) (one other : Finding) → Finds input one → Finds input other → answer one ≡ answer other
one_answer law answer input one other here there = ap answer (law input one other here there)

-- so it is of an input with a whole output
one_answer_whole : WholeFindingIsOne → {A : Type 0} (answer : Finding → A) (base : ℕ) (input : List ℕ) (one other : Finding) → FindsWhole base input one → FindsWhole base input other → answer one ≡ answer other
one_answer_whole law answer base input one other here there = ap answer (law base input one other here there)
