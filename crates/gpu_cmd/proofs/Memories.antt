-- The words to be fetched depend on the values at their own places alone.
use Rattle.std.proofs.Common.{◌≡◌, ℕ, zero, suc, ◌<◌, ◌≤◌, Bool, true, false, Result, Ok, Err, List, [], ◌∷◌, ◌++◌, map, refl, sym, ap, ◌∙◌, ⊎_elim, arith, IsOkAnd}
use Rattle.std.specs.Prelude.{◌==◌, if◌then◌else◌}
use Rattle.std.specs.List.{AllByRecursion, range_with_len}
use Rattle.std.proofs.lemmas.Bool.{cases_lt}
use Rattle.std.proofs.lemmas.Bool.Decides.{nat_tests}
use Rattle.std.proofs.lemmas.List.Elements.{recursion_from_All}
use Rattle.gpu_cmd.specs.declared.error.CmdError.{CmdError}
use Rattle.gpu_cmd.specs.declared.facts.StreamFacts.{StreamFacts}
use Rattle.gpu_cmd.specs.declared.shape.Shape.{Shape}
use Rattle.gpu_word.specs.Outcome.{◌>>=◌}
use Rattle.gpu_cmd.specs.Checks.{headed, decoded}
use Rattle.gpu_cmd.specs.Copied.{copied, fetched_places, fetched, judged, places_read, places_headed, places_decoded, ring_places, value_in, places_listed}
use Rattle.gpu_cmd.specs.Laws.{WordsOfMemory, MemoryCopied}
use Rattle.gpu_cmd.proofs.Heads.{headed_some}
use Rattle.gpu_cmd.proofs.Copies.{judged_out, places_out, judged_headed, judged_in, places_in}

-- two memories have the same values at these places
abbrev Agree : (ℕ → ℕ) → (ℕ → ℕ) → List ℕ → Type 0
Agree m n places = AllByRecursion (λ place. m place ≡ n place) places

front_agrees : (m n : ℕ → ℕ) (front back : List ℕ) → Agree m n (front ++ back) → Agree m n front
front_agrees m n [] back h = tt
front_agrees m n (place ∷ front) back h = (h.0, front_agrees m n front back h.1)

same_values : (m n : ℕ → ℕ) (places : List ℕ) → Agree m n places → map m places ≡ map n places
same_values m n [] h = refl
same_values m n (place ∷ places) h = let rest = same_values m n places h.1 in let first : m place ≡ n place = h.0 in cc

first_agrees : (m n : ℕ → ℕ) (first count : ℕ) → 0 < count → Agree m n (range_with_len first count) → m first ≡ n first
first_agrees m n first zero h a = absurd (omega arith)
first_agrees m n first (suc count) h a = a.0

-- where two memories have the same values at the places that one is read at, the other is read there too
record Same (m n : ℕ → ℕ) (facts : StreamFacts) : Type 0 where
  places : places_read m facts ≡ places_read n facts
  verdict : judged m facts ≡ judged n facts

same_headed : (m n : ℕ → ℕ) (facts : StreamFacts) (head : Result Shape CmdError) → headed (m facts.get) facts ≡ head → Agree m n (places_headed m facts head) → (headed (n facts.get) facts ≡ head) × (places_headed m facts head ≡ places_headed n facts head) × (judged_headed m facts head ≡ judged_headed n facts head)
same_headed m n facts (Err error) e h = (ap (λ v. headed v facts) (sym h.0) ∙ e, refl, refl)
same_headed m n facts (Ok shape) e h =
    let ring : Agree m n (ring_places facts shape) = front_agrees m n (ring_places facts shape) (places_decoded (decoded (map m (ring_places facts shape)) facts)) h in
    let passed : IsOkAnd (headed (m facts.get) facts) (λ s. shape.ring_words ≡ s.ring_words) = rw e refl in
    let first : m facts.get ≡ n facts.get = first_agrees m n facts.get shape.ring_words (headed_some (m facts.get) facts shape.ring_words passed) ring in
    let values : map m (ring_places facts shape) ≡ map n (ring_places facts shape) = same_values m n (ring_places facts shape) ring in (
      ap (λ v. headed v facts) (sym first) ∙ e,
      ap (λ xs. ring_places facts shape ++ places_decoded (decoded xs facts)) values,
      ap (λ xs. decoded xs facts >>= λ found. Ok found.command) values,
    )

same_from_agreement : (m n : ℕ → ℕ) (facts : StreamFacts) → Agree m n (places_read m facts) → Same m n facts
same_from_agreement m n facts h = ⊎_elim in_range out_of_range (cases_lt facts.put facts.areas.ring)
  where
    in_range : facts.put < facts.areas.ring → Same m n facts
    in_range r =
        let s = same_headed m n facts (headed (m facts.get) facts) refl (rw (places_in m facts r) at h) in
        record {
          places = places_in m facts r ∙ s.1 ∙ ap (places_headed n facts) (sym s.0) ∙ sym (places_in n facts r);
          verdict = judged_in m facts r ∙ s.2 ∙ ap (judged_headed n facts) (sym s.0) ∙ sym (judged_in n facts r);
        }

    out_of_range : facts.areas.ring ≤ facts.put → Same m n facts
    out_of_range r = record {
      places = places_out m facts r ∙ sym (places_out n facts r);
      verdict = judged_out m facts r ∙ sym (judged_out n facts r);
    }

-- ---- words that a memory has

-- each word has the memory's value at its place
abbrev AreOf : (ℕ → ℕ) → List (ℕ × ℕ) → Type 0
AreOf memory words = AllByRecursion (λ word. word.1 ≡ memory word.0) words

value_of_test : (b : Bool) (memory : ℕ → ℕ) (word : ℕ × ℕ) (words : List (ℕ × ℕ)) (place : ℕ) → (word.0 == place) ≡ b → word.1 ≡ memory word.0 → value_in words place ≡ memory place → (if b then word.1 else value_in words place) ≡ memory place
value_of_test true memory word words place e h k = let same : word.0 ≡ place = grind (arith, nat_tests) in h ∙ ap memory same
value_of_test false memory word words place e h k = k

values_behind : (memory : ℕ → ℕ) (word : ℕ × ℕ) (words : List (ℕ × ℕ)) (places : List ℕ) → word.1 ≡ memory word.0 → Agree (value_in words) memory places → Agree (value_in (word ∷ words)) memory places
values_behind memory word words [] h k = tt
values_behind memory word words (place ∷ places) h k = (value_of_test (word.0 == place) memory word words place refl h k.0, values_behind memory word words places h k.1)

-- at the places of the words, the words have the memory's values
values_agree : (memory : ℕ → ℕ) (words : List (ℕ × ℕ)) → AreOf memory words → Agree (value_in words) memory (places_listed words)
values_agree memory [] h = tt
values_agree memory (word ∷ words) h =
    let same : (word.0 == word.0) ≡ true = grind (arith, nat_tests) in
    let first : value_in (word ∷ words) word.0 ≡ memory word.0 = rw same h.0 in
    (first, values_behind memory word words (places_listed words) h.0 (values_agree memory words h.1))

words_from_places : (memory : ℕ → ℕ) (words : List (ℕ × ℕ)) → AreOf memory words → words ≡ map (λ place. (place, memory place)) (places_listed words)
words_from_places memory [] h = refl
words_from_places memory (word ∷ words) h =
    let first : word ≡ (word.0, memory word.0) = ap (λ v. (word.0, v)) h.0 in
    let rest = words_from_places memory words h.1 in
    cc

pub words_of_memory : WordsOfMemory
unfolding fetched fetched_places
words_of_memory memory words facts p v =
    let are : AreOf memory words = recursion_from_All (λ word. word.1 ≡ memory word.0) words v in
    let agree : Agree (value_in words) memory (places_read (value_in words) facts) = rw p at (values_agree memory words are) in
    words_from_places memory words are ∙ ap (map (λ place. (place, memory place))) (p ∙ (same_from_agreement (value_in words) memory facts agree).places)

listed_pairs : (memory : ℕ → ℕ) (places : List ℕ) → places_listed (map (λ place. (place, memory place)) places) ≡ places
listed_pairs memory [] = refl
listed_pairs memory (place ∷ places) = ap (λ rest. place ∷ rest) (listed_pairs memory places)

pairs_are : (memory : ℕ → ℕ) (places : List ℕ) → AreOf memory (map (λ place. (place, memory place)) places)
pairs_are memory [] = tt
pairs_are memory (place ∷ places) = (refl, pairs_are memory places)

turned : (m n : ℕ → ℕ) (places : List ℕ) → Agree m n places → Agree n m places
turned m n [] h = tt
turned m n (place ∷ places) h = (sym h.0, turned m n places h.1)

pub memory_copied : MemoryCopied
unfolding fetched fetched_places copied
memory_copied memory facts =
    let places = places_read memory facts in
    let words : List (ℕ × ℕ) = map (λ place. (place, memory place)) places in
    let agree : Agree (value_in words) memory places = rw (listed_pairs memory places) at (values_agree memory words (pairs_are memory places)) in
    let same = same_from_agreement memory (value_in words) facts (turned (value_in words) memory places agree) in
    record { places = listed_pairs memory places ∙ same.places; verdict = sym same.verdict }
