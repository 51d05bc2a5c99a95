-- The verdict on words, where their places are those to be fetched.
use Rattle.std.proofs.Common.{◌≡◌, ℕ, zero, suc, ◌+◌, ◌≤◌, ◌<◌, Bool, true, false, cond, eqb, ltb, leb, ◌&&◌, Option, Some, None, Result, Ok, Err, List, [], ◌∷◌, ◌++◌, map, length, length-append, take, drop, refl, sym, ap, ◌∙◌, arith}
use Rattle.std.specs.List.{range_with_len}
use Rattle.std.proofs.lemmas.Bool.{ltb-true, ltb-false, and_parts}
use Rattle.std.proofs.lemmas.Bool.Decides.{nat_tests}
use Rattle.std.proofs.lemmas.List.{take-append-drop, length-map, length-take, nil_from_length, take_at, drop_at}
use Rattle.std.proofs.lemmas.List.FromFn.{length-range_with_len}
use Rattle.gpu_cmd.specs.declared.command.Command.{Command}
use Rattle.gpu_cmd.specs.declared.error.CmdError.{CmdError}
use Rattle.gpu_cmd.specs.declared.error.CmdError.TheVariants.{OutOfBounds}
use Rattle.gpu_cmd.specs.declared.facts.StreamFacts.{StreamFacts}
use Rattle.gpu_cmd.specs.declared.shape.Shape.{Shape}
use Rattle.gpu_cmd.specs.declared.decoded.Decoded.{Decoded}
use Rattle.gpu_cmd.specs.Checks.{headed, decoded}
use Rattle.gpu_cmd.specs.Copied.{value_in, ring_places, places_decoded, places_headed, places_listed, fetched_places, copied, words_at, IsCopy}
use Rattle.gpu_cmd.proofs.Copies.{put_out_of_range, places_in, same_place, values_at, header_stops, header_goes_on}
use Rattle.gpu_cmd.proofs.Heads.{headed_some}
use Rattle.stream_state.specs.Steps.{values_of}
use Rattle.gpu_word.specs.Outcome.{when}
use Rattle.journal_verify.specs.Copy.{is_row, transfer_read, entries_read, header_read, copy_read}

-- ---- places that follow one another

row_words : (from : ℕ) (words : List (ℕ × ℕ)) → is_row from words ≡ true → words ≡ words_at from (values_of words)
row_words from [] e = refl
row_words from (word ∷ words) e =
    let both = and_parts (eqb word.0 from) (is_row (from + 1) words) e in
    let here : word.0 ≡ from = let test = both.0 in grind (arith, nat_tests) in
    (λ i. (here i, word.1) ∷ row_words (from + 1) words both.1 i)

row_places : (from : ℕ) (words : List (ℕ × ℕ)) → is_row from words ≡ true → places_listed words ≡ range_with_len from (length words)
row_places from [] e = refl
row_places from (word ∷ words) e =
    let both = and_parts (eqb word.0 from) (is_row (from + 1) words) e in
    let here : word.0 ≡ from = let test = both.0 in grind (arith, nat_tests) in
    (λ i. here i ∷ row_places (from + 1) words both.1 i)

head_of : List ℕ → ℕ
head_of [] = 0
head_of (x ∷ xs) = x

places_row : (from n : ℕ) (words : List (ℕ × ℕ)) → places_listed words ≡ range_with_len from n → (is_row from words ≡ true) × (length words ≡ n)
unfolding head_of
places_row from zero [] e = (refl, refl)
places_row from zero (word ∷ words) e = absurd (cc)
places_row from (suc n) [] e = absurd (cc)
places_row from (suc n) (word ∷ words) e =
    let here : word.0 ≡ from = ap head_of e in
    let rest = places_row (from + 1) n words (ap (drop 1) e) in
    let test : eqb word.0 from ≡ true = grind (arith, nat_tests) in
    (rw (test, rest.0) refl, ap suc rest.1)

length-places : (words : List (ℕ × ℕ)) → length (places_listed words) ≡ length words
length-places words = length-map words (λ word. word.0)

places_both : (n : ℕ) (words : List (ℕ × ℕ)) → places_listed words ≡ places_listed (take n words) ++ places_listed (drop n words)
places_both zero words = refl
places_both (suc n) [] = refl
places_both (suc n) (word ∷ words) = ap (λ (places : List ℕ). word.0 ∷ places) (places_both n words)

-- where the places begin with a row, so do the words
row_of_places : (from n : ℕ) (words : List (ℕ × ℕ)) (more : List ℕ) → places_listed words ≡ range_with_len from n ++ more → (n ≤ length words) × (is_row from (take n words) ≡ true) × (places_listed (drop n words) ≡ more)
row_of_places from n words more e =
    let count : length words ≡ n + length more = sym (length-places words) ∙ ap length e ∙ length-append (range_with_len from n) more ∙ ap (λ m. m + length more) (length-range_with_len from n) in
    let enough : n ≤ length words = omega arith in
    let front : length (places_listed (take n words)) ≡ n = length-places (take n words) ∙ omega (arith, length-take n words) in
    let both = sym (places_both n words) ∙ e in
    let first : places_listed (take n words) ≡ range_with_len from n = sym (take_at (places_listed (take n words)) (places_listed (drop n words)) n front) ∙ ap (take n) both ∙ take_at (range_with_len from n) more n (length-range_with_len from n) in
    let rest : places_listed (drop n words) ≡ more = sym (drop_at (places_listed (take n words)) (places_listed (drop n words)) n front) ∙ ap (drop n) both ∙ drop_at (range_with_len from n) more n (length-range_with_len from n) in
    (enough, (places_row from n (take n words) first).0, rest)

-- the values of the row
row_values : (from n : ℕ) (words : List (ℕ × ℕ)) → n ≤ length words → is_row from (take n words) ≡ true → map (value_in words) (range_with_len from n) ≡ values_of (take n words)
row_values from n words enough row =
    let values = values_of (take n words) in
    let whole : words ≡ words_at from values ++ drop n words = sym (take-append-drop n words) ∙ ap (λ (front : List (ℕ × ℕ)). front ++ drop n words) (row_words from (take n words) row) in
    let count : length values ≡ n = length-map (take n words) (λ word. word.1) ∙ omega (arith, length-take n words) in
    ap (λ (ws : List (ℕ × ℕ)). map (value_in ws) (range_with_len from n)) whole ∙ ap (λ m. map (value_in (words_at from values ++ drop n words)) (range_with_len from m)) (sym count) ∙ values_at from values (drop n words)

-- ---- the verdict

-- the words are a copy with this answer, or their places are others
abbrev pub IsRead : List (ℕ × ℕ) → StreamFacts → Option (Result Command CmdError) → Type 0
IsRead words facts None = places_listed words ≡ fetched_places words facts → ⊥
IsRead words facts (Some answer) = IsCopy words facts answer

-- an answer where a test holds
if_read : (words : List (ℕ × ℕ)) (facts : StreamFacts) (test : Bool) (answer : Result Command CmdError) → (test ≡ true → IsCopy words facts answer) → (places_listed words ≡ fetched_places words facts → test ≡ true) → IsRead words facts (when test answer)
if_read words facts true answer f g = f refl
if_read words facts false answer f g = λ e. let t = g e in absurd (cc)

-- the places to be fetched begin at get
begins : (words : List (ℕ × ℕ)) (facts : StreamFacts) → facts.put < facts.areas.ring → (rest : List ℕ) × (fetched_places words facts ≡ facts.get ∷ rest)
unfolding fetched_places
begins words facts put = by (headed (value_in words facts.get) facts) refl
  where
    by : (answer : Result Shape CmdError) → headed (value_in words facts.get) facts ≡ answer → (rest : List ℕ) × (fetched_places words facts ≡ facts.get ∷ rest)
    by (Err error) e = ([], places_in (value_in words) facts put ∙ ap (places_headed (value_in words) facts) e)
    by (Ok shape) e = some shape.ring_words (headed_some (value_in words facts.get) facts shape.ring_words (rw e refl)) (places_decoded (decoded (map (value_in words) (ring_places facts shape)) facts)) (places_in (value_in words) facts put ∙ ap (places_headed (value_in words) facts) e)
      where
        some : (n : ℕ) → 0 < n → (more : List ℕ) → fetched_places words facts ≡ range_with_len facts.get n ++ more → (rest : List ℕ) × (fetched_places words facts ≡ facts.get ∷ rest)
        some zero pos more e = absurd (omega arith)
        some (suc n) pos more e = (range_with_len (facts.get + 1) n ++ more, e)

-- what is after the ring words
transfer_is : (words : List (ℕ × ℕ)) (facts : StreamFacts) (shape : Shape) → facts.put < facts.areas.ring → headed (value_in words facts.get) facts ≡ Ok shape → shape.ring_words ≤ length words → is_row facts.get (take shape.ring_words words) ≡ true
    → (decoding : Result Decoded CmdError) → decoded (values_of (take shape.ring_words words)) facts ≡ decoding → IsRead words facts (transfer_read (drop shape.ring_words words) decoding)
unfolding copied fetched_places
transfer_is words facts shape put head enough row decoding d = by decoding d
  where
    n : ℕ
    n = shape.ring_words

    ring : places_listed (take shape.ring_words words) ≡ ring_places facts shape
    ring = row_places facts.get (take shape.ring_words words) row ∙ ap (range_with_len facts.get) (omega (arith, length-take shape.ring_words words))

    by : (decoding : Result Decoded CmdError) → decoded (values_of (take shape.ring_words words)) facts ≡ decoding → IsRead words facts (transfer_read (drop shape.ring_words words) decoding)
    by (Err error) d =
        let r = header_goes_on words facts shape (values_of (take shape.ring_words words)) (Err error) put head (row_values facts.get shape.ring_words words enough row) d in
        if_read words facts (eqb (length (drop shape.ring_words words)) 0) (Err error)
        (λ none. record {
          places = places_both shape.ring_words words ∙ (λ i. ring i ++ places_listed (nil_from_length (drop shape.ring_words words) (grind (arith, nat_tests)) i)) ∙ sym r.1;
          verdict = r.0;
        })
        (λ e.
        let rest = (row_of_places facts.get shape.ring_words words [] (e ∙ r.1)).2 in
        let zero' : length (drop shape.ring_words words) ≡ 0 = sym (length-places (drop shape.ring_words words)) ∙ ap length rest in
        grind (arith, nat_tests))
    by (Ok found) d =
        let r = header_goes_on words facts shape (values_of (take shape.ring_words words)) (Ok found) put head (row_values facts.get shape.ring_words words enough row) d in
        if_read words facts (eqb (length (drop shape.ring_words words)) found.count && is_row found.from (drop shape.ring_words words)) (Ok found.command)
        (λ there.
        let both = and_parts (eqb (length (drop shape.ring_words words)) found.count) (is_row found.from (drop shape.ring_words words)) there in
        let count : length (drop shape.ring_words words) ≡ found.count = let test = both.0 in grind (arith, nat_tests) in
        record {
          places = places_both shape.ring_words words ∙ (λ i. ring i ++ (row_places found.from (drop shape.ring_words words) both.1 ∙ ap (range_with_len found.from) count) i) ∙ sym r.1;
          verdict = r.0;
        })
        (λ e.
        let rest = (row_of_places facts.get shape.ring_words words (range_with_len found.from found.count) (e ∙ r.1)).2 in
        let back = places_row found.from found.count (drop shape.ring_words words) rest in
        let test : eqb (length (drop shape.ring_words words)) found.count ≡ true = let same = back.1 in grind (arith, nat_tests) in
        rw (test, back.0) refl)

-- the ring words, where the header passed; or the header alone
entries_is : (words : List (ℕ × ℕ)) (facts : StreamFacts) → facts.put < facts.areas.ring → (heading : Result Shape CmdError) → headed (value_in words facts.get) facts ≡ heading → (place : ℕ) (rest : List ℕ) → places_listed words ≡ place ∷ rest → place ≡ facts.get
    → IsRead words facts (entries_read words facts heading)
unfolding fetched_places
entries_is words facts put (Err error) head place rest listed here =
    if_read words facts (eqb (length words) 1) (Err error)
    (λ one.
    let single : length rest ≡ 0 = let count : length words ≡ suc (length rest) = sym (length-places words) ∙ ap length listed in grind (arith, nat_tests) in
    header_stops words facts error put head (listed ∙ (λ i. here i ∷ nil_from_length rest single i)))
    (λ e.
    let places : places_listed words ≡ facts.get ∷ [] = e ∙ places_in (value_in words) facts put ∙ ap (places_headed (value_in words) facts) head in
    let count : length words ≡ 1 = sym (length-places words) ∙ ap length places in
    grind (arith, nat_tests))
entries_is words facts put (Ok shape) head place rest listed here = by (leb shape.ring_words (length words)) (is_row facts.get (take shape.ring_words words)) refl refl
  where
    not_there : (places_listed words ≡ fetched_places words facts → (leb shape.ring_words (length words) && is_row facts.get (take shape.ring_words words)) ≡ true)
    not_there e =
        let places : places_listed words ≡ ring_places facts shape ++ places_decoded (decoded (map (value_in words) (ring_places facts shape)) facts) = e ∙ places_in (value_in words) facts put ∙ ap (places_headed (value_in words) facts) head in
        let row = row_of_places facts.get shape.ring_words words _ places in
        let enough : leb shape.ring_words (length words) ≡ true = let le = row.0 in grind (arith, nat_tests) in
        rw (enough, row.1) refl

    by : (a b : Bool) → leb shape.ring_words (length words) ≡ a → is_row facts.get (take shape.ring_words words) ≡ b
        → IsRead words facts (cond (a && b) (transfer_read (drop shape.ring_words words) (decoded (values_of (take shape.ring_words words)) facts)) None)
    by true true ea eb = let enough : shape.ring_words ≤ length words = grind (arith, nat_tests) in transfer_is words facts shape put head enough eb (decoded (values_of (take shape.ring_words words)) facts) refl
    by true false ea eb = λ e. let t = not_there e in absurd (cc)
    by false b ea eb = λ e. let t = not_there e in absurd (cc)

header_is : (words : List (ℕ × ℕ)) (facts : StreamFacts) → facts.put < facts.areas.ring → IsRead words facts (header_read words facts)
header_is [] facts put = λ e. let start = begins [] facts put in let none : [] ≡ facts.get ∷ start.0 = e ∙ start.1 in absurd (cc)
header_is (word ∷ words) facts put = by (eqb word.0 facts.get) refl
  where
    by : (b : Bool) → eqb word.0 facts.get ≡ b → IsRead (word ∷ words) facts (cond b (entries_read (word ∷ words) facts (headed word.1 facts)) None)
    by true e =
        let here : word.0 ≡ facts.get = grind (arith, nat_tests) in
        let value : value_in (word ∷ words) facts.get ≡ word.1 = ap (value_in (word ∷ words)) (sym here) ∙ same_place word.0 word.1 words in
        entries_is (word ∷ words) facts put (headed word.1 facts) (ap (λ v. headed v facts) value) word.0 (places_listed words) refl here
    by false e = λ same.
        let start = begins (word ∷ words) facts put in
        let first : word.0 ≡ facts.get = ap head_first (same ∙ start.1) in
        let test : eqb word.0 facts.get ≡ true = grind (arith, nat_tests) in
        absurd (cc)
      where
        head_first : List ℕ → ℕ
        head_first [] = 0
        head_first (x ∷ xs) = x

pub copy_is : (words : List (ℕ × ℕ)) (facts : StreamFacts) → IsRead words facts (copy_read words facts)
unfolding copy_read
copy_is words facts = by (ltb facts.put facts.areas.ring) refl
  where
    by : (b : Bool) → ltb facts.put facts.areas.ring ≡ b → IsRead words facts (cond b (header_read words facts) (when (eqb (length words) 0) (Err OutOfBounds)))
    by true e = header_is words facts (ltb-true _ _ e)
    by false e =
        let out = put_out_of_range words facts (ltb-false _ _ e) in
        if_read words facts (eqb (length words) 0) (Err OutOfBounds)
        (λ none. let zero' : length words ≡ 0 = grind (arith, nat_tests) in record { places = ap places_listed (nil_from_length words zero') ∙ sym out.1; verdict = out.0 })
        (λ same. let zero' : length words ≡ 0 = sym (length-places words) ∙ ap length (same ∙ out.1) in grind (arith, nat_tests))
