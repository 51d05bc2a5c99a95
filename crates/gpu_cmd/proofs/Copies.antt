-- A fetch that goes by the head and then by the decoder copies what must be copied.
use Rattle.std.proofs.Common.{◌≡◌, ℕ, zero, suc, ◌+◌, ◌<◌, ◌≤◌, true, false, Result, Ok, Err, List, [], ◌∷◌, ◌++◌, length, map, refl, sym, ap, ◌∙◌, arith}
use Rattle.std.specs.Prelude.{◌==◌, nat_lt, slice_index}
use Rattle.std.specs.List.{range_with_len}
use Rattle.std.proofs.lemmas.Bool.Decides.{nat_tests}
use Rattle.std.proofs.lemmas.List.{map-append, append-nil}
use Rattle.gpu_cmd.specs.declared.command.Command.{Command}
use Rattle.gpu_cmd.specs.declared.error.CmdError.{CmdError}
use Rattle.gpu_cmd.specs.declared.error.CmdError.TheVariants.{OutOfBounds}
use Rattle.gpu_cmd.specs.declared.facts.StreamFacts.{StreamFacts}
use Rattle.gpu_cmd.specs.declared.shape.Shape.{Shape}
use Rattle.gpu_cmd.specs.declared.decoded.Decoded.{Decoded}
use Rattle.gpu_word.specs.Outcome.{◌>>=◌}
use Rattle.gpu_cmd.specs.Checks.{headed, decoded}
use Rattle.gpu_cmd.specs.Copied.{copied, fetched_places, judged, places_read, places_headed, places_decoded, ring_places, value_in, words_at, places_listed, IsCopy}
use Rattle.gpu_cmd.specs.Laws.{PutOutOfRange, HeaderRefused, EntriesRefused, CommandCopied}
use Rattle.gpu_cmd.proofs.Heads.{headed_some}

-- ---- the definitions, step by step

pub judged_out : (memory : ℕ → ℕ) (facts : StreamFacts) → facts.areas.ring ≤ facts.put → judged memory facts ≡ Err OutOfBounds
unfolding judged
judged_out memory facts h = let e : nat_lt facts.put facts.areas.ring ≡ false = grind (arith, nat_tests) in rw e refl

pub places_out : (memory : ℕ → ℕ) (facts : StreamFacts) → facts.areas.ring ≤ facts.put → places_read memory facts ≡ []
unfolding places_read
places_out memory facts h = let e : nat_lt facts.put facts.areas.ring ≡ false = grind (arith, nat_tests) in rw e refl

-- what follows the header
abbrev pub judged_headed : (ℕ → ℕ) → StreamFacts → Result Shape CmdError → Result Command CmdError
judged_headed memory facts head = head >>= λ shape. decoded (map memory (ring_places facts shape)) facts >>= λ found. Ok found.command

pub judged_in : (memory : ℕ → ℕ) (facts : StreamFacts) → facts.put < facts.areas.ring → judged memory facts ≡ judged_headed memory facts (headed (memory facts.get) facts)
unfolding judged
judged_in memory facts h = let e : nat_lt facts.put facts.areas.ring ≡ true = grind (arith, nat_tests) in rw e refl

pub places_in : (memory : ℕ → ℕ) (facts : StreamFacts) → facts.put < facts.areas.ring → places_read memory facts ≡ places_headed memory facts (headed (memory facts.get) facts)
unfolding places_read
places_in memory facts h = let e : nat_lt facts.put facts.areas.ring ≡ true = grind (arith, nat_tests) in rw e refl

-- ---- the values of words that stand at places in a row

pub same_place : (place value : ℕ) (words : List (ℕ × ℕ)) → value_in ((place, value) ∷ words) place ≡ value
same_place place value words = let e : (place == place) ≡ true = grind (arith, nat_tests) in rw e refl

other_place : (place value p : ℕ) (words : List (ℕ × ℕ)) → place < p → value_in ((place, value) ∷ words) p ≡ value_in words p
other_place place value p words h = let e : (place == p) ≡ false = grind (arith, nat_tests) in rw e refl

later_places : (place value p n : ℕ) (words : List (ℕ × ℕ)) → place < p → map (value_in ((place, value) ∷ words)) (range_with_len p n) ≡ map (value_in words) (range_with_len p n)
later_places place value p zero words h = refl
later_places place value p (suc n) words h =
    let first = other_place place value p words h in
    let rest = later_places place value (p + 1) n words (omega arith) in
    cc

pub values_at : (place : ℕ) (values : List ℕ) (more : List (ℕ × ℕ)) → map (value_in (words_at place values ++ more)) (range_with_len place (length values)) ≡ values
values_at place [] more = refl
values_at place (value ∷ values) more =
    let first = same_place place value (words_at (place + 1) values ++ more) in
    let skip = later_places place value (place + 1) (length values) (words_at (place + 1) values ++ more) (omega arith) in
    let rest = values_at (place + 1) values more in
    cc

first_at : (place : ℕ) (values : List ℕ) (more : List (ℕ × ℕ)) → 0 < length values → value_in (words_at place values ++ more) place ≡ slice_index values 0
first_at place [] more h = absurd (omega arith)
first_at place (value ∷ values) more h = same_place place value (words_at (place + 1) values ++ more)

pub places_at : (place : ℕ) (values : List ℕ) → places_listed (words_at place values) ≡ range_with_len place (length values)
places_at place [] = refl
places_at place (value ∷ values) = ap (λ places. place ∷ places) (places_at (place + 1) values)

-- one more value at the place after the last
pub words_at_push : (place : ℕ) (values : List ℕ) (value : ℕ) → words_at place (values ++ value ∷ []) ≡ words_at place values ++ (place + length values, value) ∷ []
words_at_push place [] value = ap (λ p. (p, value) ∷ []) (omega arith)
words_at_push place (first ∷ values) value =
    let same : (place + 1) + length values ≡ place + length (first ∷ values) = omega arith in
    ap (λ words. (place, first) ∷ words) (words_at_push (place + 1) values value ∙ ap (λ p. words_at (place + 1) values ++ (p, value) ∷ []) same)

-- ---- the laws

pub put_out_of_range : PutOutOfRange
unfolding copied fetched_places
put_out_of_range words facts h = (judged_out (value_in words) facts h, places_out (value_in words) facts h)

-- a header that is refused
pub header_stops : (words : List (ℕ × ℕ)) (facts : StreamFacts) (error : CmdError) → facts.put < facts.areas.ring → headed (value_in words facts.get) facts ≡ Err error → places_listed words ≡ facts.get ∷ [] → IsCopy words facts (Err error)
unfolding copied fetched_places
header_stops words facts error h e p = record {
  places = p ∙ sym (places_in (value_in words) facts h ∙ ap (places_headed (value_in words) facts) e);
  verdict = judged_in (value_in words) facts h ∙ ap (judged_headed (value_in words) facts) e;
}

pub header_refused : HeaderRefused
header_refused facts entry error h e = header_stops (words_at facts.get (entry ∷ [])) facts error h (rw (same_place facts.get entry []) e) refl

-- what follows the ring words
abbrev judged_decoded : Result Decoded CmdError → Result Command CmdError
judged_decoded decoding = decoding >>= λ found. Ok found.command

-- a header that passed, with its ring words listed
pub header_goes_on : (words : List (ℕ × ℕ)) (facts : StreamFacts) (shape : Shape) (values : List ℕ) (decoding : Result Decoded CmdError) → facts.put < facts.areas.ring → headed (value_in words facts.get) facts ≡ Ok shape → map (value_in words) (ring_places facts shape) ≡ values → decoded values facts ≡ decoding → (judged (value_in words) facts ≡ judged_decoded decoding) × (places_read (value_in words) facts ≡ ring_places facts shape ++ places_decoded decoding)
header_goes_on words facts shape values decoding h e v d =
    let found : decoded (map (value_in words) (ring_places facts shape)) facts ≡ decoding = ap (λ xs. decoded xs facts) v ∙ d in (
      judged_in (value_in words) facts h ∙ ap (judged_headed (value_in words) facts) e ∙ ap judged_decoded found,
      places_in (value_in words) facts h ∙ ap (places_headed (value_in words) facts) e ∙ ap (λ r. ring_places facts shape ++ places_decoded r) found,
    )

-- the values of a header that passed are some
some_values : (facts : StreamFacts) (shape : Shape) (values : List ℕ) → headed (slice_index values 0) facts ≡ Ok shape → length values ≡ shape.ring_words → 0 < length values
some_values facts shape values e n = headed_some (slice_index values 0) facts (length values) (rw e n)

pub entries_refused : EntriesRefused
unfolding copied fetched_places
entries_refused facts shape values error h e n d =
    let some = some_values facts shape values e n in
    let words : List (ℕ × ℕ) = words_at facts.get values in
    let whole : words ++ [] ≡ words = append-nil words in
    let first : value_in words facts.get ≡ slice_index values 0 = rw (← whole) (first_at facts.get values [] some) in
    let all : map (value_in words) (range_with_len facts.get (length values)) ≡ values = rw (← whole) (values_at facts.get values []) in
    let r = header_goes_on words facts shape values (Err error) h (ap (λ v. headed v facts) first ∙ e) (ap (λ k. map (value_in words) (range_with_len facts.get k)) (sym n) ∙ all) d in
    record {
      places = places_at facts.get values ∙ ap (range_with_len facts.get) n ∙ sym (append-nil (ring_places facts shape)) ∙ sym r.1;
      verdict = r.0;
    }

pub command_copied : CommandCopied
unfolding copied fetched_places
command_copied facts shape values found more h e n d m =
    let some = some_values facts shape values e n in
    let rest : List (ℕ × ℕ) = words_at found.from more in
    let words : List (ℕ × ℕ) = words_at facts.get values ++ rest in
    let first : value_in words facts.get ≡ slice_index values 0 = first_at facts.get values rest some in
    let all : map (value_in words) (range_with_len facts.get (length values)) ≡ values = values_at facts.get values rest in
    let r = header_goes_on words facts shape values (Ok found) h (ap (λ v. headed v facts) first ∙ e) (ap (λ k. map (value_in words) (range_with_len facts.get k)) (sym n) ∙ all) d in
    let front : places_listed (words_at facts.get values) ≡ ring_places facts shape = places_at facts.get values ∙ ap (range_with_len facts.get) n in
    let back : places_listed rest ≡ range_with_len found.from found.count = places_at found.from more ∙ ap (range_with_len found.from) m in
    let joined : places_listed (words_at facts.get values) ++ places_listed rest ≡ ring_places facts shape ++ range_with_len found.from found.count = cc in
    record {
      places = map-append (λ word. word.0) (words_at facts.get values) rest ∙ joined ∙ sym r.1;
      verdict = r.0;
    }
