-- What put and fill lines say, in two parts: what they begin with, and whether their values are values.
use Rattle.std.proofs.Common.{◌≡◌, ℕ, Bool, true, false, not, List, [], ◌∷◌, length, map, Option, Some, None, Result, Ok, Err, refl, sym, ap, ◌∙◌, ◌+◌, arith}
use Rattle.std.specs.Prelude.{is_some, ◌==◌, ◌&&◌, if◌then◌else◌}
use Rattle.std.specs.List.{list_all}
use Rattle.std.proofs.lemmas.Bool.{both_ways, ne_eqb}
use Rattle.std.proofs.lemmas.List.{length-map}
use Rattle.std.proofs.lemmas.List.Folds.{list_all-map}
use Rattle.script_lines.specs.Text.{words_of}
use Rattle.script_lines.specs.Numbers.{decimal_of, hex_of, is_value, value_of}
use Rattle.script_lines.specs.Reading.{IsFirstRead}
use Rattle.script_lines.specs.declared.fault.Kind.{Kind}
use Rattle.script_lines.specs.declared.fault.Kind.TheVariants.{Word, Number}
use Rattle.script_lines.specs.declared.fault.LineError.{LineError}
use Rattle.script_lines.specs.declared.fault.LineError.TheVariants as errors
use Rattle.script_lines.specs.Outcome.{◌>>=◌, or_error, unless, Fails}
use Rattle.script_lines.specs.Said.{put_begun, put_said, fill_begun, fill_said}

-- ---- from what a line begins with to what it says

-- what a put line says, once it is known what it begins with
abbrev pub put_on : ℕ × List (List ℕ) → Result (ℕ × List ℕ) Kind
put_on begun = do
  _ ← unless (list_all is_value begun.1) Number
  Ok (begun.0, map value_of begun.1)

put_by : (place : Result ℕ Kind) (words : List (List ℕ)) → (place >>= (λ at. unless (list_all is_value words) Number >>= (λ _. Ok (at, map value_of words)))) ≡ ((place >>= (λ at. Ok (at, words))) >>= put_on)
put_by (Ok at) words = refl
put_by (Err kind) words = refl

pub put_said_is : (words : List (List ℕ)) → put_said words ≡ (put_begun words >>= put_on)
unfolding put_begun put_said
put_said_is [] = refl
put_said_is (p ∷ []) = refl
put_said_is (p ∷ v ∷ vs) = put_by (or_error Number (decimal_of p)) (v ∷ vs)

-- what a fill line says, once it is known what it begins with
abbrev pub fill_on : ℕ × ℕ × List (List ℕ) → Result (ℕ × ℕ × List ℕ) Kind
fill_on begun = do
  said ← put_on (begun.1, begun.2)
  Ok (begun.0, said.0, said.1)

put_then : (begun : Result (ℕ × List (List ℕ)) Kind) (memory : ℕ) → ((begun >>= put_on) >>= (λ said. Ok (memory, said.0, said.1))) ≡ ((begun >>= (λ b. Ok (memory, b.0, b.1))) >>= fill_on)
put_then (Ok b) memory = refl
put_then (Err kind) memory = refl

fill_by : (memory : Result ℕ Kind) (words : List (List ℕ)) → (memory >>= (λ m. put_said words >>= (λ said. Ok (m, said.0, said.1)))) ≡ ((memory >>= (λ m. put_begun words >>= (λ b. Ok (m, b.0, b.1)))) >>= fill_on)
fill_by (Ok m) words = ap (λ said. said >>= (λ (s : ℕ × List ℕ). Ok (m, s.0, s.1))) (put_said_is words) ∙ put_then (put_begun words) m
fill_by (Err kind) words = refl

pub fill_said_is : (words : List (List ℕ)) → fill_said words ≡ (fill_begun words >>= fill_on)
unfolding fill_begun fill_said
fill_said_is [] = refl
fill_said_is (m ∷ []) = refl
fill_said_is (m ∷ p ∷ []) = refl
fill_said_is (m ∷ p ∷ v ∷ vs) = fill_by (or_error Number (decimal_of m)) (p ∷ v ∷ vs)

-- ---- what a line begins with, read from its first words

abbrev pub has_some : List (List ℕ) → Bool
has_some words = not (length words == 0)

counts_some : (word : List ℕ) (words : List (List ℕ)) → has_some (word ∷ words) ≡ true
counts_some word words = rw (ne_eqb (length (word ∷ words)) 0 (λ e. omega arith)) refl

begun_behind : (p : List ℕ) (words : List (List ℕ)) → has_some words ≡ true → put_begun (p ∷ words) ≡ (or_error Number (decimal_of p) >>= (λ place. Ok (place, words)))
unfolding put_begun
begun_behind p [] some = cc
begun_behind p (v ∷ vs) some = refl

begun_alone : (p : List ℕ) (words : List (List ℕ)) → has_some words ≡ false → put_begun (p ∷ words) ≡ Err Word
unfolding put_begun
begun_alone p [] none = refl
begun_alone p (v ∷ vs) none = absurd (both_ways _ none (counts_some v vs))

pub put_without_value : (line rest : List ℕ) (said : Option ℕ) → IsFirstRead decimal_of line said rest → has_some (words_of rest) ≡ false → put_begun (words_of line) ≡ Err Word
put_without_value line rest said r none = rw r.begins (begun_alone r.word (words_of rest) none)

pub put_with_place : (line rest : List ℕ) (said : Option ℕ) → IsFirstRead decimal_of line said rest → has_some (words_of rest) ≡ true → put_begun (words_of line) ≡ (or_error Number said >>= (λ place. Ok (place, words_of rest)))
put_with_place line rest said r some = rw (r.begins, r.says) (begun_behind r.word (words_of rest) some)

fill_behind : (m : List ℕ) (memory : ℕ) (words : List (List ℕ)) → decimal_of m ≡ Some memory → fill_begun (m ∷ words) ≡ (put_begun words >>= (λ b. Ok (memory, b.0, b.1)))
unfolding fill_begun put_begun
fill_behind m memory [] is = refl
fill_behind m memory (p ∷ []) is = refl
fill_behind m memory (p ∷ v ∷ vs) is = rw is refl

pub fill_with_memory : (line rest : List ℕ) (memory : ℕ) → IsFirstRead decimal_of line (Some memory) rest → fill_begun (words_of line) ≡ (put_begun (words_of rest) >>= (λ b. Ok (memory, b.0, b.1)))
fill_with_memory line rest memory r = rw r.begins (fill_behind r.word memory (words_of rest) (sym r.says))

pub fill_fails : (e : LineError) (line rest : List ℕ) (memory : ℕ) → IsFirstRead decimal_of line (Some memory) rest → Fails e (put_begun (words_of rest)) → Fails e (fill_begun (words_of line))
fill_fails (errors.Memory refusal) line rest memory r h = tt
fill_fails (errors.Refused kind) line rest memory r h = fill_with_memory line rest memory r ∙ rw h refl

-- ---- whether values are values, told by what each word says

values_all : (words : List (List ℕ)) → list_all is_some (map hex_of words) ≡ list_all is_value words
values_all words = list_all-map is_some hex_of words

module _ (all rest : List (List ℕ)) (said : Option ℕ) (step : map hex_of all ≡ said ∷ map hex_of rest) where
  pub value_counts : length all ≡ length rest + 1
  value_counts = omega (arith, length-map all hex_of, length-map rest hex_of, ap length step)

  pub value_tells : list_all is_value all ≡ (is_some said && list_all is_value rest)
  value_tells = sym (values_all all) ∙ ap (list_all is_some) step ∙ ap (λ rest. is_some said && rest) (values_all rest)

pub none_left : (words : List (List ℕ)) → map hex_of words ≡ [] → words ≡ []
none_left [] e = refl
none_left (word ∷ words) e = cc

-- ---- a loop over values that stops at the first word that is none

module _ (all rest words : List (List ℕ)) (said : Option ℕ) (step : map hex_of all ≡ said ∷ map hex_of rest) (same : list_all is_value all ≡ list_all is_value words) where
  pub values_go : (value : ℕ) → said ≡ Some value → list_all is_value rest ≡ list_all is_value words
  values_go value is = sym (rw is at (value_tells all rest said step)) ∙ same

  pub values_stop : said ≡ None → list_all is_value words ≡ false
  values_stop is = sym same ∙ rw is at (value_tells all rest said step)

module _ (words : List (List ℕ)) where
  pub counted : (all : List (List ℕ)) (count : ℕ) → map hex_of all ≡ [] → list_all is_value all ≡ list_all is_value words → count + length all ≡ length words → Some count ≡ (if list_all is_value words then Some (length words) else None)
  counted all count none same sum =
      let empty = none_left all none in
      let every : list_all is_value words ≡ true = sym same ∙ ap (list_all is_value) empty in
      let total : count ≡ length words = omega (arith, ap length empty) in
      rw every (ap (λ (n : ℕ). Some n) total)

  pub not_counted : list_all is_value words ≡ false → None ≡ (if list_all is_value words then Some (length words) else None)
  not_counted some = rw some refl
