-- What the lines of a stream in the making do to it.
use Rattle.std.proofs.Common.{◌≡◌, ℕ, ◌+◌, ◌≤◌, ◌<◌, ◌^◌, true, List, [], ◌∷◌, ◌++◌, length, map, set, replicate, Some, None, Ok, refl, ◌∙◌}
use Rattle.std.specs.Prelude.{codes, decimal}
use Rattle.std.specs.List.{list_all}
use Rattle.std.proofs.lemmas.Bool.{le-leb, and_from}
use Rattle.std.proofs.lemmas.List.{length-map}
use Rattle.std.proofs.lemmas.List.Folds.{list_all-append}
use Rattle.gpu_cmd.specs.declared.areas.Areas.{Areas}
use Rattle.script_lines.specs.Numbers.{decimal_of, is_value, value_of, number_said}
use Rattle.gpu_cmd.specs.declared.priority.Priority.{Priority}
use Rattle.script_lines.specs.Said.{put_said, fill_said, flush_said, pairs_of, none_said}
use Rattle.gpu_plan.specs.declared.plan.Action.{Action}
use Rattle.gpu_plan.specs.declared.plan.Action.TheVariants.{Flush, Finish}
use Rattle.gpu_plan.specs.Plans.{PlanData, stays_open}
use Rattle.gpu_plan.specs.Adding.{Draft, puts, acting, added, with_line, with_puts, with_fill, with_flush, with_finish}
use Rattle.gpu_plan.specs.Script.{numbered}
use Rattle.gpu_plan.proofs.Lawful.{length-puts}
use Rattle.script_laws.proofs.Words.{is_word, line_text}
use Rattle.script_laws.proofs.Values.{hex, is_small, hex_is_word, hex_is_value, hexes_are_words, hexes_are_values}
use Rattle.script_laws.proofs.Taken.{Takes, takes_line}

-- a ring of 64 entries, and memory 0 with 16 words after it
abbrev pub small_areas : Areas
small_areas = record { ring = 64; memories = set (replicate 16 None) 0 (Some (record { base = 64; words = 16 })); results = replicate 16 None }

-- the plan of a stream with these areas
abbrev pub small_plan : ℕ → Priority → List Action → PlanData
small_plan stream priority actions = record { name = record { namespace = 0; id = stream }; areas = small_areas; priority = priority; actions = actions; dumps = [] }

-- a script whose last stream is this one, with this number of actions and flushes in all
abbrev pub at_work : List PlanData → ℕ → Priority → List Action → ℕ → ℕ → Draft
at_work done stream priority actions count flushes = record { done = done; last = Some (small_plan stream priority actions); actions = count; flushes = flushes }

abbrev pub is_open : List Action → Type 0
is_open actions = list_all stays_open actions ≡ true

pub puts_open : (place : ℕ) (values : List ℕ) → is_open (puts place values)
puts_open place [] = refl
puts_open place (value ∷ values) = puts_open (place + 1) values

pub still_open : (actions more : List Action) → is_open actions → is_open more → is_open (actions ++ more)
still_open actions more before behind = list_all-append stays_open actions more ∙ and_from (list_all stays_open actions) (list_all stays_open more) before behind

module _ (done : List PlanData) (stream : ℕ) (priority : Priority) (actions : List Action) (count flushes : ℕ) (lasts : is_open actions) where
  put_taken : (n place value : ℕ) (word : List ℕ) (values : List ℕ) → decimal_of word ≡ Some place → list_all is_value (map hex (value ∷ values)) ≡ true → place + length (value ∷ values) ≤ 64 → count + length (value ∷ values) ≤ 1000000
      → numbered 1 [] n (codes "put" ∷ word ∷ map hex (value ∷ values)) (at_work done stream priority actions count flushes)
      ≡ Ok (at_work done stream priority (actions ++ puts place (map value_of (map hex (value ∷ values)))) (count + length (value ∷ values)) flushes)
  unfolding numbered with_line with_puts put_said acting added
  put_taken n place value word values read good fits few =
      let many : length (map value_of (map hex values)) ≡ length values = length-map (map hex values) value_of ∙ length-map values hex in
      let put : length (puts (place + 1) (map value_of (map hex values))) ≡ length values = length-puts (place + 1) (map value_of (map hex values)) ∙ many in
      rw (read, good, lasts, many, put, le-leb (place + length (value ∷ values)) 64 fits, le-leb (count + length (value ∷ values)) 1000000 few) refl

  fill_taken : (n : ℕ) (word : List ℕ) → is_value word ≡ true → count + 1 ≤ 1000000
      → numbered 1 [] n (codes "fill" ∷ codes "0" ∷ codes "0" ∷ word ∷ []) (at_work done stream priority actions count flushes)
      ≡ Ok (at_work done stream priority (actions ++ puts 64 (value_of word ∷ [])) (count + 1) flushes)
  unfolding numbered with_line with_fill fill_said put_said acting added number_said
  fill_taken n word good few = rw (good, lasts, le-leb (count + 1) 1000000 few) refl

  flush_taken : (n put : ℕ) (word : List ℕ) → decimal_of word ≡ Some put → count + 1 ≤ 1000000 → flushes + 1 ≤ 100000
      → numbered 1 [] n (codes "flush" ∷ word ∷ []) (at_work done stream priority actions count flushes)
      ≡ Ok (at_work done stream priority (actions ++ Flush put [] ∷ []) (count + 1) (flushes + 1))
  unfolding numbered with_line with_flush flush_said pairs_of acting added
  flush_taken n put word read few fewer = rw (read, lasts, le-leb (flushes + 1) 100000 fewer, le-leb (count + 1) 1000000 few) refl

  finish_taken : (n : ℕ) → count + 1 ≤ 1000000
      → numbered 1 [] n (codes "finish" ∷ []) (at_work done stream priority actions count flushes)
      ≡ Ok (at_work done stream priority (actions ++ Finish ∷ []) (count + 1) flushes)
  unfolding numbered with_line with_finish none_said acting added
  finish_taken n few = rw (lasts, le-leb (count + 1) 1000000 few) refl

  pub put_takes : (place value : ℕ) (values : List ℕ) → decimal_of (decimal place) ≡ Some place → is_word (decimal place) ≡ true → list_all is_small (value ∷ values) ≡ true → place + length (value ∷ values) ≤ 64 → count + length (value ∷ values) ≤ 1000000
      → Takes (at_work done stream priority actions count flushes) (line_text (codes "put") (decimal place ∷ map hex (value ∷ values)) ++ codes "\n")
      (at_work done stream priority (actions ++ puts place (map value_of (map hex (value ∷ values)))) (count + length (value ∷ values)) flushes)
  put_takes place value values read word small fits few =
      takes_line (codes "put") (decimal place ∷ map hex (value ∷ values)) _ _ (and_from (is_word (decimal place)) (list_all is_word (map hex (value ∷ values))) word (hexes_are_words (value ∷ values) small))
      (λ n. put_taken n place value (decimal place) values read (hexes_are_values (value ∷ values) small) fits few)

  pub fill_takes : (value : ℕ) → value < 2 ^ 32 → count + 1 ≤ 1000000
      → Takes (at_work done stream priority actions count flushes) (line_text (codes "fill") (codes "0" ∷ codes "0" ∷ hex value ∷ []) ++ codes "\n")
      (at_work done stream priority (actions ++ puts 64 (value_of (hex value) ∷ [])) (count + 1) flushes)
  fill_takes value small few = takes_line (codes "fill") (codes "0" ∷ codes "0" ∷ hex value ∷ []) _ _ (and_from (is_word (hex value)) true (hex_is_word value small) refl) (λ n. fill_taken n (hex value) (hex_is_value value small) few)

  pub flush_takes : (put : ℕ) → decimal_of (decimal put) ≡ Some put → is_word (decimal put) ≡ true → count + 1 ≤ 1000000 → flushes + 1 ≤ 100000
      → Takes (at_work done stream priority actions count flushes) (line_text (codes "flush") (decimal put ∷ []) ++ codes "\n")
      (at_work done stream priority (actions ++ Flush put [] ∷ []) (count + 1) (flushes + 1))
  flush_takes put read word few fewer = takes_line (codes "flush") (decimal put ∷ []) _ _ (and_from (is_word (decimal put)) true word refl) (λ n. flush_taken n put (decimal put) read few fewer)

  pub finish_takes : count + 1 ≤ 1000000 → Takes (at_work done stream priority actions count flushes) (line_text (codes "finish") [] ++ codes "\n") (at_work done stream priority (actions ++ Finish ∷ []) (count + 1) flushes)
  finish_takes few = takes_line (codes "finish") [] _ _ refl (λ n. finish_taken n few)
