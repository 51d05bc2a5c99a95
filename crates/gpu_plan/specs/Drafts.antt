-- A draft as its definition sees it.
use Rattle.std.specs.Prelude.{◌≡◌, ℕ, Bool, true, false, List, length, map, Option, Some, Result, Ok, Err, is_ok}
use Rattle.std.specs.List.{list_all}
use Rattle.script_lines.specs.Numbers.{is_value, value_of}
use Rattle.script_lines.specs.Left.{values_left}
use Rattle.script_lines.specs.declared.reading.Values.{Values}
use Rattle.script_lines.specs.declared.fault.Kind.{Kind}
use Rattle.script_lines.specs.declared.fault.LineError.{LineError}
use Rattle.script_lines.specs.Outcome.{Gives}
use Rattle.gpu_plan.specs.Adding as adding
use Rattle.gpu_plan.specs.declared.draft.Draft.{Draft}
use Rattle.gpu_plan.specs.declared.begun.Begun.{Begun}

abbrev pub shown : Draft → adding.Draft
shown d = record { done = d.done.items; last = d.last; actions = d.actions; flushes = d.flushes }

-- a draft whose stream begun last has this plan
abbrev pub begun : Begun → adding.Draft
begun b = record { done = b.done.items; last = Some b.plan; actions = b.actions; flushes = b.flushes }

-- what a draft has become is what is said, or this is the kind that is wrong
abbrev pub Becomes : Draft → Result (Unit {0}) LineError → Result adding.Draft Kind → Type 0
Becomes draft result said = Gives (λ done. shown draft) result said

-- the draft with what words say as values put into the ring or a transfer memory
abbrev pub words_into : Option ℕ → ℕ → Values → Draft → Result adding.Draft Kind
words_into memory place values d =
    adding.put_into memory place (map value_of (values_left values)) (shown d)

-- where it was done, the words are values, and the draft with these put is the second
abbrev pub WerePut : Option ℕ → ℕ → Values → Draft → Draft → Bool → Type 0
WerePut memory place values before after done =
    done ≡ true → (list_all is_value (values_left values) ≡ true)
    × (words_into memory place values before ≡ Ok (shown after))

-- where it was not done, a word is no value, or the values may not be put
abbrev pub WereRefused : Option ℕ → ℕ → Values → Draft → Bool → Type 0
WereRefused memory place values before done =
    done ≡ false → list_all is_value (values_left values) ≡ true
    → is_ok (words_into memory place values before) ≡ false

-- where a given number of values may not be put, this is why
abbrev pub TellsWhy : Option ℕ → ℕ → ℕ → Draft → Kind → Type 0
TellsWhy memory place count d kind =
    (values : List ℕ) → length values ≡ count
    → is_ok (adding.put_into memory place values (shown d)) ≡ false
    → adding.put_into memory place values (shown d) ≡ Err kind
