-- Commands whose words stand in one list, one after the other.
use Rattle.std.specs.Prelude.{ℕ, ◌+◌, List, [], ◌∷◌, take, drop}
use Rattle.gpu_fetch.specs.declared.fetched_part.FetchedPart.{FetchedPart}
use Rattle.gpu_fetch.specs.Fetched.{FetchedData}

-- how many words the commands have
abbrev pub words_of_parts : List FetchedPart → ℕ
words_of_parts [] = 0
words_of_parts (part ∷ more) = part.count + words_of_parts more

-- what was fetched of each: the first has the first words of the list, and each further one those after
abbrev pub parts_of : List (ℕ × ℕ) → List FetchedPart → List FetchedData
parts_of list [] = []
parts_of list (part ∷ more) = record { words = take part.count list; verdict = part.verdict; facts = part.facts.value } ∷ parts_of (drop part.count list) more
