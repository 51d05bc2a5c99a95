-- What the words of the command line ask for.
use Rattle.std.specs.Prelude.{ℕ, ◌-◌, ◌≤◌, ◌==◌, Bool, true, false, ◌&&◌, nat_le, List, [], ◌∷◌, take, drop, Option, Some, None, option_map, option_and_then, codes, bytes_eq, if◌then◌else◌}
use Rattle.script_lines.specs.Numbers.{decimal_of}
use Rattle.script_answers.specs.declared.command.Command.{Command}
use Rattle.script_answers.specs.declared.command.Command.TheVariants.{Run, RunOnThreads, Check, Generate, Trial, Verify, VerifyWhole}
use Rattle.script_answers.specs.declared.command.TheConstants.{MOST_WORKERS}
use Rattle.script_generator.specs.declared.script.TheConstants.{MOST_SIZE}
use Rattle.live_view.specs.declared.making.TheConstants.{MOST_VIEWERS}

-- a size is a number from 1 to 2000
abbrev pub size_said : Option ℕ → Option ℕ
size_said (Some number) = if nat_le 1 number && nat_le number MOST_SIZE then Some number else None
size_said None = None

-- a command with a size and a seed, where both are there
abbrev pub with_both : (ℕ → ℕ → Command) → Option ℕ → Option ℕ → Option Command
with_both command (Some size) (Some seed) = Some (command size seed)
with_both command _ _ = None

-- the number of a word of one decimal digit, from one character to another
abbrev pub digit_in : ℕ → ℕ → List ℕ → Option ℕ
digit_in least most (digit ∷ []) = if nat_le least digit && nat_le digit most then Some (digit - 48) else None
digit_in least most _ = None

-- the number of workers that a word says: it is one of the words `0` to `8`
abbrev pub workers_in : List ℕ → Option ℕ
workers_in = digit_in 48 56

-- what stands after `--workers=` in a word
abbrev pub behind_equals : List ℕ → Option (List ℕ)
behind_equals word = if bytes_eq (take 10 word) (codes "--workers=") then Some (drop 10 word) else None

-- a run with a given number of workers; with none it is on one thread
abbrev pub run_with : ℕ → Command
run_with workers = if workers == 0 then Run else RunOnThreads workers 0

-- the number of viewers that a word says: it is one of the words `1` to `4`
abbrev pub views_in : List ℕ → Option ℕ
views_in = digit_in 49 52

-- a run with a given number of workers and viewers, where both are there; without workers there are no viewers
abbrev pub viewed_with : Option ℕ → Option ℕ → Option Command
viewed_with (Some workers) (Some views) = if workers == 0 then None else Some (RunOnThreads workers views)
viewed_with _ _ = None

-- one word: `run`, `check` or `verify`
abbrev pub of_one : List ℕ → Option Command
of_one name =
    if bytes_eq name (codes "run") then Some Run
    else (if bytes_eq name (codes "check") then Some Check
    else (if bytes_eq name (codes "verify") then Some Verify else None))

-- a word after `verify`: `--whole`
abbrev pub of_verify : List ℕ → Option Command
of_verify word = if bytes_eq word (codes "--whole") then Some VerifyWhole else None

-- two words: `run --workers=N`, or `verify --whole`
abbrev pub of_two : List ℕ → List ℕ → Option Command
of_two name word =
    if bytes_eq name (codes "verify") then of_verify word
    else (if bytes_eq name (codes "run") then option_map run_with (option_and_then workers_in (behind_equals word)) else None)

-- two words after `run`: `--workers N`
abbrev pub of_workers : List ℕ → List ℕ → Option Command
of_workers first second =
    if bytes_eq first (codes "--workers") then option_map run_with (workers_in second) else None

-- three words: `run --workers N`, `generate SIZE SEED`, or `trial SIZE SEED`, where SIZE and SEED are numbers of a script
abbrev pub of_three : List ℕ → List ℕ → List ℕ → Option Command
of_three name first second =
    if bytes_eq name (codes "run") then of_workers first second
    else (if bytes_eq name (codes "generate") then with_both Generate (size_said (decimal_of first)) (decimal_of second)
    else (if bytes_eq name (codes "trial") then with_both Trial (size_said (decimal_of first)) (decimal_of second)
    else None))

-- four words after `run`: `--workers N --views V`
abbrev pub of_views : List ℕ → List ℕ → List ℕ → List ℕ → Option Command
of_views first second third fourth =
    if bytes_eq first (codes "--workers") && bytes_eq third (codes "--views") then viewed_with (workers_in second) (views_in fourth)
    else None

-- five words: `run --workers N --views V`
abbrev pub of_five : List ℕ → List ℕ → List ℕ → List ℕ → List ℕ → Option Command
of_five name first second third fourth =
    if bytes_eq name (codes "run") then of_views first second third fourth else None

-- the command that some words are, where they are one
abbrev pub command_of : List (List ℕ) → Option Command
command_of (name ∷ []) = of_one name
command_of (name ∷ word ∷ []) = of_two name word
command_of (name ∷ first ∷ second ∷ []) = of_three name first second
command_of (name ∷ first ∷ second ∷ third ∷ fourth ∷ []) = of_five name first second third fourth
command_of _ = None

-- the words are plain: they ask for no run on threads
abbrev pub is_plain : Option Command → Bool
is_plain (Some (RunOnThreads workers views)) = false
is_plain _ = true

-- a size that was read is one that the generator takes, and numbers of workers and viewers are those that a run on threads may have
abbrev pub IsSized : Command → Type 0
IsSized Run = Unit {0}
IsSized (RunOnThreads workers views) = (1 ≤ workers) × (workers ≤ MOST_WORKERS) × (views ≤ MOST_VIEWERS)
IsSized Check = Unit {0}
IsSized Verify = Unit {0}
IsSized VerifyWhole = Unit {0}
IsSized (Generate size seed) = (1 ≤ size) × (size ≤ MOST_SIZE)
IsSized (Trial size seed) = (1 ≤ size) × (size ≤ MOST_SIZE)
