-- The names of the streams of a script are lawful.
use Rattle.std.proofs.Common.{◌≡◌, ℕ, ◌+◌, Bool, true, false, cond, List, [], ◌∷◌, map, Option, Some, None, Result, Ok, Err, IfOk, refl}
use Rattle.script_lines.specs.Text.{lines_of, words_of}
use Rattle.script_lines.specs.declared.fault.Kind.{Kind}
use Rattle.script_lines.specs.Outcome.{◌>>=◌}
use Rattle.script_lines.specs.Naming.{fence_names}
use Rattle.gpu_cmd.specs.declared.name.Name.{Name}
use Rattle.gpu_plan.specs.Plans.{PlansData}
use Rattle.gpu_plan.specs.Named.{names_in, AreLawfulNames}
use Rattle.gpu_plan.specs.Adding.{Draft, no_stream, streams}
use Rattle.gpu_plan.specs.Script.{is_skipped, version_of, numbered, from_body, from_version, from_head, script_of}
use Rattle.gpu_plan.proofs.Apart.{lawful_none}
use Rattle.gpu_plan.proofs.Named.{numbered_lawful}

abbrev AreNamed : PlansData → Type 0
AreNamed script = AreLawfulNames script.version (names_in script.plans)

if_right : (r : Result Draft (ℕ × Kind)) (f : Draft → Result PlansData (ℕ × Kind)) → ((d : Draft) → r ≡ Ok d → IfOk (f d) AreNamed) → IfOk (r >>= f) AreNamed
if_right (Ok d) f h = h d refl
if_right (Err e) f h = tt

body_named : (version : ℕ) (names : List Name) (n : ℕ) (d : Draft) (lines : List (List (List ℕ))) → AreLawfulNames version (names_in (streams d)) → IfOk (from_body version names n d lines) AreNamed
unfolding from_body
body_named version names n d [] lawful = lawful
body_named version names n d (line ∷ lines) lawful =
    if_right (numbered version names n line d) (λ next. from_body version names (n + 1) next lines) (λ next taken. body_named version names (n + 1) next lines (numbered_lawful version names n line d next taken lawful))

version_named : (version : Option ℕ) (n : ℕ) (lines : List (List (List ℕ))) → IfOk (from_version version n lines) AreNamed
unfolding from_version
version_named None n lines = tt
version_named (Some version) n lines = body_named version (fence_names version lines) (n + 1) no_stream lines (lawful_none version)

-- what either of two answers tells, the one that is taken tells
pub either : (P : PlansData → Type 0) (b : Bool) (r s : Result PlansData (ℕ × Kind)) → IfOk r P → IfOk s P → IfOk (cond b r s) P
either P true r s h k = h
either P false r s h k = k

head_named : (n : ℕ) (lines : List (List (List ℕ))) → IfOk (from_head n lines) AreNamed
unfolding from_head
head_named n [] = tt
head_named n (line ∷ lines) = either AreNamed (is_skipped line) (from_head (n + 1) lines) (from_version (version_of line) n lines) (head_named (n + 1) lines) (version_named (version_of line) n lines)

pub names_are_lawful : (text : List ℕ) → IfOk (script_of text) AreNamed
unfolding script_of
names_are_lawful text = head_named 1 (map words_of (lines_of text))
