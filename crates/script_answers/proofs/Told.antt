-- What a run on threads prints tells its history.
use Rattle.std.proofs.Common.{◌≡◌, ℕ, ◌+◌, List, [], ◌∷◌, ◌++◌, refl, sym, ap, ◌∙◌, append_assoc}
use Rattle.std.specs.List.{flat_map}
use Rattle.gpu_plan.specs.Plans.{PlansData}
use Rattle.wait_hooks.specs.Marks.{mark}
use Rattle.gpu_journal.specs.declared.event.Event.{Event}
use Rattle.journal_text.specs.Output.{output}
use Rattle.script_laws.specs.Laws.{look_lines}
use Rattle.script_laws.proofs.Outputs.{same_threaded_run_is_same_history}
use Rattle.live_view.specs.declared.look.Look.{Look}
use Rattle.run_output.specs.Parts.{look_text}
use Rattle.script_answers.specs.Runs.{view_lines, IsViewedRun}
use Rattle.script_answers.specs.Laws.{SameViewedRunIsSameHistory}

-- the looks of a viewer before those of others, each with its viewer, its number of events and its sum
abbrev with_looks : ℕ → List Look → List (ℕ × ℕ × ℕ) → List (ℕ × ℕ × ℕ)
with_looks v [] rest = rest
with_looks v (look ∷ looks) rest = (v, look.events, look.sum) ∷ with_looks v looks rest

abbrev all_looks : ℕ → List (List Look) → List (ℕ × ℕ × ℕ)
all_looks v [] = []
all_looks v (looks ∷ more) = with_looks v looks (all_looks (v + 1) more)

its_lines : (v : ℕ) (looks : List Look) (rest : List (ℕ × ℕ × ℕ)) → flat_map (look_text v) looks ++ look_lines rest ≡ look_lines (with_looks v looks rest)
its_lines v [] rest = refl
its_lines v (look ∷ looks) rest = append_assoc (look_text v look) (flat_map (look_text v) looks) (look_lines rest) ∙ ap (λ (l : List ℕ). look_text v look ++ l) (its_lines v looks rest)

all_lines : (v : ℕ) (looks : List (List Look)) → view_lines v looks ≡ look_lines (all_looks v looks)
all_lines v [] = refl
all_lines v (looks ∷ more) = ap (λ (l : List ℕ). flat_map (look_text v) looks ++ l) (all_lines (v + 1) more) ∙ its_lines v looks (all_looks (v + 1) more)

shown : (p : PlansData) (viewers : ℕ) (h : List Event) (x : List ℕ) (run : IsViewedRun viewers p h x) → x ≡ run.dumps ++ look_lines (all_looks 1 run.seen.looks)
shown p viewers h x run = run.are ∙ ap (λ (l : List ℕ). run.dumps ++ l) (run.seen.are ∙ all_lines 1 run.seen.looks)

pub same_viewed_run_is_same_history : SameViewedRunIsSameHistory
same_viewed_run_is_same_history p q viewers others base other g h x y lawful lawful' run run' same =
    same_threaded_run_is_same_history p q (mark base) (mark other) g h run.dumps run'.dumps (all_looks 1 run.seen.looks) (all_looks 1 run'.seen.looks)
    lawful lawful' run.run.legal run'.run.legal run.run.dumped run'.run.dumped
    (ap (λ (l : List ℕ). output p (mark base) g ++ l) (sym (shown p viewers g x run)) ∙ same ∙ ap (λ (l : List ℕ). output q (mark other) h ++ l) (shown q others h y run'))
