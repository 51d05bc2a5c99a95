-- What the clients of a run on threads have read, as the lines of its dumps.
use Rattle.std.proofs.Common.{◌≡◌, ℕ, zero, suc, List, [], ◌∷◌, ◌++◌, ◌+◌, length, map, reverse, refl, ap, ◌∙◌}
use Rattle.std.specs.Prelude.{Result, Ok, Err, IfOk, Vec}
use Rattle.std.specs.declared.alloc.Global.{Global}
use Rattle.std.specs.List.{concat, flat_map, range_with_len}
use Rattle.std.proofs.lemmas.List.{length-map}
use Rattle.std.proofs.lemmas.List.Elements.{All-map}
use Rattle.std.proofs.lemmas.List.FromFn.{length-range_with_len}
use Rattle.gpu_plan.specs.Plans.{PlansData}
use Rattle.wait_hooks.specs.Marks.{mark}
use Rattle.gpu_journal.specs.declared.event.Event.{Event}
use Rattle.gpu_journal.specs.Legal.{IsLegal}
use Rattle.gpu_journal.specs.Complete.{IsComplete}
use Rattle.gpu_journal.specs.Ended.{streams_of}
use Rattle.gpu_journal.specs.Dumps.{dumps_of}
use Rattle.journal_text.specs.Lines.{dump_text}
use Rattle.journal_text.specs.Output.{output, AreDumps, AreDumpsOf}
use Rattle.run_output.specs.Parts.{dump_read_text, dump_texts, look_text, view_texts}
use Rattle.run_output.specs.Runs.{OutputData, behind_text, run_text}
use Rattle.gpu_threads.specs.declared.threaded_run.ThreadedRun.{ThreadedRun}
use Rattle.gpu_threads.specs.Dumps.{AreRead, AreAllRead}
use Rattle.gpu_threads.specs.Runs.{IsThreadedRun}
use Rattle.gpu_hall.specs.Looks.{AreViewerLooks}
use Rattle.gpu_threads.specs.Views.{AreAllLooks}
use Rattle.live_view.specs.declared.look.Look.{Look}
use Rattle.script_answers.specs.Runs.{view_lines, AreViewLines, IsViewedRun, IsOutput, run_ending}
use Rattle.script_answers.proofs.Endings.{none_lost}

-- the text of what was read of some dumps of a stream is one that may be told of them
reads_are_told : (p : PlansData) (h : List Event) (s : ℕ) (dumps : List (ℕ × ℕ)) (reads : List (ℕ × ℕ × ℕ)) → AreRead p h s dumps reads → AreDumps p h s dumps (flat_map (dump_read_text s) reads)
reads_are_told p h s [] [] are = refl
reads_are_told p h s [] (read ∷ reads) are = absurd are
reads_are_told p h s (dump ∷ dumps) [] are = absurd are
reads_are_told p h s (dump ∷ dumps) (read ∷ reads) are =
    let rest = flat_map (dump_read_text s) reads in
    let same : flat_map (dump_read_text s) (read ∷ reads) ≡ dump_text s dump.0 dump.1 read.2 ++ rest = ap (λ (a : ℕ). dump_text s a read.1 read.2 ++ rest) are.0.action ∙ ap (λ (i : ℕ). dump_text s dump.0 i read.2 ++ rest) are.0.place in
    (read.2, rest, are.0.value, same, reads_are_told p h s dumps reads are.1)

-- so is that of what was read of n streams, from stream s on
all_are_told : (p : PlansData) (h : List Event) (s n : ℕ) (all : List (List (ℕ × ℕ × ℕ))) → AreAllRead p h (range_with_len s n) all → AreDumpsOf p h (range_with_len s n) (concat (dump_texts s all))
all_are_told p h s zero [] are = refl
all_are_told p h s zero (reads ∷ more) are = absurd are
all_are_told p h s (suc n) [] are = absurd are
all_are_told p h s (suc n) (reads ∷ more) are =
    (flat_map (dump_read_text s) reads, concat (dump_texts (s + 1) more), reads_are_told p h s (dumps_of p h s) reads are.0, refl, all_are_told p h (s + 1) n more are.1)

-- there is a list of reads for each stream
length_all : (p : PlansData) (h : List Event) (streams : List ℕ) (all : List (List (ℕ × ℕ × ℕ))) → AreAllRead p h streams all → length all ≡ length streams
length_all p h [] [] are = refl
length_all p h [] (reads ∷ more) are = absurd are
length_all p h (s ∷ streams) [] are = absurd are
length_all p h (s ∷ streams) (reads ∷ more) are = ap suc (length_all p h streams more are.1)

pub length_all_read : (p : PlansData) (h : List Event) (all : List (List (ℕ × ℕ × ℕ))) → AreAllRead p h (streams_of p) all → length all ≡ length p.plans
length_all_read p h all are = length_all p h (streams_of p) all are ∙ length-range_with_len 1 (length p.plans)

-- the looks of each viewer, as plain lists
abbrev items_of : List (Vec Look Global) → List (List Look)
items_of looks = map (λ (own : Vec Look Global). own.items) looks

view_text_is : (v : ℕ) (looks : List (Vec Look Global)) → concat (view_texts v looks) ≡ view_lines v (items_of looks)
view_text_is v [] = refl
view_text_is v (looks ∷ more) = ap (λ (l : List ℕ). flat_map (look_text v) looks.items ++ l) (view_text_is (v + 1) more)

all_seen : (p : PlansData) (h : List Event) (viewers : ℕ) (looks : List (Vec Look Global)) → AreAllLooks p h viewers looks → AreViewLines p h viewers (concat (view_texts 1 looks))
all_seen p h viewers looks seen = record {
  looks = items_of looks;
  many = length-map looks (λ (own : Vec Look Global). own.items) ∙ seen.many;
  each = All-map (AreViewerLooks p h) (λ (own : Vec Look Global). own.items) looks seen.each;
  are = view_text_is 1 looks;
}

-- the text of a run whose history is legal and complete, with what its clients have read and its viewers have seen after
-- it, is its output by the rule of threads
pub threads_output : (p : PlansData) (base viewers : ℕ) (run : OutputData) → run.report.plans ≡ p → run.report.base ≡ base → IsLegal p run.report.past → IsComplete p run.report.past → AreAllRead p run.report.past (streams_of p) run.dumps
    → AreAllLooks p run.report.past viewers run.looks → IsOutput (IsViewedRun viewers) p base (run_ending (reverse run.report.past)) (run_text run)
threads_output p base viewers run plans based legal complete are looks =
    let dumps = concat (dump_texts 1 run.dumps) in
    let views = concat (view_texts 1 run.looks) in
    let behind = behind_text run.dumps run.looks in
    let same : run_text run ≡ output p (mark base) run.report.past ++ behind = ap (λ (q : PlansData). output q (mark run.report.base) run.report.past ++ behind) plans ∙ ap (λ (b : ℕ). output p (mark b) run.report.past ++ behind) based in
    record {
      history = run.report.past;
      behind = behind;
      ran = record {
        dumps = dumps;
        views = views;
        run = record { legal = legal; complete = complete; dumped = all_are_told p run.report.past 1 (length p.plans) run.dumps are; kept = none_lost run.report.past };
        seen = all_seen p run.report.past viewers run.looks looks;
        are = refl;
      };
      ends = refl;
      told = same;
    }

-- the same of the output that is made ready of what a run on threads gives, where there is memory for it
pub ready_output : {E : Type 0} (p : PlansData) (base viewers : ℕ) (ran : ThreadedRun) (made : Result OutputData E) → IsThreadedRun p base viewers ran
    → IfOk made (λ run. run.report ≡ ran.report) → IfOk made (λ run. run.dumps ≡ ran.dumps.items) → IfOk made (λ run. run.looks ≡ ran.looks.items)
    → IfOk made (λ run. IsOutput (IsViewedRun viewers) p base (run_ending (reverse run.report.past)) (run_text run))
ready_output p base viewers ran (Err e) is reported dumped looked = tt
ready_output p base viewers ran (Ok run) is reported dumped looked =
    threads_output p base viewers run (rw reported is.plans) (rw reported is.based) (rw reported is.legal) (rw reported is.complete) (rw (reported, dumped) is.dumps) (rw (reported, looked) is.looks)
