-- What a run prints is found to be right.
use Rattle.std.proofs.Common.{◌≡◌, ℕ, zero, suc, ◌+◌, ◌<◌, ◌≤◌, true, false, inl, inr, List, [], ◌∷◌, ◌++◌, length, map, replicate, get_or, reverse, Some, Result, Ok, refl, sym, ap, subst, ◌∙◌, arith}
use Rattle.std.specs.Prelude.{IfOk, option_map, slice_get}
use Rattle.std.specs.List.{All, concat, flat_map, range_with_len}
use Rattle.std.specs.List.Sorted.{IsNonDecreasingBy}
use Rattle.std.proofs.lemmas.List.{append-nil, length-map, length-reverse, reverse-reverse}
use Rattle.std.proofs.lemmas.List.Elements.{All-nil, All-head, All-tail, All-append}
use Rattle.std.proofs.lemmas.List.Folds.{concat-append}
use Rattle.gpu_store.specs.Images.{Pictures}
use Rattle.script_lines.specs.declared.fault.Kind.{Kind}
use Rattle.gpu_plan.specs.Plans.{PlansData}
use Rattle.wait_hooks.specs.Marks.{mark}
use Rattle.gpu_journal.specs.declared.event.Event.{Event}
use Rattle.gpu_journal.specs.World.{replay}
use Rattle.gpu_journal.specs.Ended.{streams_of}
use Rattle.journal_text.specs.Picture.{picture_text}
use Rattle.journal_text.specs.Text.{event_text, journal_text}
use Rattle.journal_text.specs.Lines.{view_text}
use Rattle.journal_text.specs.Output.{output}
use Rattle.journal_text.specs.Parts.{lines_of_streams, lines_of_marks}
use Rattle.journal_text.proofs.Parts.{concat-map, events_text, streams_text, marks_text}
use Rattle.serial_laws.specs.Scripts.{AreLawfulPlans}
use Rattle.script_laws.proofs.Scripts.{scripts_are_lawful}
use Rattle.script_laws.proofs.Outputs.{behind_journal, output_flat}
use Rattle.journal_verify.specs.Followed.{sum_after}
use Rattle.verify_input.specs.Reading.{HasNumbersOfWords, whole_lines}
use Rattle.verify_input.specs.Cuts.{IsLine}
use Rattle.verify_input.specs.Parts.{script_part}
use Rattle.verify_input.specs.Found.{script_in, head_of}
use Rattle.verify_input.specs.Due.{Look, LastLook, picture_lines, dumps_due, looks_due, dues, AreTakenOff, AreDue}
use Rattle.verify_input.specs.Whole.{IsRightWhole, FindsWhole}
use Rattle.verify_input.specs.declared.finding.Finding.TheVariants.{Yes}
use Rattle.verify_input.proofs.Wholly.{output_lines}
use Rattle.verify_input.proofs.Yeses.{right_so}
use Rattle.verify_input.proofs.Feeds.{view_line}
use Rattle.verify_input.proofs.Labels.{Ends, IsView, view_ends, view_own, all_lines}
use Rattle.verify_input.proofs.Offered.{Offered, stops_all, offered_none, offered_both, all_dumps_offered, whole_concat, event_lines, tells_of, heads_are, all_due, all_are, all_stop, all_viewers}
use Rattle.live_view.specs.declared.look.Look as look
use Rattle.gpu_hall.specs.Looks.{IsLookOf, AreViewerLooks}
use Rattle.run_output.specs.Parts.{look_text}
use Rattle.script_answers.specs.Runs.{view_lines, IsViewedRun}
use Rattle.script_answers.specs.Says.{output_in, yes_line}
use Rattle.script_answers.specs.Laws.{RunIsJudgedWhole, WholeYesIsYes}
use Rattle.script_answers.proofs.Judged.{pictures_text, heads_text, concat_five}
use Rattle.script_answers.proofs.Written.{all_written}

-- ---- the looks of viewers

module _ (p : PlansData) (h : List Event) where
  looks_off : (viewer n least : ℕ) (looks : List look.Look) (rest : List (List ℕ)) → length looks ≡ suc n → All (IsLookOf p h) looks → ((j : ℕ) (d : look.Look) → j < length looks → least ≤ (get_or looks j d).events)
      → IsNonDecreasingBy (λ (own : look.Look). own.events) looks → option_map (λ (own : look.Look). own.events) (slice_get looks n) ≡ Some (length h)
      → AreTakenOff p h (replicate n (Look viewer) ++ LastLook viewer ∷ []) least (map (look_text viewer) looks ++ rest) 0 rest
  looks_off viewer n least [] rest many each from rise end = absurd (omega (arith, many))
  looks_off viewer zero least (own ∷ []) rest many each from rise end =
      let all : own.events ≡ length h = cc in
      let seen = All-head (IsLookOf p h) own [] each in
      (0, ((λ i. view_text viewer (all i) ((seen.sum ∙ ap (sum_after p h) all) i)), refl), (refl, refl))
  looks_off viewer zero least (own ∷ other ∷ looks) rest many each from rise end = absurd (omega (arith, many))
  looks_off viewer (suc n) least (own ∷ looks) rest many each from rise end =
      let seen = All-head (IsLookOf p h) own looks each in (
        own.events,
        (from 0 own (omega arith), seen.few, ap (view_text viewer own.events) seen.sum),
        looks_off viewer n own.events looks rest (omega (arith, many)) (All-tail (IsLookOf p h) own looks each) (λ j d lt. rise 0 (suc j) d (omega arith) (omega (arith, lt)))
            (λ i j d le lt. rise (suc i) (suc j) d (omega (arith, le)) (omega (arith, lt))) end,
      )

  viewer_offered : (v : ℕ) (looks : List look.Look) → AreViewerLooks p h looks → Offered p h (looks_due v) (flat_map (look_text v) looks) true
  viewer_offered v looks are = record {
    own = map (look_text v) looks;
    are = sym (concat-map (look_text v) looks);
    lines = all_lines IsLine (look_text v) (λ own. view_line v own.events own.sum) looks;
    stops = λ behind. stops_all (map (look_text v) looks) behind (all_lines Ends (look_text v) (λ own. view_ends v own.events own.sum) looks);
    seen = all_lines (IsView true) (look_text v) (λ own. view_own v own.events own.sum) looks;
    count = length-map looks (look_text v) ∙ are.count;
    taken = λ rest. looks_off v 16 0 looks rest are.count are.each (λ j d lt. omega arith) are.rising are.last;
  }

  views_offered : (v : ℕ) (all : List (List look.Look)) → All (AreViewerLooks p h) all → Offered p h (flat_map looks_due (range_with_len v (length all))) (view_lines v all) true
  views_offered v [] are = offered_none p h true
  views_offered v (looks ∷ more) are =
      offered_both p h (looks_due v) (flat_map looks_due (range_with_len (v + 1) (length more))) (flat_map (look_text v) looks) (view_lines (v + 1) more) true
      (viewer_offered v looks (All-head (AreViewerLooks p h) looks more are)) (views_offered (v + 1) more (All-tail (AreViewerLooks p h) looks more are))

-- ---- what is printed

-- the text is printed of a run with this history
record Printed (p : PlansData) (base viewers : ℕ) (h : List Event) (text : List ℕ) : Type 0 where
  behind : List ℕ
  ran : IsViewedRun viewers p h behind
  told : text ≡ output p (mark base) h ++ behind

module _ (p : PlansData) (base viewers : ℕ) (events : List Event) (written : List ℕ) (lawful : AreLawfulPlans p) (few : viewers ≤ 4) (printed : Printed p base viewers (reverse events) written) where
  own_dumps : Offered p (reverse events) (flat_map (dumps_due p (reverse events)) (streams_of p)) printed.ran.dumps false
  own_dumps = all_dumps_offered p (reverse events) (streams_of p) printed.ran.dumps printed.ran.run.dumped

  own_views : Offered p (reverse events) (flat_map looks_due (range_with_len 1 viewers)) printed.ran.views true
  own_views =
      let h = reverse events in
      let seen = printed.ran.seen in
      subst (λ (n : ℕ). Offered p h (flat_map looks_due (range_with_len 1 n)) printed.ran.views true) seen.many
      (subst (λ (t : List ℕ). Offered p h (flat_map looks_due (range_with_len 1 (length seen.looks))) t true) (sym seen.are) (views_offered p h 1 seen.looks seen.each))

  all_events : All HasNumbersOfWords events
  all_events = subst (All HasNumbersOfWords) (reverse-reverse events) (all_written p (reverse events) lawful printed.ran.run.legal)

  -- its lines after the head and the journal, and all of them
  accepted : (input : List ℕ) → script_in input ≡ Ok p → output_in input ≡ Some written → IsRightWhole input base (replay p (reverse events)) (length events)
  accepted input script there =
      let h = reverse events in
      let d = own_dumps in
      let v = own_views in
      let others = picture_lines p h ++ (lines_of_streams p h ++ (lines_of_marks p base h ++ (d.own ++ v.own))) in
      let front = map event_text events in
      let all = head_of p ++ (front ++ others) in
      let front_text : concat front ≡ journal_text (reverse h) = events_text events ∙ ap journal_text (sym (reverse-reverse events)) in
      let others_text : concat others ≡ behind_journal p (mark base) h (printed.ran.dumps ++ printed.ran.views) =
      concat_five (picture_lines p h) (lines_of_streams p h) (lines_of_marks p base h) d.own v.own
      ∙ (λ i. pictures_text (replay p h) i
      ++ (streams_text p h i ++ (marks_text p base h i ++ (sym d.are i ++ sym v.are i)))) in
      let rest_text : concat (front ++ others) ≡ journal_text (reverse h) ++ behind_journal p (mark base) h (printed.ran.dumps ++ printed.ran.views) = concat-append front others ∙ (λ j. front_text j ++ others_text j) in
      let text : written ≡ concat all =
      printed.told ∙ ap (λ (b : List ℕ). output p (mark base) h ++ b) printed.ran.are
      ∙ output_flat p (mark base) h (printed.ran.dumps ++ printed.ran.views)
      ∙ sym (concat-append (head_of p) (front ++ others)
      ∙ (λ i. heads_text p i ++ rest_text i)) in
      let lines : whole_lines written ≡ all = ap whole_lines text ∙ whole_concat all (All-append IsLine (head_of p) (front ++ others) (heads_are p)
      (All-append IsLine front others (event_lines events all_events) (all_are p base h viewers printed.ran.dumps printed.ran.views d v))) in (
        p,
        events,
        others,
        record {
          lines = all;
          there = record { script = script; there = output_lines input written there ∙ ap (λ (ls : List (List ℕ)). Some ls) lines };
          told = tells_of p events others all_events (all_stop p base h viewers printed.ran.dumps printed.ran.views d v);
          whole = record { legal = printed.ran.run.legal; complete = printed.ran.run.complete };
        },
        subst (λ (n : ℕ). AreDue p h (dues p base h n) others) (sym (all_viewers p base h viewers printed.ran.dumps printed.ran.views d v few)) (all_due p base h viewers printed.ran.dumps printed.ran.views d v),
        refl,
        refl,
      )

-- the plans of a script are lawful
plans_lawful : (p : PlansData) (input : List ℕ) → script_in input ≡ Ok p → AreLawfulPlans p
plans_lawful p input script = subst (λ (r : Result PlansData (ℕ × Kind)). IfOk r AreLawfulPlans) script (scripts_are_lawful (concat (script_part input)))

found_of : (p : PlansData) (base viewers : ℕ) (h : List Event) (input written : List ℕ) → script_in input ≡ Ok p → output_in input ≡ Some written → viewers ≤ 4 → Printed p base viewers h written
    → (images : Pictures) × (events : ℕ) × FindsWhole base input (Yes images events)
found_of p base viewers h input written script there few printed =
    let events = reverse h in
    let again = subst (λ (g : List Event). Printed p base viewers g written) (sym (reverse-reverse h)) printed in
    (replay p (reverse events), length events, accepted p base viewers events written (plans_lawful p input script) few again input script there)

pub run_is_judged_whole : RunIsJudgedWhole
run_is_judged_whole p viewers base ending input written script there few (inl out) = found_of p base viewers out.history input written script there few (record { behind = out.behind; ran = out.ran; told = out.told })
run_is_judged_whole p viewers base ending input written script there few (inr out) =
    found_of p base 0 out.history input written script there (omega arith) (record {
      behind = out.behind;
      ran = record {
        dumps = out.behind;
        views = [];
        run = out.ran.run;
        seen = record { looks = []; many = refl; each = All-nil (AreViewerLooks p out.history); are = refl };
        are = sym (append-nil out.behind);
      };
      told = out.told;
    })

-- what is judged so was printed, and so its script and its journal are right
pub whole_yes_is_yes : WholeYesIsYes
whole_yes_is_yes base input short text script journal said =
    let judged = said.1 in
    let p = judged.plans in
    let h = judged.ran.history in
    let again = subst (λ (g : List Event). Printed p base judged.viewers g judged.written) (sym (reverse-reverse h)) (record { behind = judged.ran.behind; ran = judged.ran.ran; told = judged.ran.told }) in
    let whole = accepted p base judged.viewers (reverse h) judged.written (plans_lawful p input judged.script) judged.few again input judged.script judged.there in (
      refl,
      (
        replay p (reverse (reverse h)),
        length (reverse h),
        right_so base input short (replay p (reverse (reverse h))) (length (reverse h)) script journal whole,
        judged.told ∙ (λ i. yes_line (sym (length-reverse h) i) ++ picture_text (replay p (sym (reverse-reverse h) i))),
      ),
    )
