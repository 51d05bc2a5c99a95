-- The four streams of a generated script are taken up, and so it is a script.
use Rattle.std.proofs.Common.{◌≡◌, ℕ, ◌+◌, ◌*◌, ◌≤◌, List, [], ◌∷◌, ◌++◌, length, map, Some, Ok, IsOkAnd, refl, sym, ap, subst, ◌∙◌, arith, append-nil}
use Rattle.std.specs.Prelude.{codes, decimal}
use Rattle.std.specs.Fmt.{digits}
use Rattle.script_lines.specs.Text.{lines_of, words_of}
use Rattle.script_lines.specs.Numbers.{number_said}
use Rattle.script_lines.proofs.Cuts.{lines_none}
use Rattle.gpu_cmd.specs.declared.priority.Priority.{Priority}
use Rattle.gpu_cmd.specs.declared.priority.Priority.TheVariants.{High, Normal, Low}
use Rattle.script_lines.specs.Said.{numbered_said}
use Rattle.gpu_plan.specs.declared.plan.Action.{Action}
use Rattle.gpu_plan.specs.Plans.{PlanData, PlansData}
use Rattle.gpu_plan.specs.Adding.{Draft, no_stream, with_line, with_stream, may_follow}
use Rattle.gpu_plan.specs.Adding as adding
use Rattle.gpu_plan.specs.Script.{numbered, plans_of, is_skipped, version_of, from_body, from_version, from_head, script_of}
use Rattle.gpu_plan.proofs.Whole.{head_there}
use Rattle.script_generator.specs.Draws.{after_draws}
use Rattle.script_generator.specs.Generator.{stream_script, stream_scripts, generated}
use Rattle.script_laws.proofs.Words.{line_text, words_of_line, lines_of_text}
use Rattle.script_laws.proofs.Taken.{Takes, takes_both}
use Rattle.script_laws.proofs.Lines.{small_plan, at_work}
use Rattle.script_laws.proofs.Works.{Works}
use Rattle.script_laws.proofs.Streams.{just_begun, stream_works}

-- ---- each stream begins

first_begins : (n : ℕ) → numbered 1 [] n (codes "stream" ∷ decimal 1 ∷ codes "low" ∷ codes "64" ∷ []) no_stream ≡ Ok (just_begun [] 1 Low 0 0)
unfolding numbered with_line with_stream numbered_said number_said digits may_follow
first_begins n = refl

module _ (a : List Action) (count flushes : ℕ) where
  second_begins : (n : ℕ) → numbered 1 [] n (codes "stream" ∷ decimal 2 ∷ codes "low" ∷ codes "64" ∷ []) (at_work [] 1 Low a count flushes) ≡ Ok (just_begun (small_plan 1 Low a ∷ []) 2 Low count flushes)
  unfolding numbered with_line with_stream numbered_said number_said digits may_follow
  second_begins n = refl

  third_begins : (b : List Action) (n : ℕ) → numbered 1 [] n (codes "stream" ∷ decimal 3 ∷ codes "normal" ∷ codes "64" ∷ []) (at_work (small_plan 1 Low a ∷ []) 2 Low b count flushes) ≡ Ok (just_begun (small_plan 1 Low a ∷ small_plan 2 Low b ∷ []) 3 Normal count flushes)
  unfolding numbered with_line with_stream numbered_said number_said digits may_follow
  third_begins b n = refl

  fourth_begins : (b c : List Action) (n : ℕ) → numbered 1 [] n (codes "stream" ∷ decimal 4 ∷ codes "high" ∷ codes "64" ∷ []) (at_work (small_plan 1 Low a ∷ small_plan 2 Low b ∷ []) 3 Normal c count flushes)
      ≡ Ok (just_begun (small_plan 1 Low a ∷ small_plan 2 Low b ∷ small_plan 3 Normal c ∷ []) 4 High count flushes)
  unfolding numbered with_line with_stream numbered_said number_said digits may_follow
  fourth_begins b c n = refl

-- ---- the lines after the head line

-- a text makes a draft with four streams of this one
record Ends (d : Draft) (text : List ℕ) : Type 0 where
  draft : Draft
  takes : Takes d text draft
  four : length (adding.streams draft) ≡ 4

ends_on : (done : List PlanData) (stream : ℕ) (priority : Priority) (d : Draft) (s t : List ℕ) (most most_flushes : ℕ) → Works done stream priority d s most most_flushes
    → ((actions : List Action) (count flushes : ℕ) → count ≤ most → flushes ≤ most_flushes → Ends (at_work done stream priority actions count flushes) t) → Ends d (s ++ t)
ends_on done stream priority d s t most most_flushes w next =
    let r = next w.actions w.count w.flushes w.few w.fewer in
    record { draft = r.draft; takes = takes_both d (at_work done stream priority w.actions w.count w.flushes) r.draft s t w.takes r.takes; four = r.four }

module _ (size : ℕ) (within : size ≤ 2000) where
  fourth_ends : (a b c : List Action) (count flushes state : ℕ) → count ≤ 3 * (7 + 35 * size) → flushes ≤ 3 * (1 + size) → Ends (at_work (small_plan 1 Low a ∷ small_plan 2 Low b ∷ []) 3 Normal c count flushes) (stream_scripts (codes "high" ∷ []) size 4 state)
  unfolding stream_scripts digits
  fourth_ends a b c count flushes state few fewer =
      let before = small_plan 1 Low a ∷ small_plan 2 Low b ∷ small_plan 3 Normal c ∷ [] in
      ends_on before 4 High _ (stream_script (codes "high") size 4 state) [] _ _ (stream_works before 4 High count flushes (omega arith) _ (codes "high") refl refl (fourth_begins a count flushes b c) size state within (omega arith) (omega arith))
      (λ actions₁ count₁ flushes₁ few₁ fewer₁. record { draft = at_work before 4 High actions₁ count₁ flushes₁; takes = λ n rest. (n, refl); four = refl })

  third_ends : (a b : List Action) (count flushes state : ℕ) → count ≤ 2 * (7 + 35 * size) → flushes ≤ 2 * (1 + size) → Ends (at_work (small_plan 1 Low a ∷ []) 2 Low b count flushes) (stream_scripts (codes "normal" ∷ codes "high" ∷ []) size 3 state)
  unfolding stream_scripts digits
  third_ends a b count flushes state few fewer =
      let before = small_plan 1 Low a ∷ small_plan 2 Low b ∷ [] in
      ends_on before 3 Normal _ (stream_script (codes "normal") size 3 state) _ _ _ (stream_works before 3 Normal count flushes (omega arith) _ (codes "normal") refl refl (third_begins a count flushes b) size state within (omega arith) (omega arith))
      (λ actions₁ count₁ flushes₁ few₁ fewer₁. fourth_ends a b actions₁ count₁ flushes₁ (after_draws (7 * size) state) (omega arith) (omega arith))

  second_ends : (a : List Action) (count flushes state : ℕ) → count ≤ 7 + 35 * size → flushes ≤ 1 + size → Ends (at_work [] 1 Low a count flushes) (stream_scripts (codes "low" ∷ codes "normal" ∷ codes "high" ∷ []) size 2 state)
  unfolding stream_scripts digits
  second_ends a count flushes state few fewer =
      let before = small_plan 1 Low a ∷ [] in
      ends_on before 2 Low _ (stream_script (codes "low") size 2 state) _ _ _ (stream_works before 2 Low count flushes (omega arith) _ (codes "low") refl refl (second_begins a count flushes) size state within (omega arith) (omega arith))
      (λ actions₁ count₁ flushes₁ few₁ fewer₁. third_ends a actions₁ count₁ flushes₁ (after_draws (7 * size) state) (omega arith) (omega arith))

  all_end : (seed : ℕ) → Ends no_stream (stream_scripts (codes "low" ∷ codes "low" ∷ codes "normal" ∷ codes "high" ∷ []) size 1 seed)
  unfolding stream_scripts digits
  all_end seed =
      ends_on [] 1 Low _ (stream_script (codes "low") size 1 seed) _ _ _ (stream_works [] 1 Low 0 0 (omega arith) no_stream (codes "low") refl refl first_begins size seed within (omega arith) (omega arith))
      (λ actions₁ count₁ flushes₁ few₁ fewer₁. second_ends actions₁ count₁ flushes₁ (after_draws (7 * size) seed) (omega arith) (omega arith))

-- ---- the whole text

head_read : (body : List ℕ) → from_head 1 (map words_of (lines_of (codes "gpu-script 1\n" ++ body))) ≡ from_body 1 [] 2 no_stream (map words_of (lines_of body))
unfolding from_version
head_read body =
    let line = line_text (codes "gpu-script") (codes "1" ∷ []) in
    let words = words_of_line (codes "gpu-script") (codes "1" ∷ []) refl in
    let text : List ℕ = codes "gpu-script 1\n" ++ body in
    sym (head_there 1 (lines_of text) (lines_of body) line (Some 1) (from_head 1 (map words_of (lines_of text))) (lines_of_text (codes "gpu-script") (codes "1" ∷ []) body refl) (ap is_skipped words) (sym (ap version_of words)) refl)

pub generated_is_script : (size seed : ℕ) → size ≤ 2000 → IsOkAnd (script_of (generated size seed)) (λ script. (script.version ≡ 1) × (length script.plans ≡ 4))
unfolding script_of generated from_body
generated_is_script size seed within =
    let read = all_end size within seed in
    let body = stream_scripts (codes "low" ∷ codes "low" ∷ codes "normal" ∷ codes "high" ∷ []) size 1 seed in
    let taken = read.takes 2 [] in
    let plain : from_body 1 [] 2 no_stream (map words_of (lines_of (body ++ []))) ≡ from_body 1 [] 2 no_stream (map words_of (lines_of body)) = ap (λ text. from_body 1 [] 2 no_stream (map words_of (lines_of text))) (append-nil body) in
    let ended : from_body 1 [] taken.0 read.draft (map words_of (lines_of [])) ≡ Ok (plans_of 1 read.draft) = ap (λ lines. from_body 1 [] taken.0 read.draft (map words_of lines)) (lines_none [] refl) in
    subst (λ result. IsOkAnd result (λ (script : PlansData). (script.version ≡ 1) × (length script.plans ≡ 4))) (sym (head_read body ∙ sym plain ∙ taken.1 ∙ ended)) (refl, read.four)
