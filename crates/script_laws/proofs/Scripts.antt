-- The plans of every script are lawful: each line that is taken up leaves them so.
use Rattle.std.proofs.Common.{◌≡◌, inl, inr, ℕ, ◌+◌, ◌≤◌, ◌<◌, Bool, true, false, cond, not, nat_le, nat_lt, ◌&&◌, ◌||◌, ◌==◌, List, [], ◌∷◌, ◌++◌, length, map, set, option_to_list, Option, Some, None, Result, Ok, Err, IfOk, refl, sym, ap, subst, ◌∙◌, arith, length-append}
use Rattle.std.proofs.lemmas.Bool.{and_parts, leb-true, ltb-true, not-true}
use Rattle.std.specs.Prelude.{IfSome, codes, bytes_eq, sum_by, is_none}
use Rattle.std.specs.List.{All, list_all, list_any, count_by}
use Rattle.std.specs.Option.{option_map_or}
use Rattle.std.proofs.lemmas.Bool.Decides.{nat_tests}
use Rattle.std.proofs.lemmas.List.{append-nil, length-map, length-set}
use Rattle.std.proofs.lemmas.List.Elements.{All-nil, All-push}
use Rattle.std.proofs.lemmas.List.Sums.{sum_by-append, sum_by-cons}
use Rattle.gpu_cmd.specs.declared.name.Name.{Name}
use Rattle.gpu_cmd.specs.declared.areas.Areas.{Areas}
use Rattle.gpu_cmd.specs.declared.areas.Span.{Span}
use Rattle.gpu_cmd.specs.Lawful.{places_of}
use Rattle.gpu_cmd.specs.Spans.{span_at, words_in, AreTiles}
use Rattle.script_lines.specs.Text.{lines_of, words_of}
use Rattle.script_lines.specs.Numbers.{decimal_of, is_value, value_of}
use Rattle.script_lines.specs.declared.fault.Kind.{Kind}
use Rattle.script_lines.specs.declared.fault.Kind.TheVariants.{Word, Number, Order, Double, Place, Limit}
use Rattle.script_lines.specs.declared.keyword.Keyword.{Keyword}
use Rattle.script_lines.specs.declared.keyword.Keyword.TheVariants.{StreamLine, MemoryLine, ResultsLine, PutLine, FillLine, FlushLine, FinishLine, TokenLine, CloseLine, DumpLine}
use Rattle.script_lines.specs.Outcome.{◌>>=◌, or_error, unless, at_line}
use Rattle.script_lines.specs.Said.{keyword_of, none_said, one_said, two_said, stream_said, put_said, fill_said, flush_said}
use Rattle.script_lines.specs.Naming.{fence_names}
use Rattle.gpu_plan.specs.declared.plan.Action.{Action}
use Rattle.gpu_plan.specs.declared.plan.Action.TheVariants.{Flush, Finish, Token, Close}
use Rattle.gpu_plan.specs.Plans.{PlansData, PlanData, IsWithin, HasFewFences, IsLawfulPlan, IsDump, is_closed, is_flush, is_of, actions_in, flushes_in, ring_alone}
use Rattle.gpu_plan.specs.Named.{names_in, IsVersion, AreLawfulNames}
use Rattle.gpu_plan.specs.Adding.{Draft, no_stream, streams, fresh_plan, acting, fresh, added, puts, spans_with, may_follow, with_stream, with_memory, with_results, with_puts, with_fill, with_flush, with_finish, with_token, with_close, with_dump, with_keyword, with_line}
use Rattle.gpu_plan.specs.Script.{is_remark, is_skipped, version_of, numbered, plans_of, from_body, from_version, from_head, script_of}
use Rattle.gpu_plan.proofs.Apart.{lawful_none}
use Rattle.gpu_plan.proofs.Dumps.{dumps_stay, dumps_grow, no_dump}
use Rattle.gpu_plan.proofs.LawfulNames.{either}
use Rattle.gpu_plan.proofs.Lawful.{length-puts, lawful_start, lawful_puts, lawful_action, lawful_areas}
use Rattle.gpu_plan.proofs.Named.{bound, passed, same, found, plain, numbered_lawful}
use Rattle.gpu_plan.proofs.Tiled.{tiles_grow}
use Rattle.gpu_plan.proofs.Counts.{none_flushes}
use Rattle.serial_laws.specs.Scripts.{IsScriptPlan, AreLawfulPlans}
use Rattle.script_laws.specs.Laws.{ScriptsAreLawful}

-- ---- the record of a draft

-- a plan that a script may have, with room for 16 memories of each kind
record IsKept (plan : PlanData) : Type 0 where
  lawful : IsLawfulPlan plan.areas plan.actions
  dumps : All (IsDump plan.areas.results plan.actions) plan.dumps
  memories : length plan.areas.memories ≡ 16
  results : length plan.areas.results ≡ 16

-- a draft whose streams are lawful, with the counts that the limits of a script speak of
record IsLawfulDraft (d : Draft) : Type 0 where
  done : All IsScriptPlan d.done
  last : IfSome d.last IsKept
  few : length d.done ≤ 15
  counted : d.actions ≡ actions_in d.done + option_map_or (λ (plan : PlanData). length plan.actions) d.last 0
  counted_flushes : d.flushes ≡ flushes_in d.done + option_map_or (λ (plan : PlanData). count_by is_flush plan.actions) d.last 0
  within : d.actions ≤ 1000000
  flushed : d.flushes ≤ 100000

-- ---- the stream begun last

acting_is : (d : Draft) (p : PlanData) → acting d ≡ Ok p → (d.last ≡ Some p) × (is_closed p.actions ≡ false)
unfolding acting
acting_is d p e =
    let one = bound (or_error Order d.last) (λ last. unless (not (is_closed last.actions)) Order >>= λ _. Ok last) p e in
    let two = passed (not (is_closed one.0.actions)) Order (λ _. Ok one.0) p one.2 in
    let is : one.0 ≡ p = same one.0 p two.1 in
    (found Order d.last one.0 one.1 ∙ ap Some is, subst (λ (q : PlanData). is_closed q.actions ≡ false) is (not-true (is_closed one.0.actions) two.0))

none_of : (xs : List Action) → (length xs == 0) ≡ true → xs ≡ []
none_of [] e = refl
none_of (x ∷ xs) e = let no : length (x ∷ xs) ≡ 0 = grind (arith, nat_tests) in absurd (omega (arith, no))

fresh_is : (d : Draft) (p : PlanData) → fresh d ≡ Ok p → (d.last ≡ Some p) × (p.actions ≡ [])
unfolding fresh
fresh_is d p e =
    let one = bound (or_error Order d.last) (λ last. unless (length last.actions == 0) Order >>= λ _. Ok last) p e in
    let two = passed (length one.0.actions == 0) Order (λ _. Ok one.0) p one.2 in
    let is : one.0 ≡ p = same one.0 p two.1 in
    (found Order d.last one.0 one.1 ∙ ap Some is, subst (λ (q : PlanData). q.actions ≡ []) is (none_of one.0.actions two.0))

last_kept : (d : Draft) (p : PlanData) → IsLawfulDraft d → d.last ≡ Some p → IsKept p
last_kept d p old last = subst (λ (o : Option PlanData). IfSome o IsKept) last old.last

last_counted : (d : Draft) (p : PlanData) → IsLawfulDraft d → d.last ≡ Some p → d.actions ≡ actions_in d.done + length p.actions
last_counted d p old last = old.counted ∙ ap (λ (o : Option PlanData). actions_in d.done + option_map_or (λ (plan : PlanData). length plan.actions) o 0) last

last_flushes : (d : Draft) (p : PlanData) → IsLawfulDraft d → d.last ≡ Some p → d.flushes ≡ flushes_in d.done + count_by is_flush p.actions
last_flushes d p old last = old.counted_flushes ∙ ap (λ (o : Option PlanData). flushes_in d.done + option_map_or (λ (plan : PlanData). count_by is_flush plan.actions) o 0) last

-- ---- actions are added

flushes_more : (old more : List Action) → count_by is_flush (old ++ more) ≡ count_by is_flush old + count_by is_flush more
flushes_more old more = sum_by-append (λ (action : Action). cond (is_flush action) 1 0) old more

added_lawful : (more : List Action) (q p : PlanData) (d before e : Draft) → IsLawfulDraft d → d.last ≡ Some p → before.done ≡ d.done → before.actions ≡ d.actions → before.flushes ≡ d.flushes + count_by is_flush more → before.flushes ≤ 100000
    → q.actions ≡ p.actions → (length p.actions + length more ≤ 1000000 → IsKept (record q { actions = q.actions ++ more })) → added more q before ≡ Ok e → IsLawfulDraft e
unfolding added
added_lawful more q p d before e old last done actions flushes fewer as_before kept h =
    let next : Draft = record before { last = Some (record q { actions = q.actions ++ more }); actions = before.actions + length more } in
    let step = passed (nat_le (before.actions + length more) 1000000) Limit (λ _. Ok next) e h in
    let is : next ≡ e = same next e step.1 in
    let few : before.actions + length more ≤ 1000000 = leb-true (before.actions + length more) 1000000 step.0 in
    let count = last_counted d p old last in
    let count_flushes = last_flushes d p old last in
    let all : actions_in before.done ≡ actions_in d.done = ap actions_in done in
    let all_flushes : flushes_in before.done ≡ flushes_in d.done = ap flushes_in done in
    let long : length (q.actions ++ more) ≡ length p.actions + length more = length-append q.actions more ∙ ap (λ (xs : List Action). length xs + length more) as_before in
    let flushed : count_by is_flush (q.actions ++ more) ≡ count_by is_flush p.actions + count_by is_flush more = flushes_more q.actions more ∙ ap (λ (xs : List Action). count_by is_flush xs + count_by is_flush more) as_before in
    subst IsLawfulDraft is (record {
      done = subst (All IsScriptPlan) (sym done) old.done;
      last = kept (omega (arith, few, count, actions));
      few = let low = old.few in let as_many : length before.done ≡ length d.done = ap length done in omega (arith, low, as_many);
      counted = omega (arith, count, all, long, actions);
      counted_flushes = omega (arith, count_flushes, all_flushes, flushed, flushes);
      within = few;
      flushed = fewer;
    })

-- one action that is no flush
one_lawful : (action : Action) (p : PlanData) (d e : Draft) → IsLawfulDraft d → acting d ≡ Ok p → count_by is_flush (action ∷ []) ≡ 0 → IsWithin (places_of p.areas) action → HasFewFences action → added (action ∷ []) p d ≡ Ok e → IsLawfulDraft e
one_lawful action p d e old acts quiet within fenced h =
    let last = acting_is d p acts in
    let kept = last_kept d p old last.0 in
    let fewer = old.flushed in
    added_lawful (action ∷ []) p p d d e old last.0 refl refl (omega (arith, quiet)) fewer refl
    (λ few. record {
      lawful = lawful_action p.areas p.areas action p.actions (p.actions ++ action ∷ []) refl kept.lawful last.1 (omega (arith, few)) within fenced refl;
      dumps = dumps_stay p.areas.results p.actions (action ∷ []) (p.actions ++ action ∷ []) p.dumps kept.dumps refl;
      memories = kept.memories;
      results = kept.results;
    }) h

-- puts at places that there are
puts_lawful : (place : ℕ) (values : List ℕ) (words : List (List ℕ)) (p : PlanData) (d e : Draft) → IsLawfulDraft d → acting d ≡ Ok p → values ≡ map value_of words → place + length values ≤ places_of p.areas → added (puts place values) p d ≡ Ok e → IsLawfulDraft e
puts_lawful place values words p d e old acts are fits h =
    let last = acting_is d p acts in
    let kept = last_kept d p old last.0 in
    let quiet = none_flushes place values in
    let fewer = old.flushed in
    let long : length values ≡ length words = ap length are ∙ length-map words value_of in
    let many = length-puts place values in
    added_lawful (puts place values) p p d d e old last.0 refl refl (omega (arith, quiet)) fewer refl
    (λ few. record {
      lawful = lawful_puts p.areas place words p.actions (p.actions ++ puts place values) kept.lawful last.1 (omega (arith, fits, long)) (omega (arith, few, long, many)) (ap (λ (vs : List ℕ). p.actions ++ puts place vs) are);
      dumps = dumps_stay p.areas.results p.actions (puts place values) (p.actions ++ puts place values) p.dumps kept.dumps refl;
      memories = kept.memories;
      results = kept.results;
    }) h

-- ---- lines that add actions

-- values are said by words
put_words : (words : List (List ℕ)) (said : ℕ × List ℕ) → put_said words ≡ Ok said → (ws : List (List ℕ)) × (said.1 ≡ map value_of ws)
unfolding put_said
put_words [] said e = absurd cc
put_words (p ∷ []) said e = absurd cc
put_words (p ∷ v ∷ vs) said e =
    let place = bound (or_error Number (decimal_of p)) _ said e in
    let all = passed (list_all is_value (v ∷ vs)) Number _ said place.2 in
    (v ∷ vs, ap (λ (x : ℕ × List ℕ). x.1) (sym (same (place.0, map value_of (v ∷ vs)) said all.1)))

fill_words : (words : List (List ℕ)) (said : ℕ × ℕ × List ℕ) → fill_said words ≡ Ok said → (ws : List (List ℕ)) × (said.2 ≡ map value_of ws)
unfolding fill_said
fill_words [] said e = absurd cc
fill_words (m ∷ []) said e = absurd cc
fill_words (m ∷ p ∷ []) said e = absurd cc
fill_words (m ∷ p ∷ v ∷ vs) said e =
    let memory = bound (or_error Number (decimal_of m)) _ said e in
    let put = bound (put_said (p ∷ v ∷ vs)) _ said memory.2 in
    let ws = put_words (p ∷ v ∷ vs) put.0 put.1 in
    (ws.0, ap (λ (x : ℕ × ℕ × List ℕ). x.2) (sym (same (memory.0, put.0.0, put.0.1) said put.2)) ∙ ws.1)

put_lawful : (words : List (List ℕ)) (d e : Draft) → with_puts words d ≡ Ok e → IsLawfulDraft d → IsLawfulDraft e
unfolding with_puts
put_lawful words d e h old =
    let said = bound (put_said words) _ e h in
    let last = bound (acting d) _ e said.2 in
    let fits = passed (nat_le (said.0.0 + length said.0.1) last.0.areas.ring) Place _ e last.2 in
    let low = leb-true (said.0.0 + length said.0.1) last.0.areas.ring fits.0 in
    let ws = put_words words said.0 said.1 in
    puts_lawful said.0.0 said.0.1 ws.0 last.0 d e old last.1 ws.1 (omega (arith, low)) fits.1

fill_lawful : (words : List (List ℕ)) (d e : Draft) → with_fill words d ≡ Ok e → IsLawfulDraft d → IsLawfulDraft e
unfolding with_fill
fill_lawful words d e h old =
    let said = bound (fill_said words) _ e h in
    let last = bound (acting d) _ e said.2 in
    let span = bound (or_error Place (span_at last.0.areas.memories said.0.0)) _ e last.2 in
    let fits = passed (nat_le (said.0.1 + length said.0.2) span.0.words) Place _ e span.2 in
    let low = leb-true (said.0.1 + length said.0.2) span.0.words fits.0 in
    let ws = fill_words words said.0 said.1 in
    let kept = last_kept d last.0 old (acting_is d last.0 last.1).0 in
    let inside = kept.lawful.laid_out.memories.ended said.0.0 span.0 (found Place (span_at last.0.areas.memories said.0.0) span.0 span.1) in
    puts_lawful (span.0.base + said.0.1) said.0.2 ws.0 last.0 d e old last.1 ws.1 (omega (arith, low, inside)) fits.1

flush_lawful : (version : ℕ) (names : List Name) (words : List (List ℕ)) (d e : Draft) → with_flush version names words d ≡ Ok e → IsLawfulDraft d → IsLawfulDraft e
unfolding with_flush
flush_lawful version names words d e h old =
    let said = bound (flush_said version names words) _ e h in
    let p = bound (acting d) _ e said.2 in
    let fits = passed (nat_le (d.flushes + 1) 100000 && nat_le (length said.0.1) 16) Limit _ e p.2 in
    let both = and_parts (nat_le (d.flushes + 1) 100000) (nat_le (length said.0.1) 16) fits.0 in
    let fewer = leb-true (d.flushes + 1) 100000 both.0 in
    let fenced = leb-true (length said.0.1) 16 both.1 in
    let last = acting_is d p.0 p.1 in
    let kept = last_kept d p.0 old last.0 in
    let action = Flush said.0.0 said.0.1 in
    added_lawful (action ∷ []) p.0 p.0 d (record d { flushes = d.flushes + 1 }) e old last.0 refl refl refl fewer refl
    (λ few. record {
      lawful = lawful_action p.0.areas p.0.areas action p.0.actions (p.0.actions ++ action ∷ []) refl kept.lawful last.1 (omega (arith, few)) tt fenced refl;
      dumps = dumps_stay p.0.areas.results p.0.actions (action ∷ []) (p.0.actions ++ action ∷ []) p.0.dumps kept.dumps refl;
      memories = kept.memories;
      results = kept.results;
    }) fits.1

finish_lawful : (words : List (List ℕ)) (d e : Draft) → with_finish words d ≡ Ok e → IsLawfulDraft d → IsLawfulDraft e
unfolding with_finish
finish_lawful words d e h old =
    let said = bound (none_said words) _ e h in
    let last = bound (acting d) _ e said.2 in
    one_lawful Finish last.0 d e old last.1 refl tt tt last.2

token_lawful : (words : List (List ℕ)) (d e : Draft) → with_token words d ≡ Ok e → IsLawfulDraft d → IsLawfulDraft e
unfolding with_token
token_lawful words d e h old =
    let said = bound (one_said words) _ e h in
    let last = bound (acting d) _ e said.2 in
    one_lawful (Token said.0) last.0 d e old last.1 refl tt tt last.2

close_lawful : (words : List (List ℕ)) (d e : Draft) → with_close words d ≡ Ok e → IsLawfulDraft d → IsLawfulDraft e
unfolding with_close
close_lawful words d e h old =
    let said = bound (none_said words) _ e h in
    let last = bound (acting d) _ e said.2 in
    one_lawful Close last.0 d e old last.1 refl tt tt last.2

dump_lawful : (words : List (List ℕ)) (d e : Draft) → with_dump words d ≡ Ok e → IsLawfulDraft d → IsLawfulDraft e
unfolding with_dump
dump_lawful words d e h old =
    let said = bound (two_said words) _ e h in
    let p = bound (acting d) _ e said.2 in
    let span = bound (or_error Place (span_at p.0.areas.results said.0.0)) _ e p.2 in
    let fits = passed (nat_lt said.0.1 span.0.words) Place _ e span.2 in
    let low = ltb-true said.0.1 span.0.words fits.0 in
    let last = acting_is d p.0 p.1 in
    let kept = last_kept d p.0 old last.0 in
    let inside = kept.lawful.laid_out.results.ended said.0.0 span.0 (found Place (span_at p.0.areas.results said.0.0) span.0 span.1) in
    let place = span.0.base + said.0.1 in
    let more = p.0.dumps ++ (length p.0.actions, place) ∷ [] in
    let fewer = old.flushed in
    added_lawful (Finish ∷ []) (record p.0 { dumps = more }) p.0 d d e old last.0 refl refl (omega arith) fewer refl
    (λ few. record {
      lawful = lawful_action p.0.areas p.0.areas Finish p.0.actions (p.0.actions ++ Finish ∷ []) refl kept.lawful last.1 (omega (arith, few)) tt tt refl;
      dumps = dumps_grow p.0.areas.results p.0.actions (p.0.actions ++ Finish ∷ []) p.0.dumps more (length p.0.actions) place kept.dumps (omega (arith, low, inside)) refl refl refl;
      memories = kept.memories;
      results = kept.results;
    }) fits.1

-- ---- lines that declare memories

none_there : (span : Option Span) → is_none span ≡ true → span ≡ None
none_there None e = refl
none_there (Some span) e = absurd cc

three_true : (a b c : Bool) → (a && b && c) ≡ true → (a ≡ true) × (b ≡ true) × (c ≡ true)
three_true true true true e = (refl, refl, refl)
three_true true true false e = absurd cc
three_true true false c e = absurd cc
three_true false b c e = absurd cc

spans_kept : (first : ℕ) (spans new : List (Option Span)) (memory words : ℕ) → AreTiles first spans → length spans ≡ 16 → spans_with first spans memory words ≡ Ok new → AreTiles first new × (length new ≡ 16)
unfolding spans_with
spans_kept first spans new memory words tiles long h =
    let none = passed (is_none (span_at spans memory)) Double _ new h in
    let fits = passed (nat_le memory 15 && nat_le 1 words && nat_le (words_in spans + words) 65536) Limit _ new none.1 in
    let three = three_true (nat_le memory 15) (nat_le 1 words) (nat_le (words_in spans + words) 65536) fits.0 in
    let span : Span = record { base = first + words_in spans; words = words } in
    let is : set spans memory (Some span) ≡ new = same (set spans memory (Some span)) new fits.1 in
    subst (λ (xs : List (Option Span)). AreTiles first xs × (length xs ≡ 16)) is
    (tiles_grow first spans memory span tiles long (leb-true memory 15 three.0) (none_there (span_at spans memory) none.0) refl (leb-true 1 words three.1) (leb-true (words_in spans + words) 65536 three.2), length-set spans memory (Some span) ∙ long)

-- another plan of a stream that has not acted
declared : (d : Draft) (p q : PlanData) → IsLawfulDraft d → d.last ≡ Some p → q.actions ≡ p.actions → IsKept q → IsLawfulDraft (record d { last = Some q })
declared d p q old last as_before kept =
    record {
      done = old.done;
      last = kept;
      few = old.few;
      counted = last_counted d p old last ∙ ap (λ (xs : List Action). actions_in d.done + length xs) (sym as_before);
      counted_flushes = last_flushes d p old last ∙ ap (λ (xs : List Action). flushes_in d.done + count_by is_flush xs) (sym as_before);
      within = old.within;
      flushed = old.flushed;
    }

memory_lawful : (words : List (List ℕ)) (d e : Draft) → with_memory words d ≡ Ok e → IsLawfulDraft d → IsLawfulDraft e
unfolding with_memory
memory_lawful words d e h old =
    let said = bound (two_said words) _ e h in
    let last = bound (fresh d) _ e said.2 in
    let p = last.0 in
    let spans = bound (spans_with p.areas.ring p.areas.memories said.0.0 said.0.1) _ e last.2 in
    let is = fresh_is d p last.1 in
    let kept = last_kept d p old is.0 in
    let laid = kept.lawful.laid_out in
    let more = spans_kept p.areas.ring p.areas.memories spans.0 said.0.0 said.0.1 laid.memories kept.memories spans.1 in
    let areas : Areas = record p.areas { memories = spans.0 } in
    let q : PlanData = record p { areas = areas } in
    subst IsLawfulDraft (same (record d { last = Some q }) e spans.2) (declared d p q old is.0 refl (record {
      lawful = lawful_areas areas p.actions (record { ring_least = laid.ring_least; ring_most = laid.ring_most; memories = more.0; results = laid.results }) is.1;
      dumps = kept.dumps;
      memories = more.1;
      results = kept.results;
    }))

results_lawful : (words : List (List ℕ)) (d e : Draft) → with_results words d ≡ Ok e → IsLawfulDraft d → IsLawfulDraft e
unfolding with_results
results_lawful words d e h old =
    let said = bound (two_said words) _ e h in
    let last = bound (fresh d) _ e said.2 in
    let p = last.0 in
    let spans = bound (spans_with 0 p.areas.results said.0.0 said.0.1) _ e last.2 in
    let is = fresh_is d p last.1 in
    let kept = last_kept d p old is.0 in
    let laid = kept.lawful.laid_out in
    let more = spans_kept 0 p.areas.results spans.0 said.0.0 said.0.1 laid.results kept.results spans.1 in
    let areas : Areas = record p.areas { results = spans.0 } in
    let q : PlanData = record p { areas = areas } in
    subst IsLawfulDraft (same (record d { last = Some q }) e spans.2) (declared d p q old is.0 refl (record {
      lawful = lawful_areas areas p.actions (record { ring_least = laid.ring_least; ring_most = laid.ring_most; memories = laid.memories; results = more.0 }) is.1;
      dumps = no_dump p.areas.results spans.0 p.actions p.dumps is.1 kept.dumps;
      memories = kept.memories;
      results = more.1;
    }))

-- ---- a stream line

-- all streams of a draft, by the one begun last
all_lawful : (done : List PlanData) (last : Option PlanData) → All IsScriptPlan done → IfSome last IsKept → All IsScriptPlan (done ++ option_to_list last)
all_lawful done None before kept = subst (All IsScriptPlan) (sym (append-nil done)) before
all_lawful done (Some p) before kept = All-push IsScriptPlan done p before (kept.lawful, kept.dumps)

all_counted : (f : PlanData → ℕ) (done : List PlanData) (last : Option PlanData) → sum_by f (done ++ option_to_list last) ≡ sum_by f done + option_map_or f last 0
all_counted f done None = ap (sum_by f) (append-nil done) ∙ omega arith
all_counted f done (Some p) = let both = sum_by-append f done (p ∷ []) in let one = sum_by-cons f p [] in omega (arith, both, one)

all_few : (done : List PlanData) (last : Option PlanData) → length done ≤ 15 → length (done ++ option_to_list last) ≤ 16
all_few done None few = let both = length-append done [] in omega (arith, both)
all_few done (Some p) few = let both = length-append done (p ∷ []) in omega (arith, both)

module _ (d : Draft) (old : IsLawfulDraft d) where
  streams_lawful : All IsScriptPlan (streams d)
  streams_lawful = all_lawful d.done d.last old.done old.last

  streams_actions : actions_in (streams d) ≡ d.actions
  streams_actions = all_counted (λ (plan : PlanData). length plan.actions) d.done d.last ∙ sym old.counted

  streams_flushes : flushes_in (streams d) ≡ d.flushes
  streams_flushes = all_counted (λ (plan : PlanData). count_by is_flush plan.actions) d.done d.last ∙ sym old.counted_flushes

  streams_few : length (streams d) ≤ 16
  streams_few = all_few d.done d.last old.few

four_true : (a b c d : Bool) → (a && b && c && d) ≡ true → (a ≡ true) × (b ≡ true) × (d ≡ true)
four_true true true true true e = (refl, refl, refl)
four_true true true true false e = absurd cc
four_true true true false d e = absurd cc
four_true true false c d e = absurd cc
four_true false b c d e = absurd cc

holds : (b : Bool) (kind : Kind) (x : Unit {0}) → unless b kind ≡ Ok x → b ≡ true
holds true kind x e = refl
holds false kind x e = absurd cc

follows : (version : ℕ) (before : List PlanData) (name : Name) (ring : ℕ) → may_follow version before name ring ≡ Ok tt → (16 ≤ ring) × (ring ≤ 4096) × (length before < 16)
unfolding may_follow
follows version before name ring h =
    let order = passed (version == 2 || name.id == length before + 1) Order _ tt h in
    let new = passed (not (list_any (is_of name) before)) Double _ tt order.1 in
    let all = four_true (nat_le 16 ring) (nat_le ring 4096) (nat_le name.namespace 255) (nat_lt (length before) 16) (holds _ Limit tt new.1) in
    (leb-true 16 ring all.0, leb-true ring 4096 all.1, ltb-true (length before) 16 all.2)

stream_lawful : (version : ℕ) (words : List (List ℕ)) (d e : Draft) → with_stream version words d ≡ Ok e → IsLawfulDraft d → IsLawfulDraft e
unfolding with_stream
stream_lawful version words d e h old =
    let said = bound (stream_said version words) _ e h in
    let may = bound (may_follow version (streams d) said.0.0 said.0.2) _ e said.2 in
    let ring = said.0.2 in
    let plan = fresh_plan said.0.0 said.0.1 ring in
    let limits = follows version (streams d) said.0.0 ring may.1 in
    let few = limits.2 in
    let all = streams_actions d old in
    let all_flushes = streams_flushes d old in
    subst IsLawfulDraft (same (record d { done = streams d; last = Some plan }) e may.2) (record {
      done = streams_lawful d old;
      last = record {
        lawful = lawful_start (ring_alone ring) ring [] refl limits.0 limits.1 refl;
        dumps = All-nil (IsDump (ring_alone ring).results []);
        memories = refl;
        results = refl;
      };
      few = omega (arith, few);
      counted = omega (arith, all);
      counted_flushes = omega (arith, all_flushes);
      within = old.within;
      flushed = old.flushed;
    })

-- ---- any line

keyword_lawful : (version : ℕ) (names : List Name) (keyword : Keyword) (words : List (List ℕ)) (d e : Draft) → with_keyword version names keyword words d ≡ Ok e → IsLawfulDraft d → IsLawfulDraft e
keyword_lawful version names StreamLine words d e h old = stream_lawful version words d e h old
keyword_lawful version names MemoryLine words d e h old = memory_lawful words d e h old
keyword_lawful version names ResultsLine words d e h old = results_lawful words d e h old
keyword_lawful version names PutLine words d e h old = put_lawful words d e h old
keyword_lawful version names FillLine words d e h old = fill_lawful words d e h old
keyword_lawful version names FlushLine words d e h old = flush_lawful version names words d e h old
keyword_lawful version names FinishLine words d e h old = finish_lawful words d e h old
keyword_lawful version names TokenLine words d e h old = token_lawful words d e h old
keyword_lawful version names CloseLine words d e h old = close_lawful words d e h old
keyword_lawful version names DumpLine words d e h old = dump_lawful words d e h old

line_lawful : (version : ℕ) (names : List Name) (name : List ℕ) (words : List (List ℕ)) (d e : Draft) → with_line version names name words d ≡ Ok e → IsLawfulDraft d → IsLawfulDraft e
unfolding with_line
line_lawful version names name words d e h old = let keyword = bound (or_error Word (keyword_of name)) _ e h in keyword_lawful version names keyword.0 words d e keyword.2 old

by_remark : (remark : Bool) (n : ℕ) (d e : Draft) (r : Result Draft Kind) → cond remark (Ok d) (at_line n r) ≡ Ok e → IsLawfulDraft d → (r ≡ Ok e → IsLawfulDraft e) → IsLawfulDraft e
by_remark true n d e r h old taken = let s : d ≡ e = cc in subst IsLawfulDraft s old
by_remark false n d e r h old taken = taken (plain n r e h)

taken_lawful : (version : ℕ) (names : List Name) (n : ℕ) (words : List (List ℕ)) (d e : Draft) → numbered version names n words d ≡ Ok e → IsLawfulDraft d → IsLawfulDraft e
unfolding numbered
taken_lawful version names n [] d e h old = let s : d ≡ e = cc in subst IsLawfulDraft s old
taken_lawful version names n (name ∷ words) d e h old = by_remark (is_remark name) n d e (with_line version names name words d) h old (λ taken. line_lawful version names name words d e taken old)

-- ---- whole scripts

none_lawful : IsLawfulDraft no_stream
none_lawful = record { done = All-nil IsScriptPlan; last = tt; few = omega arith; counted = refl; counted_flushes = refl; within = omega arith; flushed = omega arith }

whole_lawful : (version : ℕ) (d : Draft) → IsVersion version → IsLawfulDraft d → AreLawfulNames version (names_in (streams d)) → AreLawfulPlans (plans_of version d)
whole_lawful version d known old named =
    let all = streams_actions d old in
    let all_flushes = streams_flushes d old in
    let few = old.within in
    let fewer = old.flushed in
    record {
      together = record { streams = streams_few d old; actions = omega (arith, all, few); flushes = omega (arith, all_flushes, fewer) };
      each = streams_lawful d old;
      named = named;
      known = known;
    }

if_right : (r : Result Draft (ℕ × Kind)) (f : Draft → Result PlansData (ℕ × Kind)) → ((d : Draft) → r ≡ Ok d → IfOk (f d) AreLawfulPlans) → IfOk (r >>= f) AreLawfulPlans
if_right (Ok d) f h = h d refl
if_right (Err e) f h = tt

body_lawful : (version : ℕ) (names : List Name) (n : ℕ) (d : Draft) (lines : List (List (List ℕ))) → IsVersion version → IsLawfulDraft d → AreLawfulNames version (names_in (streams d)) → IfOk (from_body version names n d lines) AreLawfulPlans
unfolding from_body
body_lawful version names n d [] known old named = whole_lawful version d known old named
body_lawful version names n d (line ∷ lines) known old named =
    if_right (numbered version names n line d) (λ next. from_body version names (n + 1) next lines)
    (λ next taken. body_lawful version names (n + 1) next lines known (taken_lawful version names n line d next taken old) (numbered_lawful version names n line d next taken named))

version_lawful : (version : Option ℕ) (n : ℕ) (lines : List (List (List ℕ))) → IfSome version IsVersion → IfOk (from_version version n lines) AreLawfulPlans
unfolding from_version
version_lawful None n lines known = tt
version_lawful (Some version) n lines known = body_lawful version (fence_names version lines) (n + 1) no_stream lines known none_lawful (lawful_none version)

by_words : (head one two : Bool) → IfSome (cond head (cond one (Some 1) (cond two (Some 2) None)) None) IsVersion
by_words true true two = inl refl
by_words true false true = inr refl
by_words true false false = tt
by_words false one two = tt

version_known : (line : List (List ℕ)) → IfSome (version_of line) IsVersion
version_known [] = tt
version_known (name ∷ []) = tt
version_known (name ∷ version ∷ []) = by_words (bytes_eq name (codes "gpu-script")) (bytes_eq version (codes "1")) (bytes_eq version (codes "2"))
version_known (name ∷ version ∷ other ∷ line) = tt

head_lawful : (n : ℕ) (lines : List (List (List ℕ))) → IfOk (from_head n lines) AreLawfulPlans
unfolding from_head
head_lawful n [] = tt
head_lawful n (line ∷ lines) = either AreLawfulPlans (is_skipped line) (from_head (n + 1) lines) (from_version (version_of line) n lines) (head_lawful (n + 1) lines) (version_lawful (version_of line) n lines (version_known line))

pub scripts_are_lawful : ScriptsAreLawful
unfolding script_of
scripts_are_lawful text = head_lawful 1 (map words_of (lines_of text))
