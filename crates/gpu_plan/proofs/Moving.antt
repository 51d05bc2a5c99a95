-- What lines say with the numbers of mentioned names is, renumbered, what they say with the numbers of streams.
use Rattle.std.proofs.Common.{◌≡◌, ℕ, ◌+◌, not, nat_le, nat_lt, ◌||◌, ◌==◌, List, [], ◌∷◌, ◌++◌, length, map, option_map, option_to_list, Option, Some, None, Ok, refl, sym, ap, ◌∙◌}
use Rattle.std.specs.List.{list_any}
use Rattle.std.proofs.lemmas.List.{length-map, map-append}
use Rattle.gpu_cmd.specs.declared.name.Name.{Name}
use Rattle.gpu_cmd.specs.Spans.{span_at}
use Rattle.script_lines.specs.declared.fault.Kind.{Kind}
use Rattle.script_lines.specs.declared.fault.Kind.TheVariants.{Order, Place, Limit}
use Rattle.script_lines.specs.Outcome.{◌>>=◌, or_error}
use Rattle.script_lines.specs.Said.{none_said, one_said, two_said, stream_said, put_said, fill_said}
use Rattle.script_lines.proofs.Steps.{shown_by, same_step, shown_step, test_step}
use Rattle.gpu_plan.specs.declared.plan.Action.{Action}
use Rattle.gpu_plan.specs.declared.plan.Action.TheVariants.{Put, Finish, Token, Close}
use Rattle.gpu_plan.specs.Plans.{PlanData, is_of, is_closed}
use Rattle.gpu_plan.specs.Adding.{Draft, streams, acting, fresh, added, puts, spans_with, may_follow, fresh_plan, with_stream, with_memory, with_results, with_puts, with_fill, with_finish, with_token, with_close, with_dump}
use Rattle.gpu_plan.specs.Renumbered.{renumbered_action, renumbered_plan}
use Rattle.gpu_plan.specs.declared.acting.TheConstants.{MOST_ACTIONS}
use Rattle.gpu_plan.proofs.Renumbered.{all_open}

module _ (numbers : List ℕ) where
  abbrev pub moved_draft : Draft → Draft
  moved_draft d = record { done = map (renumbered_plan numbers) d.done; last = option_map (renumbered_plan numbers) d.last; actions = d.actions; flushes = d.flushes }

  last_moved : (kind : Kind) (last : Option PlanData) → or_error kind (option_map (renumbered_plan numbers) last) ≡ shown_by (renumbered_plan numbers) (or_error kind last)
  last_moved kind None = refl
  last_moved kind (Some plan) = refl

  pub streams_moved : (d : Draft) → streams (moved_draft d) ≡ map (renumbered_plan numbers) (streams d)
  streams_moved d = ap (λ rest. map (renumbered_plan numbers) d.done ++ rest) (by_last d.last) ∙ sym (map-append (renumbered_plan numbers) d.done (option_to_list d.last))
    where
      by_last : (last : Option PlanData) → option_to_list (option_map (renumbered_plan numbers) last) ≡ map (renumbered_plan numbers) (option_to_list last)
      by_last None = refl
      by_last (Some plan) = refl

  pub acting_moved : (d : Draft) → acting (moved_draft d) ≡ shown_by (renumbered_plan numbers) (acting d)
  unfolding acting
  acting_moved d =
      shown_step (renumbered_plan numbers) (renumbered_plan numbers) (or_error Order (option_map (renumbered_plan numbers) d.last)) (or_error Order d.last) _ _ (last_moved Order d.last)
      (λ last. test_step (renumbered_plan numbers) Order (not (is_closed (renumbered_plan numbers last).actions)) (not (is_closed last.actions)) _ _ (ap (λ unclosed. not (not unclosed)) (all_open numbers last.actions)) refl)

  fresh_moved : (d : Draft) → fresh (moved_draft d) ≡ shown_by (renumbered_plan numbers) (fresh d)
  unfolding fresh
  fresh_moved d =
      shown_step (renumbered_plan numbers) (renumbered_plan numbers) (or_error Order (option_map (renumbered_plan numbers) d.last)) (or_error Order d.last) _ _ (last_moved Order d.last)
      (λ last. test_step (renumbered_plan numbers) Order (length (renumbered_plan numbers last).actions == 0) (length last.actions == 0) _ _ (ap (λ n. n == 0) (length-map last.actions (renumbered_action numbers))) refl)

  pub added_moved : (actions : List Action) (plan : PlanData) (d : Draft) → added (map (renumbered_action numbers) actions) (renumbered_plan numbers plan) (moved_draft d) ≡ shown_by moved_draft (added actions plan d)
  unfolding added
  added_moved actions plan d =
      let long = length-map actions (renumbered_action numbers) in
      test_step moved_draft Limit (nat_le (d.actions + length (map (renumbered_action numbers) actions)) MOST_ACTIONS) (nat_le (d.actions + length actions) MOST_ACTIONS) _ _ (ap (λ n. nat_le (d.actions + n) MOST_ACTIONS) long)
      (rw (long, sym (map-append (renumbered_action numbers) plan.actions actions)) refl)

  puts_moved : (place : ℕ) (values : List ℕ) → map (renumbered_action numbers) (puts place values) ≡ puts place values
  puts_moved place [] = refl
  puts_moved place (value ∷ values) = ap (λ rest. Put place value ∷ rest) (puts_moved (place + 1) values)

  added_puts : (place : ℕ) (values : List ℕ) (plan : PlanData) (d : Draft) → added (puts place values) (renumbered_plan numbers plan) (moved_draft d) ≡ shown_by moved_draft (added (puts place values) plan d)
  added_puts place values plan d = ap (λ actions. added actions (renumbered_plan numbers plan) (moved_draft d)) (sym (puts_moved place values)) ∙ added_moved (puts place values) plan d

  -- ---- lines that say no name

  pub memory_moved : (words : List (List ℕ)) (d : Draft) → with_memory words (moved_draft d) ≡ shown_by moved_draft (with_memory words d)
  unfolding with_memory
  memory_moved words d =
      same_step moved_draft (two_said words) _ _ (λ said.
      shown_step moved_draft (renumbered_plan numbers) (fresh (moved_draft d)) (fresh d) _ _ (fresh_moved d) (λ last.
      same_step moved_draft (spans_with last.areas.ring last.areas.memories said.0 said.1) _ _ (λ memories. refl)))

  pub results_moved : (words : List (List ℕ)) (d : Draft) → with_results words (moved_draft d) ≡ shown_by moved_draft (with_results words d)
  unfolding with_results
  results_moved words d =
      same_step moved_draft (two_said words) _ _ (λ said.
      shown_step moved_draft (renumbered_plan numbers) (fresh (moved_draft d)) (fresh d) _ _ (fresh_moved d) (λ last.
      same_step moved_draft (spans_with 0 last.areas.results said.0 said.1) _ _ (λ results. refl)))

  pub put_moved : (words : List (List ℕ)) (d : Draft) → with_puts words (moved_draft d) ≡ shown_by moved_draft (with_puts words d)
  unfolding with_puts
  put_moved words d =
      same_step moved_draft (put_said words) _ _ (λ said.
      shown_step moved_draft (renumbered_plan numbers) (acting (moved_draft d)) (acting d) _ _ (acting_moved d) (λ last.
      test_step moved_draft Place (nat_le (said.0 + length said.1) last.areas.ring) (nat_le (said.0 + length said.1) last.areas.ring) _ _ refl (added_puts said.0 said.1 last d)))

  pub fill_moved : (words : List (List ℕ)) (d : Draft) → with_fill words (moved_draft d) ≡ shown_by moved_draft (with_fill words d)
  unfolding with_fill
  fill_moved words d =
      same_step moved_draft (fill_said words) _ _ (λ said.
      shown_step moved_draft (renumbered_plan numbers) (acting (moved_draft d)) (acting d) _ _ (acting_moved d) (λ last.
      same_step moved_draft (or_error Place (span_at last.areas.memories said.0)) _ _ (λ span.
      test_step moved_draft Place (nat_le (said.1 + length said.2) span.words) (nat_le (said.1 + length said.2) span.words) _ _ refl (added_puts (span.base + said.1) said.2 last d))))

  pub finish_moved : (words : List (List ℕ)) (d : Draft) → with_finish words (moved_draft d) ≡ shown_by moved_draft (with_finish words d)
  unfolding with_finish
  finish_moved words d =
      same_step moved_draft (none_said words) _ _ (λ said.
      shown_step moved_draft (renumbered_plan numbers) (acting (moved_draft d)) (acting d) _ _ (acting_moved d) (λ last. added_moved (Finish ∷ []) last d))

  pub token_moved : (words : List (List ℕ)) (d : Draft) → with_token words (moved_draft d) ≡ shown_by moved_draft (with_token words d)
  unfolding with_token
  token_moved words d =
      same_step moved_draft (one_said words) _ _ (λ said.
      shown_step moved_draft (renumbered_plan numbers) (acting (moved_draft d)) (acting d) _ _ (acting_moved d) (λ last. added_moved (Token said ∷ []) last d))

  pub close_moved : (words : List (List ℕ)) (d : Draft) → with_close words (moved_draft d) ≡ shown_by moved_draft (with_close words d)
  unfolding with_close
  close_moved words d =
      same_step moved_draft (none_said words) _ _ (λ said.
      shown_step moved_draft (renumbered_plan numbers) (acting (moved_draft d)) (acting d) _ _ (acting_moved d) (λ last. added_moved (Close ∷ []) last d))

  pub dump_moved : (words : List (List ℕ)) (d : Draft) → with_dump words (moved_draft d) ≡ shown_by moved_draft (with_dump words d)
  unfolding with_dump
  dump_moved words d =
      same_step moved_draft (two_said words) _ _ (λ said.
      shown_step moved_draft (renumbered_plan numbers) (acting (moved_draft d)) (acting d) _ _ (acting_moved d) (λ last.
      same_step moved_draft (or_error Place (span_at last.areas.results said.0)) _ _ (λ span.
      test_step moved_draft Place (nat_lt said.1 span.words) (nat_lt said.1 span.words) _ _ refl
      (ap (λ n. added (Finish ∷ []) (record (renumbered_plan numbers last) { dumps = last.dumps ++ (n, span.base + said.1) ∷ [] }) (moved_draft d)) (length-map last.actions (renumbered_action numbers))
      ∙ added_moved (Finish ∷ []) (record last { dumps = last.dumps ++ (length last.actions, span.base + said.1) ∷ [] }) d))))

  any_moved : (name : Name) (plans : List PlanData) → list_any (is_of name) (map (renumbered_plan numbers) plans) ≡ list_any (is_of name) plans
  any_moved name [] = refl
  any_moved name (plan ∷ plans) = ap (λ b. is_of name plan || b) (any_moved name plans)

  follow_moved : (version : ℕ) (plans : List PlanData) (name : Name) (ring : ℕ) → may_follow version (map (renumbered_plan numbers) plans) name ring ≡ may_follow version plans name ring
  unfolding may_follow
  follow_moved version plans name ring = rw (length-map plans (renumbered_plan numbers), any_moved name plans) refl

  pub stream_moved : (version : ℕ) (words : List (List ℕ)) (d : Draft) → with_stream version words (moved_draft d) ≡ shown_by moved_draft (with_stream version words d)
  unfolding with_stream
  stream_moved version words d =
      same_step moved_draft (stream_said version words) _ _ (λ said.
      let follows : may_follow version (streams (moved_draft d)) said.0 said.2 ≡ may_follow version (streams d) said.0 said.2 = ap (λ plans. may_follow version plans said.0 said.2) (streams_moved d) ∙ follow_moved version (streams d) said.0 said.2 in
      ap (λ allowed. allowed >>= λ _. Ok (record (moved_draft d) { done = streams (moved_draft d); last = Some (fresh_plan said.0 said.1 said.2) })) follows
      ∙ same_step moved_draft (may_follow version (streams d) said.0 said.2) _ _ (λ _. ap (λ done. Ok (record (moved_draft d) { done = done; last = Some (fresh_plan said.0 said.1 said.2) })) (streams_moved d)))
