-- The meaning of a script, read with the numbers of the names that it mentions.
use Rattle.std.proofs.Common.{◌≡◌, ℕ, ◌+◌, ◌≤◌, Bool, true, false, cond, nat_le, ◌&&◌, ◌==◌, List, [], ◌∷◌, length, map, Option, Some, None, Result, Ok, Err, refl, sym, ap, ◌∙◌, arith}
use Rattle.std.specs.Prelude.{slice_index}
use Rattle.std.proofs.lemmas.List.{length-map}
use Rattle.std.proofs.lemmas.Bool.Decides.{nat_tests}
use Rattle.gpu_cmd.specs.declared.name.Name.{Name}
use Rattle.script_lines.specs.Names.{number_in}
use Rattle.script_lines.proofs.Numbers.{Keeps, keeps_all, keeps_both, said_at}
use Rattle.script_lines.specs.declared.fault.Kind.{Kind}
use Rattle.script_lines.specs.declared.fault.Kind.TheVariants.{Word, Limit}
use Rattle.script_lines.specs.declared.fault.ScriptFault.{ScriptFault}
use Rattle.script_lines.specs.declared.fault.ScriptFault.TheVariants as faults
use Rattle.script_lines.specs.declared.keyword.Keyword.{Keyword}
use Rattle.script_lines.specs.declared.keyword.Keyword.TheVariants.{StreamLine, MemoryLine, ResultsLine, PutLine, FillLine, FlushLine, FinishLine, TokenLine, CloseLine, DumpLine}
use Rattle.script_lines.specs.Outcome.{◌>>=◌, or_error, at_line, FailsAt}
use Rattle.script_lines.specs.Said.{keyword_of, flush_said}
use Rattle.script_lines.specs.Naming.{named_in, fence_names}
use Rattle.script_lines.specs.Mentioned.{mentioned_behind}
use Rattle.script_lines.proofs.Steps.{shown_by, shown_step, test_step}
use Rattle.script_lines.proofs.Moved.{moved, moved_flush, flush_moved}
use Rattle.gpu_plan.specs.declared.plan.Action.TheVariants.{Flush}
use Rattle.gpu_plan.specs.Plans.{PlanData, PlansData}
use Rattle.gpu_plan.specs.Named.{names_in}
use Rattle.gpu_plan.specs.Adding.{Draft, no_stream, acting, with_flush, with_keyword, with_line}
use Rattle.gpu_plan.specs.Script.{is_remark, numbered, from_body}
use Rattle.gpu_plan.specs.Mentioning.{mentioned_as, mentioned_on, mentioned_in}
use Rattle.gpu_plan.specs.Renumbered.{numbers_of, renumbered_plan, renumbered}
use Rattle.gpu_plan.specs.declared.acting.TheConstants.{MOST_FLUSHES, MOST_FENCES}
use Rattle.gpu_plan.proofs.Moving.{moved_draft, streams_moved, acting_moved, added_moved, stream_moved, memory_moved, results_moved, put_moved, fill_moved, finish_moved, token_moved, close_moved, dump_moved}
use Rattle.gpu_plan.proofs.Staying.{keeps_in}
use Rattle.gpu_plan.proofs.Telling.{number_same, body_told}

-- ---- a script of version 2, at the names that it mentions and at those of its streams

module _ (mentioned named : List Name) where
  abbrev numbers : List ℕ
  numbers = 0 ∷ map (number_in named) mentioned

  agrees : (name : Name) → 1 ≤ number_in mentioned name → number_in named name ≡ slice_index numbers (number_in mentioned name)
  agrees name h = sym (said_at (number_in named) mentioned name h)

  flush_line_moved : (names : List Name) (words : List (List ℕ)) (d : Draft) → Keeps (mentioned_behind 2 names words) mentioned → with_flush 2 named words (moved_draft numbers d) ≡ shown_by (moved_draft numbers) (with_flush 2 mentioned words d)
  unfolding with_flush
  flush_line_moved names words d keeps =
      shown_step (moved_draft numbers) (moved_flush (slice_index numbers)) (flush_said 2 named words) (flush_said 2 mentioned words) _ _ (flush_moved mentioned named (slice_index numbers) agrees names words keeps) (λ said.
      shown_step (moved_draft numbers) (renumbered_plan numbers) (acting (moved_draft numbers d)) (acting d) _ _ (acting_moved numbers d) (λ last.
      test_step (moved_draft numbers) Limit (nat_le (d.flushes + 1) MOST_FLUSHES && nat_le (length (map (moved (slice_index numbers)) said.1)) MOST_FENCES) (nat_le (d.flushes + 1) MOST_FLUSHES && nat_le (length said.1) MOST_FENCES) _ _
      (ap (λ n. nat_le (d.flushes + 1) MOST_FLUSHES && nat_le n MOST_FENCES) (length-map said.1 (moved (slice_index numbers))))
      (added_moved numbers (Flush said.0 said.1 ∷ []) last (record d { flushes = d.flushes + 1 }))))

  keyword_moved : (names : List Name) (keyword : Option Keyword) (words : List (List ℕ)) (d : Draft) → Keeps (mentioned_as 2 names keyword words) mentioned
      → (or_error Word keyword >>= λ k. with_keyword 2 named k words (moved_draft numbers d)) ≡ shown_by (moved_draft numbers) (or_error Word keyword >>= λ k. with_keyword 2 mentioned k words d)
  keyword_moved names None words d keeps = refl
  keyword_moved names (Some StreamLine) words d keeps = stream_moved numbers 2 words d
  keyword_moved names (Some MemoryLine) words d keeps = memory_moved numbers words d
  keyword_moved names (Some ResultsLine) words d keeps = results_moved numbers words d
  keyword_moved names (Some PutLine) words d keeps = put_moved numbers words d
  keyword_moved names (Some FillLine) words d keeps = fill_moved numbers words d
  keyword_moved names (Some FlushLine) words d keeps = flush_line_moved names words d keeps
  keyword_moved names (Some FinishLine) words d keeps = finish_moved numbers words d
  keyword_moved names (Some TokenLine) words d keeps = token_moved numbers words d
  keyword_moved names (Some CloseLine) words d keeps = close_moved numbers words d
  keyword_moved names (Some DumpLine) words d keeps = dump_moved numbers words d

  at_line_moved : (n : ℕ) (s r : Result Draft Kind) → s ≡ shown_by (moved_draft numbers) r → at_line n s ≡ shown_by (moved_draft numbers) (at_line n r)
  at_line_moved n s (Ok d) e = ap (at_line n) e
  at_line_moved n s (Err kind) e = ap (at_line n) e

  line_moved : (names : List Name) (n : ℕ) (line : List (List ℕ)) (d : Draft) → Keeps (mentioned_on 2 names line) mentioned → numbered 2 named n line (moved_draft numbers d) ≡ shown_by (moved_draft numbers) (numbered 2 mentioned n line d)
  unfolding numbered mentioned_on with_line
  line_moved names n [] d keeps = refl
  line_moved names n (name ∷ words) d keeps = by_remark (is_remark name) keeps
    where
      by_remark : (remark : Bool) → Keeps (cond remark names (mentioned_as 2 names (keyword_of name) words)) mentioned
          → cond remark (Ok (moved_draft numbers d)) (at_line n (with_line 2 named name words (moved_draft numbers d))) ≡ shown_by (moved_draft numbers) (cond remark (Ok d) (at_line n (with_line 2 mentioned name words d)))
      by_remark true keeps = refl
      by_remark false keeps = at_line_moved n (with_line 2 named name words (moved_draft numbers d)) (with_line 2 mentioned name words d) (keyword_moved names (keyword_of name) words d keeps)

  abbrev moved_script : PlansData → PlansData
  moved_script script = record script { plans = map (renumbered_plan numbers) script.plans }

  body_moved : (names : List Name) (n : ℕ) (d : Draft) (lines : List (List (List ℕ))) → Keeps (mentioned_in 2 names lines) mentioned → from_body 2 named n (moved_draft numbers d) lines ≡ shown_by moved_script (from_body 2 mentioned n d lines)
  unfolding from_body mentioned_in
  body_moved names n d [] keeps = ap (λ plans. Ok (record { version = 2; plans = plans })) (streams_moved numbers d)
  body_moved names n d (line ∷ lines) keeps =
      let next = mentioned_on 2 names line in
      shown_step moved_script (moved_draft numbers) (numbered 2 named n line (moved_draft numbers d)) (numbered 2 mentioned n line d) _ _
      (line_moved names n line d (keeps_both next (mentioned_in 2 next lines) mentioned (keeps_in 2 next lines) keeps))
      (λ e. body_moved next (n + 1) e lines keeps)

-- ---- a script of either version

abbrev pub renumbered_script : ℕ → List Name → PlansData → PlansData
renumbered_script version mentioned script = record script { plans = renumbered version mentioned script.plans }

numbers_same : (mentioned named : List Name) (plans : List PlanData) → named ≡ names_in plans → 0 ∷ map (number_in named) mentioned ≡ numbers_of plans mentioned
numbers_same mentioned named plans is = ap (λ (f : Name → ℕ). 0 ∷ map f mentioned) (λ i name. (ap (λ names. number_in names name) is ∙ sym (number_same plans name)) i)

two_means : (n : ℕ) (lines : List (List (List ℕ))) → from_body 2 (named_in [] lines) n no_stream lines ≡ shown_by (renumbered_script 2 (mentioned_in 2 [] lines)) (from_body 2 (mentioned_in 2 [] lines) n no_stream lines)
two_means n lines =
    let mentioned = mentioned_in 2 [] lines in
    let named = named_in [] lines in
    body_moved mentioned named [] n no_stream lines (keeps_all mentioned) ∙ by_answer (from_body 2 mentioned n no_stream lines) refl
  where
    by_answer : (r : Result PlansData (ℕ × Kind)) → from_body 2 (mentioned_in 2 [] lines) n no_stream lines ≡ r → shown_by (moved_script (mentioned_in 2 [] lines) (named_in [] lines)) r ≡ shown_by (renumbered_script 2 (mentioned_in 2 [] lines)) r
    by_answer (Ok script) e =
        let told = body_told (mentioned_in 2 [] lines) n no_stream lines script e in
        ap (λ ns. Ok (record script { plans = map (renumbered_plan ns) script.plans })) (numbers_same (mentioned_in 2 [] lines) (named_in [] lines) script.plans told)
    by_answer (Err k) e = refl

none_behind : (version : ℕ) (names : List Name) (words : List (List ℕ)) → (version == 2) ≡ false → mentioned_behind version names words ≡ names
unfolding mentioned_behind
none_behind version names [] one = refl
none_behind version names (p ∷ words) one = rw one refl

none_as : (version : ℕ) (names : List Name) (keyword : Option Keyword) (words : List (List ℕ)) → (version == 2) ≡ false → mentioned_as version names keyword words ≡ names
none_as version names None words one = refl
none_as version names (Some StreamLine) words one = refl
none_as version names (Some MemoryLine) words one = refl
none_as version names (Some ResultsLine) words one = refl
none_as version names (Some PutLine) words one = refl
none_as version names (Some FillLine) words one = refl
none_as version names (Some FlushLine) words one = none_behind version names words one
none_as version names (Some FinishLine) words one = refl
none_as version names (Some TokenLine) words one = refl
none_as version names (Some CloseLine) words one = refl
none_as version names (Some DumpLine) words one = refl

none_on : (version : ℕ) (names : List Name) (line : List (List ℕ)) → (version == 2) ≡ false → mentioned_on version names line ≡ names
unfolding mentioned_on
none_on version names [] one = refl
none_on version names (name ∷ words) one = by_remark (is_remark name)
  where
    by_remark : (remark : Bool) → cond remark names (mentioned_as version names (keyword_of name) words) ≡ names
    by_remark true = refl
    by_remark false = none_as version names (keyword_of name) words one

-- in version 1 no name is mentioned
none_in : (version : ℕ) (names : List Name) (lines : List (List (List ℕ))) → (version == 2) ≡ false → mentioned_in version names lines ≡ names
unfolding mentioned_in
none_in version names [] one = refl
none_in version names (line ∷ lines) one = ap (λ ns. mentioned_in version ns lines) (none_on version names line one) ∙ none_in version names lines one

one_means : (version n : ℕ) (lines : List (List (List ℕ))) → (version == 2) ≡ false → from_body version (fence_names version lines) n no_stream lines ≡ shown_by (renumbered_script version (mentioned_in version [] lines)) (from_body version (mentioned_in version [] lines) n no_stream lines)
one_means version n lines one =
    let none = none_in version [] lines one in
    ap (λ two. from_body version (cond two (named_in [] lines) []) n no_stream lines) one
    ∙ ap (λ names. from_body version names n no_stream lines) (sym none)
    ∙ by_answer (from_body version (mentioned_in version [] lines) n no_stream lines)
  where
    by_answer : (r : Result PlansData (ℕ × Kind)) → r ≡ shown_by (renumbered_script version (mentioned_in version [] lines)) r
    by_answer (Ok script) = ap (λ two. Ok (record script { plans = cond two (map (renumbered_plan (numbers_of script.plans (mentioned_in version [] lines))) script.plans) script.plans })) (sym one)
    by_answer (Err k) = refl

pub means : (version n : ℕ) (lines : List (List (List ℕ))) → from_body version (fence_names version lines) n no_stream lines ≡ shown_by (renumbered_script version (mentioned_in version [] lines)) (from_body version (mentioned_in version [] lines) n no_stream lines)
means version n lines = by_version (version == 2) refl
  where
    by_version : (two : Bool) → (version == 2) ≡ two → from_body version (fence_names version lines) n no_stream lines ≡ shown_by (renumbered_script version (mentioned_in version [] lines)) (from_body version (mentioned_in version [] lines) n no_stream lines)
    by_version true e = let is : version ≡ 2 = grind (arith, nat_tests) in rw is (two_means n lines)
    by_version false e = one_means version n lines e

pub fails : (fault : ScriptFault) (version n : ℕ) (lines : List (List (List ℕ))) → FailsAt fault (from_body version (mentioned_in version [] lines) n no_stream lines) → FailsAt fault (from_body version (fence_names version lines) n no_stream lines)
fails (faults.Memory refusal) version n lines h = tt
fails (faults.Refused at kind) version n lines h = means version n lines ∙ ap (shown_by (renumbered_script version (mentioned_in version [] lines))) h
