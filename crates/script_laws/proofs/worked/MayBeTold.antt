-- What may be told of a dump: a value that stood at its place once enough flushes were finished, and no other.
use Rattle.std.proofs.Common.{◌≡◌, ℕ, ◌⊎◌, inl, inr, Bool, true, false, cond, nat_le, List, [], ◌∷◌, ◌++◌, take, Result, Ok, Err, refl, ap, subst, ◌∙◌, arith}
use Rattle.std.specs.Prelude.{codes, ◌==◌, ◌&&◌}
use Rattle.std.specs.List.{list_all}
use Rattle.std.proofs.lemmas.Bool.Decides.{nat_tests}
use Rattle.std.proofs.lemmas.Bool.{le-leb}
use Rattle.std.proofs.lemmas.List.{append-nil}
use Rattle.script_lines.specs.declared.fault.Kind.{Kind}
use Rattle.gpu_plan.specs.Plans.{PlansData, plan_of}
use Rattle.gpu_plan.specs.Passes.{flushes}
use Rattle.gpu_journal.specs.declared.event.Event.{Event}
use Rattle.gpu_cmd.specs.Checks.{headed, checked, decoded}
use Rattle.gpu_cmd.specs.Copied.{judged, places_read, copied, fetched}
use Rattle.gpu_cmd.specs.Table.{row_of}
use Rattle.gpu_store.specs.Images.{outcome, apply}
use Rattle.gpu_store.specs.Picture.{painted, redrawn}
use Rattle.gpu_store.specs.Conversion.{first_texels}
use Rattle.gpu_plan.specs.Text.{lines_of, words_of}
use Rattle.gpu_plan.specs.Numbers.{number_said}
use Rattle.gpu_plan.specs.Naming.{named_on, named_in}
use Rattle.gpu_plan.specs.Said.{none_said, one_said, two_said, numbered_said, named_said, put_said, fill_said, pairs_of, named_fence, triples_of, flush_said}
use Rattle.gpu_plan.specs.Adding.{with_line, with_stream, may_follow, added, acting, fresh, with_memory, with_results, spans_with, with_puts, with_fill, with_flush, with_finish, with_token, with_close, with_dump}
use Rattle.gpu_plan.specs.Script.{script_of, from_head, from_version, from_body, numbered}
use Rattle.stream_state.specs.Writes.{first_words, after_writes}
use Rattle.stream_state.specs.Steps.{command_in, transfer_bytes, immediate_bytes, asked, effect_of, acted, stepped, effect, writes}
use Rattle.stream_state.specs.Verdict.{checked_state, verdict}
use Rattle.gpu_journal.specs.Waits.{sync_of}
use Rattle.gpu_journal.specs.World.{world, known}
use Rattle.gpu_journal.specs.Serial.{next, events, serial}
use Rattle.gpu_journal.specs.Written.{written, result_at}
use Rattle.gpu_journal.specs.Ended.{streams_of}
use Rattle.gpu_journal.specs.Dumps.{MayDump, dumps_of}
use Rattle.journal_text.specs.Digits.{numeral, hex8}
use Rattle.journal_text.specs.Lines.{dump_text}
use Rattle.journal_text.specs.Output.{AreDumps, AreDumpsOf, AreDumpLines}

-- ---- the values that may be told

-- enough flushes are finished after a history
abbrev is_enough : PlansData → List Event → ℕ → ℕ × ℕ → Bool
is_enough p h s dump = nat_le (flushes (take dump.0 (plan_of p s).actions)) (known p h s).finished

-- the values of the place after each first part of a history after which enough is finished, the latest first
abbrev values : PlansData → List Event → ℕ → ℕ × ℕ → List ℕ
values p [] s dump = cond (is_enough p [] s dump) (result_at p [] s dump.1 ∷ []) []
values p (e ∷ h) s dump = cond (is_enough p (e ∷ h) s dump) (result_at p (e ∷ h) s dump.1 ∷ values p h s dump) (values p h s dump)

abbrev IsAmong : ℕ → List ℕ → Type 0
IsAmong value [] = ⊥
IsAmong value (x ∷ xs) = (value ≡ x) ⊎ IsAmong value xs

here : (b : Bool) (x : ℕ) (xs ys : List ℕ) → b ≡ true → IsAmong x (cond b (x ∷ xs) ys)
here true x xs ys e = inl refl
here false x xs ys e = absurd cc

further : (b : Bool) (value x : ℕ) (xs : List ℕ) → IsAmong value xs → IsAmong value (cond b (x ∷ xs) xs)
further true value x xs among = inr among
further false value x xs among = among

now : (p : PlansData) (h : List Event) (s : ℕ) (dump : ℕ × ℕ) → is_enough p h s dump ≡ true → IsAmong (result_at p h s dump.1) (values p h s dump)
now p [] s dump enough = here (is_enough p [] s dump) (result_at p [] s dump.1) [] [] enough
now p (e ∷ h) s dump enough = here (is_enough p (e ∷ h) s dump) (result_at p (e ∷ h) s dump.1) (values p h s dump) (values p h s dump) enough

before : (p : PlansData) (later past : List Event) (s : ℕ) (dump : ℕ × ℕ) → is_enough p past s dump ≡ true → IsAmong (result_at p past s dump.1) (values p (later ++ past) s dump)
before p [] past s dump enough = now p past s dump enough
before p (e ∷ later) past s dump enough = further (is_enough p (e ∷ (later ++ past)) s dump) (result_at p past s dump.1) (result_at p (e ∷ (later ++ past)) s dump.1) (values p (later ++ past) s dump) (before p later past s dump enough)

-- no other value may be told
told_is : (p : PlansData) (h : List Event) (s : ℕ) (dump : ℕ × ℕ) (value : ℕ) → MayDump p h s dump value → IsAmong value (values p h s dump)
told_is p h s dump value may =
    let enough = le-leb (flushes (take dump.0 (plan_of p s).actions)) (known p may.past s).finished may.enough in
    subst (λ (v : ℕ). IsAmong v (values p h s dump)) may.found (subst (λ (g : List Event). IsAmong (result_at p may.past s dump.1) (values p g s dump)) may.first_part (before p may.later may.past s dump enough))

-- where they are all the same
one_alone : (value x : ℕ) (xs : List ℕ) → IsAmong value xs → list_all (λ v. v == x) xs ≡ true → value ≡ x
one_alone value x [] among same = absurd among
one_alone value x (y ∷ xs) among same = by (λ all more. one_alone value x xs more all) (y == x) refl (list_all (λ v. v == x) xs) refl same among
  where
    by : (list_all (λ v. v == x) xs ≡ true → IsAmong value xs → value ≡ x) → (b : Bool) → (y == x) ≡ b → (c : Bool) → list_all (λ v. v == x) xs ≡ c → (b && c) ≡ true → (value ≡ y) ⊎ IsAmong value xs → value ≡ x
    by rest true q true r e (inl is) = let here : y ≡ x = grind (arith, nat_tests) in is ∙ here
    by rest true q true r e (inr more) = rest r more
    by rest true q false r e among = absurd cc
    by rest false q c r e among = absurd cc

-- ---- a text of dumps, where the second of two streams has one dump, of which one value may be told

sole_text : (p : PlansData) (h : List Event) (text : List ℕ) (dump : ℕ × ℕ) (value : ℕ) → streams_of p ≡ 1 ∷ 2 ∷ [] → dumps_of p h 1 ≡ [] → dumps_of p h 2 ≡ dump ∷ [] → list_all (λ v. v == value) (values p h 2 dump) ≡ true → AreDumpLines p h text → text ≡ dump_text 2 dump.0 dump.1 value
sole_text p h text dump value two none one alone are =
    let first = subst (λ (ss : List ℕ). AreDumpsOf p h ss text) two are in
    let nothing : first.0 ≡ [] = subst (λ (dumps : List (ℕ × ℕ)). AreDumps p h 1 dumps first.0) none first.2 in
    let second = first.4 in
    let its = subst (λ (dumps : List (ℕ × ℕ)). AreDumps p h 2 dumps second.0) one second.2 in
    let same : its.0 ≡ value = one_alone its.0 value (values p h 2 dump) (told_is p h 2 dump its.0 its.2) alone in
    let line : second.0 ≡ dump_text 2 dump.0 dump.1 value = its.3 ∙ ap (λ (rest : List ℕ). dump_text 2 dump.0 dump.1 its.0 ++ rest) its.4 ∙ append-nil (dump_text 2 dump.0 dump.1 its.0) ∙ ap (dump_text 2 dump.0 dump.1) same in
    let rest : first.1 ≡ dump_text 2 dump.0 dump.1 value = second.3 ∙ ap (λ (end : List ℕ). second.0 ++ end) second.4 ∙ append-nil second.0 ∙ line in
    first.3 ∙ ap (λ (own : List ℕ). own ++ first.1) nothing ∙ rest

-- ---- two scripts

abbrev plans_in : Result PlansData (ℕ × Kind) → PlansData
plans_in (Ok plans) = plans
plans_in (Err wrong) = record { version = 0; plans = [] }

-- its two dumps stand before and after the second value
abbrev two_dumps : PlansData
two_dumps = plans_in (script_of (codes "gpu-script 1\nstream 1 normal 64\nresults 0 1\nput 0 00400003 0 6 00a00007 0 0 0 0 0 0\nflush 10\ndump 0 0\nput 10 00400003 0 7 00a00007 0 0 0 0 0 0\nflush 20\ndump 0 0\n"))

-- of the first both values may be told, each as often as a first part ends with it
both_values : values two_dumps (serial two_dumps) 1 (11, 0) ≡ 7 ∷ 7 ∷ 6 ∷ 6 ∷ 6 ∷ []
unfolding headed checked decoded judged places_read copied fetched row_of outcome apply painted redrawn first_texels lines_of words_of number_said named_on named_in none_said one_said two_said numbered_said named_said put_said fill_said pairs_of named_fence triples_of flush_said with_line with_stream may_follow added acting fresh with_memory with_results spans_with with_puts with_fill with_flush with_finish with_token with_close with_dump script_of from_head from_version from_body numbered first_words after_writes command_in transfer_bytes immediate_bytes asked effect_of acted stepped effect writes checked_state verdict world sync_of next events serial written
both_values = refl

-- of the second the second alone
second_value : values two_dumps (serial two_dumps) 1 (23, 0) ≡ 7 ∷ []
unfolding headed checked decoded judged places_read copied fetched row_of outcome apply painted redrawn first_texels lines_of words_of number_said named_on named_in none_said one_said two_said numbered_said named_said put_said fill_said pairs_of named_fence triples_of flush_said with_line with_stream may_follow added acting fresh with_memory with_results spans_with with_puts with_fill with_flush with_finish with_token with_close with_dump script_of from_head from_version from_body numbered first_words after_writes command_in transfer_bytes immediate_bytes asked effect_of acted stepped effect writes checked_state verdict world sync_of next events serial written
second_value = refl

only_second : (value : ℕ) → MayDump two_dumps (serial two_dumps) 1 (23, 0) value → value ≡ 7
only_second value may = one_alone value 7 (values two_dumps (serial two_dumps) 1 (23, 0)) (told_is two_dumps (serial two_dumps) 1 (23, 0) value may) (ap (list_all (λ v. v == 7)) second_value)

-- a script whose first stream is lost after its dump
abbrev lost_dump : PlansData
lost_dump = plans_in (script_of (codes "gpu-script 1\nstream 1 low 16\nresults 0 1\nput 0 00400003 0 6 00a00007 0 0 0 0 0 0\nflush 10\ndump 0 0\nput 10 ffe00001\nflush 11\nstream 2 normal 16\nresults 0 1\nput 0 00400003 0 7 00a00007 0 0 0 0 0 0\nflush 10 1 1\ndump 0 0\n"))

both_streams : streams_of lost_dump ≡ 1 ∷ 2 ∷ []
unfolding headed checked decoded judged places_read copied fetched row_of outcome apply painted redrawn first_texels lines_of words_of number_said named_on named_in none_said one_said two_said numbered_said named_said put_said fill_said pairs_of named_fence triples_of flush_said with_line with_stream may_follow added acting fresh with_memory with_results spans_with with_puts with_fill with_flush with_finish with_token with_close with_dump script_of from_head from_version from_body numbered first_words after_writes command_in transfer_bytes immediate_bytes asked effect_of acted stepped effect writes checked_state verdict world sync_of next events serial written
both_streams = refl

no_dumps : dumps_of lost_dump (serial lost_dump) 1 ≡ []
unfolding headed checked decoded judged places_read copied fetched row_of outcome apply painted redrawn first_texels lines_of words_of number_said named_on named_in none_said one_said two_said numbered_said named_said put_said fill_said pairs_of named_fence triples_of flush_said with_line with_stream may_follow added acting fresh with_memory with_results spans_with with_puts with_fill with_flush with_finish with_token with_close with_dump script_of from_head from_version from_body numbered first_words after_writes command_in transfer_bytes immediate_bytes asked effect_of acted stepped effect writes checked_state verdict world sync_of next events serial written
no_dumps = refl

its_dumps : dumps_of lost_dump (serial lost_dump) 2 ≡ (11, 0) ∷ []
unfolding headed checked decoded judged places_read copied fetched row_of outcome apply painted redrawn first_texels lines_of words_of number_said named_on named_in none_said one_said two_said numbered_said named_said put_said fill_said pairs_of named_fence triples_of flush_said with_line with_stream may_follow added acting fresh with_memory with_results spans_with with_puts with_fill with_flush with_finish with_token with_close with_dump script_of from_head from_version from_body numbered first_words after_writes command_in transfer_bytes immediate_bytes asked effect_of acted stepped effect writes checked_state verdict world sync_of next events serial written
its_dumps = refl

its_value : list_all (λ v. v == 7) (values lost_dump (serial lost_dump) 2 (11, 0)) ≡ true
unfolding headed checked decoded judged places_read copied fetched row_of outcome apply painted redrawn first_texels lines_of words_of number_said named_on named_in none_said one_said two_said numbered_said named_said put_said fill_said pairs_of named_fence triples_of flush_said with_line with_stream may_follow added acting fresh with_memory with_results spans_with with_puts with_fill with_flush with_finish with_token with_close with_dump script_of from_head from_version from_body numbered first_words after_writes command_in transfer_bytes immediate_bytes asked effect_of acted stepped effect writes checked_state verdict world sync_of next events serial written
its_value = refl

its_line : dump_text 2 11 0 7 ≡ codes "dump 2 11 0 00000007\n"
unfolding dump_text numeral hex8
its_line = refl

-- no other text than this may be told of its dumps
one_text : (text : List ℕ) → AreDumpLines lost_dump (serial lost_dump) text → text ≡ codes "dump 2 11 0 00000007\n"
one_text text are = sole_text lost_dump (serial lost_dump) text (11, 0) 7 both_streams no_dumps its_dumps its_value are ∙ its_line
