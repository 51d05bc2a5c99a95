-- A whole stream is taken up, and with four of them the whole script.
use Rattle.std.proofs.Common.{◌≡◌, ◌&&◌, ℕ, ◌+◌, ◌*◌, ◌≤◌, ◌^◌, true, List, [], ◌∷◌, map, Some, Ok, refl, sym, subst, arith}
use Rattle.std.specs.Prelude.{codes, decimal}
use Rattle.std.specs.List.{list_all}
use Rattle.std.proofs.lemmas.Bool.{lt-ltb, and_from}
use Rattle.script_lines.specs.Numbers.{number_said}
use Rattle.gpu_cmd.specs.declared.priority.Priority.{Priority}
use Rattle.script_lines.specs.Said.{two_said}
use Rattle.gpu_plan.specs.Plans.{PlanData}
use Rattle.gpu_plan.specs.Adding.{Draft, fresh_plan, fresh, spans_with, with_memory, with_line}
use Rattle.gpu_plan.specs.Script.{numbered}
use Rattle.script_generator.specs.Generator.{rounds, start_text, stream_script}
use Rattle.script_laws.proofs.Words.{is_word}
use Rattle.script_laws.proofs.Values.{hex, is_small}
use Rattle.script_laws.proofs.Taken.{Takes, takes_line}
use Rattle.script_laws.proofs.Lines.{at_work}
use Rattle.script_laws.proofs.RoundTexts.{line, start_of, start_is}
use Rattle.script_laws.proofs.Works.{Works, zero_said, half_said, works_behind, works_on, widened, put_works, flush_works, finish_works}
use Rattle.script_laws.proofs.Rounds.{all_rounds}

-- a script whose last stream has just begun
abbrev pub just_begun : List PlanData → ℕ → Priority → ℕ → ℕ → Draft
just_begun done stream priority count flushes = record { done = done; last = Some (fresh_plan (record { namespace = 0; id = stream }) priority 64); actions = count; flushes = flushes }

memory_taken : (n : ℕ) (done : List PlanData) (stream : ℕ) (priority : Priority) (count flushes : ℕ)
    → numbered 1 [] n (codes "memory" ∷ codes "0" ∷ codes "16" ∷ []) (just_begun done stream priority count flushes) ≡ Ok (at_work done stream priority [] count flushes)
unfolding numbered with_line with_memory two_said number_said fresh spans_with
memory_taken n done stream priority count flushes = refl

pub values_small : (stream : ℕ) → stream ≤ 4 → list_all is_small (0x20400004 ∷ stream ∷ 16 ∷ 16 ∷ 28 ∷ []) ≡ true
values_small stream known = rw (lt-ltb stream (2 ^ 32) (omega arith)) refl

module _ (done : List PlanData) (stream : ℕ) (priority : Priority) (count flushes : ℕ) (known : stream ≤ 4) where
  memory_works : Works done stream priority (just_begun done stream priority count flushes) (line (codes "memory") (codes "0" ∷ codes "16" ∷ [])) count flushes
  memory_works = record {
    actions = [];
    count = count;
    flushes = flushes;
    lasts = refl;
    few = omega arith;
    fewer = omega arith;
    takes = takes_line (codes "memory") (codes "0" ∷ codes "16" ∷ []) _ _ refl (λ n. memory_taken n done stream priority count flushes);
  }

  start_works : count + 7 ≤ 1000000 → flushes + 1 ≤ 100000 → Works done stream priority (just_begun done stream priority count flushes) (start_of stream) (count + 7) (flushes + 1)
  start_works few fewer =
      let values = 0x20400004 ∷ stream ∷ 16 ∷ 16 ∷ 28 ∷ [] in
      works_on done stream priority _ (line (codes "memory") (codes "0" ∷ codes "16" ∷ [])) _ count flushes (count + 7) (flushes + 1) memory_works
      (λ actions₁ count₁ flushes₁ lasts₁ few₁ fewer₁.
      works_on done stream priority _ (line (codes "put") (decimal 0 ∷ map hex values)) _ (count₁ + 5) flushes₁ (count + 7) (flushes + 1) (put_works done stream priority actions₁ count₁ flushes₁ lasts₁ 0 values zero_said (values_small stream known) (omega arith) (omega arith) (omega arith))
      (λ actions₂ count₂ flushes₂ lasts₂ few₂ fewer₂.
      works_on done stream priority _ (line (codes "flush") (decimal 32 ∷ [])) _ (count₂ + 1) (flushes₂ + 1) (count + 7) (flushes + 1) (flush_works done stream priority actions₂ count₂ flushes₂ lasts₂ 32 half_said (omega arith) (omega arith))
      (λ actions₃ count₃ flushes₃ lasts₃ few₃ fewer₃. widened done stream priority (finish_works done stream priority actions₃ count₃ flushes₃ lasts₃ (omega arith)) (omega arith) (omega arith))))

  module _ (d : Draft) (word : List ℕ) (named : is_word (decimal stream) ≡ true) (prior : is_word word ≡ true)
      (begins : (n : ℕ) → numbered 1 [] n (codes "stream" ∷ decimal stream ∷ word ∷ codes "64" ∷ []) d ≡ Ok (just_begun done stream priority count flushes)) where
    begun : Takes d (line (codes "stream") (decimal stream ∷ word ∷ codes "64" ∷ [])) (just_begun done stream priority count flushes)
    begun = takes_line (codes "stream") (decimal stream ∷ word ∷ codes "64" ∷ []) _ _ (and_from (is_word (decimal stream)) (is_word word && true) named (and_from (is_word word) true prior refl)) begins

    begins_text : count + 7 ≤ 1000000 → flushes + 1 ≤ 100000 → Works done stream priority d (start_text word stream) (count + 7) (flushes + 1)
    begins_text few fewer =
        subst (λ text. Works done stream priority d text (count + 7) (flushes + 1)) (sym (start_is word stream))
        (works_behind done stream priority d (just_begun done stream priority count flushes) (line (codes "stream") (decimal stream ∷ word ∷ codes "64" ∷ [])) (start_of stream) (count + 7) (flushes + 1) begun (start_works few fewer))

    pub stream_works : (size state : ℕ) → size ≤ 2000 → count + 7 + 35 * size ≤ 1000000 → flushes + 1 + size ≤ 100000 → Works done stream priority d (stream_script word size stream state) (count + 7 + 35 * size) (flushes + 1 + size)
    stream_works size state within few fewer =
        works_on done stream priority d (start_text word stream) (rounds size stream 1 state) (count + 7) (flushes + 1) (count + 7 + 35 * size) (flushes + 1 + size) (begins_text (omega arith) (omega arith))
        (λ actions₁ count₁ flushes₁ lasts₁ few₁ fewer₁. widened done stream priority (all_rounds done stream priority known size 1 state (omega arith) actions₁ count₁ flushes₁ lasts₁ (omega arith) (omega arith)) (omega arith) (omega arith))
