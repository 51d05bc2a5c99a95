-- Each turn writes the next word.
use Rattle.std.proofs.Common.{◌≡◌, ◌∙◌, ℕ, ◌+◌, ◌*◌, List, [], ◌∷◌, ◌++◌, ap, sym, arith, rules}
use Rattle.std.proofs.lemmas.List.FromFn.{map-range_with_len_more}
use Rattle.stream_state.specs.Writes.{word_from, first_words}
use Rattle.stream_state.proofs.writes.Writes.of_bytes.Goals as goal

-- one word more
first_words-more : (place : ℕ) (bytes : List ℕ) (i : ℕ) → first_words place bytes i ++ (place + i, word_from bytes (4 * i)) ∷ [] ≡ first_words place bytes (i + 1)
unfolding first_words
first_words-more place bytes i = sym (map-range_with_len_more (λ i. (place + i, word_from bytes (4 * i))) 0 i i (omega arith))

pub loop-i-init : goal.loop-i-init
unfolding first_words
loop-i-init c = record { written = c.in_ok-items.ensures.items; len = search rules; room = search rules }

pub loop-i-preserved : goal.loop-i-preserved
loop-i-preserved c = record {
  written =
      c.push_reserved.ensures.items ∙ ap (λ items. items ++ (c.args.place + c.loop-i.i, c.word_from-value.result) ∷ []) c.loop-i.invariant.written
      ∙ ap (λ value. first_words c.args.place c.args.bytes.now c.loop-i.i ++ (c.args.place + c.loop-i.i, value) ∷ []) c.word_from-value.ensures
      ∙ first_words-more c.args.place c.args.bytes.now c.loop-i.i;
  len = search rules;
  room = search rules;
}
