use Rattle.std.proofs.Common.{◌≡◌, List, ℕ, sym, ap, subst, ◌∙◌}
use Rattle.std.proofs.lemmas.List.{nil_from_length}
use Rattle.verify_input.specs.Said.{pieces_of, words_said}
use Rattle.verify_input.specs.Fronts.{HasWord}
use Rattle.verify_input.proofs.Words.{with_front, front_all}
use Rattle.verify_input.proofs.Fronts.{collect_more, collect_none}
use Rattle.verify_input.proofs.word.collect_words.Goals as goal

pub returns-in_default-first_word : goal.returns-in_default-first_word
returns-in_default-first_word c =
    c.loop-text.invariant.said
    ∙ collect_none c.loop-text.words.items c.loop-text.rest.now c.in-Some.field-0-0.now c.in-Some.text.now c.in-Some.ensures.cases.0 c.loop-text.invariant.cut c.in_default-first_word.ensures

pub loop-text-preserved : goal.loop-text-preserved
loop-text-preserved c =
    let word = c.in-Some-first_word.word in
    let more = c.in-Some-first_word.more.now in
    let has : HasWord c.in-Some.text.now word more = c.in-Some-first_word.ensures in
    record {
      said = subst (λ (words : List (ℕ × ℕ)). words_said (pieces_of c.args.pieces.rest.now) ≡ with_front words (words_said (pieces_of more))) (sym c.in_ok-push.ensures.items)
          (c.loop-text.invariant.said
          ∙ collect_more c.loop-text.words.items c.loop-text.rest.now c.in-Some.field-0-0.now c.in-Some.text.now word more c.in-Some.ensures.cases.0 c.loop-text.invariant.cut has);
      cut = has.cut;
    }

pub returns : goal.returns
returns c =
    c.loop-text.invariant.said
    ∙ ap (λ (rest : List ℕ). with_front c.loop-text.words.items (words_said (pieces_of rest))) (nil_from_length c.loop-text.rest.now c.in_default.ensures.cases)
    ∙ front_all c.loop-text.words.items
