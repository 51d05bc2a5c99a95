use Rattle.std.proofs.Common.{ℕ, List, sym, ap, subst, ◌∙◌}
use Rattle.verify_input.specs.Said.{own_number}
use Rattle.verify_input.specs.Fronts.{HasValue}
use Rattle.verify_input.proofs.Fronts.{no_number, value_behind, word_front}
use Rattle.verify_input.proofs.word.word_at.Goals as goal

pub returns-in_err-place : goal.returns-in_err-place
returns-in_err-place c = rw c.from_residual.ensures (λ word rest has.
    no_number c.args.text.now word rest c.args.colon has c.requires (sym (c.in_err-place.ensures ∙ ap own_number c.cut_at.ensures.before)))

pub returns-in_err-value : goal.returns-in_err-value
returns-in_err-value c = rw c.from_residual-in_err-value.ensures (λ word rest has.
    c.in_err-value.ensures word.1 rest
    (subst (λ (text : List ℕ). HasValue text word.1 rest) (sym c.cut_at.ensures.behind) (value_behind c.args.text.now word rest c.args.colon has c.requires)))

pub returns : goal.returns
returns c =
    let value = c.in_ok-value.value in
    let rest = c.in_ok-value.rest.now in
    word_front c.args.text.now c.args.colon c.in_ok-place.place value rest c.requires
    (sym (c.in_ok-place.ensures ∙ ap own_number c.cut_at.ensures.before))
    (subst (λ (text : List ℕ). HasValue text value rest) c.cut_at.ensures.behind c.in_ok-value.ensures)
