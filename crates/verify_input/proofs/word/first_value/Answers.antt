use Rattle.std.proofs.Common.{ℕ, List, sym, ap, subst, ◌∙◌}
use Rattle.verify_input.specs.Said.{own_value}
use Rattle.verify_input.specs.Fronts.{IsCut, HasValue}
use Rattle.verify_input.proofs.Fronts.{value_short, value_cut, no_value, value_front}
use Rattle.verify_input.proofs.word.first_value.Goals as goal

pub returns-then-text-lt8 : goal.returns-then-text-lt8
returns-then-text-lt8 c = λ value rest has. value_short c.args.text.now value rest has c.if-text-lt8.true

pub returns-then-not-is_cut : goal.returns-then-not-is_cut
returns-then-not-is_cut c = λ value rest has.
    let yes = c.is_cut.ensures.1 (subst IsCut (sym c.split_at.ensures.back) (value_cut c.args.text.now value rest has)) in
    let no = c.if-not-is_cut.true in
    absurd (cc)

pub returns-in_err-value : goal.returns-in_err-value
returns-in_err-value c = rw c.from_residual.ensures (λ value rest has.
    no_value c.args.text.now value rest has (sym (c.in_err-value.ensures ∙ ap own_value c.split_at.ensures.front)))

pub returns : goal.returns
returns c =
    let text = c.args.text.now in
    let value = c.in_ok-value.value in
    let said = sym (c.in_ok-value.ensures ∙ ap own_value c.split_at.ensures.front) in
    let cut = subst IsCut c.split_at.ensures.back (c.is_cut.ensures.0 c.if-not-is_cut.false) in
    subst (λ (rest : List ℕ). HasValue text value rest) (sym c.split_at.ensures.back) (value_front text value c.if-text-lt8.false said cut)
