use Rattle.std.proofs.Common.{ap, ◌∙◌, arith}
use Rattle.std.specs.Prelude.{unwrap_or}
use Rattle.verify_input.proofs.Looking.{ends_long, ends_digits}
use Rattle.verify_input.proofs.reading_lines.value_before_end.Goals as goal

pub returns-then-count-lt9 : goal.returns-then-count-lt9
returns-then-count-lt9 c = λ value ends. let long = ends_long c.args.text.now c.args.count value ends in absurd (omega arith)

pub returns-then-text-count : goal.returns-then-text-count
returns-then-text-count c = λ value ends. let long = ends_long c.args.text.now c.args.count value ends in absurd (omega arith)

pub returns : goal.returns
returns c = λ value ends.
    let own = ends_digits c.args.text.now c.split_at.result.0.now c.split_at-2.result.1.now c.args.count value ends c.split_at.ensures.front c.split_at-2.ensures.back in
    c.unwrap_or.ensures ∙ ap (λ o. unwrap_or o 0) (c.own_value.ensures ∙ own)
