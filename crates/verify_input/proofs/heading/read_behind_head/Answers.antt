use Rattle.std.proofs.Common.{◌+◌, [], List, ℕ, ◌++◌, length, reverse, subst, ap, ◌∙◌, arith}
use Rattle.std.proofs.lemmas.List.{length-reverse}
use Rattle.verify_input.specs.Reading.{IsFault, whole_lines}
use Rattle.verify_input.specs.Found.{head_of}
use Rattle.verify_input.proofs.Heads.{bad_early, bad_behind_head}
use Rattle.verify_input.proofs.Counts.{few_told}
use Rattle.verify_input.proofs.Wholly.{headed, head_counted, head_off}
use Rattle.verify_input.proofs.heading.read_behind_head.Goals as goal

pub returns-in-Err-Off-clause-err : goal.returns-in-Err-Off-clause-err
returns-in-Err-Off-clause-err c =
    let bad = (c.in-Err-Off.ensures []).err.off _ _ c.in-Err-Off.field-0-is in
    let line = bad.1 in
    (bad.0, omega (arith, line), head_off c.args.plans.now (head_of c.args.plans.now) 0 (whole_lines c.args.text.now) bad.0 _ bad.2)

pub read_journal-requires : goal.read_journal-requires
read_journal-requires c =
    let short = c.take_names.new.rest.short in
    let counted = head_counted (c.in-Ok.ensures []).ok in
    omega (arith, short, counted)

pub overflow_sub-result : goal.overflow_sub-result
overflow_sub-result c = let counted = head_counted (c.in-Ok.ensures []).ok in omega (arith, counted)

pub overflow_add-result : goal.overflow_add-result
overflow_add-result c =
    let rest = c.take_names.new.rest in
    let short = rest.short in
    let fault = subst (IsFault rest.text.now) c.in-Err-Refused.field-0-is c.in-Err-Refused.ensures.err in
    let line = fault.1 in
    let early = bad_early rest.text.now fault.0 fault.2 in
    omega (arith, short, line, early)

pub returns-in-Ok-read_journal-clause-ok : goal.returns-in-Ok-read_journal-clause-ok
returns-in-Ok-read_journal-clause-ok c =
    let told = c.in-Ok-read_journal.ensures.ok in
    record { lines = headed (c.in-Ok.ensures []).ok ∙ ap (λ (text : List ℕ). head_of c.args.plans.now ++ whole_lines text) told.is; written = told.written }

pub returns-in-Ok-read_journal-clause-few : goal.returns-in-Ok-read_journal-clause-few
returns-in-Ok-read_journal-clause-few c =
    let rest = c.take_names.new.rest in
    let short = rest.short in
    let events = c.in-Ok-read_journal.journal.events in
    let few = few_told rest.text.now (reverse events) c.in-Ok-read_journal.ensures.ok in
    omega (arith, short, few, length-reverse events)

pub returns-in-Err-Refused-clause-err : goal.returns-in-Err-Refused-clause-err
returns-in-Err-Refused-clause-err c =
    let p = c.args.plans.now in
    let taken = (c.in-Ok.ensures []).ok in
    let rest = c.take_names.new.rest in
    let fault = subst (IsFault rest.text.now) c.in-Err-Refused.field-0-is c.in-Err-Refused.ensures.err in
    let line = fault.1 in
    let counted = head_counted taken in
    (length (head_of p) + fault.0, omega (arith, line, counted), bad_behind_head p c.args.text.now rest.text.now fault.0 (headed taken) fault.2)
