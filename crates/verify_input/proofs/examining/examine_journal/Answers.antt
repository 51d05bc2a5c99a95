use Rattle.std.proofs.Common.{subst, arith}
use Rattle.verify_input.specs.Reading.{whole_lines}
use Rattle.verify_input.specs.Found.{head_of, IsOtherAt}
use Rattle.verify_input.proofs.Heads.{other_early}
use Rattle.verify_input.proofs.examining.examine_journal.Goals as goal

pub overflow_add-result-in-Err-Refused : goal.overflow_add-result-in-Err-Refused
overflow_add-result-in-Err-Refused c =
    let heads = head_of c.args.plans.now in
    let part = c.cut_at_border-cut.result.part.now in
    let fault = subst (IsOtherAt heads (whole_lines part)) c.in-Err-Refused.field-0-is c.in-Err-Refused.ensures.err in
    let early = other_early heads part fault.0 fault.2 in
    let line = fault.1 in
    let shorter = c.cut_at_border-cut.ensures.shorter in
    let room = c.requires in
    omega arith
