use Rattle.std.proofs.Common.{sym, ◌∙◌, subst, Err}
use Rattle.script_lines.specs.Outcome.{FailsAt}
use Rattle.script_lines.specs.declared.fault.ScriptFault.{ScriptFault}
use Rattle.gpu_plan.specs.Script.{script_of}
use Rattle.verify_input.proofs.Joining.{script_is, text_there, text_missing, found_all, found_missing}
use Rattle.verify_input.proofs.examining.examine.Goals as goal

pub returns-in-Err-Refused : goal.returns-in-Err-Refused
returns-in-Err-Refused c =
    let part = c.cut_at_border-cut.result.part.now in
    sym (script_is c.args.input.now part c.cut_at_border-cut.ensures.cut.front) ∙ subst (λ (fault : ScriptFault). FailsAt fault (script_of part)) c.in-Err-Refused.field-0-is c.in-Err-Refused.ensures
    ∙ (λ i. Err (sym c.in-Err-Refused.line-is i, sym c.in-Err-Refused.kind-is i))

pub returns-in-Some : goal.returns-in-Some
returns-in-Some c =
    let input = c.args.input.now in
    let cut = c.cut_at_border-cut in
    let script = sym (script_is input cut.result.part.now cut.ensures.cut.front) ∙ c.in-Ok.ensures in
    found_all input c.in-Some.text.now c.in-Ok.plans cut.result.lines c.examine_journal.result script cut.ensures.cut.count (text_there input cut.result.rest c.in-Some.text c.in-Some.is cut.ensures.cut.rest) c.examine_journal.ensures

pub returns : goal.returns
returns c =
    let input = c.args.input.now in
    let cut = c.cut_at_border-cut in
    let script = sym (script_is input cut.result.part.now cut.ensures.cut.front) ∙ c.in-Ok.ensures in
    found_missing input c.in-Ok.plans cut.result.lines script cut.ensures.cut.count (text_missing input cut.result.rest c.in-None.is cut.ensures.cut.rest)
