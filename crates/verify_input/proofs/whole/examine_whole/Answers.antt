use Rattle.verify_input.proofs.Names.{sym, ◌∙◌, subst, arith, Err, script_of}
use Rattle.script_lines.specs.Outcome.{FailsAt}
use Rattle.script_lines.specs.declared.fault.ScriptFault.{ScriptFault}
use Rattle.verify_input.proofs.Joining.{script_is, text_there, text_missing}
use Rattle.verify_input.proofs.Wholly.{whole_missing}
use Rattle.verify_input.proofs.whole.examine_whole.Goals as goal

pub parse-requires : goal.parse-requires
parse-requires c = let shorter = c.cut_at_border-cut.ensures.shorter in let short = c.requires in omega (arith, shorter, short)

pub returns-in-Err-Refused : goal.returns-in-Err-Refused
returns-in-Err-Refused c =
    let part = c.cut_at_border-cut.result.part.now in
    sym (script_is c.args.input.now part c.cut_at_border-cut.ensures.cut.front) ∙ subst (λ (fault : ScriptFault). FailsAt fault (script_of part)) c.in-Err-Refused.field-0-is c.in-Err-Refused.ensures
    ∙ (λ i. Err (sym c.in-Err-Refused.line-is i, sym c.in-Err-Refused.kind-is i))

pub returns-in-Some : goal.returns-in-Some
returns-in-Some c =
    let input = c.args.input.now in
    let cut = c.cut_at_border-cut in
    let script = sym (script_is input cut.result.part.now cut.ensures.cut.front) ∙ c.in-Ok.ensures in
    let there = text_there input cut.result.rest c.in-Some.text c.in-Some.is cut.ensures.cut.rest in
    c.examine_output.ensures input (record { output = record { script = script; there = there }; counted = cut.ensures.cut.count })

pub returns : goal.returns
returns c =
    let input = c.args.input.now in
    let cut = c.cut_at_border-cut in
    let script = sym (script_is input cut.result.part.now cut.ensures.cut.front) ∙ c.in-Ok.ensures in
    whole_missing input c.args.base cut.result.lines c.in-Ok.plans script cut.ensures.cut.count (text_missing input cut.result.rest c.in-None.is cut.ensures.cut.rest)
