use Rattle.std.proofs.Common.{◌∙◌, [], ap, sym, subst, refl, Ok, arith, length, map}
use Rattle.std.proofs.lemmas.Result.{err_from_is_err_and}
use Rattle.script_lines.specs.Text.{lines_of, words_of}
use Rattle.script_lines.specs.Outcome.{FailsAt}
use Rattle.script_lines.proofs.Steps.{shown_by}
use Rattle.gpu_plan.specs.Drafts.{shown}
use Rattle.gpu_plan.specs.Mentioning.{mentioned_on, mentioned_in}
use Rattle.gpu_plan.proofs.Whole.{body_goes, body_ends, body_done}
use Rattle.gpu_plan.proofs.Staying.{line_stays, mention_goes, mention_done}
use Rattle.gpu_plan.proofs.Meaning.{renumbered_script, means, fails}
use Rattle.gpu_plan.proofs.Named.{numbered_lawful}
use Rattle.gpu_plan.proofs.script.from_body.Goals as goal

pub returns-in_err-add_numbered : goal.returns-in_err-add_numbered
returns-in_err-add_numbered c =
    let p = err_from_is_err_and c.from_residual.result c.from_residual.ensures.1 in
    let version = c.args.version in
    let lines = map words_of (lines_of c.args.lines.rest.now) in
    let total = mentioned_in version [] lines in
    let fault = c.in_err-add_numbered.field-0.0 in
    let names = c.loop-line.mentioned in
    let number = c.loop-line.number in
    let draft = shown c.loop-line.draft in
    let all = lines_of c.loop-line.line-iterator.rest.now in
    let rest = lines_of c.next.new.self.rest.now in
    let line = c.in-Some.line.now in
    let steps = c.in-Some.ensures.steps in
    let goes = mention_goes version names (mentioned_on version names (words_of line)) all rest line total steps refl c.loop-line.invariant.mentioned in
    let stays = line_stays version names total number (words_of line) (map words_of rest) draft goes in
    let ends = body_ends version total fault number draft all rest line _ steps (subst (FailsAt fault) stays c.in_err-add_numbered.ensures.said) c.loop-line.invariant.said in
    rw (p.1, p.2) (fails fault version c.args.first lines ends)

pub loop-line-preserved : goal.loop-line-preserved
loop-line-preserved c =
    let version = c.args.version in
    let total = mentioned_in version [] (map words_of (lines_of c.args.lines.rest.now)) in
    let names = c.loop-line.mentioned in
    let number = c.loop-line.number in
    let draft = shown c.loop-line.draft in
    let next = shown c.add_numbered.new.draft in
    let all = lines_of c.loop-line.line-iterator.rest.now in
    let rest = lines_of c.next.new.self.rest.now in
    let line = c.in-Some.line.now in
    let steps = c.in-Some.ensures.steps in
    let goes = mention_goes version names (mentioned_on version names (words_of line)) all rest line total steps refl c.loop-line.invariant.mentioned in
    let taken = sym (line_stays version names total number (words_of line) (map words_of rest) draft goes) ∙ c.in_ok-add_numbered.ensures.said in
    record {
      said = body_goes version total number draft next all rest line _ steps taken c.loop-line.invariant.said;
      mentioned = mention_goes version names c.add_numbered.new.mentioned all rest line total steps c.in_ok-add_numbered.ensures.mentioned c.loop-line.invariant.mentioned;
      numbers = omega (arith, ap length steps);
      named = numbered_lawful version total number (words_of line) draft next taken c.loop-line.invariant.named;
    }

pub returns-in-Ok : goal.returns-in-Ok
returns-in-Ok c =
    let version = c.args.version in
    let lines = map words_of (lines_of c.args.lines.rest.now) in
    let total = mentioned_in version [] lines in
    let all = lines_of c.loop-line.line-iterator.rest.now in
    let done = body_done version total c.loop-line.number (shown c.loop-line.draft) all _ c.in-None.ensures.steps.0 c.loop-line.invariant.said in
    let mentioned = mention_done version c.loop-line.mentioned all total c.in-None.ensures.steps.0 c.loop-line.invariant.mentioned in
    means version c.args.first lines ∙ ap (shown_by (renumbered_script version total)) done ∙ ap Ok (rw (sym mentioned) (sym c.in-Ok.ensures))
