use Rattle.std.proofs.Common.{map, sym, ◌∙◌}
use Rattle.std.proofs.lemmas.List.{length-map}
use Rattle.std.proofs.lemmas.Result.{err_from_is_err_and}
use Rattle.script_lines.specs.Text.{words_of}
use Rattle.script_lines.specs.Numbers.{value_of}
use Rattle.gpu_plan.specs.Drafts.{shown}
use Rattle.gpu_plan.proofs.Putting.{puts_fail, puts_fail_said, puts_put, puts_refused}
use Rattle.gpu_plan.proofs.adding.add_put_line.Goals as goal

pub returns-in_err-place : goal.returns-in_err-place
returns-in_err-place c =
    let p = err_from_is_err_and c.from_residual.result c.from_residual.ensures.1 in
    rw (p.1, p.2) (puts_fail (words_of c.args.words.rest.now) (shown c.args.draft.now) c.in_err-place.field-0.0 c.in_err-place.ensures)

pub returns-then-branch : goal.returns-then-branch
returns-then-branch c =
    let put = c.in_ok-put.ensures.put c.if-branch.true in
    puts_put (words_of c.args.words.rest.now) (shown c.args.draft.now) c.in_ok-place.place (words_of c.in_ok-place.values.rest.now) c.in_ok-place.ensures (shown c.put.new.self) put.0 put.1

pub returns-in_err-said : goal.returns-in_err-said
returns-in_err-said c =
    let p = err_from_is_err_and c.from_residual-in_err-said.result c.from_residual-in_err-said.ensures.1 in
    rw (p.1, p.2) (puts_fail_said (words_of c.args.words.rest.now) (shown c.args.draft.now) c.in_err-said.field-0.0 c.in_err-said.ensures.said)

pub returns : goal.returns
returns c =
    let values = map value_of (words_of c.in_ok-said.said.values.rest.now) in
    let long = length-map (words_of c.in_ok-said.said.values.rest.now) value_of ∙ sym c.in_ok-said.ensures.counted in
    puts_refused (words_of c.args.words.rest.now) (shown c.args.draft.now) c.in_ok-place.place (words_of c.in_ok-place.values.rest.now) c.in_ok-place.ensures (shown c.put.new.self) (c.in_ok-said.said.place, values) c.put_fault-kind.result
    c.in_ok-said.ensures.said (c.in_ok-put.ensures.same c.if-branch.false) (c.in_ok-put.ensures.refused c.if-branch.false) (c.put_fault-kind.ensures values long)
