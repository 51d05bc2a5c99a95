use Rattle.std.proofs.Common.{map, sym, ◌∙◌}
use Rattle.std.proofs.lemmas.List.{length-map}
use Rattle.std.proofs.lemmas.Result.{err_from_is_err_and}
use Rattle.script_lines.specs.Text.{words_of}
use Rattle.script_lines.specs.Numbers.{value_of}
use Rattle.gpu_plan.specs.Drafts.{shown}
use Rattle.gpu_plan.proofs.Putting.{fill_fail, fill_fail_said, fill_put, fill_refused}
use Rattle.gpu_plan.proofs.adding.add_fill_line.Goals as goal

pub returns-in_err-memory : goal.returns-in_err-memory
returns-in_err-memory c =
    let p = err_from_is_err_and c.from_residual.result c.from_residual.ensures.1 in
    rw (p.1, p.2) (fill_fail (words_of c.args.words.rest.now) (shown c.args.draft.now) c.in_err-memory.field-0.0 c.in_err-memory.ensures)

pub returns-then-branch : goal.returns-then-branch
returns-then-branch c =
    let put = c.in_ok-put.ensures.put c.if-branch.true in
    fill_put (words_of c.args.words.rest.now) (shown c.args.draft.now) c.in_ok-memory.memory c.in_ok-memory.place (words_of c.in_ok-memory.values.rest.now) c.in_ok-memory.ensures (shown c.put.new.self) put.0 put.1

pub returns-in_err-memory-2 : goal.returns-in_err-memory-2
returns-in_err-memory-2 c =
    let p = err_from_is_err_and c.from_residual-in_err-memory-2.result c.from_residual-in_err-memory-2.ensures.1 in
    rw (p.1, p.2) (fill_fail_said (words_of c.args.words.rest.now) (shown c.args.draft.now) c.in_err-memory-2.field-0.0 c.in_err-memory-2.ensures.said)

pub returns : goal.returns
returns c =
    let said = c.in_ok-memory-2.said in
    let values = map value_of (words_of said.values.rest.now) in
    let long = length-map (words_of said.values.rest.now) value_of ∙ sym c.in_ok-memory-2.ensures.counted in
    fill_refused (words_of c.args.words.rest.now) (shown c.args.draft.now) c.in_ok-memory.memory c.in_ok-memory.place (words_of c.in_ok-memory.values.rest.now) c.in_ok-memory.ensures (shown c.put.new.self) (c.in_ok-memory-2.memory, said.place, values) c.put_fault-kind.result
    c.in_ok-memory-2.ensures.said (c.in_ok-put.ensures.same c.if-branch.false) (c.in_ok-put.ensures.refused c.if-branch.false) (c.put_fault-kind.ensures values long)
