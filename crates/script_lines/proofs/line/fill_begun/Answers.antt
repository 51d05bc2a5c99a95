use Rattle.std.proofs.Common.{ℕ, ◌∙◌, List, Result, Ok, ap}
use Rattle.std.proofs.lemmas.Result.{err_from_is_err_and}
use Rattle.script_lines.specs.declared.fault.Kind.{Kind}
use Rattle.script_lines.specs.Outcome.{◌>>=◌}
use Rattle.script_lines.proofs.Puts.{fill_with_memory, fill_fails}
use Rattle.script_lines.proofs.line.fill_begun.Goals as goal

pub returns-in_err-place : goal.returns-in_err-place
returns-in_err-place c =
    let p = err_from_is_err_and c.from_residual.result c.from_residual.ensures.1 in
    let read = rw c.in-Some-memory.is at c.in-Some.ensures in
    rw (p.1, p.2) (fill_fails c.in_err-place.field-0.0 c.args.words.rest.now c.in-Some.rest.now c.in-Some-memory.memory read c.in_err-place.ensures)

pub returns : goal.returns
returns c =
    let read = rw c.in-Some-memory.is at c.in-Some.ensures in
    fill_with_memory c.args.words.rest.now c.in-Some.rest.now c.in-Some-memory.memory read
    ∙ ap (λ (begun : Result (ℕ × List (List ℕ)) Kind). begun >>= (λ b. Ok (c.in-Some-memory.memory, b.0, b.1))) c.in_ok-place.ensures
