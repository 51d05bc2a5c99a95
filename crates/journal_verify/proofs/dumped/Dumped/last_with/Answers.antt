use Rattle.std.proofs.Common.{ℕ, List, ap, ◌∙◌}
use Rattle.std.specs.Prelude.{slice_index}
use Rattle.journal_verify.proofs.Small.{small_of}
use Rattle.journal_verify.proofs.dumped.Dumped.last_with.Goals as goal

pub returns-then-now-value-clause-small : goal.returns-then-now-value-clause-small
returns-then-now-value-clause-small c =
    let inside = c.self.inside in
    let now = c.number_at-now.ensures ∙ ap (λ (l : List ℕ). slice_index l c.args.place) c.deref.ensures.value in
    small_of (record { is_dumped = inside.is_dumped.items; values = inside.values.items; left = inside.left.entries }) c.args.self.now c.args.finished c.args.place c.number_at-now.result c.self.view_is now c.number_at-now.type_inv c.self.invariant.1

pub returns-clause-small : goal.returns-clause-small
returns-clause-small c =
    let inside = c.self.inside in
    let now = c.number_at-now.ensures ∙ ap (λ (l : List ℕ). slice_index l c.args.place) c.deref.ensures.value in
    small_of (record { is_dumped = inside.is_dumped.items; values = inside.values.items; left = inside.left.entries }) c.args.self.now c.args.finished c.args.place c.number_at-now.result c.self.view_is now c.number_at-now.type_inv c.self.invariant.1
