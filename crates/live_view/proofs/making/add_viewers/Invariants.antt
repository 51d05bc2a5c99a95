use Rattle.std.proofs.Common.{◌≡◌, ◌+◌, ◌-◌, ◌≤◌}
use Rattle.std.specs.Prelude.{replicate, vec_len, vec_capacity}
use Rattle.left_right.specs.Sides.{view}
use Rattle.live_view.specs.Copies.{published, steps_pending}
use Rattle.live_view.specs.Rule.{met, nothing}
use Rattle.live_view.specs.Seen.{fresh_viewer}
use Rattle.live_view.proofs.making.add_viewers.Given as goal

abbrev pub invariant-loop : goal.invariant-loop
invariant-loop g l = record {
  shown : published l.copies ≡ published l.fn.copies;
  steps : steps_pending l.copies ≡ steps_pending l.fn.copies;
  seat : view l.copies.desk.place ≡ met nothing (published l.fn.copies);
  made : l.all.items ≡ replicate l.counter (fresh_viewer (published l.fn.copies).front.view);
  room : vec_len l.all + (l.viewers - l.counter) ≤ vec_capacity l.all;
}
