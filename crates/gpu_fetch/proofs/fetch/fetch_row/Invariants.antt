use Rattle.std.proofs.Common.{◌≡◌, ◌+◌, ◌-◌, ◌≤◌}
use Rattle.std.specs.Prelude.{vec_len, vec_capacity}
use Rattle.gpu_fetch.specs.Side.{StillBelongs}
use Rattle.gpu_fetch.specs.Fetched.{FetchesRow}
use Rattle.gpu_fetch.proofs.fetch.fetch_row.Given as goal

abbrev pub invariant-loop-place : goal.invariant-loop-place
invariant-loop-place g l = record {
  row : FetchesRow (g.P.ServiceSide.shows l.words) (g.P.ServiceSide.side l.fn.side) (g.P.ServiceSide.side l.side) l.from (l.place - l.from) l.fn.list.items l.list.items;
  room : vec_len l.list + (l.from + l.count - l.place) ≤ vec_capacity l.list;
  still : StillBelongs g.P.ServiceSide.belongs g.P.ServiceSide.note_belongs l.words l.fn.side l.side;
  table : g.P.ServiceSide.table l.side ≡ g.P.ServiceSide.table l.fn.side;
}
