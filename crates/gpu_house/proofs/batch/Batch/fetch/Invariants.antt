use Rattle.std.proofs.Common.{◌≡◌, ◌-◌, length}
use Rattle.gpu_fetch.specs.Side.{StillBelongs}
use Rattle.gpu_fetch.specs.Parts.{words_of_parts, parts_of}
use Rattle.gpu_house.specs.Batches.{most_members}
use Rattle.gpu_house.proofs.Members.{Gathered}
use Rattle.gpu_house.proofs.batch.Batch.fetch.Given as goal

-- the members so far, whose words are all that is in the list, and what the side and the words keep
abbrev pub invariant-loop-parts : goal.invariant-loop-parts
invariant-loop-parts g l = record {
  full : words_of_parts l.parts.items ≡ length l.list.items;
  gathered : Gathered (g.P.ServiceSide.shows l.words) (g.P.ServiceSide.side l.fn.side) (g.P.ServiceSide.side l.side) l.fn.facts l.next (parts_of l.list.items l.parts.items);
  still : StillBelongs g.P.ServiceSide.belongs g.P.ServiceSide.note_belongs l.words l.fn.side l.side;
  table : g.P.ServiceSide.table l.side ≡ g.P.ServiceSide.table l.fn.side;
}

abbrev pub decreases-loop-parts : goal.decreases-loop-parts
decreases-loop-parts g l = most_members - length l.parts.items
