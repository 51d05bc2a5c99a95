use Rattle.house_core.proofs.Seen.{parts_of}
use Rattle.house_core.proofs.core_of.Core.shows_core.Goals as goal

pub returns : goal.returns
returns c = record {
  parts = parts_of c.self.inside;
  kept = c.self.invariant;
  shown = c.self.view_is;
}
