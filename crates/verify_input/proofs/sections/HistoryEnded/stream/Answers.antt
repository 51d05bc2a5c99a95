use Rattle.verify_input.proofs.Names.{arith, ◌∙◌}
use Rattle.verify_input.proofs.Histories.{streams_kept}
use Rattle.verify_input.proofs.sections.HistoryEnded.stream.Goals as goal

pub state-requires : goal.state-requires
state-requires c = let kept = streams_kept c.args.self.now c.requires.fits in (c.requires.known.0, omega (arith, kept, c.requires.known.1))

pub returns : goal.returns
returns c = c.state.ensures ∙ c.requires.fits.followed.follows.shows.each c.args.stream
