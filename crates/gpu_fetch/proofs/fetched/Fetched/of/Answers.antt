use Rattle.std.proofs.Common.{sym, subst}
use Rattle.std.specs.List.Sorted.{IsStrictlyIncreasing}
use Rattle.gpu_cmd.proofs.Rising.{places_rise}
use Rattle.gpu_fetch.proofs.fetched.Fetched.of.Goals as goal

pub returns-clause-once : goal.returns-clause-once
returns-clause-once c = subst IsStrictlyIncreasing (sym c.requires.copy.places) (places_rise c.args.words.now c.args.facts.now.value c.requires.lawful)
