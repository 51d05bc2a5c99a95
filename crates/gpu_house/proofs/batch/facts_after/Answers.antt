use Rattle.std.proofs.Common.{subst, sym, arith}
use Rattle.gpu_cmd.specs.Lawful.{IsLawfulFacts}
use Rattle.gpu_house.proofs.Members.{passed_ends, behind_is, behind_lawful}
use Rattle.gpu_house.proofs.batch.facts_after.Goals as goal

pub bounds-words-0 : goal.bounds-words-0
bounds-words-0 c = (passed_ends c.args.words.now c.args.facts.now c.args.command.now c.requires.lawful c.requires.copy).some

pub overflow_cast-result : goal.overflow_cast-result
overflow_cast-result c = let quota = (passed_ends c.args.words.now c.args.facts.now c.args.command.now c.requires.lawful c.requires.copy).quota in omega (arith, quota)

pub overflow_add-result : goal.overflow_add-result
overflow_add-result c = let quota = (passed_ends c.args.words.now c.args.facts.now c.args.command.now c.requires.lawful c.requires.copy).quota in omega (arith, quota)

pub returns-clause-value : goal.returns-clause-value
returns-clause-value c = behind_is c.args.words.now c.args.facts.now c.split.result.size c.further.result c.split.ensures.size c.further.ensures

pub returns-clause-lawful : goal.returns-clause-lawful
returns-clause-lawful c =
    subst IsLawfulFacts (sym (returns-clause-value c)) (behind_lawful c.args.words.now c.args.facts.now c.requires.lawful (passed_ends c.args.words.now c.args.facts.now c.args.command.now c.requires.lawful c.requires.copy))
