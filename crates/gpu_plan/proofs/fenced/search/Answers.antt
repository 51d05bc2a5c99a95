use Rattle.std.proofs.Common.{rules}
use Rattle.std.proofs.lemmas.List.Sorted.{answers_always}
use Rattle.gpu_plan.proofs.Fencing.{searched}
use Rattle.gpu_plan.proofs.fenced.search.Goals as goal

-- the closure gives the place of what is noted
pub returns : goal.returns
returns c =
    let facts = c.binary_search_by_key.ensures in
    let by_key = facts.position (λ flush. flush.0) (answers_always _ _ _ (λ f a r g called. search rules)) in
    searched c.args.fenced.now c.requires c.args.place _ facts.bound by_key
