use Rattle.std.proofs.Common.{◌≡◌, ◌∙◌, sym, subst, true, not}
use denote.Enum.Bare.{sameb}
use Rattle.gpu_store.specs.contracts.op.Answer.{the_type}
use Rattle.gpu_store.specs.declared.op.Answer.{Answer}
use Rattle.gpu_store.specs.declared.op.Answer.TheVariants.{Done}
use Rattle.gpu_store.proofs.Steps.{apply-refused}
use Rattle.gpu_store.proofs.images.Images.copy.Goals as goal

pub returns-then-ne-clause-images : goal.returns-then-ne-clause-images
returns-then-ne-clause-images c =
    sym (apply-refused c.args.self.now _ (λ isdone.
    let tested : true ≡ not (sameb the_type Done Done) =
    subst (λ (answer : Answer). true ≡ not (sameb the_type answer Done)) (c.copy_answer-answer.ensures ∙ isdone) (sym c.if-ne.true ∙ c.ne.ensures) in
    cc))
