-- The plan that stands at the stream's place has its own name.
use Rattle.std.proofs.Common.{◌≡◌, ◌-◌, ◌∙◌, slice_get, Some, sym, ap, subst, refl, arith}
use Rattle.std.proofs.lemmas.Option.{slice_get-get_or}
use Rattle.gpu_plan.specs.Plans.{PlansData, number_of}
use Rattle.gpu_plan.specs.Named.{names_in, HasSmallSpace, AreLawfulNames}
use Rattle.gpu_plan.proofs.Apart.{own_number, own_name, own_space}
use Rattle.gpu_plan.proofs.plan.Plans.name.Goals as goal

module _ (c : goal.After-name) where
  lawful : AreLawfulNames c.args.self.now.version (names_in c.args.self.now.plans)
  lawful = subst (λ (p : PlansData). AreLawfulNames p.version (names_in p.plans)) c.self.view_is c.self.invariant.1

  there : slice_get c.args.self.now.plans (c.args.stream - 1) ≡ Some c.index.result.now
  there =
      let plans = ap (λ (p : PlansData). p.plans) c.self.view_is in
      let first = c.requires.first in
      let last = c.requires.last in
      slice_get-get_or c.args.self.now.plans (c.args.stream - 1) c.index.result.now (omega arith) ∙ ap Some (sym (c.index.ensures ∙ rw plans refl))

pub returns-clause-numbered : goal.returns-clause-numbered
returns-clause-numbered c one = c.name.ensures ∙ own_name c.args.self.now.version c.args.stream c.args.self.now.plans c.index.result.now (lawful c) c.requires.first (there c) one

pub returns-clause-own : goal.returns-clause-own
returns-clause-own c = ap (number_of c.args.self.now.plans) c.name.ensures ∙ own_number c.args.self.now.version c.args.stream c.args.self.now.plans c.index.result.now (lawful c) c.requires.first (there c)

pub returns-clause-space : goal.returns-clause-space
returns-clause-space c = subst HasSmallSpace (sym c.name.ensures) (own_space c.args.self.now.version c.args.stream c.args.self.now.plans c.index.result.now (lawful c) c.requires.first (there c))
