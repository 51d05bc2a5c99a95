use Rattle.std.proofs.Common.{◌≡◌, [], ◌∙◌, ap, subst, length, replicate}
use Rattle.gpu_plan.specs.Plans.{PlansData}
use Rattle.wait_hooks.specs.Marks.{Marks}
use Rattle.house_core.specs.Desks.{at_home}
use Rattle.gpu_house.specs.Names.{table_at}
use Rattle.gpu_house.specs.Making.{AreFreshSides, AreFreshResults}
use Rattle.gpu_house.proofs.Fresh.{fresh_house}
use Rattle.gpu_house.proofs.house.House.make.Goals as goal

pub invariant_of-result : goal.invariant_of-result
invariant_of-result g c =
    let told = c.in_ok-core.ensures in
    let same = c.requires.plans in
    let based : c.make-2.result.base ≡ g.N.Naming.base = ap (λ (marks : Marks). marks.base) c.make-2.ensures ∙ c.requires.base in
    let none : c.make-2.result.marks ≡ [] = ap (λ (marks : Marks). marks.marks) c.make-2.ensures in
    fresh_house g.P.ServiceSide.side g.P.ServiceSide.table g.P.ServiceSide.mark g.P.ServiceSide.note_of g.P.ServiceSide.takes g.P.ServiceSide.written g.P.ServiceSide.results_of g.N.Naming.plans g.N.Naming.base g.N.Naming.words g.N.Naming.books g.N.Naming.result_words c.make-2.result c.in_ok-core.core c.args.sides.items c.in_ok-slots.slots.items c.args.results.items
    c.shows_core.ensures (told.plans ∙ same) told.past (told.books ∙ c.requires.books.0) (told.outs ∙ ap (λ (p : PlansData). replicate (length p.plans) at_home) same)
    (subst (λ (p : PlansData). AreFreshSides g.P.ServiceSide.side g.P.ServiceSide.table p.plans g.N.Naming.words c.args.sides.items) same c.requires.sides) c.in_ok-slots.ensures
    (subst (λ (p : PlansData). AreFreshResults g.P.ServiceSide.takes g.P.ServiceSide.written g.P.ServiceSide.results_of (table_at g.N.Naming.result_words) 1 p.plans c.args.results.items) same c.requires.results) based none
