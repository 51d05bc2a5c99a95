use Rattle.std.proofs.Common.{subst}
use Rattle.gpu_journal.specs.Legal.{IsLegal}
use Rattle.serial_laws.specs.Scripts.{AreLawfulPlans}
use Rattle.gpu_house.specs.Waiting.{HaveTargets, FormNoCycle}
use Rattle.gpu_house.specs.Stuck.{IsNotStuck}
use Rattle.gpu_hall.specs.Halls.{HallData}
use Rattle.gpu_hall.specs.Outs.{NoneIsPaused, IsDoneOrGoesOn}
use Rattle.gpu_hall.proofs.Onward.{done_or_goes_on}
use Rattle.gpu_hall.proofs.hall.Hall.shows_laws.Goals as goal

pub returns-clause-legal : goal.returns-clause-legal
returns-clause-legal g c = subst (λ (h : HallData). IsLegal g.N.Naming.plans h.past) c.self.view_is c.shows_legal.ensures

pub returns-clause-targets : goal.returns-clause-targets
returns-clause-targets g c = subst (λ (h : HallData). HaveTargets g.N.Naming.plans h.past) c.self.view_is c.shows_laws.ensures.targets

pub returns-clause-no_cycle : goal.returns-clause-no_cycle
returns-clause-no_cycle g c = subst (λ (h : HallData). FormNoCycle g.N.Naming.plans h.past) c.self.view_is c.shows_laws.ensures.no_cycle

pub returns-clause-stuck : goal.returns-clause-stuck
returns-clause-stuck g c = subst (λ (h : HallData). IsNotStuck g.N.Naming.plans h.past h.outs) c.self.view_is c.shows_laws.ensures.stuck

pub returns-clause-going : goal.returns-clause-going
returns-clause-going g c = subst (λ (h : HallData). NoneIsPaused h.outs) c.self.view_is c.self.invariant.going

pub returns-clause-further : goal.returns-clause-further
returns-clause-further g c =
    let p = g.N.Naming.plans in
    let core = c.self.inside.house.core in
    subst (λ (h : HallData). IsDoneOrGoesOn p h.past h.outs) c.self.view_is
    (done_or_goes_on p core.past core.outs (subst AreLawfulPlans c.plans.ensures c.plans_are_lawful.ensures) c.shows_legal.ensures c.shows_laws.ensures.stuck c.self.invariant.going)
