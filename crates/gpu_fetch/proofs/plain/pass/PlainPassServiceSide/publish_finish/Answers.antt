use Rattle.std.proofs.Common.{sym, subst, refl, arith}
use Rattle.gpu_fetch.specs.Side.{SideData, finish_published}
use Rattle.gpu_fetch.specs.Plain.{IsBeside}
use Rattle.gpu_fetch.proofs.Beside.{grown}
use Rattle.gpu_fetch.proofs.plain.pass.PlainPassServiceSide.publish_finish.Goals as goal

pub returns-clause-belongs : goal.returns-clause-belongs
returns-clause-belongs c =
    let was : SideData = record { plan = c.self.inside.plan.value; fetched = c.self.inside.fetched.items; finished = c.self.inside.finished; greatest = c.self.inside.greatest; met = c.self.inside.met } in
    let before : IsBeside was c.args.words.now = subst (λ (s : SideData). IsBeside s c.args.words.now) (sym c.self.view_is) c.requires.belongs in
    grown was (finish_published was) c.args.words.now refl refl (omega arith) (omega arith) before

pub returns-clause-notes : goal.returns-clause-notes
returns-clause-notes c n h = (returns-clause-belongs c, h.1)
