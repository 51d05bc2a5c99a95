use Rattle.std.proofs.Common.{◌+◌, ◌-◌, Some, set, refl, sym, subst, ◌∙◌, arith}
use Rattle.gpu_plan.specs.Plans.{PlanData}
use Rattle.sync_core.specs.Events as sync
use Rattle.gpu_journal.proofs.Following.{plan_here}
use Rattle.journal_verify.specs.Kept.{WatchData, JudgeData, IsWatch}
use Rattle.journal_verify.specs.Entered.{FitsPlans, HasTurned}
use Rattle.journal_verify.proofs.Turning.{front_known, watch_here, is_watch_seen, fits_turned}
use Rattle.journal_verify.proofs.judge.Judge.enter_finish.Goals as goal

pub finish-requires-2-clause-watch : goal.finish-requires-2-clause-watch
finish-requires-2-clause-watch c =
    let p = c.args.plans.now in
    let known = front_known p c.args.self.now c.args.s c.requires.fits c.requires.front in
    let plan = plan_here p c.args.s c.plan.result.now (omega (arith, known.0)) c.plan.ensures in
    subst (λ (plan : PlanData). IsWatch plan c.index_mut.result.now) plan (is_watch_seen p _ c.args.self.now c.args.s c.index_mut.result.now c.self.view_is c.requires.fits known c.index_mut.ensures.value)

pub returns-clause-turned : goal.returns-clause-turned
returns-clause-turned c =
    let p = c.args.plans.now in
    let s = c.args.s in
    let inside = c.self.inside in
    let old : JudgeData = record { drawn = inside.drawn; core = inside.scene.sync; images = inside.scene.images; states = inside.states.items; watches = inside.watches.items } in
    let fits : FitsPlans p old = subst (FitsPlans p) (sym c.self.view_is) c.requires.fits in
    let known = front_known p c.args.self.now s c.requires.fits c.requires.front in
    let new : JudgeData = record { drawn = inside.drawn; core = c.finish.new.self; images = inside.scene.images; states = inside.states.items; watches = set inside.watches.items (s - 1) c.finish-2.new.self } in
    subst (λ (j : JudgeData). HasTurned s (Some sync.Finished) (λ k. record k { finished = k.finished + 1 }) j.drawn j.images j.states j new) c.self.view_is (record {
      was = c.index_mut.result.now;
      now = c.finish-2.new.self;
      here = watch_here p old s c.index_mut.result.now fits known c.index_mut.ensures.value;
      moved = c.in_ok-finish.ensures.counts;
      put = refl;
      drawn = refl;
      core = c.finish.ensures.stands;
      images = refl;
      states = refl;
    })

pub returns-clause-fits : goal.returns-clause-fits
returns-clause-fits c =
    let p = c.args.plans.now in
    let inside = c.self.inside in
    let old : JudgeData = record { drawn = inside.drawn; core = inside.scene.sync; images = inside.scene.images; states = inside.states.items; watches = inside.watches.items } in
    let fits : FitsPlans p old = subst (FitsPlans p) (sym c.self.view_is) c.requires.fits in
    let known = front_known p c.args.self.now c.args.s c.requires.fits c.requires.front in
    let plan = plan_here p c.args.s c.plan.result.now (omega (arith, known.0)) c.plan.ensures in
    let now : WatchData = c.finish-2.new.self in
    let is = subst (λ (plan : PlanData). IsWatch plan now) (sym plan) c.in_ok-finish.ensures.watch in
    fits_turned p old _ c.args.s now fits known (c.finish.ensures.drawn ∙ fits.drawn) c.finish.ensures.count refl fits.within refl is
