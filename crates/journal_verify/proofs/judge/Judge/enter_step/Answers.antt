use Rattle.std.proofs.Common.{◌≡◌, ◌<◌, ◌-◌, length, set, refl, sym, ap, subst, ◌∙◌, arith}
use Rattle.std.proofs.lemmas.List.{length-set}
use Rattle.std.proofs.lemmas.List.Elements.{All-set, All-get_or}
use Rattle.gpu_plan.specs.Plans.{PlanData, plan_of}
use Rattle.stream_state.specs.declared.effect.Effect.{Effect}
use Rattle.stream_state.specs.State.{State, noted}
use Rattle.stream_state.specs.Steps.{effect, stepped}
use Rattle.stream_state.specs.Laws.{IsTaken}
use Rattle.sync_core.specs.Core.{StandsFor, unprocessed_of}
use Rattle.sync_core.specs.Events as sync
use Rattle.gpu_journal.specs.declared.event.Event.TheVariants.{Step}
use Rattle.gpu_journal.specs.World.{drawn_by, greatest_after}
use Rattle.gpu_journal.specs.Waits.{deed_asked}
use Rattle.gpu_journal.specs.Replaying.{IsWithinQuota}
use Rattle.gpu_journal.proofs.Worlds.{within_stepped}
use Rattle.gpu_journal.proofs.Following.{plan_here, state_here}
use Rattle.journal_verify.specs.declared.judge.Judge.TheInside.{Inside}
use Rattle.journal_verify.specs.Kept.{JudgeData, IsWatch}
use Rattle.journal_verify.specs.Faults.{kept_state}
use Rattle.journal_verify.specs.Entered.{FitsPlans, HasEntered, counts_of, effect_in}
use Rattle.journal_verify.proofs.Turning.{front_known, watch_here, is_watch_here, fits_turned}
use Rattle.journal_verify.proofs.judge.Judge.enter_step.Goals as goal

-- all that a judge keeps
abbrev kept_by : Inside → JudgeData
kept_by judge = record { drawn = judge.drawn; core = judge.scene.sync; images = judge.scene.images; states = judge.states.items; watches = judge.watches.items }

pub act-requires : goal.act-requires
act-requires c =
    let p = c.args.plans.now in
    let s = c.args.s in
    let old = kept_by c.self.inside in
    let fits : FitsPlans p old = subst (FitsPlans p) (sym c.self.view_is) c.requires.fits in
    let known = front_known p c.args.self.now s c.requires.fits c.requires.front in
    let state : c.index_mut.result.now ≡ kept_state old s = state_here old.states s c.index_mut.result.now (omega (arith, known.0)) (omega (arith, known.1, fits.states)) c.index_mut.ensures.value in
    record {
      ready = record {
        passed = record {
          known = known;
          accepted = subst (IsTaken (plan_of p s).areas c.args.words.now) (sym state) (subst (λ (j : JudgeData). IsTaken (plan_of p s).areas c.args.words.now (kept_state j s)) (sym c.self.view_is) c.requires.taken);
          command = c.requires.said;
          within = subst IsWithinQuota (sym c.index_mut.ensures.value) (All-get_or IsWithinQuota old.states (s - 1) c.index_mut.result.now (omega (arith, known.0, known.1, fits.states)) fits.within);
        };
        streams = fits.core;
        front = subst (λ (j : JudgeData). 0 < length (unprocessed_of j.core s)) (sym c.self.view_is) c.requires.front;
      };
    }

pub tell-requires : goal.tell-requires
tell-requires c =
    let p = c.args.plans.now in
    let old = kept_by c.self.inside in
    let fits : FitsPlans p old = subst (FitsPlans p) (sym c.self.view_is) c.requires.fits in
    let known = front_known p c.args.self.now c.args.s c.requires.fits c.requires.front in
    let plan = plan_here p c.args.s c.plan.result.now (omega (arith, known.0)) c.plan.ensures in
    subst (λ (plan : PlanData). IsWatch plan c.index_mut-2.result.now) plan (is_watch_here p old c.args.s c.index_mut-2.result.now fits known c.index_mut-2.ensures.value)

pub returns-clause-effect : goal.returns-clause-effect
returns-clause-effect c =
    let p = c.args.plans.now in
    let s = c.args.s in
    let words = c.args.words.now in
    let old = kept_by c.self.inside in
    let fits : FitsPlans p old = subst (FitsPlans p) (sym c.self.view_is) c.requires.fits in
    let known = front_known p c.args.self.now s c.requires.fits c.requires.front in
    let state : c.index_mut.result.now ≡ kept_state old s = state_here old.states s c.index_mut.result.now (omega (arith, known.0)) (omega (arith, known.1, fits.states)) c.index_mut.ensures.value in
    let told : c.in_ok-acted.acted.effect ≡ effect_in p old s words = c.in_ok-acted.ensures.executes.told.effect ∙ ap (effect (plan_of p s).areas words) state in
    subst (λ (j : JudgeData). c.in_ok-acted.acted.effect ≡ effect_in p j s words) c.self.view_is told

pub returns-clause-entered : goal.returns-clause-entered
returns-clause-entered c =
    let p = c.args.plans.now in
    let s = c.args.s in
    let words = c.args.words.now in
    let areas = (plan_of p s).areas in
    let old = kept_by c.self.inside in
    let fits : FitsPlans p old = subst (FitsPlans p) (sym c.self.view_is) c.requires.fits in
    let known = front_known p c.args.self.now s c.requires.fits c.requires.front in
    let state : c.index_mut.result.now ≡ kept_state old s = state_here old.states s c.index_mut.result.now (omega (arith, known.0)) (omega (arith, known.1, fits.states)) c.index_mut.ensures.value in
    let does = c.in_ok-acted.ensures.executes in
    let told : c.in_ok-acted.acted.effect ≡ effect_in p old s words = does.told.effect ∙ ap (effect areas words) state in
    let answer = does.told.answer ∙ ap (λ (e : Effect). (drawn_by e old.images).answer) told in
    let new : JudgeData = record { drawn = old.drawn; core = c.act.new.scene.sync; images = c.act.new.scene.images; states = set old.states (s - 1) c.act.new.state; watches = set old.watches (s - 1) c.tell.new.watch } in
    subst (λ (j : JudgeData). HasEntered p (Step s words) j new) c.self.view_is record {
      was = c.index_mut-2.result.now;
      now = c.tell.new.watch;
      here = watch_here p old s c.index_mut-2.result.now fits known c.index_mut-2.ensures.value;
      moved = subst (λ (e : Effect). counts_of c.tell.new.watch ≡ record (counts_of c.index_mut-2.result.now) { token = greatest_after e c.index_mut-2.result.now.token }) told c.in_ok-tell.ensures.counts;
      put = refl;
      drawn = refl;
      core = λ g stands. subst (λ (e : Effect). StandsFor c.act.new.scene.sync (sync.happened s (deed_asked p e) g)) told (does.scene.waits g stands);
      images = does.scene.images ∙ ap (λ (e : Effect). (drawn_by e old.images).images) told;
      states = ap (λ (x : State). set old.states (s - 1) x) (does.state ∙ (λ i. noted (answer i) (stepped areas words (state i))));
    }

pub returns-clause-fits : goal.returns-clause-fits
returns-clause-fits c =
    let p = c.args.plans.now in
    let s = c.args.s in
    let words = c.args.words.now in
    let old = kept_by c.self.inside in
    let fits : FitsPlans p old = subst (FitsPlans p) (sym c.self.view_is) c.requires.fits in
    let known = front_known p c.args.self.now s c.requires.fits c.requires.front in
    let plan = plan_here p s c.plan.result.now (omega (arith, known.0)) c.plan.ensures in
    let state : c.index_mut.result.now ≡ kept_state old s = state_here old.states s c.index_mut.result.now (omega (arith, known.0)) (omega (arith, known.1, fits.states)) c.index_mut.ensures.value in
    let before : IsWithinQuota c.index_mut.result.now = subst IsWithinQuota (sym c.index_mut.ensures.value) (All-get_or IsWithinQuota old.states (s - 1) c.index_mut.result.now (omega (arith, known.0, known.1, fits.states)) fits.within) in
    let taken : IsTaken (plan_of p s).areas words (kept_state old s) = subst (λ (j : JudgeData). IsTaken (plan_of p s).areas words (kept_state j s)) (sym c.self.view_is) c.requires.taken in
    let lawful = (is_watch_here p old s c.index_mut-2.result.now fits known c.index_mut-2.ensures.value).laid_out in
    let does = c.in_ok-acted.ensures.executes in
    let next : IsWithinQuota c.act.new.state = subst IsWithinQuota (sym does.state) (within_stepped (plan_of p s).areas words c.index_mut.result.now c.in_ok-acted.acted.answer lawful before (subst (IsTaken (plan_of p s).areas words) (sym state) taken)) in
    let is = subst (λ (plan : PlanData). IsWatch plan c.tell.new.watch) (sym plan) c.in_ok-tell.ensures.watch in
    fits_turned p old _ s c.tell.new.watch fits known (does.scene.drawn ∙ fits.drawn) does.scene.count (length-set old.states (s - 1) c.act.new.state) (All-set IsWithinQuota old.states (s - 1) c.act.new.state next fits.within) refl is
