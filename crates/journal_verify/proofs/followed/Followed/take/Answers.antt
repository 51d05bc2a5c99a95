use Rattle.std.proofs.Common.{◌≡◌, ℕ, length, sym, ap, subst, ◌∙◌}
use Rattle.std.specs.Prelude.{Result, IfOk}
use Rattle.stream_state.specs.declared.effect.Effect.{Effect}
use Rattle.sync_core.specs.Standing.{IsKnown}
use Rattle.gpu_journal.specs.World.{stream_in}
use Rattle.journal_verify.specs.declared.followed.Followed.TheInside.{Inside}
use Rattle.journal_verify.specs.Kept.{JudgeData}
use Rattle.journal_verify.specs.Faults.{fault_in}
use Rattle.journal_verify.specs.Entered.{FitsPlans, HasEntered, IsEffect}
use Rattle.journal_verify.specs.Followed.{FollowedData, HasHeard, HasFollowed}
use Rattle.journal_verify.proofs.Hearing.{entered_known, told_rise, dumped_heard}
use Rattle.journal_verify.proofs.followed.Followed.take.Goals as goal

-- all that is kept
abbrev kept_by : Inside → FollowedData
kept_by followed = record { judge = followed.judge; dumped = followed.dumped.items; sums = followed.sums.items }

pub tell-requires-clause-known : goal.tell-requires-clause-known
tell-requires-clause-known c =
    let p = c.args.plans.now in
    let e = c.args.event.now in
    let old = kept_by c.self.inside in
    let fits : FitsPlans p old.judge = subst (λ (f : FollowedData). FitsPlans p f.judge) (sym c.self.view_is) c.requires.fits in
    let known = entered_known p e old.judge c.enter.new.self fits (c.in_ok-effect.ensures.entered (ap fault_in c.in-Ok.is)) in
    let count : length old.dumped ≡ length p.plans = ap (λ (f : FollowedData). length f.dumped) c.self.view_is ∙ c.requires.streams in
    subst (λ (s : ℕ). IsKnown (length old.dumped) s) (sym c.stream_of.ensures) (subst (λ (n : ℕ). IsKnown n (stream_in e)) (sym count) known)

pub tell-requires-clause-rising : goal.tell-requires-clause-rising
tell-requires-clause-rising c =
    let p = c.args.plans.now in
    let e = c.args.event.now in
    let old = kept_by c.self.inside in
    told_rise p old.judge e c.in-Ok.effect (subst (λ (r : Result Effect ℕ). IfOk r (λ effect. IsEffect p old.judge e effect)) c.in-Ok.is c.in_ok-effect.ensures.effect)

pub returns-in_ok-tell-in-Ok-clause-followed : goal.returns-in_ok-tell-in-Ok-clause-followed
returns-in_ok-tell-in-Ok-clause-followed c = λ none.
    let p = c.args.plans.now in
    let e = c.args.event.now in
    let old = kept_by c.self.inside in
    let new = c.tell.new.self in
    let fits : FitsPlans p old.judge = subst (λ (f : FollowedData). FitsPlans p f.judge) (sym c.self.view_is) c.requires.fits in
    let count : length old.dumped ≡ length p.plans = ap (λ (f : FollowedData). length f.dumped) c.self.view_is ∙ c.requires.streams in
    let entered = c.in_ok-effect.ensures.entered (ap fault_in c.in-Ok.is) in
    let effect = subst (λ (r : Result Effect ℕ). IfOk r (λ effect. IsEffect p old.judge e effect)) c.in-Ok.is c.in_ok-effect.ensures.effect in
    let heard = subst (λ (s : ℕ). HasHeard s c.in-Ok.effect c.enter.new.self old.dumped new.dumped) c.stream_of.ensures c.in_ok-tell-in-Ok.ensures.told in
    let next : HasFollowed p e old new = record {
      entered = subst (λ (j : JudgeData). HasEntered p e old.judge j) (sym (ap (λ (f : FollowedData). f.judge) c.tell.ensures.same)) entered;
      dumped = dumped_heard p e old.judge c.enter.new.self c.in-Ok.effect old.dumped new.dumped fits c.in_ok-effect.ensures.fits count entered effect heard;
      sums = ap (λ (f : FollowedData). f.sums) c.tell.ensures.same;
    } in
    subst (λ (f : FollowedData). HasFollowed p e f new) c.self.view_is next
