use Rattle.std.proofs.Common.{rules, ◌≡◌, ℕ, Option, Some, None, sym, subst}
use Rattle.std.specs.Prelude.{IfSome, IsNone}
use Rattle.seq_sched.specs.Choice.{least_runnable, IsChoice, NoneCanRun, NothingLeft}
use Rattle.seq_sched.proofs.Least.{choice_is, choice_none}
use Rattle.seq_sched.proofs.Idle.{idle}
use Rattle.seq_sched.proofs.scheduler.Scheduler.pick.Goals as goal

pub returns-in-Some-clause-least : goal.returns-in-Some-clause-least
returns-in-Some-clause-least c =
    let is : Some c.in-Some.runner.stream ≡ least_runnable c.args.self.now c.args.core.now = search rules in
    subst (λ (o : Option ℕ). IfSome o (IsChoice c.args.self.now c.args.core.now)) (sym is) (choice_is c.args.self.now c.args.core.now)

pub returns-in-Some-clause-none : goal.returns-in-Some-clause-none
returns-in-Some-clause-none c =
    let P = NoneCanRun c.args.self.now c.args.core.now in
    let o : Option ℕ = Some c.in-Some.runner.stream in
    let is : o ≡ least_runnable c.args.self.now c.args.core.now = search rules in
    subst (λ (o : Option ℕ). (IsNone o → P) × (P → IsNone o)) (sym is) (choice_none c.args.self.now c.args.core.now)

pub returns-in-Some-clause-idle : goal.returns-in-Some-clause-idle
returns-in-Some-clause-idle c = λ h st home.
    let P = NothingLeft c.args.core.now in
    let o : Option ℕ = Some c.in-Some.runner.stream in
    let is : o ≡ least_runnable c.args.self.now c.args.core.now = search rules in
    subst (λ (o : Option ℕ). (IsNone o → P) × (P → IsNone o)) (sym is) (idle c.args.self.now c.args.core.now h c.requires.streams st home)

pub returns-in-None-clause-none : goal.returns-in-None-clause-none
returns-in-None-clause-none c =
    let P = NoneCanRun c.args.self.now c.args.core.now in
    let o : Option ℕ = None in
    let is : o ≡ least_runnable c.args.self.now c.args.core.now = search rules in
    subst (λ (o : Option ℕ). (IsNone o → P) × (P → IsNone o)) (sym is) (choice_none c.args.self.now c.args.core.now)

pub returns-in-None-clause-idle : goal.returns-in-None-clause-idle
returns-in-None-clause-idle c = λ h st home.
    let P = NothingLeft c.args.core.now in
    let o : Option ℕ = None in
    let is : o ≡ least_runnable c.args.self.now c.args.core.now = search rules in
    subst (λ (o : Option ℕ). (IsNone o → P) × (P → IsNone o)) (sym is) (idle c.args.self.now c.args.core.now h c.requires.streams st home)
