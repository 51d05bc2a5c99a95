use Rattle.std.proofs.Common.{◌-◌, ℕ, List, ◌++◌, sym, ap, subst, ◌∙◌}
use Rattle.std.specs.Prelude.{slice_get}
use Rattle.stream_state.specs.State.{result_of}
use Rattle.gpu_plan.specs.Plans.{PlansData, RiseFrom}
use Rattle.gpu_journal.proofs.Following.{plan_here}
use Rattle.gpu_run.specs.Reading.{read_left}
use Rattle.gpu_run.proofs.AllFound.{found_all}
use Rattle.gpu_run.proofs.reading.dumps_of.Goals as goal

pub returns : goal.returns
returns g c =
    let p = g.N.Naming.plans in
    let h = c.args.house.now.core.past in
    let s = c.args.stream in
    let plan = c.plan.result.now in
    let its_plan = plan_here p s plan c.requires.known.0 (ap (λ (q : PlansData). slice_get q.plans (s - 1)) (sym c.plans.ensures) ∙ c.plan.ensures) in
    let listed = c.dumps-planned.ensures.value in
    let rises : RiseFrom 0 plan.dumps = subst (RiseFrom 0) listed c.dumps-planned.ensures.rising in
    found_all p h s c.args.client.words.done plan c.stream.result.now c.args.client.read c.read_left.new.dumps its_plan rises c.stream.ensures (sym c.is_lost.ensures ∙ c.if-is_lost.false)
    (c.in_ok-read_left.ensures ∙ ap (λ (l : List (ℕ × ℕ × ℕ)). l ++ read_left c.dumps-planned.result.now l (result_of c.stream.result.now)) c.into_dumps-dumps.ensures ∙ ap (λ (l : List (ℕ × ℕ)). c.args.client.read ++ read_left l c.args.client.read (result_of c.stream.result.now)) listed) c.requires.read
