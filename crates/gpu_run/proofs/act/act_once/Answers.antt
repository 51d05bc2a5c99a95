use Rattle.std.proofs.Common.{◌≡◌, ◌-◌, true, [], ◌∷◌, get_or, set, refl, sym, ap, ◌∙◌}
use Rattle.std.proofs.lemmas.List.{set-get_or}
use Rattle.std.proofs.lemmas.Result.{IfOk-from_err}
use Rattle.std.specs.Prelude.{slice_get}
use Rattle.gpu_plan.specs.Plans.{PlansData}
use Rattle.gpu_plan.specs.Passes.{passes}
use Rattle.gpu_fetch.specs.Plain.{PlainData}
use Rattle.gpu_run.specs.Clients.{RunClientData, done_at}
use Rattle.gpu_run.specs.Reading.{HaveRead}
use Rattle.gpu_run.specs.Rounds.{GoesFurther}
use Rattle.gpu_run.proofs.Reaching.{nothing_done}
use Rattle.gpu_run.proofs.AllFound.{found_acted, found_ordered}
use Rattle.gpu_run.proofs.Ready.{Ready, ready_in, ready_plan, ready_stays, ready_passed, ready_further, ready_left, ready_reached, ready_note, ready_ordered}
use Rattle.gpu_run.proofs.act.act_once.Given.{Over}
use Rattle.gpu_run.proofs.act.act_once.Goals.{After-act, After-passes}
use Rattle.gpu_run.proofs.act.act_once.Goals as goal

-- the facts before the action, of the client as it was or as it has read
ready : (g : Over) (c : After-passes g) (client : RunClientData) → client.words ≡ (get_or c.args.clients.now (c.args.stream - 1) c.index-clients-stream.result).words
    → Ready g.N.Naming.plans c.args.house.now c.args.clients.now c.args.stream c.finishes-finishes.result c.greatest-token.result c.plan-plan.result.now client
ready g c client same =
    ready_in _ _ _ _ _ _ _ client c.index-clients-stream.result c.requires.known c.requires.stands.served c.requires.stands.rising c.requires.open
    c.finishes-finishes.ensures.value c.greatest-token.ensures.value c.finishes-finishes.ensures.home c.greatest-token.ensures.home (ap (λ (q : PlansData). slice_get q.plans (c.args.stream - 1)) (sym c.plans.ensures) ∙ c.plan-plan.ensures) same

-- ---- the action does not pass

pub returns-then-not-passes-clause-acts : goal.returns-then-not-passes-clause-acts
returns-then-not-passes-clause-acts g c =
    let client = get_or c.args.clients.now (c.args.stream - 1) c.index-clients-stream.result in
    let r = ready g (goal.at.returns-then-not-passes-clause-acts g c).After-passes client refl in
    (refl, nothing_done c.args.clients.now c.args.stream c.index-clients-stream.result, (ready_stays _ _ _ _ _ _ _ _ r (sym c.passes.ensures ∙ c.if-not-passes.true)).2)

-- ---- the client has read

pub act-requires-clause-plan : goal.act-requires-clause-plan
act-requires-clause-plan g c = ready_plan _ _ _ _ _ _ _ _ (ready g (goal.at.act-requires-clause-plan g c).After-passes c.read.new.self c.in_ok-read.ensures.words)

-- ---- the client has acted, once the facts before that, as it has read, are given

module _ (g : Over) (c : After-act g) (r : Ready g.N.Naming.plans c.args.house.now c.args.clients.now c.args.stream c.finishes-finishes.result c.greatest-token.result c.plan-plan.result.now c.read.new.self) where
  -- the action passes still
  passing : passes c.plan-plan.result.now.actions c.read.new.self.words.done c.finishes-finishes.result (c.greatest-token.result ∷ []) ≡ true
  passing = ap (λ (w : PlainData). passes c.plan-plan.result.now.actions w.done c.finishes-finishes.result (c.greatest-token.result ∷ [])) c.in_ok-read.ensures.words ∙ sym c.passes.ensures ∙ c.if-not-passes.false

  further : GoesFurther g.N.Naming.plans c.args.house.now.core.past (done_at c.args.clients.now) (done_at (set c.args.clients.now (c.args.stream - 1) c.act.new.self)) c.args.stream
  further = ready_further _ _ _ _ _ _ _ _ r c.act.new.self passing c.act.ensures.words

  found : HaveRead g.N.Naming.plans c.args.house.now.core.past (set c.args.clients.now (c.args.stream - 1) c.act.new.self)
  found = found_acted _ _ _ _ c.index-clients-stream.result c.plan-plan.result.now c.stream.result.now c.read.new.self.read c.act.new.self r.in_row r.its_plan c.stream.ensures c.in_ok-read.ensures.read c.act.ensures.read c.requires.stands.rising further c.requires.stands.read

-- an action that is no flush
pub returns-in-None-clause-served : goal.returns-in-None-clause-served
returns-in-None-clause-served g c =
    let at = goal.at.returns-in-None-clause-served g c in
    let r = ready g at.After-passes c.read.new.self c.in_ok-read.ensures.words in
    ready_passed _ _ _ _ _ _ _ _ r c.act.new.self (passing g at.After-act r) c.act.ensures.words (record { beside = c.act.ensures.beside; notes = c.act.ensures.notes }) c.in-None.ensures.quiet

pub returns-in-None-clause-read : goal.returns-in-None-clause-read
returns-in-None-clause-read g c =
    let at = goal.at.returns-in-None-clause-read g c in
    found g at.After-act (ready g at.After-passes c.read.new.self c.in_ok-read.ensures.words)

pub returns-in-None-clause-acts : goal.returns-in-None-clause-acts
returns-in-None-clause-acts g c =
    let at = goal.at.returns-in-None-clause-acts g c in
    (refl, further g at.After-act (ready g at.After-passes c.read.new.self c.in_ok-read.ensures.words))

-- a flush, with its order
pub order-requires-clause-next : goal.order-requires-clause-next
order-requires-clause-next g c =
    let at = goal.at.order-requires-clause-next g c in
    let r = ready g at.After-passes c.read.new.self c.in_ok-read.ensures.words in
    ready_left _ _ _ _ _ _ _ _ r c.act.new.self (passing g at.After-act r) c.act.ensures.words c.in-Some.ensures.flush

pub order-requires-clause-note : goal.order-requires-clause-note
order-requires-clause-note g c =
    let at = goal.at.order-requires-clause-note g c in
    let r = ready g at.After-passes c.read.new.self c.in_ok-read.ensures.words in
    ready_note _ _ _ _ _ _ _ _ r c.act.new.self (passing g at.After-act r) c.act.ensures.words c.in-Some.ensures.flush c.in-Some.note c.in-Some.ensures.mark

pub returns-in-Ok-clause-served : goal.returns-in-Ok-clause-served
returns-in-Ok-clause-served g c =
    let at = goal.at.returns-in-Ok-clause-served g c in
    let r = ready g at.After-passes c.read.new.self c.in_ok-read.ensures.words in
    ready_ordered _ _ _ _ _ _ _ _ r c.act.new.self (passing g at.After-act r) c.act.ensures.words c.in-Some.ensures.flush c.order.new.self c.in-Some.note (record { beside = c.act.ensures.beside; notes = c.act.ensures.notes }) c.in-Some.ensures.noted c.in-Ok.ensures.event c.order.ensures.outs c.in-Ok.ensures.slots

pub returns-in-Ok-clause-read : goal.returns-in-Ok-clause-read
returns-in-Ok-clause-read g c =
    let at = goal.at.returns-in-Ok-clause-read g c in
    found_ordered g.N.Naming.plans c.args.house.now.core.past c.order.new.self.core.past c.args.stream (set c.args.clients.now (c.args.stream - 1) c.act.new.self) c.in-Ok.ensures.event
    (found g at.After-act (ready g at.After-passes c.read.new.self c.in_ok-read.ensures.words))

pub returns-in-Ok-clause-acts : goal.returns-in-Ok-clause-acts
returns-in-Ok-clause-acts g c =
    let at = goal.at.returns-in-Ok-clause-acts g c in
    let r = ready g at.After-passes c.read.new.self c.in_ok-read.ensures.words in
    (c.in-Ok.ensures.event, further g at.After-act r, ready_reached _ _ _ _ _ _ _ _ r c.act.new.self (passing g at.After-act r) c.act.ensures.words c.in-Some.ensures.flush)

pub returns-then-not-passes-clause-served : goal.returns-then-not-passes-clause-served
returns-then-not-passes-clause-served g c = rw (set-get_or c.args.clients.now (c.args.stream - 1) c.index-clients-stream.result) c.requires.stands.served

pub returns-then-not-passes-clause-read : goal.returns-then-not-passes-clause-read
returns-then-not-passes-clause-read g c = rw (set-get_or c.args.clients.now (c.args.stream - 1) c.index-clients-stream.result) c.requires.stands.read

pub returns-in_err-read-clause-served : goal.returns-in_err-read-clause-served
returns-in_err-read-clause-served g c = IfOk-from_err c.from_residual.result _ c.from_residual.ensures.0

pub returns-in_err-read-clause-read : goal.returns-in_err-read-clause-read
returns-in_err-read-clause-read g c = IfOk-from_err c.from_residual.result _ c.from_residual.ensures.0

pub returns-in_err-read-clause-acts : goal.returns-in_err-read-clause-acts
returns-in_err-read-clause-acts g c = IfOk-from_err c.from_residual.result _ c.from_residual.ensures.0

pub order-requires-clause-known : goal.order-requires-clause-known
order-requires-clause-known g c = c.requires.known
