-- The areas are those of the stream, and the words are some.
use Rattle.std.proofs.Common.{◌≡◌, ℕ, sym, ap, subst, ◌∙◌, arith}
use Rattle.gpu_word.specs.Header.{size_of}
use Rattle.gpu_cmd.specs.declared.areas.Areas.{Areas}
use Rattle.gpu_cmd.specs.declared.command.Command.{Command}
use Rattle.gpu_cmd.specs.Lawful.{IsLawfulAreas}
use Rattle.stream_state.specs.Steps.{header_in, command_in}
use Rattle.stream_state.specs.Accepted.{IsAccepted}
use Rattle.stream_state.proofs.Finding.{finds}
use Rattle.step_parts.specs.declared.scene.Scene.{Scene}
use Rattle.step_parts.specs.Claims.{IsPlain}
use Rattle.step_parts.specs.Executing.{areas_of, asks, MeetsClaim}
use Rattle.step_parts.proofs.Plans.{areas_here}
use Rattle.step_parts.proofs.Asking.{first_value, Asks, asked}
use Rattle.step_parts.proofs.Executed.{HasDone, claimed_done, plain_done, executes}
use Rattle.step_parts.proofs.acting.act.Goals as goal
use Rattle.step_parts.proofs.acting.act.Goals.{in-Some, in-None, After-areas-areas, In_ok-effect}

own_areas : (c : After-areas-areas) → c.areas-areas.result.now ≡ areas_of c.args.taken.now
own_areas c =
    let me = c.args.taken.now in
    areas_here me.plans.now me.stream c.plan.result.now c.areas-areas.result.now c.requires.ready.passed.known c.plan.ensures c.areas-areas.ensures.value

pub bounds-taken-0 : goal.bounds-taken-0
bounds-taken-0 c =
    let me = c.args.taken.now in
    let lawful = subst IsLawfulAreas (own_areas (goal.at.bounds-taken-0 c).After-areas-areas) c.areas-areas.ensures.lawful in
    let words = me.words.now in
    let passed = c.requires.ready.passed in
    let found = finds (areas_of me) words c.args.state.now (command_in words) (size_of (header_in words)) lawful passed.within.bounded passed.accepted.accepted in
    omega (arith, found.some)

pub step-requires-clause-accepted : goal.step-requires-clause-accepted
step-requires-clause-accepted c =
    let me = c.args.taken.now in
    let words = me.words.now in
    let state = c.args.state.now in
    let passed = c.requires.ready.passed in
    let sized : c.split-size.result.size ≡ size_of (header_in words) = c.split-size.ensures.size ∙ ap size_of (first_value words) in
    subst (λ (a : Areas). IsAccepted a words state me.command.now c.split-size.result.size) (sym (own_areas (goal.at.step-requires-clause-accepted c).After-areas-areas))
    (subst (λ (n : ℕ). IsAccepted (areas_of me) words state me.command.now n) (sym sized)
    (subst (λ (k : Command). IsAccepted (areas_of me) words state k (size_of (header_in words))) (sym passed.command) passed.accepted.accepted))

module _ (c : In_ok-effect) where
  told : Asks c.args.taken.now c.args.state.now c.step.new.self c.in_ok-effect.effect
  told =
      let step = c.in_ok-effect.ensures in
      asked c.args.taken.now c.plan.result.now c.areas-areas.result.now c.args.state.now c.step.new.self c.in_ok-effect.effect c.requires.ready.passed c.plan.ensures c.areas-areas.ensures.value c.areas-areas.ensures.lawful step.effect step.texels step.state

  claimed : MeetsClaim c.args.taken.now c.args.scene.now c.meet_claim.new.scene (asks c.args.taken.now c.args.state.now) c.in_ok-claimed.claimed
  claimed = c.in_ok-claimed.ensures.meets c.args.state.now c.requires.ready.passed

pub follow-requires-clause-plain : goal.follow-requires-clause-plain
follow-requires-clause-plain c =
    let at = (goal.at.follow-requires-clause-plain c).In_ok-effect in
    let none = subst (MeetsClaim c.args.taken.now c.args.scene.now c.meet_claim.new.scene (asks c.args.taken.now c.args.state.now)) c.in-None.is (claimed at) in
    subst IsPlain (sym (told at).effect) none.0

pub note-requires : goal.note-requires
note-requires c =
    let few = (told (goal.at.note-requires c).In_ok-effect).few in
    record {
      invalid_value = omega (arith, few);
      invalid_operation = omega (arith, few);
      out_of_texels = omega (arith, few);
    }

pub returns : goal.returns
returns c =
    let at = (goal.at.returns c).In_ok-effect in
    let taken = c.args.taken.now in
    let old = c.args.scene.now in
    let new = c.match-claimed.scene in
    let effect = c.in_ok-effect.effect in
    let meets = MeetsClaim taken old c.meet_claim.new.scene (asks taken c.args.state.now) in
    let done : HasDone taken old new effect c.match-claimed.answer =
    elim c.match-claimed.branch [
      | in-Some w ↦
          subst (λ (scene : Scene). HasDone taken old scene effect c.match-claimed.answer) (sym w.scene-is) (subst (HasDone taken old c.meet_claim.new.scene effect) (sym w.answer-is)
          (claimed_done taken old c.meet_claim.new.scene c.args.state.now effect w.in-Some.did (told at).effect (subst meets w.in-Some.is (claimed at))))
      | in-None w ↦
          subst (λ (scene : Scene). HasDone taken old scene effect c.match-claimed.answer) (sym w.scene-is) (subst (HasDone taken old w.follow.new.scene effect) (sym w.answer-is)
          (plain_done taken old c.meet_claim.new.scene w.follow.new.scene c.args.state.now effect w.follow.result (told at).effect (subst meets w.in-None.is (claimed at)) w.follow.ensures.answer w.follow.ensures.scene))
    ] in
    record {
      executes = executes taken old new c.args.state.now c.step.new.self c.note.new.self effect c.match-claimed.answer (told at) done c.note.ensures;
      same_scene = tt;
      same_state = tt;
      free = λ none. absurd (cc);
    }
