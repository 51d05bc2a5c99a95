-- A step of a run: what its desk finds, and the report of it.
use Rattle.std.proofs.Common.{◌≡◌, ◌<◌, ℕ, Ok, List, length, refl, sym, ap, subst, ◌∙◌}
use Rattle.std.specs.List.{All}
use Rattle.gpu_cmd.specs.declared.areas.Areas.{Areas}
use Rattle.gpu_cmd.specs.Spans.{words_in}
use Rattle.gpu_cmd.specs.Lawful.{IsLawfulAreas}
use Rattle.gpu_store.specs.Images.{Pictures}
use Rattle.gpu_plan.specs.Plans.{PlansData, plan_of, number_of}
use Rattle.stream_state.specs.declared.effect.Effect.{Effect}
use Rattle.stream_state.specs.declared.effect.Effect.TheVariants.{Nothing, Token, Release, Wait, WaitName, Pixels, Results}
use Rattle.stream_state.specs.State.{State}
use Rattle.stream_state.specs.Steps.{effect, writes}
use Rattle.stream_state.specs.Told.{writes_told}
use Rattle.stream_state.specs.Laws.{IsTaken}
use Rattle.stream_state.proofs.Telling.{verdict_taken}
use Rattle.sync_core.specs.Standing.{IsKnown}
use Rattle.sync_core.specs.Core as cores
use Rattle.gpu_journal.specs.declared.event.Event.{Event}
use Rattle.gpu_journal.specs.declared.event.Event.TheVariants.{Step}
use Rattle.gpu_journal.specs.World.{drawn_by, state_of}
use Rattle.gpu_journal.specs.Facts.{put_of, verdict_at}
use Rattle.gpu_journal.specs.Legal.{Obeys}
use Rattle.gpu_journal.specs.Replaying.{IsWithinQuota}
use Rattle.gpu_journal.proofs.Worlds.{states_within}
use Rattle.serial_laws.proofs.Passed.{lawful_of}
use Rattle.serial_laws.specs.Runs as histories
use Rattle.serial_laws.specs.Choosing.{IsCoreOf}
use Rattle.serial_laws.proofs.Cores.{core_left, core_kept}
use Rattle.serial_laws.proofs.Fronts.{left_open}
use Rattle.step_parts.specs.declared.acted.Acted.{Acted}
use Rattle.step_parts.specs.declared.scene.Scene.{Scene}
use Rattle.step_parts.specs.declared.taken.Taken.{Taken}
use Rattle.step_parts.specs.Keeping.{keeps}
use Rattle.step_parts.specs.Executing.{IsReady, Executes}
use Rattle.house_core.specs.Desks.{DeskData, desk_at}
use Rattle.house_core.specs.Answers.{WasExecuted}
use Rattle.house_core.specs.Invariant.{Parts, CoreInvariant}
use Rattle.house_core.proofs.Again.{Place}

pub laid_out : (c : Parts) (s : ℕ) → CoreInvariant c → Place c s → IsLawfulAreas (plan_of c.plans s).areas
laid_out c s was place = (lawful_of c.plans s was.lawful place.plan).laid_out

-- a command that was taken, whose words obey the rules, finds its desk ready
pub ready : (c : Parts) (t : Taken) (desk : DeskData) → CoreInvariant c → Place c t.stream → t.plans.now ≡ c.plans → desk ≡ desk_at c.desks t.stream
    → Obeys c.plans c.past (Step t.stream t.words.now) → verdict_at c.plans c.past t.stream t.words.now ≡ Ok t.command.now → IsReady t c.sync desk.state
ready c t desk was place plans read obeys verdict =
    let p = c.plans in
    let h = c.past in
    let s = t.stream in
    let words = t.words.now in
    let areas = (plan_of p s).areas in
    let lawful = laid_out c s was place in
    let within = states_within p h s lawful was.legal in
    let state = ap (λ (desk : DeskData). desk.state) read ∙ place.fits.state in
    let taken = verdict_taken areas (put_of p h s) words (state_of p h s) t.command.now lawful within.bounded obeys.rule_7.0 obeys.rule_7.1 verdict in
    let left = (left_open p h s was.legal obeys.rule_4).1 in
    record {
      passed = record {
        known = subst (λ (p : PlansData). IsKnown (length p.plans) s) (sym plans) place.plan;
        accepted = subst (λ (p : PlansData). IsTaken (plan_of p s).areas words desk.state) (sym plans) (subst (IsTaken areas words) (sym state) taken.1);
        command = sym taken.0;
        within = subst IsWithinQuota (sym state) within;
      };
      streams = was.many.streams ∙ ap (λ (p : PlansData). length p.plans) (sym plans);
      front = rw (core_left p h c.sync place.stands s) left;
    }

-- the core keeps a wait as the journal says
core_keeps : (p : PlansData) (h : List Event) (core : cores.Core) (is : IsCoreOf p h core) (s : ℕ) (effect : Effect) → keeps p core s effect ≡ histories.step_keeps p h s effect
core_keeps p h core is s Nothing = refl
core_keeps p h core is s (Token token) = refl
core_keeps p h core is s (Release release) = refl
core_keeps p h core is s (Wait stream release) = core_kept p h core is s stream release
core_keeps p h core is s (WaitName name release) = core_kept p h core is s (number_of p.plans name) release
core_keeps p h core is s (Pixels op) = refl
core_keeps p h core is s (Results write) = refl

-- the report of the step, by the journal
pub executed : (c : Parts) (t : Taken) (old new : Scene) (state left : State) (acted : Acted) → CoreInvariant c → Place c t.stream → t.plans.now ≡ c.plans → old ≡ record { images = c.images; sync = c.sync } → state ≡ state_of c.plans c.past t.stream
    → Executes t old new state left acted → WasExecuted c.plans c.past t.stream t.words.now acted
executed c t old new state left acted was place plans scene same does =
    let told = does.told in
    let s = t.stream in
    let areas = ap (λ (p : PlansData). (plan_of p s).areas) plans in
    record {
      effect = told.effect ∙ (λ i. effect (areas i) t.words.now (same i));
      answer = told.answer ∙ ap (λ (scene : Scene). (drawn_by acted.effect scene.images).answer) scene ∙ ap (λ (images : Pictures). (drawn_by acted.effect images).answer) was.images;
      kept = told.kept ∙ (λ i. keeps (plans i) (scene i).sync s acted.effect) ∙ core_keeps c.plans c.past c.sync place.stands s acted.effect;
      writes = told.writes ∙ (λ i. writes (areas i) t.words.now (same i));
      places = subst (λ (a : Areas). All (λ write. write.0 < words_in a.results) (writes_told acted.effect)) areas told.places;
      texels = told.texels;
    }
