-- A run that is at its end may finish its order.
use Rattle.std.proofs.Common.{◌≡◌, ◌<◌, Bool, false, true, refl, sym, subst, ◌∙◌}
use Rattle.gpu_cmd.specs.declared.facts.StreamFacts.{StreamFacts}
use Rattle.sync_core.specs.Standing.{is_open}
use Rattle.gpu_journal.specs.declared.event.Event.TheVariants.{Finish}
use Rattle.gpu_journal.specs.Waits.{standing_of}
use Rattle.gpu_journal.specs.Legal.{Obeys}
use Rattle.serial_laws.specs.Runs.{MayGoOn}
use Rattle.serial_laws.proofs.Rules.{finish_obeys}
use Rattle.house_core.specs.Desks.{Out, RunData}
use Rattle.house_core.specs.Core.{IsOfPlans, IsAway}
use Rattle.house_core.specs.Invariant.{Parts, CoreInvariant, seen}
use Rattle.house_core.proofs.Rows.{out_at_desk}
use Rattle.house_core.proofs.Seen.{place_of_run}

-- a run that is at its end and shows what the journal says may be finished
pub finish_legal : (c : Parts) (run : RunData) → CoreInvariant c → IsOfPlans c.plans run → IsAway (seen c) run → run.paused ≡ false → run.facts.get ≡ run.facts.put → is_open (standing_of c.plans c.past run.stream) ≡ true
    → Obeys c.plans c.past (Finish run.stream run.order)
finish_legal c run was plan away going end stays =
    let p = c.plans in
    let h = c.past in
    let s = run.stream in
    let place = place_of_run c (seen c) s run refl was refl plan in
    let there = sym (out_at_desk c.desks s) ∙ away.out in
    let runs = place.fits.runs (subst (λ (out : Out). 0 < out.order) (sym there) away.positive) in
    let may = subst (λ (paused : Bool). MayGoOn p h s run.order paused) going (subst (λ (out : Out). MayGoOn p h s out.order out.paused) there runs) in
    let same = subst (λ (facts : StreamFacts). facts.get ≡ facts.put) (away.shows stays).facts end in
    finish_obeys p h s run.order was.lawful was.legal (record { known = plan.known; stays = stays }) may same
