-- What an event makes of what is kept for the judge of a whole output.
use Rattle.std.proofs.Common.{◌≡◌, ℕ, zero, suc, ◌-◌, ◌<◌, Option, Some, List, [], ◌∷◌, length, get_or, set, map, refl, sym, ap, subst, ◌∙◌, arith}
use Rattle.std.specs.Prelude.{slice_get}
use Rattle.std.specs.Option.{option_map_or}
use Rattle.std.specs.List.Sorted.{IsStrictlyIncreasing}
use Rattle.std.proofs.lemmas.List.{get_or-set_same, set-get_or}
use Rattle.std.proofs.lemmas.Option.{get_or_from_slice_get}
use Rattle.gpu_plan.specs.Plans.{PlansData, plan_of}
use Rattle.stream_state.specs.declared.effect.Effect.{Effect}
use Rattle.stream_state.specs.declared.effect.Effect.TheVariants.{Nothing, Token, Release, Wait, WaitName, Pixels, Results}
use Rattle.stream_state.specs.Steps.{writes}
use Rattle.stream_state.specs.Told.{writes_told}
use Rattle.stream_state.specs.Writes.{Writes}
use Rattle.stream_state.proofs.Runs.{writes_rise}
use Rattle.stream_state.proofs.Telling.{effects_tell}
use Rattle.sync_core.specs.Standing.{IsKnown}
use Rattle.gpu_journal.specs.declared.event.Event.{Event}
use Rattle.gpu_journal.specs.declared.event.Event.TheVariants.{Order, Step, Finish, Lost, Close}
use Rattle.gpu_journal.specs.World.{stream_in}
use Rattle.journal_verify.specs.Kept.{WatchData, JudgeData, watch_of}
use Rattle.journal_verify.specs.Faults.{finished_in, kept_state}
use Rattle.journal_verify.specs.Entered.{FitsPlans, Counts, HasEntered, IsEffect, effect_in}
use Rattle.journal_verify.specs.Dumped.{DumpedData, HasTakenUp}
use Rattle.journal_verify.specs.Followed.{HasWrittenResults, HasHeard, HasDumped}
use Rattle.journal_verify.proofs.Turning.{watch_here, known_of_watch}
use Rattle.journal_verify.proofs.Replacing.{taken_up_none}

-- an event that is taken up is one of a stream that is kept
pub entered_known : (p : PlansData) (e : Event) (old new : JudgeData) → FitsPlans p old → HasEntered p e old new → IsKnown (length p.plans) (stream_in e)
entered_known p (Order s n c) old new fits turned = known_of_watch p old s turned.was fits turned.here
entered_known p (Step s words) old new fits turned = known_of_watch p old s turned.was fits turned.here
entered_known p (Finish s n) old new fits turned = known_of_watch p old s turned.was fits turned.here
entered_known p (Lost s why words) old new fits turned = known_of_watch p old s turned.was fits turned.here
entered_known p (Close s) old new fits turned = known_of_watch p old s turned.was fits turned.here

pub some_at : {X : Type 0} (xs : List X) (k : ℕ) → k < length xs → (x : X) × (slice_get xs k ≡ Some x)
some_at [] k lt = absurd (omega arith)
some_at (x ∷ xs) zero lt = (x, refl)
some_at (x ∷ xs) (suc k) lt = some_at xs k (omega arith)

-- ---- what an effect tells

nothing_rises : (effect : Effect) → effect ≡ Nothing → IsStrictlyIncreasing (map (λ (write : ℕ × ℕ). write.0) (writes_told effect))
nothing_rises effect is = subst (λ (x : Effect). IsStrictlyIncreasing (map (λ (write : ℕ × ℕ). write.0) (writes_told x))) (sym is) (λ k lt. absurd (omega arith))

pub told_rise : (p : PlansData) (judge : JudgeData) (e : Event) (effect : Effect) → IsEffect p judge e effect → IsStrictlyIncreasing (map (λ (write : ℕ × ℕ). write.0) (writes_told effect))
told_rise p judge (Order s n c) effect is = nothing_rises effect is
told_rise p judge (Step s words) effect is =
    let areas = (plan_of p s).areas in
    let state = kept_state judge s in
    subst (λ (x : Effect). IsStrictlyIncreasing (map (λ (write : ℕ × ℕ). write.0) (writes_told x))) (sym is)
    (subst (λ (ws : Writes). IsStrictlyIncreasing (map (λ (write : ℕ × ℕ). write.0) ws)) (effects_tell areas words state).places (writes_rise areas words state))
told_rise p judge (Finish s n) effect is = nothing_rises effect is
told_rise p judge (Lost s why words) effect is = nothing_rises effect is
told_rise p judge (Close s) effect is = nothing_rises effect is

-- where nothing is written, nothing changes
told_none : (s : ℕ) (judge : JudgeData) (old new : List DumpedData) → IsKnown (length old) s → new ≡ old → HasWrittenResults s [] judge old new
told_none s judge old new known same =
    let own = some_at old (s - 1) (omega (arith, known.0, known.1)) in
    record {
      known = known;
      was = own.0;
      now = own.0;
      there = own.1;
      taken = taken_up_none (finished_in judge s) own.0;
      put = same ∙ sym (ap (set old (s - 1)) (sym (get_or_from_slice_get old (s - 1) own.0 own.0 own.1)) ∙ set-get_or old (s - 1) own.0);
    }

heard_told : (s : ℕ) (effect : Effect) (judge : JudgeData) (old new : List DumpedData) → IsKnown (length old) s → HasHeard s effect judge old new → HasWrittenResults s (writes_told effect) judge old new
heard_told s Nothing judge old new known heard = told_none s judge old new known heard
heard_told s (Token token) judge old new known heard = told_none s judge old new known heard
heard_told s (Release release) judge old new known heard = told_none s judge old new known heard
heard_told s (Wait stream release) judge old new known heard = told_none s judge old new known heard
heard_told s (WaitName name release) judge old new known heard = told_none s judge old new known heard
heard_told s (Pixels op) judge old new known heard = told_none s judge old new known heard
heard_told s (Results writes) judge old new known heard = heard

-- ---- the dumped places after an event

heard_none : (s : ℕ) (effect : Effect) (judge : JudgeData) (old new : List DumpedData) → effect ≡ Nothing → HasHeard s effect judge old new → new ≡ old
heard_none s effect judge old new is heard = subst (λ (x : Effect). HasHeard s x judge old new) is heard

heard_step : (p : PlansData) (s : ℕ) (words : List (ℕ × ℕ)) (judge mid : JudgeData) (effect : Effect) (old new : List DumpedData) → FitsPlans p judge → FitsPlans p mid → length old ≡ length p.plans → HasEntered p (Step s words) judge mid
    → effect ≡ effect_in p judge s words → HasHeard s effect mid old new → HasWrittenResults s (writes (plan_of p s).areas words (kept_state judge s)) judge old new
heard_step p s words judge mid effect old new fits next count turned is heard = record {
  known = all.known;
  was = all.was;
  now = all.now;
  there = all.there;
  taken = subst (λ (n : ℕ). HasTakenUp ws n all.was all.now) finished (subst (λ (l : Writes). HasTakenUp l (finished_in mid s) all.was all.now) written all.taken);
  put = all.put;
}
  where
    ws : Writes
    ws = writes (plan_of p s).areas words (kept_state judge s)

    known : IsKnown (length p.plans) s
    known = known_of_watch p judge s turned.was fits turned.here

    all : HasWrittenResults s (writes_told effect) mid old new
    all = heard_told s effect mid old new (subst (λ (n : ℕ). IsKnown n s) (sym count) known) heard

    written : writes_told effect ≡ ws
    written = ap writes_told is ∙ sym (effects_tell (plan_of p s).areas words (kept_state judge s)).places

    now_here : watch_of mid s ≡ Some turned.now
    now_here =
        let inside : s - 1 < length judge.watches = omega (arith, known.0, known.1, fits.watches) in
        let read : get_or mid.watches (s - 1) turned.now ≡ turned.now = ap (λ (l : List WatchData). get_or l (s - 1) turned.now) turned.put ∙ get_or-set_same judge.watches (s - 1) turned.now turned.now inside in
        watch_here p mid s turned.now next known (sym read)

    finished : finished_in mid s ≡ finished_in judge s
    finished =
        ap (λ (o : Option WatchData). option_map_or (λ (w : WatchData). w.finished) o 0) now_here
        ∙ ap (λ (k : Counts). k.finished) turned.moved
        ∙ sym (ap (λ (o : Option WatchData). option_map_or (λ (w : WatchData). w.finished) o 0) turned.here)

pub dumped_heard : (p : PlansData) (e : Event) (judge mid : JudgeData) (effect : Effect) (old new : List DumpedData) → FitsPlans p judge → FitsPlans p mid → length old ≡ length p.plans → HasEntered p e judge mid → IsEffect p judge e effect
    → HasHeard (stream_in e) effect mid old new → HasDumped p e judge old new
dumped_heard p (Order s n c) judge mid effect old new fits next count turned is heard = heard_none s effect mid old new is heard
dumped_heard p (Step s words) judge mid effect old new fits next count turned is heard = heard_step p s words judge mid effect old new fits next count turned is heard
dumped_heard p (Finish s n) judge mid effect old new fits next count turned is heard = heard_none s effect mid old new is heard
dumped_heard p (Lost s why words) judge mid effect old new fits next count turned is heard = heard_none s effect mid old new is heard
dumped_heard p (Close s) judge mid effect old new fits next count turned is heard = heard_none s effect mid old new is heard
