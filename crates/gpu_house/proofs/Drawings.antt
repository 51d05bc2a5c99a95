-- What a step tells of the images is what the journal's replay makes of it.
use Rattle.std.proofs.Common.{◌≡◌, ℕ, Bool, true, false, List, ◌∷◌, Option, None, Result, Ok, Err, refl, sym, ap, subst, ◌∙◌}
use Rattle.gpu_store.specs.declared.op.Op.{Op}
use Rattle.gpu_store.specs.declared.op.Answer.{Answer}
use Rattle.gpu_store.specs.declared.op.Answer.TheVariants.{Done, InvalidValue, InvalidOperation, OutOfTexels}
use Rattle.gpu_store.specs.Images.{Pictures, apply, settled, outcome}
use Rattle.gpu_plan.specs.Plans.{PlansData}
use Rattle.stream_state.specs.declared.effect.Effect.{Effect}
use Rattle.stream_state.specs.declared.effect.Effect.TheVariants.{Nothing, Token, Release, Wait, WaitName, Pixels, Results}
use Rattle.stream_state.specs.Accepted.{BringsItsTexels}
use Rattle.gpu_journal.specs.declared.event.Event.{Event}
use Rattle.gpu_journal.specs.declared.event.Event.TheVariants.{Step, Lost}
use Rattle.gpu_journal.specs.declared.event.Why.{Why}
use Rattle.gpu_journal.specs.World.{replay, drawn_by}
use Rattle.gpu_journal.proofs.Worlds.{images_then}
use Rattle.serial_laws.proofs.Knowns.{step_images}
use Rattle.step_parts.specs.declared.acted.Acted.{Acted}
use Rattle.house_core.specs.Answers.{WasExecuted}
use Rattle.gpu_house.specs.declared.answers.Next.{Next}
use Rattle.gpu_house.specs.Steps.{next_of}
use Rattle.gpu_house.specs.Drawing.{if_done, drawn_of, drawn_at, drawn_if, Draws}

-- an operation that is answered otherwise changes nothing
refused_same : (images : Pictures) (op : Op) → ((apply images op).answer ≡ Done → ⊥) → (apply images op).images ≡ images
unfolding apply
refused_same images op off = by (outcome images op) off
  where
    by : (result : Result Pictures Answer) → ((settled images result).answer ≡ Done → ⊥) → (settled images result).images ≡ images
    by (Ok after) off = absurd (off refl)
    by (Err answer) off = refl

-- nothing is drawn
pub draws_none : (images : Pictures) → Draws images images None
draws_none images = record { answered = tt; texels = tt; images = refl }

-- what an effect draws
draws_effect : (effect : Effect) (images : Pictures) → BringsItsTexels effect → Draws images (drawn_by effect images).images (drawn_of effect (drawn_by effect images).answer)
draws_effect Nothing images texels = draws_none images
draws_effect (Token token) images texels = draws_none images
draws_effect (Release r) images texels = draws_none images
draws_effect (Wait t r) images texels = draws_none images
draws_effect (WaitName name r) images texels = draws_none images
draws_effect (Pixels op) images texels = by (apply images op).answer refl
  where
    kept : (answer : Answer) → (apply images op).answer ≡ answer → (answer ≡ Done → ⊥) → Draws images (apply images op).images None
    kept answer is off = record { answered = tt; texels = tt; images = refused_same images op (λ done. off (sym is ∙ done)) }

    by : (answer : Answer) → (apply images op).answer ≡ answer → Draws images (apply images op).images (if_done answer op)
    by Done is = record { answered = is; texels = texels; images = refl }
    by InvalidValue is = kept InvalidValue is (λ e. absurd (cc))
    by InvalidOperation is = kept InvalidOperation is (λ e. absurd (cc))
    by OutOfTexels is = kept OutOfTexels is (λ e. absurd (cc))
draws_effect (Results writes) images texels = draws_none images

-- the report of a step that was executed is what it draws by the journal
pub told_drawn : (p : PlansData) (h : List Event) (s : ℕ) (words : List (ℕ × ℕ)) (acted : Acted) → WasExecuted p h s words acted → drawn_of acted.effect acted.answer ≡ drawn_at p h s words
told_drawn p h s words acted was =
    ap (drawn_of acted.effect) was.answer ∙ ap (λ (effect : Effect). drawn_of effect (drawn_by effect (replay p h)).answer) was.effect

pub draws_step : (p : PlansData) (h : List Event) (s : ℕ) (words : List (ℕ × ℕ)) (acted : Acted) → WasExecuted p h s words acted → Draws (replay p h) (replay p (Step s words ∷ h)) (drawn_of acted.effect acted.answer)
draws_step p h s words acted was =
    subst (λ (images : Pictures). Draws (replay p h) images (drawn_of acted.effect acted.answer)) (sym (step_images p h s words ∙ ap (λ (effect : Effect). (drawn_by effect (replay p h)).images) (sym was.effect)))
    (subst (λ (answer : Answer). Draws (replay p h) (drawn_by acted.effect (replay p h)).images (drawn_of acted.effect answer)) (sym was.answer) (draws_effect acted.effect (replay p h) was.texels))

-- a loss draws nothing
pub draws_lost : (p : PlansData) (h new : List Event) (s : ℕ) (why : Why) (words : List (ℕ × ℕ)) → new ≡ Lost s why words ∷ h → Draws (replay p h) (replay p new) None
draws_lost p h new s why words past =
    subst (λ (g : List Event). Draws (replay p h) (replay p g) None) (sym past)
    (subst (λ (images : Pictures). Draws (replay p h) images None) (sym (images_then p (Lost s why words) h)) (draws_none (replay p h)))

-- the step was executed, whichever of its answers it is
pub drawn_where : (next : Next) (kept at_end : Bool) (drawn : Option Op) → next ≡ next_of kept at_end → drawn ≡ drawn_if next drawn
drawn_where next kept at_end drawn is = by kept at_end ∙ ap (λ (n : Next). drawn_if n drawn) (sym is)
  where
    by : (kept at_end : Bool) → drawn ≡ drawn_if (next_of kept at_end) drawn
    by true at_end = refl
    by false true = refl
    by false false = refl
