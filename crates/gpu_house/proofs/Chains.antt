-- One step more after those of a batch.
use Rattle.std.proofs.Common.{◌≡◌, ℕ, Bool, true, false, List, [], ◌∷◌, ◌++◌, Option, Some, None, refl, sym, ap, subst, ◌∙◌, append_assoc}
use Rattle.std.specs.Prelude.{◌||◌, IsOk, option_to_list}
use Rattle.std.proofs.lemmas.List.{append-nil}
use Rattle.std.proofs.lemmas.List.Elements.{All-nil, All-cons, All-append}
use Rattle.gpu_cmd.specs.declared.facts.StreamFacts.{StreamFacts}
use Rattle.gpu_store.specs.declared.op.Op.{Op}
use Rattle.gpu_store.specs.Images.{Pictures, HasItsTexels, apply}
use Rattle.gpu_plan.specs.Plans.{PlansData}
use Rattle.gpu_fetch.specs.Side.{SideData}
use Rattle.gpu_journal.specs.declared.event.Event.{Event}
use Rattle.gpu_journal.specs.declared.event.Event.TheVariants.{Step}
use Rattle.gpu_journal.specs.Facts.{verdict_at}
use Rattle.serial_laws.specs.Runs.{step_keeps}
use Rattle.house_core.specs.Answers.{IsMovedBy}
use Rattle.house_core.specs.Desks.{RunData}
use Rattle.gpu_house.specs.Steps.{told_side, asked_at}
use Rattle.gpu_house.specs.Drawing.{drawn_at, Draws}
use Rattle.gpu_house.specs.Batches.{facts_after}
use Rattle.gpu_house.specs.Committing.{journal_stepped, AreValid, keeps_one, told_sides, drawn_by_steps, IsMovedOver, AreDrawn, drawn_over, TellsDrawn}
use Rattle.gpu_house.proofs.Members.{behind_more}

-- ---- along a journal

module _ (p : PlansData) (s : ℕ) (w : List (ℕ × ℕ)) where
  pub stepped_more : (ws : List (List (ℕ × ℕ))) (h : List Event) → journal_stepped s (ws ++ w ∷ []) h ≡ Step s w ∷ journal_stepped s ws h
  stepped_more [] h = refl
  stepped_more (v ∷ ws) h = stepped_more ws (Step s v ∷ h)

  pub valid_more : (ws : List (List (ℕ × ℕ))) (h : List Event) → AreValid p s ws h → IsOk (verdict_at p (journal_stepped s ws h) s w) → AreValid p s (ws ++ w ∷ []) h
  valid_more [] h were ok = (ok, tt)
  valid_more (v ∷ ws) h were ok = (were.0, valid_more ws (Step s v ∷ h) were.1 ok)

  or_more : (a b c : Bool) → (a || (b || c)) ≡ ((a || b) || c)
  or_more true b c = refl
  or_more false b c = refl

  pub keeps_more : (ws : List (List (ℕ × ℕ))) (h : List Event) → keeps_one p s (ws ++ w ∷ []) h ≡ (keeps_one p s ws h || step_keeps p (journal_stepped s ws h) s (asked_at p (journal_stepped s ws h) s w))
  keeps_more [] h = by (step_keeps p h s (asked_at p h s w))
    where
      by : (b : Bool) → (b || false) ≡ b
      by true = refl
      by false = refl
  keeps_more (v ∷ ws) h =
      ap (λ (b : Bool). step_keeps p h s (asked_at p h s v) || b) (keeps_more ws (Step s v ∷ h))
      ∙ or_more (step_keeps p h s (asked_at p h s v)) (keeps_one p s ws (Step s v ∷ h)) (step_keeps p (journal_stepped s ws (Step s v ∷ h)) s (asked_at p (journal_stepped s ws (Step s v ∷ h)) s w))

  pub told_more : (ws : List (List (ℕ × ℕ))) (h : List Event) (side : SideData) → told_sides p s (ws ++ w ∷ []) h side ≡ told_side (asked_at p (journal_stepped s ws h) s w) (told_sides p s ws h side)
  told_more [] h side = refl
  told_more (v ∷ ws) h side = told_more ws (Step s v ∷ h) (told_side (asked_at p h s v) side)

  pub drawn_more : (ws : List (List (ℕ × ℕ))) (h : List Event) → drawn_by_steps p s (ws ++ w ∷ []) h ≡ drawn_by_steps p s ws h ++ option_to_list (drawn_at p (journal_stepped s ws h) s w)
  drawn_more [] h = append-nil (option_to_list (drawn_at p h s w))
  drawn_more (v ∷ ws) h =
      ap (λ (ops : List Op). option_to_list (drawn_at p h s v) ++ ops) (drawn_more ws (Step s v ∷ h))
      ∙ sym (append_assoc (option_to_list (drawn_at p h s v)) (drawn_by_steps p s ws (Step s v ∷ h)) (option_to_list (drawn_at p (journal_stepped s ws (Step s v ∷ h)) s w)))

-- ---- of a run

pub facts_is : (old new : RunData) (words : List (ℕ × ℕ)) (kept : Bool) → IsMovedBy old new words kept → new.facts ≡ facts_after old.facts words
facts_is old new words kept moved = λ i. record { areas = moved.areas i; get = moved.get i; put = moved.put i; fetched = moved.fetched i }

pub moved_one : (old new : RunData) (words : List (ℕ × ℕ)) (kept : Bool) → IsMovedBy old new words kept → IsMovedOver old new (words ∷ []) kept
moved_one old new words kept moved = record {
  stream = moved.stream;
  order = moved.order;
  place = moved.place;
  facts = facts_is old new words kept moved;
  finished = moved.finished;
  paused = moved.paused;
  book = moved.book;
}

pub moved_more : (old mid new : RunData) (ws : List (List (ℕ × ℕ))) (words : List (ℕ × ℕ)) (paused kept : Bool) → IsMovedOver old mid ws paused → IsMovedBy mid new words kept → IsMovedOver old new (ws ++ words ∷ []) kept
moved_more old mid new ws words paused kept over moved = record {
  stream = moved.stream ∙ over.stream;
  order = moved.order ∙ over.order;
  place = moved.place ∙ over.place;
  facts = facts_is mid new words kept moved ∙ ap (λ (f : StreamFacts). facts_after f words) over.facts ∙ sym (behind_more old.facts ws words);
  finished = moved.finished ∙ over.finished;
  paused = moved.paused;
  book = moved.book ∙ over.book;
}

-- ---- the report of the images

over_more : (images : Pictures) (ops more : List Op) → drawn_over images (ops ++ more) ≡ drawn_over (drawn_over images ops) more
over_more images [] more = refl
over_more images (op ∷ ops) more = over_more (apply images op).images ops more

drawn_then : (images : Pictures) (ops more : List Op) → AreDrawn images ops → AreDrawn (drawn_over images ops) more → AreDrawn images (ops ++ more)
drawn_then images [] more first second = second
drawn_then images (op ∷ ops) more first second = (first.0, drawn_then (apply images op).images ops more first.1 second)

-- nothing is reported
pub tells_none : (images : Pictures) (before : List Op) → TellsDrawn images images before before
tells_none images before = record { ops = []; told = sym (append-nil before); answered = tt; texels = All-nil HasItsTexels; images = refl }

-- what one step told
pub tells_one : (old new : Pictures) (before after : List Op) (drawn : Option Op) → after ≡ before ++ option_to_list drawn → Draws old new drawn → TellsDrawn old new before after
tells_one old new before after None told draws = record { ops = []; told = told; answered = tt; texels = All-nil HasItsTexels; images = draws.images }
tells_one old new before after (Some op) told draws = record { ops = op ∷ []; told = told; answered = (draws.answered, tt); texels = All-cons HasItsTexels op [] draws.texels (All-nil HasItsTexels); images = draws.images }

pub tells_then : (old mid new : Pictures) (before between after : List Op) → TellsDrawn old mid before between → TellsDrawn mid new between after → TellsDrawn old new before after
tells_then old mid new before between after first second = record {
  ops = first.ops ++ second.ops;
  told = second.told ∙ ap (λ (l : List Op). l ++ second.ops) first.told ∙ append_assoc before first.ops second.ops;
  answered = drawn_then old first.ops second.ops first.answered (subst (λ (images : Pictures). AreDrawn images second.ops) first.images second.answered);
  texels = All-append HasItsTexels first.ops second.ops first.texels second.texels;
  images = second.images ∙ ap (λ (images : Pictures). drawn_over images second.ops) first.images ∙ sym (over_more old first.ops second.ops);
}
