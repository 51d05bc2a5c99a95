-- The three kinds of event that follow.
use Rattle.std.proofs.Common.{◌≡◌, ℕ, Bool, true, false, cond, eqb, Option, Some, None, Result, Ok, Err, List, [], ◌∷◌, length, refl, sym, ap, ◌∙◌}
use Rattle.std.specs.Prelude.{option_map}
use Rattle.std.proofs.lemmas.List.Elements.{All-nil, All-cons}
use Rattle.gpu_cmd.specs.declared.command.Command.{Command}
use Rattle.gpu_cmd.specs.declared.error.CmdError.{CmdError}
use Rattle.gpu_plan.specs.Plans.{PlansData}
use Rattle.gpu_journal.specs.declared.event.Event.{Event}
use Rattle.gpu_journal.specs.declared.event.Event.TheVariants.{Finish, Close}
use Rattle.gpu_journal.specs.Waits.{front}
use Rattle.gpu_journal.specs.Facts.{facts_at, verdict_at}
use Rattle.gpu_journal.specs.Serial.{either, first, has_flush, is_at_close, runner, order_event, run_event, judged_event, next_words, next}
use Rattle.serial_laws.specs.Going.{is_memory_loss}
use Rattle.serial_laws.specs.Laws.{PlayedWantsNoMemory}

-- which of the three kinds follows
pub data Kind (p : PlansData) (h : List Event) (e : Event) : Type 0 where
  orders_it : (s : ℕ) → first (has_flush p h) (length p.plans) ≡ Some s → e ≡ order_event p h s → Kind p h e
  closes_it : (s : ℕ) → first (has_flush p h) (length p.plans) ≡ None → first (is_at_close p h) (length p.plans) ≡ Some s → e ≡ Close s → Kind p h e
  runs_it : (s : ℕ) → runner p h ≡ Some s → e ≡ run_event p h s → Kind p h e

pub kind_of : (p : PlansData) (h : List Event) (e : Event) → next p h ≡ Some e → Kind p h e
unfolding next
kind_of p h e n = by (first (has_flush p h) (length p.plans)) refl (first (is_at_close p h) (length p.plans)) refl (runner p h) refl n
  where
    by : (a : Option ℕ) → first (has_flush p h) (length p.plans) ≡ a → (b : Option ℕ) → first (is_at_close p h) (length p.plans) ≡ b → (c : Option ℕ) → runner p h ≡ c
        → either (option_map (order_event p h) a) (either (option_map Close b) (option_map (run_event p h) c)) ≡ Some e → Kind p h e
    by (Some s) x b y c z n = orders_it s x (let q : order_event p h s ≡ e = cc in sym q)
    by None x (Some s) y c z n = closes_it s x y (let q : Close s ≡ e = cc in sym q)
    by None x None y (Some s) z n = runs_it s z (let q : run_event p h s ≡ e = cc in sym q)
    by None x None y None z n = absurd (cc)

-- what holds of each kind of run event holds of the run event
pub run_is : (p : PlansData) (h : List Event) (s : ℕ) (P : Event → Type 0)
    → (eqb (facts_at p h s).get (facts_at p h s).put ≡ true → P (Finish s (front p h s)))
    → (eqb (facts_at p h s).get (facts_at p h s).put ≡ false → (answer : Result Command CmdError) → verdict_at p h s (next_words p h s) ≡ answer → P (judged_event s (next_words p h s) answer))
    → P (run_event p h s)
run_is p h s P ends goes = by (eqb (facts_at p h s).get (facts_at p h s).put) refl
  where
    by : (b : Bool) → eqb (facts_at p h s).get (facts_at p h s).put ≡ b → P (cond b (Finish s (front p h s)) (judged_event s (next_words p h s) (verdict_at p h s (next_words p h s))))
    by true e = ends e
    by false e = goes e (verdict_at p h s (next_words p h s)) refl

-- what a verdict makes of a command is no loss as out of memory
pub judged_wants : (s : ℕ) (words : List (ℕ × ℕ)) (answer : Result Command CmdError) → is_memory_loss (judged_event s words answer) ≡ false
judged_wants s words (Ok command) = refl
judged_wants s words (Err error) = refl

-- no event that follows is a loss as out of memory
next_wants : (p : PlansData) (h : List Event) (e : Event) → Kind p h e → is_memory_loss e ≡ false
next_wants p h e (orders_it s x q) = ap is_memory_loss q
next_wants p h e (closes_it s x y q) = ap is_memory_loss q
next_wants p h e (runs_it s x q) = ap is_memory_loss q ∙ run_is p h s (λ e. is_memory_loss e ≡ false) (λ _. refl) (λ _ answer _. judged_wants s (next_words p h s) answer)

pub played_wants_no_memory : PlayedWantsNoMemory
played_wants_no_memory p [] y = All-nil (λ e. is_memory_loss e ≡ false)
played_wants_no_memory p (e ∷ h) y = All-cons (λ e. is_memory_loss e ≡ false) e h (next_wants p h e (kind_of p h e y.0)) (played_wants_no_memory p h y.1)
