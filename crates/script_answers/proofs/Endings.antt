-- How answers end.
use Rattle.std.proofs.Common.{◌≡◌, ℕ, Bool, true, false, ◌||◌, List, [], ◌∷◌, reverse, refl, sym, subst, Option, arith}
use Rattle.std.specs.Prelude.{Ok, if◌then◌else◌}
use Rattle.std.specs.List.{All, list_any}
use Rattle.std.proofs.lemmas.List.{reverse-reverse, reverse-append}
use Rattle.std.proofs.lemmas.List.Elements.{All-nil, All-cons, All-head, All-tail, All-push}
use Rattle.run_output.specs.Pieces.{Adds}
use Rattle.run_output.proofs.Pieces.{Appends-nothing}
use Rattle.serial_laws.specs.Going.{is_memory_loss}
use Rattle.gpu_journal.specs.declared.event.Event.{Event}
use Rattle.script_answers.specs.declared.command.Command.{Command}
use Rattle.script_answers.specs.declared.status.Status.{Status}
use Rattle.script_answers.specs.declared.status.Status.TheVariants as status
use Rattle.script_answers.specs.Statuses.{tells_all, speaks}
use Rattle.script_answers.specs.Runs.{is_error_loss, run_ending}
use Rattle.script_answers.specs.Says.{Says}

choice_writes : (memory error : Bool) → tells_all (if memory then status.MemoryLost else (if error then status.SomeLost else status.Ok)) ≡ true
choice_writes true error = refl
choice_writes false true = refl
choice_writes false false = refl

-- a run ends with a status that writes
pub run_writes : (events : List Event) → tells_all (run_ending events) ≡ true
run_writes events = choice_writes (list_any is_memory_loss events) (list_any is_error_loss events)

-- what is said of an input has a status that speaks of it
pub said_speaks : (command : Command) (base : ℕ) (input : List ℕ) (ending : Status) (text : List ℕ) → Says command base input ending text → speaks ending ≡ true
said_speaks command base input status.Ok text said = refl
said_speaks command base input status.SomeLost text said = refl
said_speaks command base input status.Usage text said = absurd said
said_speaks command base input status.ReadFault text said = absurd said
said_speaks command base input status.WriteFault text said = absurd said
said_speaks command base input (status.Refused line kind) text said = refl
said_speaks command base input status.NoMemory text said = absurd said
said_speaks command base input status.TooLong text said = absurd said
said_speaks command base input status.MemoryLost text said = refl
said_speaks command base input (status.No event rule) text said = refl
said_speaks command base input (status.Differs line what) text said = refl
said_speaks command base input status.NotComplete text said = refl
said_speaks command base input (status.NoJournal line) text said = refl

-- nothing is added to a sink that is not touched
pub adds_nothing : {K T E : Type 0} (written : K → Option (List ℕ)) (faults : K → ℕ) (sink : K) (value : T) → Adds {T = T} {E = E} written faults sink sink (Ok value) []
adds_nothing written faults sink value = record { all = Appends-nothing (written sink); front = tt; fault = tt; later = omega arith }

-- ---- losses as out of memory

none_passes : (events : List Event) → list_any is_memory_loss events ≡ false → All (λ e. is_memory_loss e ≡ false) events
none_passes [] none = All-nil (λ e. is_memory_loss e ≡ false)
none_passes (e ∷ events) none = by (none_passes events) (is_memory_loss e) refl none
  where
    by : (list_any is_memory_loss events ≡ false → All (λ x. is_memory_loss x ≡ false) events) → (b : Bool) → is_memory_loss e ≡ b → (b || list_any is_memory_loss events) ≡ false → All (λ x. is_memory_loss x ≡ false) (e ∷ events)
    by rest true is none = absurd (cc)
    by rest false is none = All-cons (λ x. is_memory_loss x ≡ false) e events is (rest none)

all_reversed : (events : List Event) → All (λ e. is_memory_loss e ≡ false) events → All (λ e. is_memory_loss e ≡ false) (reverse events)
all_reversed [] all = all
all_reversed (e ∷ events) all =
    subst (All (λ x. is_memory_loss x ≡ false)) (sym (reverse-append (e ∷ []) events))
    (All-push (λ x. is_memory_loss x ≡ false) (reverse events) e (all_reversed events (All-tail (λ x. is_memory_loss x ≡ false) e events all)) (All-head (λ x. is_memory_loss x ≡ false) e events all))

-- a run that ends otherwise has lost no stream so
pub none_lost : (history : List Event) → (run_ending (reverse history) ≡ status.MemoryLost → ⊥) → All (λ e. is_memory_loss e ≡ false) history
none_lost history ends = by (list_any is_memory_loss (reverse history)) refl ends
  where
    by : (b : Bool) → list_any is_memory_loss (reverse history) ≡ b → ((if b then status.MemoryLost else (if list_any is_error_loss (reverse history) then status.SomeLost else status.Ok)) ≡ status.MemoryLost → ⊥) → All (λ e. is_memory_loss e ≡ false) history
    by true is ends = absurd (ends refl)
    by false is ends = subst (All (λ e. is_memory_loss e ≡ false)) (reverse-reverse history) (all_reversed (reverse history) (none_passes (reverse history) is))
