-- What a history says of the images and of each stream, beside its waits. A history is written with its newest event
-- first, so the rest of the list is what came before that event.
use Rattle.std.specs.Prelude.{ℕ, ◌+◌, ◌==◌, max, List, [], ◌∷◌, if◌then◌else◌}
use Rattle.gpu_store.specs.declared.op.Answer.TheVariants.{Done}
use Rattle.gpu_store.specs.Images.{Pictures, Applied, apply}
use Rattle.gpu_plan.specs.Plans.{PlansData, plan_of}
use Rattle.stream_state.specs.declared.effect.Effect.{Effect}
use Rattle.stream_state.specs.declared.effect.Effect.TheVariants.{Token, Pixels}
use Rattle.stream_state.specs.State.{State, first_state, noted}
use Rattle.stream_state.specs.Steps.{stepped, effect}
use Rattle.gpu_journal.specs.declared.event.Event.{Event}
use Rattle.gpu_journal.specs.declared.event.Event.TheVariants.{Order, Step, Finish, Lost, Close}

-- the stream of an event
abbrev pub stream_in : Event → ℕ
stream_in (Order s n c) = s
stream_in (Step s words) = s
stream_in (Finish s n) = s
stream_in (Lost s why words) = s
stream_in (Close s) = s

-- of one stream: its state, the tokens that it set, the newest first and 0 as the oldest, and how many of its flushes are
-- ordered and how many are finished
pub record Known : Type 0 where
  pub state : State
  pub tokens : List ℕ
  pub ordered : ℕ
  pub finished : ℕ

-- of a stream without events
abbrev pub nothing_known : Known
nothing_known = record { state = first_state; tokens = 0 ∷ []; ordered = 0; finished = 0 }

-- the images, and the facts of each stream
pub record World : Type 0 where
  pub images : Pictures
  pub streams : ℕ → Known

-- before any event
abbrev pub first_world : World
first_world = record { images = []; streams = λ s. nothing_known }

-- what a step of stream s with these words asks of the service
abbrev pub asked_by : PlansData → ℕ → List (ℕ × ℕ) → World → Effect
asked_by p s words world = effect (plan_of p s).areas words (world.streams s).state

-- the images after what a step asks, and how they answer it; what asks for no image operation is done
abbrev pub drawn_by : Effect → Pictures → Applied
drawn_by (Pixels op) images = apply images op
drawn_by _ images = record { answer = Done; images = images }

-- the tokens after what a step asks
abbrev pub tokens_after : Effect → List ℕ → List ℕ
tokens_after (Token token) tokens = token ∷ tokens
tokens_after _ tokens = tokens

-- the greatest of them after what a step asks
abbrev pub greatest_after : Effect → ℕ → ℕ
greatest_after (Token token) greatest = max token greatest
greatest_after _ greatest = greatest

-- the facts of a stream after a step that asked for this effect and got this answer
abbrev pub known_after_step : PlansData → ℕ → List (ℕ × ℕ) → Effect → Applied → Known → Known
known_after_step p s words effect applied old = record old {
  state = noted applied.answer (stepped (plan_of p s).areas words old.state);
  tokens = tokens_after effect old.tokens;
}

-- the facts of a stream after an event of it
abbrev pub known_after : PlansData → Event → World → Known → Known
known_after p (Order s n c) world old = record old { ordered = old.ordered + 1 }
known_after p (Step s words) world old = known_after_step p s words (asked_by p s words world) (drawn_by (asked_by p s words world) world.images) old
known_after p (Finish s n) world old = record old { finished = old.finished + 1 }
known_after p (Lost s why words) world old = old
known_after p (Close s) world old = old

-- the images after an event
abbrev pub images_after : PlansData → Event → World → Pictures
images_after p (Order s n c) world = world.images
images_after p (Step s words) world = (drawn_by (asked_by p s words world) world.images).images
images_after p (Finish s n) world = world.images
images_after p (Lost s why words) world = world.images
images_after p (Close s) world = world.images

-- what a history says: an event changes the images, and the facts of its own stream alone
unfoldable pub world : PlansData → List Event → World
world p [] = first_world
world p (e ∷ h) = record {
  images = images_after p e (world p h);
  streams = λ s. if stream_in e == s then known_after p e (world p h) ((world p h).streams s) else (world p h).streams s;
}

-- the images after all steps in their order, from no image on
abbrev pub replay : PlansData → List Event → Pictures
replay p h = (world p h).images

-- what a history says of stream s
abbrev pub known : PlansData → List Event → ℕ → Known
known p h s = (world p h).streams s

-- the state of stream s
abbrev pub state_of : PlansData → List Event → ℕ → State
state_of p h s = (known p h s).state
