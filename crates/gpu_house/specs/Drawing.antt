-- What a step tells of the images, so that a view of them can follow.
use Rattle.std.specs.Prelude.{◌≡◌, ℕ, List, Option, Some, None, IfSome}
use Rattle.gpu_store.specs.declared.op.Op.{Op}
use Rattle.gpu_store.specs.declared.op.Answer.{Answer}
use Rattle.gpu_store.specs.declared.op.Answer.TheVariants.{Done}
use Rattle.gpu_store.specs.Images.{Pictures, HasItsTexels, apply}
use Rattle.gpu_plan.specs.Plans.{PlansData}
use Rattle.stream_state.specs.declared.effect.Effect.{Effect}
use Rattle.stream_state.specs.declared.effect.Effect.TheVariants.{Pixels}
use Rattle.gpu_journal.specs.declared.event.Event.{Event}
use Rattle.gpu_journal.specs.World.{world, replay, asked_by, drawn_by}
use Rattle.gpu_house.specs.declared.answers.Next.{Next}
use Rattle.gpu_house.specs.declared.answers.Next.TheVariants.{More, Paused, FlushEnd}

-- the operation, where it was answered Done
abbrev pub if_done : Answer → Op → Option Op
if_done Done op = Some op
if_done _ op = None

-- the image operation of an effect, where it was answered Done
abbrev pub drawn_of : Effect → Answer → Option Op
drawn_of (Pixels op) answer = if_done answer op
drawn_of _ answer = None

-- the operation that a step of stream s on these words draws, by the journal before it
abbrev pub drawn_at : PlansData → List Event → ℕ → List (ℕ × ℕ) → Option Op
drawn_at p h s words = drawn_of (asked_by p s words (world p h)) (drawn_by (asked_by p s words (world p h)) (replay p h)).answer

-- only a step that was executed draws
abbrev pub drawn_if : Next → Option Op → Option Op
drawn_if More drawn = drawn
drawn_if Paused drawn = drawn
drawn_if FlushEnd drawn = drawn
drawn_if _ drawn = None

-- the images once an operation was applied, where there is one
abbrev pub drawn_on : Option Op → Pictures → Pictures
drawn_on None images = images
drawn_on (Some op) images = (apply images op).images

-- the operation that is reported is answered Done on the old images, an upload among them brings a texel for each of
-- its rectangle, and the new images are the old ones once it was applied
pub record Draws (old new : Pictures) (drawn : Option Op) : Type 0 where
  pub answered : IfSome drawn (λ op. (apply old op).answer ≡ Done)
  pub texels : IfSome drawn HasItsTexels
  pub images : new ≡ drawn_on drawn old
