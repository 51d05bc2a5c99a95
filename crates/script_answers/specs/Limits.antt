-- The limits have their values: the definitions name the constants of the code, and each constant is this number.
use Rattle.std.specs.Prelude.{◌≡◌}
use Rattle.gpu_cmd.specs.declared.areas.TheConstants.{LEAST_RING, MOST_RING, MOST_WORDS}
use Rattle.gpu_cmd.specs.declared.checks.TheConstants.{SLOTS, MOST_SLOT_BYTES}
use Rattle.gpu_cmd.specs.declared.facts.TheConstants.{MOST_FETCHED}
use Rattle.gpu_store.specs.declared.canvas.TheConstants.{MOST_SIDE}
use Rattle.gpu_store.specs.declared.images.TheConstants.{MOST_TEXELS}
use Rattle.live_view.specs.declared.look.TheConstants.{LOOKS, ALL_LOOKS}
use Rattle.live_view.specs.declared.making.TheConstants.{MOST_VIEWERS}
use Rattle.script_generator.specs.declared.script.TheConstants.{MOST_SIZE}
use Rattle.gpu_plan.specs.declared.acting.TheConstants.{MOST_ACTIONS, MOST_FLUSHES, MOST_FENCES}
use Rattle.gpu_plan.specs.declared.adding.TheConstants.{MOST_STREAMS, LAST_NAMESPACE}
use Rattle.gpu_plan.specs.declared.script.TheConstants.{MOST_BYTES}
use Rattle.gpu_plan.specs.declared.spans.TheConstants.{LAST_MEMORY}
use Rattle.journal_text.specs.declared.sheet.TheConstants.{MOST_EVENT_WORDS}
use Rattle.verify_input.specs.declared.rest.TheConstants.{MOST_WHOLE_BYTES}
use Rattle.script_answers.specs.declared.command.TheConstants.{MOST_WORKERS}

-- of a script and its streams
pub record ScriptLimits : Type 0 where
  pub bytes : MOST_BYTES ≡ 16777216
  pub whole : MOST_WHOLE_BYTES ≡ 67108864
  pub streams : MOST_STREAMS ≡ 16
  pub actions : MOST_ACTIONS ≡ 1000000
  pub flushes : MOST_FLUSHES ≡ 100000
  pub fences : MOST_FENCES ≡ 16
  pub namespaces : LAST_NAMESPACE ≡ 255
  pub generated : MOST_SIZE ≡ 2000

-- of what a stream shares and what is fetched for it
pub record WordLimits : Type 0 where
  pub least_ring : LEAST_RING ≡ 16
  pub ring : MOST_RING ≡ 4096
  pub memories : LAST_MEMORY ≡ 15
  pub words : MOST_WORDS ≡ 65536
  pub event : MOST_EVENT_WORDS ≡ 69632
  pub fetched : MOST_FETCHED ≡ 1048576

-- of buckets and buffers
pub record SlotLimits : Type 0 where
  pub slots : SLOTS ≡ 16
  pub slot_bytes : MOST_SLOT_BYTES ≡ 262144

-- of images
pub record ImageLimits : Type 0 where
  pub side : MOST_SIDE ≡ 4096
  pub texels : MOST_TEXELS ≡ 4194304

-- of threads
pub record ThreadLimits : Type 0 where
  pub workers : MOST_WORKERS ≡ 8
  pub viewers : MOST_VIEWERS ≡ 4
  pub looks : LOOKS ≡ 16
  pub all_looks : ALL_LOOKS ≡ 17

-- all of them
pub record LimitsHaveTheirValues : Type 0 where
  pub script : ScriptLimits
  pub words : WordLimits
  pub slots : SlotLimits
  pub images : ImageLimits
  pub threads : ThreadLimits
