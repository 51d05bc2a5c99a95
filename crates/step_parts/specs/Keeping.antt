-- Whether a step makes a wait that is kept.
use Rattle.std.specs.Prelude.{ℕ, Bool, false, length}
use Rattle.gpu_plan.specs.Plans.{PlansData, number_of}
use Rattle.stream_state.specs.declared.effect.Effect.{Effect}
use Rattle.stream_state.specs.declared.effect.Effect.TheVariants.{Wait, WaitName}
use Rattle.sync_core.specs.Standing.{at, front_of}
use Rattle.sync_core.specs.Pending.{is_kept}
use Rattle.sync_core.specs.Core.{Core, unprocessed_of}

-- a wait of the first number of stream s on stream t and release r is kept
abbrev pub keeps_wait : Core → ℕ → ℕ → ℕ → Bool
keeps_wait core s t r = is_kept (length core.streams) (at core.streams) s (front_of (unprocessed_of core s)) t r

-- a step of stream s that asks for this effect makes a wait that is kept, on the stream of a number or on that of a name
abbrev pub keeps : PlansData → Core → ℕ → Effect → Bool
keeps p core s (Wait stream release) = keeps_wait core s stream release
keeps p core s (WaitName name release) = keeps_wait core s (number_of p.plans name) release
keeps p core s _ = false
