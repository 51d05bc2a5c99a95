-- Each limit is computed.
use Rattle.std.proofs.Common.{refl}
use Rattle.script_answers.specs.Limits.{LimitsHaveTheirValues}

pub limits_have_their_values : LimitsHaveTheirValues
limits_have_their_values = record {
  script = record { bytes = refl; whole = refl; streams = refl; actions = refl; flushes = refl; fences = refl; namespaces = refl; generated = refl };
  words = record { least_ring = refl; ring = refl; memories = refl; words = refl; event = refl; fetched = refl };
  slots = record { slots = refl; slot_bytes = refl };
  images = record { side = refl; texels = refl };
  threads = record { workers = refl; viewers = refl; looks = refl; all_looks = refl };
}
