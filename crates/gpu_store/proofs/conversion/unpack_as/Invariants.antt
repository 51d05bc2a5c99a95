use Rattle.std.proofs.Common.{◌≡◌, vec_len}
use Rattle.std.specs.Prelude.{vec_capacity}
use Rattle.gpu_store.specs.Conversion.{first_texels}
use Rattle.gpu_store.proofs.conversion.unpack_as.Given as goal

abbrev pub invariant-loop-i : goal.invariant-loop-i
invariant-loop-i l = record {
  texels : l.items.items ≡ first_texels l.format l.bytes l.i;
  len : vec_len l.items ≡ l.i;
  room : vec_capacity l.items ≡ l.count;
}
