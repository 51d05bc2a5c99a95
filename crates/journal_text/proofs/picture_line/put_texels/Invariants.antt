use Rattle.std.proofs.Common.{◌≡◌, ◌+◌, ◌*◌, ◌∷◌, take, vec_len}
use Rattle.std.specs.List.{flat_map}
use Rattle.journal_text.specs.Appended.{Appended}
use Rattle.journal_text.specs.Digits.{hex8}
use Rattle.journal_text.proofs.picture_line.put_texels.Given as goal

abbrev pub invariant-loop-texel : goal.invariant-loop-texel
invariant-loop-texel l = record {
  text : Appended l.fn.out l.out (flat_map (λ texel. 32 ∷ hex8 texel) (take l.texel-index l.texels));
  len : vec_len l.out ≡ vec_len l.fn.out + 9 * l.texel-index;
}
