-- What a search among blocks finds, and what a block of the right size keeps.
use Rattle.std.proofs.Common.{◌≡◌, ℕ, zero, suc, true, Some, List, [], ◌∷◌, length, refl, ap, ◌∙◌, arith}
use Rattle.std.specs.Prelude.{◌==◌}
use Rattle.std.proofs.lemmas.Bool.Decides.{nat_tests}
use Rattle.stream_state.specs.Blocks.{Blocks, block_of, with_block, sized, kept_or_zeros}

-- the blocks with the block that is there already
pub with_same : (blocks : Blocks) (number : ℕ) (bytes : List ℕ) → block_of blocks number ≡ Some bytes → with_block blocks number bytes ≡ blocks
with_same [] number bytes e = cc
with_same (block ∷ blocks) zero bytes e = let same : block ≡ Some bytes = e in cc
with_same (block ∷ blocks) (suc number) bytes e = ap (λ rest. block ∷ rest) (with_same blocks number bytes e)

-- a block of the size stays
pub sized_same : (blocks : Blocks) (number : ℕ) (bytes : List ℕ) → block_of blocks number ≡ Some bytes → sized blocks number (length bytes) ≡ blocks
sized_same blocks number bytes e =
    let same : (length bytes == length bytes) ≡ true = grind (arith, nat_tests) in
    let kept : kept_or_zeros (block_of blocks number) (length bytes) ≡ bytes = rw e (rw same refl) in
    ap (with_block blocks number) kept ∙ with_same blocks number bytes e
