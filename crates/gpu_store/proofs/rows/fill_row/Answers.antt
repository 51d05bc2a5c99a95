use Rattle.std.proofs.Common.{◌∙◌, ap, rules, arith, get_or}
use Rattle.std.proofs.lemmas.List.{get_or-replicate}
use Rattle.gpu_store.proofs.Drawing.{written_mid}
use Rattle.gpu_store.proofs.rows.fill_row.Goals as goal

pub returns : goal.returns
returns c =
    let filled = c.fill.ensures.after (search rules) in
    written_mid _ _ c.args.from c.args.count _ _ (omega arith) (omega (arith, c.fill.ensures.len)) c.requires
    (λ i lt. ap (λ texels. get_or texels i 0) filled ∙ get_or-replicate _ i c.args.texel 0 (omega (arith, c.fill.ensures.len)))
