use Rattle.std.proofs.Common.{◌∙◌, ◌-◌, ◌+◌, ap, arith, get_or, drop}
use Rattle.std.proofs.lemmas.List.{get_or-take, get_or-drop}
use Rattle.gpu_store.proofs.Drawing.{written_mid}
use Rattle.gpu_store.proofs.rows.put_row.Goals as goal

pub returns : goal.returns
returns c =
    written_mid _ _ c.args.to c.args.count _ _ (omega arith) (omega (arith, c.copy_from_slice.ensures.len)) c.requires.target
    (λ i lt. ap (λ texels. get_or texels i 0) c.copy_from_slice.ensures.after ∙ get_or-take (c.args.from + c.args.count - c.args.from) (drop c.args.from c.args.source.now) i 0 (omega arith) ∙ get_or-drop c.args.from c.args.source.now i 0)
