use Rattle.gpu_store.proofs.Drawing.{written_back}
use Rattle.gpu_store.proofs.rows.move_down.Goals as goal

pub returns : goal.returns
returns c =
    let parts = c.split_at_mut-front in
    written_back c.args.texels.now parts.result.0.now parts.result.1.now c.put_row.new.texels c.args.from c.args.count c.args.to
    parts.ensures.value parts.ensures.front_len c.requires.apart c.put_row.ensures
