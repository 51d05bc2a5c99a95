use Rattle.std.proofs.Common.{List, ℕ, ◌++◌, ◌∷◌, drop, get_or, ap, sym, ◌∙◌, append_assoc, arith}
use Rattle.std.specs.Prelude.{codes}
use Rattle.std.specs.List.{flat_map}
use Rattle.std.proofs.lemmas.List.{take_rest}
use Rattle.journal_text.specs.Digits.{hex8}
use Rattle.journal_text.proofs.Rows.{row_joined}
use Rattle.journal_text.proofs.picture_line.put_row.Goals as goal

pub returns-in-len1-up : goal.returns-in-len1-up
returns-in-len1-up c =
    let out = c.args.out.now.items in
    let texels = c.args.texels.now in
    let first = hex8 (get_or texels 0 0) in
    let more = flat_map (λ texel. 32 ∷ hex8 texel) (drop 1 texels) in
    let some = c.in-len1-up.len_at_least in
    let whole =
    c.push_reserved-in-len1-up.ensures.items
    ∙ ap (λ (text : List ℕ). text ++ codes "\n") (c.put_texels.ensures.text.items ∙ ap (λ (behind : List ℕ). c.put_hex.new.out.items ++ flat_map (λ texel. 32 ∷ hex8 texel) behind) (take_rest texels 1) ∙ ap (λ (text : List ℕ). text ++ more) c.put_hex.ensures.text.items ∙ append_assoc out first more)
    ∙ append_assoc out (first ++ more) (codes "\n")
    ∙ ap (λ (text : List ℕ). out ++ text) (sym (row_joined texels (omega arith))) in
    record { items = whole; room = omega arith }
