use Rattle.std.proofs.Common.{◌≡◌, ◌∙◌, ℕ, ◌+◌, ◌<◌, List, map, take, reverse, ap, sym, arith}
use Rattle.std.specs.List.{range_with_len}
use Rattle.std.proofs.lemmas.List.{ext_get_or, take_all, length-reverse, reverse-reverse}
use Rattle.std.proofs.lemmas.List.FromFn.{length-map-range_with_len, get_or-map-range_with_len}
use Rattle.gpu_journal.specs.declared.event.Event.{Event}
use Rattle.gpu_journal.specs.declared.end.End.TheVariants.{Done}
use Rattle.gpu_journal.specs.Ended.{end_of}
use Rattle.journal_verify.proofs.ends.ends_of.Goals as goal

pub returns : goal.returns
returns c =
    let h : List Event = c.args.journal.now.events in
    let many = length-reverse h in
    let whole : reverse (take c.loop-index.index (reverse h)) ≡ h = ap reverse (take_all c.loop-index.index (reverse h) (omega arith)) ∙ reverse-reverse h in
    let count : ℕ = c.args.count in
    ext_get_or Done c.loop-index.ends.items (map (end_of h) (range_with_len 1 count)) (c.loop-index.invariant.len ∙ sym (length-map-range_with_len (end_of h) 1 count)) (λ k lt.
    let below : k < count = omega (arith, c.loop-index.invariant.len, lt) in
    c.loop-index.invariant.each k below ∙ ap (λ (past : List Event). end_of past (k + 1)) whole ∙ sym (get_or-map-range_with_len (end_of h) 1 count k (k + 1) Done below (omega arith)))
