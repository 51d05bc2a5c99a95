use Rattle.std.proofs.Common.{◌≡◌, ◌+◌, ◌-◌, ◌*◌, ◌/◌, ◌%◌, ◌≤◌, ◌∙◌, ◌++◌, length, take, drop, ap, sym, arith}
use Rattle.std.proofs.lemmas.Grind.{div_ceil_times}
use Rattle.std.proofs.lemmas.List.{append-nil, length-map}
use Rattle.gpu_word.specs.Bytes.{values_of, bytes_of}
use Rattle.gpu_word.proofs.Parts.{bytes_counted, bytes_within, values_within}
use Rattle.gpu_word.proofs.bytes.bytes_of.Goals as goal
use Rattle.gpu_word.proofs.bytes.bytes_of.Goals.{then-from-ne0, else-from-ne0}

pub returns : goal.returns
returns c =
    let from = c.args.from in
    let count = c.args.count in
    let lead = from % 4 in
    let values = values_of c.args.words.now in
    let long : length values ≡ length c.args.words.now = length-map c.args.words.now (λ word. word.1) in
    let first = from / 4 in
    let many = c.div_ceil-last.result - first in
    let up = div_ceil_times (from + count) 4 (omega arith) in
    let ends = c.div_ceil-last.ensures in
    let split : 4 * first + lead ≡ from = omega arith in
    let inside : first + many ≤ length values = omega arith in
    let fits : lead + count ≤ 4 * many = omega arith in
    let asked : from + count ≤ 4 * length values = omega arith in
    let part = c.in_ok-bytes.bytes.items in
    let turned : c.if-from-ne0.bytes.items ≡ drop lead part ++ take lead part = elim c.if-from-ne0.branch [
      | then-from-ne0 w ↦ ap (λ bytes. bytes.items) w.bytes-is ∙ w.rotate_left.ensures.items
      | else-from-ne0 w ↦ ap (λ bytes. bytes.items) w.bytes-is ∙ rw w.if-from-ne0.false (sym (append-nil part))
    ] in
    let bytes : c.truncate.new.self.items ≡ take count (drop from (bytes_of values)) =
    c.truncate.ensures.items
    ∙ ap (take count) turned
    ∙ ap (λ bytes. take count (drop lead bytes ++ take lead bytes)) (c.in_ok-bytes.ensures ∙ ap bytes_of (values_within first many c.args.words.now))
    ∙ bytes_within values first many lead count inside fits
    ∙ ap (λ n. take count (drop n (bytes_of values))) split in
    record { bytes = bytes; count = ap length bytes ∙ bytes_counted values from count asked }
