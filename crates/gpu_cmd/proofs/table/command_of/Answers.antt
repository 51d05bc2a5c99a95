-- The words begin with the ring words of the header, whose row allows as many.
use Rattle.std.proofs.Common.{◌≡◌, ℕ, true, Option, Some, None, IfSome, List, length, take, get_or, ap, sym, ◌∙◌}
use Rattle.std.specs.Option.{option_map}
use Rattle.std.specs.Prelude.{slice_index}
use Rattle.std.proofs.lemmas.List.{get_or-map, length-map, take-map}
use Rattle.gpu_word.specs.Header.{id_of, size_of}
use Rattle.gpu_word.specs.Bytes.{values_of}
use Rattle.gpu_cmd.specs.declared.command.Command.{Command}
use Rattle.gpu_cmd.specs.Table.{Row, row_of, fits, ring_words_of, ring_of, argument, command_by_row}
use Rattle.gpu_cmd.proofs.table.command_of.Goals as goal

-- the row allows the ring words
by_row : (row : Option Row) (ring : List ℕ) (n : ℕ) (command : Command) → length ring ≡ n → Some true ≡ option_map (λ row. fits row n) row → IfSome row (λ row. command ≡ row.command (argument ring)) → Some command ≡ command_by_row row ring
by_row None ring n command long allows same = absurd (cc)
by_row (Some row) ring n command long allows same =
    let allowed : fits row (length ring) ≡ true = rw long (cc) in
    rw allowed (ap Some same)

pub returns-in-Some-true : goal.returns-in-Some-true
returns-in-Some-true c =
    let words = c.args.words.now in
    let values = values_of words in
    let ring = c.first-ring.result.now in
    let header : (get_or words 0 (0, 0)).1 ≡ slice_index values 0 = sym (get_or-map (λ word. word.1) words 0 (0, 0) 0 c.requires) in
    let id : c.split-header.result.id ≡ id_of (slice_index values 0) = c.split-header.ensures.id ∙ ap id_of header in
    let size : c.split-header.result.size ≡ size_of (slice_index values 0) = c.split-header.ensures.size ∙ ap size_of header in
    let count : c.ring_words.result ≡ ring_words_of (id_of (slice_index values 0)) (size_of (slice_index values 0)) =
    c.ring_words.ensures ∙ ap (λ i. ring_words_of i c.split-header.result.size) id ∙ ap (ring_words_of (id_of (slice_index values 0))) size in
    let cut : values_of ring ≡ ring_of values = ap values_of c.first-ring.ensures ∙ sym (take-map (λ word. word.1) c.ring_words.result words) ∙ ap (λ n. take n values) count in
    let allows : Some true ≡ option_map (λ row. fits row (length ring)) (row_of c.split-header.result.id) = ap Some (sym c.in-Some-true.field-0-test) ∙ c.in-Some-true.ensures in
    by_row (row_of c.split-header.result.id) (values_of ring) (length ring) c.command.result (length-map ring (λ word. word.1)) allows c.command.ensures
    ∙ ap (command_by_row (row_of c.split-header.result.id)) cut
    ∙ ap (λ i. command_by_row (row_of i) (ring_of values)) id
