-- The header passed checks 1 to 5, so its row is there and its ring words fit it.
use Rattle.std.proofs.Common.{◌≡◌, ℕ, ◌<◌, List, get_or, ap, sym, ◌∙◌}
use Rattle.std.specs.Prelude.{slice_index, length, IsSomeAnd, IsTrue}
use Rattle.std.proofs.lemmas.List.{get_or-map}
use Rattle.gpu_word.specs.Header.{id_of}
use Rattle.gpu_word.specs.Bytes.{values_of}
use Rattle.gpu_cmd.specs.Table.{row_of, fits}
use Rattle.gpu_cmd.proofs.Heads.{headed_fits, headed_some, headed_few, decoded_by_row}
use Rattle.gpu_cmd.proofs.decoded.decode.Goals as goal

-- the header is the value of the first word
header : (words : List (ℕ × ℕ)) (id : ℕ) → 0 < length words → id ≡ id_of (get_or words 0 (0, 0)).1 → id ≡ id_of (slice_index (values_of words) 0)
header words id some e = e ∙ ap id_of (sym (get_or-map (λ word. word.1) words 0 (0, 0) 0 some))

pub bounds-words-0 : goal.bounds-words-0
bounds-words-0 c = headed_some (slice_index (values_of c.args.words.now) 0) c.args.facts.now (length c.args.words.now) c.requires.head

pub command-command-requires : goal.command-command-requires
command-command-requires c =
    let entry = slice_index (values_of c.args.words.now) 0 in
    let some = headed_some entry c.args.facts.now (length c.args.words.now) c.requires.head in
    rw (header c.args.words.now c.split.result.id some c.split.ensures.id) (headed_fits entry c.args.facts.now (length c.args.words.now) c.requires.head)

pub checked-requires-clause-few : goal.checked-requires-clause-few
checked-requires-clause-few c = headed_few (slice_index (values_of c.args.words.now) 0) c.args.facts.now (length c.args.words.now) c.requires.head

pub returns-clause-verdict : goal.returns-clause-verdict
returns-clause-verdict c =
    let words = c.args.words.now in
    let entry = slice_index (values_of words) 0 in
    let some = headed_some entry c.args.facts.now (length words) c.requires.head in
    let id = header words c.split.result.id some c.split.ensures.id in
    let fits_row : IsSomeAnd (row_of c.split.result.id) (λ row. IsTrue (fits row (length words))) = rw id (headed_fits entry c.args.facts.now (length words) c.requires.head) in
    c.checked.ensures.verdict ∙ sym (decoded_by_row c.split.result.id words c.command-command.result c.args.facts.now id fits_row c.command-command.ensures)
