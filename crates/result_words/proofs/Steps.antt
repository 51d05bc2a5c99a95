-- Each kind of step keeps the rule of the result words.
use Rattle.std.proofs.Common.{◌≡◌, ◌≢◌, ℕ, zero, suc, ◌+◌, ◌-◌, ◌<◌, ◌≤◌, ◌^◌, min, List, [], ◌∷◌, ◌++◌, length, set, get_or, replicate, ⊎_elim, refl, sym, ap, ◌∙◌, subst, arith, length-set, get_or-set_same}
use Rattle.std.specs.List.{All}
use Rattle.std.proofs.lemmas.List.{get_or-set_other, get_or-replicate, get_or_past, set-get_or, length-replicate}
use Rattle.std.proofs.lemmas.List.Elements.{All-nil, All-push, All-pop}
use mathlib.Core.Option.{none, some, some-ne-none}
use mathlib.Core.Logic.{dite}
use native.Mathlib.Decide.{dec_le}
use lib.ListN.{get_elem?}
use Rattle.atomic_table.proofs.Lists.{at_snoc, at_longer, set_else, set_again}
use Rattle.atomic_table.specs.Table.{step, Allows, Splits, Joins}
use Rattle.std.specs.Prelude.{Some}
use Rattle.gpu_word.specs.Results.{Written, Write, Finish, finishes_in, WasLast, Settles}
use Rattle.result_words.specs.declared.view.WriterView.{WriterView}
use Rattle.result_words.specs.declared.view.ReaderView.{ReaderView}
use Rattle.result_words.specs.declared.view.View.{View}
use Rattle.result_words.specs.declared.view.View.TheVariants.{Writer, Reader, Spent}
use Rattle.result_words.specs.Views.{ResultSeat, fresh_result_writer, fresh_reader, writer_of, reader_of, with_written, with_count, with_read, with_taken, stores_result, counts_finish, loads_count, loads_result, looks_back, taken_back}
use Rattle.result_words.specs.Seen.{IsWriter, IsReader, HasCounted}
use Rattle.result_words.specs.Rule.{ResultState, finishes_counted, IsSettled, HoldsWritten, KeepsResults}
use Rattle.result_words.proofs.Lists.{is_last, settles_grows, settles_push, write_counts_none, finish_counts_one, finish_writes_none, after_store, holds_write}
use Rattle.result_words.proofs.Seats.{settled_grows, writer_is, reader_is, writer_moves, other_moves, writer_step, reader_step}

-- a word tells its place
place_back : (place : ℕ) → place ≡ 1 + place - 1
place_back place = omega arith

-- ---- the writer

holds_result : (places place value : ℕ) (words : List ℕ) (w : WriterView) → place < places → value < 2 ^ 32 → HoldsWritten places words w → HoldsWritten places (set words (1 + place) value) (with_written (Write place value) w)
holds_result places place value words w within small holds =
    let wide = holds.wide in
    let inside : 1 + place < length words = omega arith in record {
      wide = length-set words (1 + place) value ∙ holds.wide;
      results = λ i. holds_write words w.written place value i inside (holds.results i);
      small = λ i. after_store (λ (n : ℕ). n < 2 ^ 32) words place value i inside (λ same. small) (λ other. holds.small i);
      finishes = get_or-set_other words (1 + place) 0 value 0 (λ e. omega arith) ∙ holds.finishes ∙ write_counts_none w.written place value;
      taken = settles_grows w.written (Write place value ∷ []) w.taken holds.taken;
    }

-- the writer stores a result
pub stores : (places slots id : ℕ) (me : ResultSeat) (place value : ℕ) → IsWriter me → place < places → value < 2 ^ 32 → Allows (KeepsResults places) slots id me (1 + place) (λ _. value) (λ _. stores_result (step slots (1 + place) value 0 none) me value)
stores places slots id me place value is within small = writer_step places slots id me (1 + place) (λ _. value) (λ w. with_written (Write place value) w) (λ _. stores_result (step slots (1 + place) value 0 none) me value) is
    (λ s k same. (holds_result places place value s.words k.writer within small k.holds, (λ v settled. settled_grows k.writer.written (Write place value ∷ []) v settled), (λ i. (Writer (with_written (Write (place_back place i) value) (writer_of me.0)), me.1))))

holds_finish : (places value : ℕ) (words : List ℕ) (w : WriterView) → value ≡ min (finishes_counted w.written + 1) (2 ^ 64 - 1) → HoldsWritten places words w → HoldsWritten places (set words 0 value) (with_written Finish w)
holds_finish places value words w is holds =
    let wide = holds.wide in
    let apart : (i : ℕ) → get_or (set words 0 value) (1 + i) 0 ≡ get_or words (1 + i) 0 = λ i. get_or-set_other words 0 (1 + i) value 0 (λ e. omega arith) in record {
      wide = length-set words 0 value ∙ holds.wide;
      results = λ i. apart i ∙ holds.results i ∙ finish_writes_none w.written i;
      small = λ i. subst (λ (n : ℕ). n < 2 ^ 32) (sym (apart i)) (holds.small i);
      finishes = get_or-set_same words 0 value 0 (omega arith) ∙ is ∙ finish_counts_one w.written;
      taken = settles_grows w.written (Finish ∷ []) w.taken holds.taken;
    }

-- the writer stores the number of finishes
pub counts : (places slots id : ℕ) (me : ResultSeat) (value : ℕ) → IsWriter me → value ≡ min (finishes_counted (writer_of me.0).written + 1) (2 ^ 64 - 1) → Allows (KeepsResults places) slots id me 0 (λ _. value) (λ _. counts_finish (step slots 0 value 0 none) me value)
counts places slots id me value is next = writer_step places slots id me 0 (λ _. value) (λ w. with_written Finish w) (λ _. counts_finish (step slots 0 value 0 none) me value) is
    (λ s k same. (holds_finish places value s.words k.writer (next ∙ ap (λ (w : WriterView). min (finishes_counted w.written + 1) (2 ^ 64 - 1)) same) k.holds, (λ v settled. settled_grows k.writer.written (Finish ∷ []) v settled), refl))

-- ---- the reader

-- the reader loads the number of finishes
pub sees : (places slots id : ℕ) (me : ResultSeat) → IsReader me → Allows (KeepsResults places) slots id me 0 (λ n. n) (loads_count (step slots 0 0 0 none) me)
sees places slots id me is = reader_step places slots id me 0 (λ n r. with_count n r) (loads_count (step slots 0 0 0 none) me) is
    (λ s k settled.
    let n : ℕ = get_or s.words 0 0 in
    let r : ReaderView = reader_of me.0 in
    let says : n ≡ finishes_counted k.writer.written = k.holds.finishes in
    let lower : All (λ (count : ℕ). count ≤ n) r.counts = subst (λ (m : ℕ). All (λ (count : ℕ). count ≤ m) r.counts) (sym says) settled.1 in
    ((settled.0, All-push (λ (count : ℕ). count ≤ finishes_counted k.writer.written) r.counts n settled.1 (omega arith)), (refl, lower)))

-- a number that was loaded last is no greater than the number of finishes
counted_below : (written : List Written) (loaded : List ℕ) (at_least : ℕ) → HasCounted at_least loaded → All (λ (count : ℕ). count ≤ finishes_counted written) loaded → at_least ≤ finishes_in written
counted_below written loaded at_least has below =
    let last : has.1 ≤ finishes_counted written = (All-pop (λ (count : ℕ). count ≤ finishes_counted written) loaded has.0 (Some has.1) has.2 below).1 in
    let enough = has.3 in
    omega arith

-- the reader loads a result: all that was written by then is the first part that has the finishes asked for
pub reads : (places slots id : ℕ) (me : ResultSeat) (place at_least : ℕ) → IsReader me → HasCounted at_least (reader_of me.0).counts → Allows (KeepsResults places) slots id me (1 + place) (λ n. n) (loads_result at_least (step slots (1 + place) 0 0 none) me)
reads places slots id me place at_least is has = reader_step places slots id me (1 + place) (λ n r. with_read (place, at_least, n) r) (loads_result at_least (step slots (1 + place) 0 0 none) me) is
    (λ s k settled.
    let n : ℕ = get_or s.words (1 + place) 0 in
    let r : ReaderView = reader_of me.0 in
    let was : WasLast k.writer.written place at_least n = is_last k.writer.written place at_least n (counted_below k.writer.written r.counts at_least has settled.1) (k.holds.results place) in
    ((settles_push k.writer.written r.reads (place, at_least, n) settled.0 was, settled.1), ((λ i. (Reader (with_read (place_back place i, at_least, n) r), me.1)), k.holds.small place)))

-- ---- a reader leaves the writer, and is taken back

-- a new reader
pub splits : (places id : ℕ) (me : ResultSeat) → Splits (KeepsResults places) id me.0 me.0 (Reader fresh_reader)
splits places id me s k at = subst (λ (l : List View). KeepsResults places (record { words = s.words; homes = s.homes; views = l ++ Reader fresh_reader ∷ [] })) (sym (set_again s.views id me.0 at)) (record {
  seat = k.seat;
  writer = k.writer;
  writer_there = at_longer s.views (Reader fresh_reader ∷ []) k.seat (Writer k.writer) k.writer_there;
  others = λ j u no there. ⊎_elim
      (λ (old : get_elem? s.views j ≡ some u). k.others j u no old)
      (λ (new : Reader fresh_reader ≡ u). subst (λ (v : View). IsSettled k.writer.written v) new (All-nil (λ (r : ℕ × ℕ × ℕ). WasLast k.writer.written r.0 r.1 r.2), All-nil (λ (count : ℕ). count ≤ finishes_counted k.writer.written)))
      (at_snoc s.views (Reader fresh_reader) u j there);
  holds = k.holds;
})

holds_taken : (places : ℕ) (words : List ℕ) (w : WriterView) (taken : List (ℕ × ℕ × ℕ)) → Settles w.written taken → HoldsWritten places words w → HoldsWritten places words (with_taken taken w)
holds_taken places words w taken settled holds = record {
  wide = holds.wide;
  results = holds.results;
  small = holds.small;
  finishes = holds.finishes;
  taken = settled;
}

-- the writer takes a reader back
pub joins : (places id : ℕ) (me : ResultSeat) (other : ℕ) (mate : ResultSeat) → IsWriter me → IsReader mate → Joins (KeepsResults places) id me.0 other mate.0 (taken_back me.0 mate.0) Spent
joins places id me other mate is is' s k at ne there =
    let w : WriterView = writer_of me.0 in
    let r : ReaderView = reader_of mate.0 in
    let v : View = taken_back me.0 mate.0 in
    let then : ResultState = record { words = s.words; homes = s.homes; views = set s.views id v } in
    let at' : get_elem? s.views id ≡ some (Writer w) = at ∙ ap (λ (m : ResultSeat). some m.0) is in
    let there' : get_elem? then.views other ≡ some (Reader r) = there ∙ ap (λ (m : ResultSeat). some m.0) is' in
    let was : get_elem? s.views other ≡ some (Reader r) = sym (set_else s.views id other v ne) ∙ there' in
    let who = writer_is places s k id w at' in
    let settled : Settles k.writer.written r.reads = (reader_is places s k other r was).1.0 in
    let holds : HoldsWritten places s.words (with_taken r.reads k.writer) = holds_taken places s.words k.writer r.reads settled k.holds in
    let mine : KeepsResults places (record { words = s.words; homes = s.homes; views = set s.views id (Writer (with_taken r.reads k.writer)) }) = writer_moves places s k id s.words (with_taken r.reads k.writer) who.0 holds (λ u h. h) in
    let taken : KeepsResults places then = subst (λ (x : WriterView). KeepsResults places (record { words = s.words; homes = s.homes; views = set s.views id (Writer (with_taken r.reads x)) })) (sym who.1) mine in
    other_moves places then taken other Spent (reader_is places then taken other r there').0 tt

-- and learns that its reads are settled
pub looks : (places slots id : ℕ) (me : ResultSeat) → IsWriter me → Allows (KeepsResults places) slots id me 0 (λ n. n) (looks_back (step slots 0 0 0 none) me)
looks places slots id me is = writer_step places slots id me 0 (λ n. n) (λ w. w) (looks_back (step slots 0 0 0 none) me) is
    (λ s k same.
    let own : me.0 ≡ Writer (writer_of me.0) = ap (λ (m : ResultSeat). m.0) is in
    (subst (λ (ws : List ℕ). HoldsWritten places ws k.writer) (sym (set-get_or s.words 0 0)) k.holds, (λ v settled. settled), ((λ i. (sym own i, me.1)), subst (λ (w : WriterView). Settles w.written w.taken) (sym same) k.holds.taken)))

-- ---- the words as they are made

zeros_at : (n i : ℕ) → ◌≡◌ {A = ℕ} (get_or (replicate n 0) i 0) 0
zeros_at n i = dite (dec_le n i)
    (λ past. get_or_past (replicate n 0) i 0 (omega (arith, length-replicate {A = ℕ} n 0)))
    (λ within. get_or-replicate n i 0 0 (omega arith))

no_other : (written : List Written) (v u : View) (j : ℕ) → j ≢ 0 → get_elem? (v ∷ []) j ≡ some u → IsSettled written u
no_other written v u zero apart e = absurd (apart refl)
no_other written v u (suc j) apart e = absurd (some-ne-none u (sym e))

pub begins : (places : ℕ) (words : List ℕ) → words ≡ replicate (1 + places) 0 → KeepsResults places (record { words = words; homes = []; views = Writer fresh_result_writer ∷ [] })
begins places words zeros =
    let zero_word : (i : ℕ) → get_or words i 0 ≡ 0 = λ i. ap (λ (l : List ℕ). get_or l i 0) zeros ∙ zeros_at (1 + places) i in record {
      seat = 0;
      writer = fresh_result_writer;
      writer_there = refl;
      others = λ j u no at. no_other [] (Writer fresh_result_writer) u j no at;
      holds = record {
        wide = ap length zeros ∙ length-replicate (1 + places) 0;
        results = λ i. zero_word (1 + i);
        small = λ i. let e = zero_word (1 + i) in omega arith;
        finishes = zero_word 0;
        taken = All-nil (λ (r : ℕ × ℕ × ℕ). WasLast [] r.0 r.1 r.2);
      };
    }
