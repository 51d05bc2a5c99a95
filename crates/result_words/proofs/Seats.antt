-- Which seat is the writer's, and the rule after a seat moves.
use Rattle.std.proofs.Common.{◌≡◌, ◌≢◌, ℕ, ◌≤◌, List, ◌++◌, set, get_or, ⊎_elim, sym, ap, ◌∙◌, subst, arith}
use Rattle.std.proofs.lemmas.List.{set-get_or}
use Rattle.std.proofs.lemmas.List.Elements.{All-weaker}
use mathlib.Core.Option.{some, some-injective}
use mathlib.Core.Logic.{dite}
use native.Mathlib.Decide.{ℕ_discrete}
use lib.ListN.{get_elem?}
use Rattle.atomic_table.proofs.Lists.{at_set, set_else}
use Rattle.atomic_table.specs.Table.{keeps, Allows}
use Rattle.gpu_word.specs.Results.{Written}
use Rattle.gpu_word.proofs.Seats.{set_there}
use Rattle.result_words.specs.declared.view.WriterView.{WriterView}
use Rattle.result_words.specs.declared.view.ReaderView.{ReaderView}
use Rattle.result_words.specs.declared.view.View.{View}
use Rattle.result_words.specs.declared.view.View.TheVariants.{Writer, Reader, Spent}
use Rattle.result_words.specs.Views.{ResultSeat, writer_of, reader_of}
use Rattle.result_words.specs.Seen.{IsWriter, IsReader}
use Rattle.result_words.specs.Rule.{ResultState, finishes_counted, IsSettled, HoldsWritten, KeepsResults}
use Rattle.result_words.proofs.Lists.{settles_grows, counted_grows}

-- a view stays settled while more is written
pub settled_grows : (first second : List Written) (view : View) → IsSettled first view → IsSettled (first ++ second) view
settled_grows first second (Reader reader) settled =
    let grows = counted_grows first second in
    (settles_grows first second reader.reads settled.0, All-weaker (λ (count : ℕ). count ≤ finishes_counted first) (λ (count : ℕ). count ≤ finishes_counted (first ++ second)) (λ count below. omega arith) reader.counts settled.1)
settled_grows first second (Writer writer) settled = absurd settled
settled_grows first second Spent settled = tt

-- a writer's seat is still one after its view has changed
pub still_writer : (me me' : ResultSeat) (w : WriterView) → IsWriter me → me' ≡ (Writer w, me.1) → IsWriter me'
still_writer me me' w was is = let own : writer_of me'.0 ≡ w = ap (λ (m : ResultSeat). writer_of m.0) is in is ∙ (λ i. (Writer (sym own i), (was i).1))

module _ (places : ℕ) (s : ResultState) (k : KeepsResults places s) where
  pub writer_is : (id : ℕ) (w : WriterView) → get_elem? s.views id ≡ some (Writer w) → (id ≡ k.seat) × (w ≡ k.writer)
  writer_is id w at = dite (ℕ_discrete id k.seat)
      (λ e. let same : Writer w ≡ Writer k.writer = some-injective _ _ (sym at ∙ ap (get_elem? s.views) e ∙ k.writer_there) in let is : w ≡ k.writer = cc in (e, is))
      (λ apart. absurd (k.others id (Writer w) apart at))

  pub reader_is : (id : ℕ) (r : ReaderView) → get_elem? s.views id ≡ some (Reader r) → (id ≢ k.seat) × IsSettled k.writer.written (Reader r)
  reader_is id r at =
      let apart : id ≢ k.seat = λ e. (let same : Reader r ≡ Writer k.writer = some-injective _ _ (sym at ∙ ap (get_elem? s.views) e ∙ k.writer_there) in cc) in
      (apart, k.others id (Reader r) apart at)

  -- the writer has a new view, which the words hold
  pub writer_moves : (id : ℕ) (words : List ℕ) (w : WriterView) → id ≡ k.seat → HoldsWritten places words w → ((view : View) → IsSettled k.writer.written view → IsSettled w.written view) → KeepsResults places (record { words = words; homes = s.homes; views = set s.views id (Writer w) })
  writer_moves id words w is holds grows = record {
    seat = k.seat;
    writer = w;
    writer_there = subst (λ (j : ℕ). get_elem? (set s.views j (Writer w)) k.seat ≡ some (Writer w)) (sym is) (set_there s.views k.seat (Writer k.writer) (Writer w) k.writer_there);
    others = λ j u no at. grows u (k.others j u no (sym (set_else s.views id j (Writer w) (λ e. no (e ∙ is))) ∙ at));
    holds = holds;
  }

  -- another seat has a new view, which is settled
  pub other_moves : (id : ℕ) (v : View) → id ≢ k.seat → IsSettled k.writer.written v → KeepsResults places (record { words = s.words; homes = s.homes; views = set s.views id v })
  other_moves id v apart settled = record {
    seat = k.seat;
    writer = k.writer;
    writer_there = set_else s.views id k.seat v (λ e. apart (sym e)) ∙ k.writer_there;
    others = λ j u no at. ⊎_elim
        (λ (new : (j ≡ id) × (v ≡ u)). subst (λ (x : View). IsSettled k.writer.written x) new.1 settled)
        (λ (old : (j ≢ id) × (get_elem? s.views j ≡ some u)). k.others j u no old.1)
        (at_set s.views id j v u at);
    holds = k.holds;
  }

module _ (places slots id : ℕ) (me : ResultSeat) (i : ℕ) where
  -- a step of the writer on the word i, which becomes f of what it was
  pub writer_step : (f : ℕ → ℕ) (g : WriterView → WriterView) (then : ℕ → ResultSeat → Type 0) → IsWriter me
      → ((s : ResultState) (k : KeepsResults places s) → writer_of me.0 ≡ k.writer → HoldsWritten places (set s.words i (f (get_or s.words i 0))) (g k.writer) × ((view : View) → IsSettled k.writer.written view → IsSettled (g k.writer).written view) × then (get_or s.words i 0) (Writer (g (writer_of me.0)), me.1))
      → Allows (KeepsResults places) slots id me i f then
  writer_step f g then is does s k _ at _ =
      let w : WriterView = writer_of me.0 in
      let r : ℕ = get_or s.words i 0 in
      let at' : get_elem? s.views id ≡ some (Writer w) = at ∙ ap (λ (m : ResultSeat). some m.0) is in
      let who = writer_is places s k id w at' in
      let did = does s k who.1 in
      let after : KeepsResults places (record { words = set s.words i (f r); homes = s.homes; views = set s.views id (Writer (g k.writer)) }) = writer_moves places s k id (set s.words i (f r)) (g k.writer) who.0 did.0 did.1 in
      (Writer (g w), keeps, tt, subst (λ (x : WriterView). KeepsResults places (record { words = set s.words i (f r); homes = s.homes; views = set s.views id (Writer (g x)) })) (sym who.1) after, did.2)

  -- a load of the reader
  pub reader_step : (g : ℕ → ReaderView → ReaderView) (then : ℕ → ResultSeat → Type 0) → IsReader me
      → ((s : ResultState) (k : KeepsResults places s) → IsSettled k.writer.written (Reader (reader_of me.0)) → IsSettled k.writer.written (Reader (g (get_or s.words i 0) (reader_of me.0))) × then (get_or s.words i 0) (Reader (g (get_or s.words i 0) (reader_of me.0)), me.1))
      → Allows (KeepsResults places) slots id me i (λ n. n) then
  reader_step g then is does s k _ at _ =
      let r : ReaderView = reader_of me.0 in
      let n : ℕ = get_or s.words i 0 in
      let at' : get_elem? s.views id ≡ some (Reader r) = at ∙ ap (λ (m : ResultSeat). some m.0) is in
      let who = reader_is places s k id r at' in
      let did = does s k who.1 in
      (Reader (g n r), keeps, tt, subst (λ (ws : List ℕ). KeepsResults places (record { words = ws; homes = s.homes; views = set s.views id (Reader (g n r)) })) (sym (set-get_or s.words i 0)) (other_moves places s k id (Reader (g n r)) who.0 did.0), did.1)
