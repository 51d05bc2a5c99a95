-- The results of the streams after an event: they tell what the journal's steps and finishes wrote.
use Rattle.std.proofs.Common.{◌≡◌, ℕ, zero, suc, ◌-◌, ◌<◌, eqb, Bool, true, false, cond, Option, Some, None, List, [], ◌∷◌, ◌++◌, length, refl, sym, ap, subst, ◌∙◌, arith}
use Rattle.std.proofs.lemmas.Bool.{eq-eqb}
use Rattle.std.specs.Prelude.{IfSome, slice_get, slice_index_or, slice_set}
use Rattle.std.proofs.lemmas.List.{append-nil}
use Rattle.atomic_table.specs.Seated.{TableId}
use Rattle.gpu_word.specs.Results.{Written}
use Rattle.gpu_plan.specs.Plans.{PlansData}
use Rattle.gpu_fetch.specs.Side.{told_more}
use Rattle.sync_core.specs.Standing.{IsKnown}
use Rattle.gpu_journal.specs.declared.event.Event.{Event}
use Rattle.gpu_journal.specs.World.{stream_in}
use Rattle.gpu_journal.specs.Written.{written_by, written}
use Rattle.gpu_journal.proofs.Folding.{written_then}
use Rattle.gpu_house.specs.House.{ResultsFit}
use Rattle.gpu_house.specs.Changes.{ResultsBelong, WroteResults}
use Rattle.gpu_house.proofs.Rows.{each_set}
use Rattle.gpu_house.proofs.Places.{set_has, if_there, read_has, slice_get-set_other}

-- ---- what is written

-- an event of another stream writes nothing
pub written_other : (p : PlansData) (e : Event) (h : List Event) (s : ℕ) → eqb (stream_in e) s ≡ false → written p (e ∷ h) s ≡ written p h s
written_other p e h s off = written_then p e h s ∙ ap (λ (b : Bool). cond b (written p h s ++ written_by p h s e) (written p h s)) off

-- one of the stream itself writes what it writes
written_own : (p : PlansData) (e : Event) (h : List Event) → written p (e ∷ h) (stream_in e) ≡ written p h (stream_in e) ++ written_by p h (stream_in e) e
written_own p e h =
    let s = stream_in e in
    written_then p e h s ∙ ap (λ (b : Bool). cond b (written p h s ++ written_by p h s e) (written p h s)) (eq-eqb s s refl)

-- an event that writes nothing at all
pub written_none : (p : PlansData) (e : Event) (h : List Event) (s : ℕ) → written_by p h s e ≡ [] → written p (e ∷ h) s ≡ written p h s
written_none p e h s none = written_then p e h s ∙ by (eqb (stream_in e) s)
  where
    by : (b : Bool) → cond b (written p h s ++ written_by p h s e) (written p h s) ≡ written p h s
    by true = ap (λ (l : List Written). written p h s ++ l) none ∙ append-nil (written p h s)
    by false = refl

-- ---- the results of one stream

module _ {Results : Type 0} (takes : Results → ℕ → Bool) (told : Results → Option (List Written)) (results_of : Results → TableId → Type 0) (answers : ℕ → TableId) where
  -- where nothing was written they fit as they are
  fit_still : (p : PlansData) (old new : List Event) (s : ℕ) (results : Results) → written p new s ≡ written p old s → ResultsFit takes told results_of answers p old s results → ResultsFit takes told results_of answers p new s results
  fit_still p old new s results same fit = record {
    shared = fit.shared;
    takes_all = fit.takes_all;
    are_written = subst (λ (l : List Written). IfSome (told results) (λ list. list ≡ l)) (sym same) fit.are_written;
  }

  -- where they were written to, they fit what has more
  fit_more : (p : PlansData) (old new : List Event) (s : ℕ) (results now : Results) (more : List Written) → written p new s ≡ written p old s ++ more
      → told now ≡ told_more (told results) more → ((place : ℕ) → takes now place ≡ takes results place) → ((t : TableId) → results_of results t → results_of now t) → ResultsFit takes told results_of answers p old s results → ResultsFit takes told results_of answers p new s now
  fit_more p old new s results now more grown tells same named fit = record {
    shared = named (answers s) fit.shared;
    takes_all = λ place within. same place ∙ fit.takes_all place within;
    are_written = subst (λ (o : Option (List Written)). IfSome o (λ list. list ≡ written p new s)) (sym tells) (by (told results) fit.are_written);
  }
    where
      by : (o : Option (List Written)) → IfSome o (λ list. list ≡ written p old s) → IfSome (told_more o more) (λ list. list ≡ written p new s)
      by None f = tt
      by (Some list) f = ap (λ (l : List Written). l ++ more) f ∙ sym grown

  -- ---- of all streams

  -- the results of each stream fit
  abbrev pub AllFit : PlansData → List Event → List Results → Type 0
  AllFit p h results = (k : ℕ) (other : Results) → k < length results → ResultsFit takes told results_of answers p h (suc k) (slice_index_or results k other)

  -- an event that writes nothing leaves them as they are
  pub all_still : (p : PlansData) (e : Event) (h : List Event) (results : List Results) → ((s : ℕ) → written_by p h s e ≡ []) → AllFit p h results → AllFit p (e ∷ h) results
  all_still p e h results none fit = λ k other lt. fit_still p h (e ∷ h) (suc k) (slice_index_or results k other) (written_none p e h (suc k) (none (suc k))) (fit k other lt)

  -- those of a known stream, which were read there
  pub at_stream : (p : PlansData) (h : List Event) (results : List Results) (s : ℕ) (old : Results) → IsKnown (length results) s → old ≡ slice_index_or results (s - 1) old → AllFit p h results → ResultsFit takes told results_of answers p h s old
  at_stream p h results zero old known here fit = absurd (let some = known.0 in omega arith)
  at_stream p h results (suc k) old known here fit =
      let at : suc k - 1 ≡ k = omega arith in
      subst (ResultsFit takes told results_of answers p h (suc k)) (sym (here ∙ ap (λ (i : ℕ). slice_index_or results i old) at)) (fit k old (let within = known.1 in omega arith))

  -- the results of one stream alone are written to, by an event of that stream
  pub all_more : (p : PlansData) (e : Event) (h : List Event) (results : List Results) (t : ℕ) (now old : Results) → t ≡ stream_in e → IsKnown (length results) t → old ≡ slice_index_or results (t - 1) old
      → told now ≡ told_more (told old) (written_by p h (stream_in e) e) → ((place : ℕ) → takes now place ≡ takes old place) → ((t : TableId) → results_of old t → results_of now t) → AllFit p h results → AllFit p (e ∷ h) (slice_set results (t - 1) now)
  all_more p e h results t now old own known here tells same named fit =
      let was : ResultsFit takes told results_of answers p h t old = at_stream p h results t old known here fit in
      let grown = subst (λ (s : ℕ). written p (e ∷ h) s ≡ written p h s ++ written_by p h (stream_in e) e) (sym own) (written_own p e h) in
      each_set (ResultsFit takes told results_of answers p h) (ResultsFit takes told results_of answers p (e ∷ h)) results t now known (fit_more p h (e ∷ h) t old now (written_by p h (stream_in e) e) grown tells same named was)
      (λ u other off was. fit_still p h (e ∷ h) u other (written_other p e h u (ap (λ (s : ℕ). eqb s u) (sym own) ∙ off)) was) fit

  -- the results of one stream tell and take what they did
  pub all_told : (p : PlansData) (h : List Event) (results : List Results) (s : ℕ) (now old : Results) → IsKnown (length results) s → old ≡ slice_index_or results (s - 1) old
      → told now ≡ told old → ((place : ℕ) → takes now place ≡ takes old place) → ((t : TableId) → results_of old t → results_of now t) → AllFit p h results → AllFit p h (slice_set results (s - 1) now)
  all_told p h results s now old known here tells same named fit =
      let was = at_stream p h results s old known here fit in
      let fits : ResultsFit takes told results_of answers p h s now = record {
        shared = named (answers s) was.shared;
        takes_all = λ place lt. same place ∙ was.takes_all place lt;
        are_written = subst (λ (o : Option (List Written)). IfSome o (λ list. list ≡ written p h s)) (sym tells) was.are_written;
      } in
      each_set (ResultsFit takes told results_of answers p h) (ResultsFit takes told results_of answers p h) results s now known fits (λ u other off was. was) fit

module _ {Results Words : Type 0} (results_belong : Words → Results → Type 0) where
  -- what is read of the results of a stream belongs with its words
  pub read_belongs : (words : Words) (old rows : List Results) (s t : ℕ) (x : Results) → rows ≡ old → t ≡ s → IsKnown (length rows) t → x ≡ slice_index_or rows (t - 1) x → ResultsBelong results_belong words old s → results_belong words x
  read_belongs words old rows s t x same at known read belong =
      read_has (results_belong words) rows (t - 1) x (let some = known.0 in let within = known.1 in omega arith) read
      (subst (λ (l : List Results). IfSome (slice_get l (t - 1)) (results_belong words)) (sym same) (subst (λ (u : ℕ). IfSome (slice_get old (u - 1)) (results_belong words)) (sym at) belong))

  -- the results of one stream were written to
  pub wrote : (words : Words) (old rows : List Results) (s t : ℕ) (now : Results) → rows ≡ old → t ≡ s → IsKnown (length rows) t → results_belong words now → WroteResults results_belong words old (slice_set rows (t - 1) now) s
  wrote words old rows s t now same at known belongs =
      subst (WroteResults results_belong words old (slice_set rows (t - 1) now)) at record {
        belong = if_there (results_belong words) (slice_get (slice_set rows (t - 1) now) (t - 1)) (set_has (results_belong words) rows (t - 1) now (let some = known.0 in let within = known.1 in omega arith) belongs);
        others = λ i apart. slice_get-set_other rows (t - 1) i now apart ∙ ap (λ (l : List Results). slice_get l i) same;
      }

  -- no results were written to
  pub wrote_none : (words : Words) (old now : List Results) (s : ℕ) → now ≡ old → ResultsBelong results_belong words old s → WroteResults results_belong words old now s
  wrote_none words old now s same belong = subst (λ (l : List Results). WroteResults results_belong words old l s) (sym same) record { belong = belong; others = λ i apart. refl }
