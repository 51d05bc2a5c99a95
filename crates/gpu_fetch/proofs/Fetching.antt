-- Words fetched one after the other.
use Rattle.std.proofs.Common.{◌≡◌, ℕ, ◌+◌, ◌≤◌, List, [], ◌∷◌, ◌++◌, length, length-append, append_assoc, refl, sym, ap, ◌∙◌, subst, arith}
use Rattle.std.specs.List.{All}
use Rattle.std.proofs.lemmas.List.{append-nil}
use Rattle.std.proofs.lemmas.List.Elements.{All-nil, All-cons, All-append}
use Rattle.gpu_cmd.specs.Copied.{words_at}
use Rattle.gpu_cmd.proofs.Copies.{words_at_push}
use Rattle.gpu_fetch.specs.Side.{SideData, MayFetch, with_words, Fetches, SideFetches}
use Rattle.gpu_fetch.specs.Fetched.{items_since, FetchesRow, FetchesRowInPart}

with_none : (s : SideData) → s ≡ with_words s []
with_none s = ap (λ (words : List (ℕ × ℕ)). record s { fetched = words }) (sym (append-nil s.fetched))

pub fetches_none : (s t : SideData) → t ≡ s → Fetches s t []
fetches_none s t same = record { grows = same ∙ with_none s; may = All-nil (MayFetch s) }

pub fetches_then : {s t u : SideData} {words more : List (ℕ × ℕ)} → Fetches s t words → Fetches t u more → Fetches s u (words ++ more)
fetches_then {s = s} {words = words} {more = more} first second =
    let may : All (MayFetch s) more = subst (λ (x : SideData). All (MayFetch x) more) first.grows second.may in
    record {
      grows = second.grows ∙ ap (λ (x : SideData). with_words x more) first.grows ∙ ap (λ (l : List (ℕ × ℕ)). record s { fetched = l }) (append_assoc s.fetched words more);
      may = All-append (MayFetch s) words more first.may may;
    }

-- ---- and a fetch finds them

pub finds_none : (S : ℕ × ℕ → Type 0) (s t : SideData) → t ≡ s → SideFetches S s t []
finds_none S s t same = record { fetches = fetches_none s t same; shows = All-nil S }

pub finds_one : (S : ℕ × ℕ → Type 0) (s t : SideData) (word : ℕ × ℕ) → t ≡ with_words s (word ∷ []) → MayFetch s word → S word → SideFetches S s t (word ∷ [])
finds_one S s t word grows may shows = record {
  fetches = record { grows = grows; may = All-cons (MayFetch s) word [] may (All-nil (MayFetch s)) };
  shows = All-cons S word [] shows (All-nil S);
}

pub finds_then : {S : ℕ × ℕ → Type 0} {s t u : SideData} {words more : List (ℕ × ℕ)} → SideFetches S s t words → SideFetches S t u more → SideFetches S s u (words ++ more)
finds_then {S = S} {words = words} {more = more} first second = record { fetches = fetches_then first.fetches second.fetches; shows = All-append S words more first.shows second.shows }

-- ---- words at places in a row

pub row_none : (S : ℕ × ℕ → Type 0) (s t : SideData) (place : ℕ) (list longer : List (ℕ × ℕ)) → t ≡ s → longer ≡ list → FetchesRow S s t place 0 list longer
row_none S s t place list longer same is = record { values = []; all = refl; fetches = finds_none S s t same; appended = is ∙ sym (append-nil list) }

-- one word more
pub row_more : {S : ℕ × ℕ → Type 0} {s t u : SideData} {place count : ℕ} {list longer : List (ℕ × ℕ)} (next value : ℕ) (again : List (ℕ × ℕ)) → FetchesRow S s t place count list longer → next ≡ place + count → SideFetches S t u ((next, value) ∷ []) → again ≡ longer ++ (next, value) ∷ [] → FetchesRow S s u place (count + 1) list again
row_more {S = S} {s = s} {u = u} {place = place} {list = list} next value again row at one push =
    let here : next ≡ place + length row.values = at ∙ ap (λ n. place + n) (sym row.all) in
    let words : words_at place row.values ++ (next, value) ∷ [] ≡ words_at place (row.values ++ value ∷ []) = ap (λ p. words_at place row.values ++ (p, value) ∷ []) here ∙ sym (words_at_push place row.values value) in
    record {
      values = row.values ++ value ∷ [];
      all = (let n = length-append row.values (value ∷ []) in let m = row.all in omega arith);
      fetches = subst (λ (l : List (ℕ × ℕ)). SideFetches S s u l) words (finds_then row.fetches one);
      appended = push ∙ ap (λ (l : List (ℕ × ℕ)). l ++ (next, value) ∷ []) row.appended ∙ append_assoc list (words_at place row.values) ((next, value) ∷ []) ∙ ap (λ (l : List (ℕ × ℕ)). list ++ l) words;
    }

-- a row that is not whole
pub row_in_part : {S : ℕ × ℕ → Type 0} {s t : SideData} {place count : ℕ} {list longer : List (ℕ × ℕ)} (u : SideData) (most : ℕ) → FetchesRow S s t place count list longer → count ≤ most → u ≡ t → FetchesRowInPart s u place most
row_in_part {s = s} {place = place} u most row few same = record {
  values = row.values;
  some = (let m = row.all in omega arith);
  fetches = subst (λ (x : SideData). Fetches s x (words_at place row.values)) (sym same) row.fetches.fetches;
}

-- ---- what a list has after all that it had

added_append : (list own : List (ℕ × ℕ)) → items_since list (list ++ own) ≡ own
added_append [] own = refl
added_append (word ∷ list) own = added_append list own

pub added_is : (list own longer : List (ℕ × ℕ)) → longer ≡ list ++ own → items_since list longer ≡ own
added_is list own longer is = ap (items_since list) is ∙ added_append list own

pub appends : (list own longer : List (ℕ × ℕ)) → longer ≡ list ++ own → longer ≡ list ++ items_since list longer
appends list own longer is = is ∙ ap (λ (l : List (ℕ × ℕ)). list ++ l) (sym (added_is list own longer is))

added_then : (list own pushed more longer : List (ℕ × ℕ)) → pushed ≡ list ++ own → longer ≡ pushed ++ more → items_since list longer ≡ own ++ more
added_then list own pushed more longer is grows = added_is list (own ++ more) longer (grows ∙ ap (λ (l : List (ℕ × ℕ)). l ++ more) is ∙ append_assoc list own more)

module _ {S : ℕ × ℕ → Type 0} {s t : SideData} {place count : ℕ} {pushed longer : List (ℕ × ℕ)} (list own : List (ℕ × ℕ)) (is : pushed ≡ list ++ own) (row : FetchesRow S s t place count pushed longer) where
  -- a row after words that were added
  pub row_behind : FetchesRow S s t place count own (items_since list longer)
  row_behind = record {
    values = row.values;
    all = row.all;
    fetches = row.fetches;
    appended = added_then list own pushed (words_at place row.values) longer is row.appended;
  }

  -- all that was added, after a row
  pub row_appends : longer ≡ list ++ items_since list longer
  row_appends = appends list (own ++ words_at place row.values) longer (row.appended ∙ ap (λ (l : List (ℕ × ℕ)). l ++ words_at place row.values) is ∙ append_assoc list own (words_at place row.values))
