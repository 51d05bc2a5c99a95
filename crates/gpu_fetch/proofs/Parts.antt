-- What is fetched of a command, at each point where the fetching stops.
use Rattle.std.proofs.Common.{◌≡◌, ℕ, zero, suc, ◌+◌, ◌-◌, ◌<◌, ◌≤◌, Result, Ok, Err, inl, inr, List, [], ◌∷◌, ◌++◌, length, drop, map, refl, sym, ap, ◌∙◌, subst, arith, append_assoc, IsOkAnd}
use Rattle.std.specs.Prelude.{slice_index, slice_range}
use Rattle.std.specs.List.{range_with_len}
use Rattle.std.proofs.lemmas.List.{map-append, append-nil, length-drop, length-map, take_all}
use Rattle.gpu_word.specs.Bytes.{values_of}
use Rattle.gpu_cmd.specs.declared.error.CmdError.{CmdError}
use Rattle.gpu_cmd.specs.declared.error.CmdError.TheVariants.{OutOfBounds}
use Rattle.gpu_cmd.specs.declared.facts.StreamFacts.{StreamFacts}
use Rattle.gpu_cmd.specs.declared.shape.Shape.{Shape}
use Rattle.gpu_cmd.specs.declared.decoded.Decoded.{Decoded}
use Rattle.gpu_cmd.specs.Checks.{headed, decoded}
use Rattle.gpu_cmd.specs.Copied.{fetched_places, places_decoded, ring_places, value_in, words_at, places_listed}
use Rattle.gpu_cmd.proofs.Copies.{put_out_of_range, header_refused, entries_refused, command_copied, header_goes_on, same_place, values_at, places_at}
use Rattle.gpu_fetch.specs.Side.{SideData, Fetches, SideFetches}
use Rattle.gpu_fetch.specs.Fetched.{items_since, FetchesCommand, FetchesSome, FetchesRow, FetchesRowInPart, FetchesRows}
use Rattle.gpu_fetch.proofs.Fetching.{fetches_none, fetches_then, finds_none, finds_then, added_is, appends, row_behind, row_appends}

-- ---- words at places in a row

-- the values of a row
pub values_listed : (place : ℕ) (values : List ℕ) → values_of (words_at place values) ≡ values
values_listed place [] = refl
values_listed place (value ∷ values) = ap (λ rest. value ∷ rest) (values_listed (place + 1) values)

-- places that follow one another, cut in two
range_cut : (place n m : ℕ) → range_with_len place (n + m) ≡ range_with_len place n ++ range_with_len (place + n) m
range_cut place zero m = ap (λ k. range_with_len place k) (omega arith) ∙ ap (λ p. range_with_len p m) (omega arith)
range_cut place (suc n) m =
    let next : suc n + m ≡ suc (n + m) = omega arith in
    let same : place + 1 + n ≡ place + suc n = omega arith in
    ap (range_with_len place) next ∙ ap (λ rest. place ∷ rest) (range_cut (place + 1) n m ∙ ap (λ p. range_with_len (place + 1) n ++ range_with_len p m) same)

-- a row of a given number of places begins with the places of any shorter one
row_begins : (place most : ℕ) (values : List ℕ) → length values ≤ most → range_with_len place most ≡ places_listed (words_at place values) ++ range_with_len (place + length values) (most - length values)
row_begins place most values few =
    let n = length values in
    let whole : most ≡ n + (most - n) = omega arith in
    ap (range_with_len place) whole ∙ range_cut place n (most - n) ∙ ap (λ places. places ++ range_with_len (place + n) (most - n)) (sym (places_at place values))

-- ---- where the fetching stops as out of memory

-- within the ring places of a command
pub some_ring : (s t : SideData) (facts : StreamFacts) (shape : Shape) (entry : ℕ) (values : List ℕ) → facts.put < facts.areas.ring → headed entry facts ≡ Ok shape → length (entry ∷ values) ≤ shape.ring_words → Fetches s t (words_at facts.get (entry ∷ values)) → FetchesSome s t facts
unfolding fetched_places
some_ring s t facts shape entry values put head few fetches =
    let words : List (ℕ × ℕ) = words_at facts.get (entry ∷ values) in
    let first : value_in words facts.get ≡ entry = same_place facts.get entry (words_at (facts.get + 1) values) in
    let seen : List ℕ = map (value_in words) (ring_places facts shape) in
    let read = header_goes_on words facts shape seen (decoded seen facts) put (ap (λ e. headed e facts) first ∙ head) refl refl in
    let behind : List ℕ = range_with_len (facts.get + length (entry ∷ values)) (shape.ring_words - length (entry ∷ values)) in
    record {
      words = words;
      rest = behind ++ places_decoded (decoded seen facts);
      fetches = fetches;
      first = read.1 ∙ ap (λ places. places ++ places_decoded (decoded seen facts)) (row_begins facts.get shape.ring_words (entry ∷ values) few) ∙ append_assoc (places_listed words) behind (places_decoded (decoded seen facts));
    }

-- within its transfer places
pub some_transfer : (s t : SideData) (facts : StreamFacts) (shape : Shape) (entry : ℕ) (values : List ℕ) (found : Decoded) (more : List ℕ) → facts.put < facts.areas.ring → headed entry facts ≡ Ok shape → length (entry ∷ values) ≡ shape.ring_words → decoded (entry ∷ values) facts ≡ Ok found → length more ≤ found.count → Fetches s t (words_at facts.get (entry ∷ values) ++ words_at found.from more) → FetchesSome s t facts
unfolding fetched_places
some_transfer s t facts shape entry values found more put head all decoding few fetches =
    let ring : List (ℕ × ℕ) = words_at facts.get (entry ∷ values) in
    let transfer : List (ℕ × ℕ) = words_at found.from more in
    let words : List (ℕ × ℕ) = ring ++ transfer in
    let first : value_in words facts.get ≡ entry = same_place facts.get entry (words_at (facts.get + 1) values ++ transfer) in
    let seen : map (value_in words) (ring_places facts shape) ≡ entry ∷ values = ap (λ n. map (value_in words) (range_with_len facts.get n)) (sym all) ∙ values_at facts.get (entry ∷ values) transfer in
    let read = header_goes_on words facts shape (entry ∷ values) (Ok found) put (ap (λ e. headed e facts) first ∙ head) seen decoding in
    let behind : List ℕ = range_with_len (found.from + length more) (found.count - length more) in
    let front : ring_places facts shape ≡ places_listed ring = ap (range_with_len facts.get) (sym all) ∙ sym (places_at facts.get (entry ∷ values)) in
    record {
      words = words;
      rest = behind;
      fetches = fetches;
      first = read.1 ∙ ap (λ places. places ++ range_with_len found.from found.count) front ∙ ap (λ places. places_listed ring ++ places) (row_begins found.from found.count more few) ∙ sym (append_assoc (places_listed ring) (places_listed transfer) behind) ∙ ap (λ places. places ++ behind) (sym (map-append (λ word. word.0) ring transfer));
    }

-- ---- the words that a list has after those that it had

-- as they are read
pub added_read : (were list longer : List (ℕ × ℕ)) (from : ℕ) → list ≡ longer → from ≡ length were → slice_range list from (length list) ≡ items_since were longer
added_read were list longer from same at =
    take_all (length list - from) (drop from list) (let long = length-drop from list in omega (arith, long)) ∙ ap (λ (n : ℕ). drop n list) at ∙ ap (drop (length were)) same

-- a put out of range: there are none
pub nothing_fetched : (S : ℕ × ℕ → Type 0) (s : SideData) (facts : StreamFacts) (were : List (ℕ × ℕ)) → facts.areas.ring ≤ facts.put → FetchesCommand S s s facts were were (Err OutOfBounds)
nothing_fetched S s facts were far =
    let same : were ≡ were ++ [] = sym (append-nil were) in
    let out = put_out_of_range [] facts far in
    record {
      adds = appends were [] were same;
      fetches = subst (SideFetches S s s) (sym (added_is were [] were same)) (finds_none S s s refl);
      copy = rw (added_is were [] were same) (record { places = sym out.1; verdict = out.0 });
    }

-- the header is not fetched
pub none_some : {s t : SideData} (facts : StreamFacts) → t ≡ s → FetchesSome s t facts
none_some {s = s} {t = t} facts same = record { words = []; rest = fetched_places [] facts; fetches = fetches_none s t same; first = refl }

-- ---- the header of a command

module _ {S : ℕ × ℕ → Type 0} {s t : SideData} (facts : StreamFacts) {entry : ℕ} (header : SideFetches S s t ((facts.get, entry) ∷ [])) (put : facts.put < facts.areas.ring) where
  -- it is refused
  pub header_fetched : (were longer : List (ℕ × ℕ)) (error : CmdError) → longer ≡ were ++ (facts.get, entry) ∷ [] → Err error ≡ headed entry facts → FetchesCommand S s t facts were longer (Err error)
  header_fetched were longer error push head =
      let one : List (ℕ × ℕ) = (facts.get, entry) ∷ [] in
      let is : items_since were longer ≡ one = added_is were one longer push in
      record {
        adds = appends were one longer push;
        fetches = subst (SideFetches S s t) (sym is) header;
        copy = rw is (header_refused facts entry error put (sym head));
      }

  -- and no room is found for it
  pub header_some : (error : CmdError) → Err error ≡ headed entry facts → FetchesSome s t facts
  header_some error head = record {
    words = (facts.get, entry) ∷ [];
    rest = [];
    fetches = header.fetches;
    first = sym (header_refused facts entry error put (sym head)).places ∙ sym (append-nil (facts.get ∷ []));
  }

  -- the other ring words are fetched in part, or no room is found for them
  pub ring_part_some : (u : SideData) (shape : Shape) → Ok shape ≡ headed entry facts → 1 ≤ shape.ring_words → FetchesRowInPart t u (facts.get + 1) (shape.ring_words - 1) → FetchesSome s u facts
  ring_part_some u shape head some part =
      let few = part.some in
      some_ring s u facts shape entry part.values put (sym head) (omega arith) (fetches_then header.fetches part.fetches)

  pub header_alone : (shape : Shape) → Ok shape ≡ headed entry facts → 1 ≤ shape.ring_words → FetchesSome s t facts
  header_alone shape head some = some_ring s t facts shape entry [] put (sym head) (omega arith) header.fetches

-- ---- the ring words of a command

-- all ring words of a command were fetched, and stand in a list
pub record RingFetched (S : ℕ × ℕ → Type 0) (s t : SideData) (facts : StreamFacts) (entry : ℕ) (shape : Shape) (list : List (ℕ × ℕ)) : Type 0 where
  pub values : List ℕ
  pub all : length (entry ∷ values) ≡ shape.ring_words
  pub fetches : SideFetches S s t (words_at facts.get (entry ∷ values))
  pub listed : list ≡ words_at facts.get (entry ∷ values)
  pub put : facts.put < facts.areas.ring
  pub head : headed entry facts ≡ Ok shape

-- after the words that a list had
pub ring_onto : {S : ℕ × ℕ → Type 0} {s m t : SideData} {facts : StreamFacts} {entry : ℕ} {shape : Shape} (were pushed longer : List (ℕ × ℕ)) → SideFetches S s m ((facts.get, entry) ∷ []) → pushed ≡ were ++ (facts.get, entry) ∷ []
    → 1 ≤ shape.ring_words → FetchesRow S m t (facts.get + 1) (shape.ring_words - 1) pushed longer → facts.put < facts.areas.ring → Ok shape ≡ headed entry facts → RingFetched S s t facts entry shape (items_since were longer)
ring_onto {facts = facts} {entry = entry} were pushed longer header push some row put head =
    let own = row_behind were ((facts.get, entry) ∷ []) push row in
    record {
      values = own.values;
      all = (let n = own.all in omega arith);
      fetches = finds_then header own.fetches;
      listed = own.appended;
      put = put;
      head = sym head;
    }

module _ {S : ℕ × ℕ → Type 0} {s t : SideData} {facts : StreamFacts} {entry : ℕ} {shape : Shape} {list : List (ℕ × ℕ)} (ring : RingFetched S s t facts entry shape list) where
  abbrev ringed : List (ℕ × ℕ)
  ringed = words_at facts.get (entry ∷ ring.values)

  -- the fetching stops here
  pub rows_ring : (u : SideData) → u ≡ t → FetchesRows s u facts
  rows_ring u same =
      let first : value_in ringed facts.get ≡ entry = same_place facts.get entry (words_at (facts.get + 1) ring.values) in
      let places : places_listed ringed ≡ ring_places facts shape = places_at facts.get (entry ∷ ring.values) ∙ ap (range_with_len facts.get) ring.all in
      record {
        words = ringed;
        fetches = subst (λ (x : SideData). Fetches s x ringed) (sym same) ring.fetches.fetches;
        rows = inr (inr (subst (λ (r : Result Shape CmdError). IsOkAnd r (λ found. places_listed ringed ≡ ring_places facts found)) (sym (ap (λ e. headed e facts) first ∙ ring.head)) places));
      }

  module _ {given : List (ℕ × ℕ)} (are : given ≡ list) where
    -- the values of the words that the decoder is given
    entries : values_of given ≡ entry ∷ ring.values
    entries = ap values_of (are ∙ ring.listed) ∙ values_listed facts.get (entry ∷ ring.values)

    pub ring_headed : IsOkAnd (headed (slice_index (values_of given) 0) facts) (λ found. length given ≡ found.ring_words)
    ring_headed =
        let all : length given ≡ shape.ring_words = sym (length-map given (λ word. word.1)) ∙ ap length entries ∙ ring.all in
        rw entries (rw ring.head all)

    -- the decoder refuses them
    pub ring_refused : (were longer : List (ℕ × ℕ)) (error : CmdError) → longer ≡ were ++ list → Err error ≡ decoded (values_of given) facts → FetchesCommand S s t facts were longer (Err error)
    ring_refused were longer error behind decoding =
        let whole : items_since were longer ≡ ringed = added_is were list longer behind ∙ ring.listed in
        record {
          adds = appends were list longer behind;
          fetches = subst (SideFetches S s t) (sym whole) ring.fetches;
          copy = rw whole (entries_refused facts shape (entry ∷ ring.values) error ring.put ring.head ring.all (ap (λ values. decoded values facts) (sym entries) ∙ sym decoding));
        }

    module _ (found : Decoded) (decoding : Ok found ≡ decoded (values_of given) facts) where
      seen : decoded (entry ∷ ring.values) facts ≡ Ok found
      seen = ap (λ values. decoded values facts) (sym entries) ∙ sym decoding

      -- the transfer words are fetched, too
      pub command_fetched : (u : SideData) (were between longer : List (ℕ × ℕ)) → between ≡ were ++ list → FetchesRow S t u found.from found.count between longer → FetchesCommand S s u facts were longer (Ok found.command)
      command_fetched u were between longer behind more =
          let row = row_behind were list behind more in
          let whole : items_since were longer ≡ ringed ++ words_at found.from row.values = row.appended ∙ ap (λ (l : List (ℕ × ℕ)). l ++ words_at found.from row.values) ring.listed in
          record {
            adds = row_appends were list behind more;
            fetches = subst (SideFetches S s u) (sym whole) (finds_then ring.fetches row.fetches);
            copy = rw whole (command_copied facts shape (entry ∷ ring.values) found row.values ring.put ring.head ring.all seen row.all);
          }

      -- or in part
      pub transfer_some : (u : SideData) → FetchesRowInPart t u found.from found.count → FetchesSome s u facts
      transfer_some u part = some_transfer s u facts shape entry ring.values found part.values ring.put ring.head ring.all seen part.some (fetches_then ring.fetches.fetches part.fetches)

-- ---- where the fetching stops between two rows

pub rows_header : {s t : SideData} (facts : StreamFacts) {entry : ℕ} (u : SideData) → Fetches s t ((facts.get, entry) ∷ []) → u ≡ t → FetchesRows s u facts
rows_header {s = s} facts {entry = entry} u fetches same = record {
  words = (facts.get, entry) ∷ [];
  fetches = subst (λ (x : SideData). Fetches s x ((facts.get, entry) ∷ [])) (sym same) fetches;
  rows = inr (inl refl);
}
