-- Each return is a lemma of Parts on the words that were fetched so far.
use Rattle.std.proofs.Common.{◌≡◌, ℕ, ◌+◌, ◌-◌, ◌^◌, ◌<◌, ◌≤◌, ◌⊎◌, ◌++◌, ◌∷◌, [], List, length, inl, inr, ⊎_elim, refl, sym, ap, ◌∙◌, subst, arith, Result, IsErr, IfOk, IfErr, Fits, w32, length-append}
use Rattle.std.proofs.lemmas.Result.{IfOk-from_err, MatchResult-from_err}
use Rattle.std.specs.List.{slice_range}
use Rattle.gpu_word.specs.declared.memory.Memory.{Memory}
use Rattle.gpu_cmd.specs.declared.command.Command.{Command}
use Rattle.gpu_cmd.specs.declared.error.CmdError.{CmdError}
use Rattle.gpu_cmd.specs.declared.areas.Areas.{Areas}
use Rattle.gpu_cmd.specs.declared.decoded.Decoded.{Decoded}
use Rattle.gpu_cmd.specs.declared.facts.StreamFacts.{StreamFacts}
use Rattle.gpu_cmd.specs.declared.shape.Shape.{Shape}
use Rattle.gpu_cmd.specs.Lawful.{IsLawfulFacts, places_of}
use Rattle.gpu_fetch.specs.Side.{SideData, SideFetches, StillBelongs}
use Rattle.gpu_fetch.specs.Fetched.{items_since, FetchesCommand, FetchesSome, FetchesRows}
use Rattle.gpu_fetch.proofs.Fetching.{finds_one, row_appends}
use Rattle.gpu_fetch.proofs.Parts.{RingFetched, nothing_fetched, none_some, header_fetched, header_some, header_alone, rows_header, ring_onto, added_read, ring_headed, ring_part_some, ring_refused, command_fetched, transfer_some, rows_ring}
use Rattle.gpu_fetch.proofs.fetch.fetch_onto.Given.{Over}
use Rattle.gpu_fetch.proofs.fetch.fetch_onto.Goals as goal
use Rattle.gpu_fetch.proofs.fetch.fetch_onto.Goals.{After-deref, In_ok-entry, After-push_reserved, In_ok-fetch_row}

-- ---- where the words of a command lie, in areas that are those of its stream

module _ (facts : StreamFacts) (areas : Areas) (same : areas ≡ facts.areas) (lawful : IsLawfulFacts facts) where
  header_within : facts.get < places_of areas
  header_within = subst (λ (a : Areas). facts.get < places_of a) (sym same) (let get = lawful.get in omega arith)

  ring_within : (shape : Shape) → 1 ≤ shape.ring_words → shape.ring_words ≤ shape.size → facts.get + shape.size ≤ facts.areas.ring → (facts.get + 1 + (shape.ring_words - 1) ≤ places_of areas) × (facts.get + 1 + (shape.ring_words - 1) < 2 ^ 32)
  ring_within shape some few within =
      let most = lawful.areas.ring_most in
      (subst (λ (a : Areas). facts.get + 1 + (shape.ring_words - 1) ≤ places_of a) (sym same) (omega arith), omega arith)

  transfer_within : (found : Decoded) → found.from + found.count ≤ places_of facts.areas → (found.from + found.count ≤ places_of areas) × (found.from + found.count < 2 ^ 32)
  transfer_within found within =
      let most = lawful.areas.ring_most in
      let few = lawful.areas.memories.few in
      (subst (λ (a : Areas). found.from + found.count ≤ places_of a) (sym same) within, omega arith)

  next_fits : Fits w32 (facts.get + 1)
  next_fits =
      let get = lawful.get in
      let most = lawful.areas.ring_most in
      omega arith

-- there is room for one word
one_fits : (len more capacity : ℕ) → 1 ≤ more → len + more ≤ capacity → len < capacity
one_fits len more capacity some room = omega arith

longer_than : (were own longer : List (ℕ × ℕ)) (n : ℕ) → n ≡ length were → longer ≡ were ++ own → n ≤ length longer
longer_than were own longer n at is = let long = ap length is ∙ length-append were own in omega (arith, at, long)

-- what two calls keep, one after the other
still_then : {Side Note Words : Type 0} (belongs : Side → Words → Type 0) (note_belongs : Side → Words → Note → Type 0) {words : Words} {s t u : Side} → StillBelongs belongs note_belongs words s t → StillBelongs belongs note_belongs words t u → StillBelongs belongs note_belongs words s u
still_then belongs note_belongs first second = record { beside = second.beside; notes = λ n h. second.notes n (first.notes n h) }

-- the answer is out of memory: nothing is said of a command, and the side fetched these words
fails : (S : ℕ × ℕ → Type 0) (s t : SideData) (facts : StreamFacts) (were longer : List (ℕ × ℕ)) (wants : Type 0) (r : Result (Result Command CmdError) Memory) → IsErr r → FetchesSome s t facts → wants ⊎ FetchesRows s t facts
    → IfOk r (FetchesCommand S s t facts were longer) × IfErr r (λ _. FetchesSome s t facts) × IfErr r (λ _. wants ⊎ FetchesRows s t facts)
fails S s t facts were longer wants r failed some rows = (IfOk-from_err r (FetchesCommand S s t facts were longer) failed, MatchResult-from_err r _ _ failed (λ _. some), MatchResult-from_err r _ _ failed (λ _. rows))

-- ---- before all ring words are fetched

pub returns-then-facts : goal.returns-then-facts
returns-then-facts g c = record {
  fetches = nothing_fetched (g.P.ServiceSide.shows c.args.words.now) (g.P.ServiceSide.side c.args.side.now) c.args.facts.now c.args.list.now.items c.if-facts.true;
  some = tt;
  rows = tt;
  still = record { beside = c.requires.belongs; notes = λ n h. h };
  table = refl;
}

pub fetch-requires : goal.fetch-requires
fetch-requires g c = record { belongs = c.requires.belongs; place = header_within c.args.facts.now (g.P.ServiceSide.side c.args.side.now).plan.areas (sym c.requires.areas) c.requires.lawful }

pub returns-in_err-entry : goal.returns-in_err-entry
returns-in_err-entry g c =
    let e = c.in_err-entry.ensures in
    let told = fails (g.P.ServiceSide.shows c.args.words.now) (g.P.ServiceSide.side c.args.side.now) (g.P.ServiceSide.side c.fetch.new.self) c.args.facts.now c.args.list.now.items c.args.list.now.items g.P.ServiceSide.wants c.from_residual.result c.from_residual.ensures.0
    (none_some c.args.facts.now e.grows)
    (inl e.memory) in
    record { fetches = told.0; some = told.1; rows = told.2; still = record { beside = e.belongs; notes = λ n h. e.notes n h }; table = e.table }

-- once the header is fetched
module _ (g : Over) (c : goal.In_ok-entry g) where
  header : SideFetches (g.P.ServiceSide.shows c.args.words.now) (g.P.ServiceSide.side c.args.side.now) (g.P.ServiceSide.side c.fetch.new.self) ((c.args.facts.now.get, c.in_ok-entry.entry) ∷ [])
  header = finds_one _ _ _ (c.args.facts.now.get, c.in_ok-entry.entry) c.in_ok-entry.ensures.grows c.in_ok-entry.ensures.may c.in_ok-entry.ensures.shows

  header_areas : (g.P.ServiceSide.side c.fetch.new.self).plan.areas ≡ c.args.facts.now.areas
  header_areas = ap (λ (s : SideData). s.plan.areas) c.in_ok-entry.ensures.grows ∙ sym c.requires.areas

  header_still : StillBelongs g.P.ServiceSide.belongs g.P.ServiceSide.note_belongs c.args.words.now c.args.side.now c.fetch.new.self
  header_still = record { beside = c.in_ok-entry.ensures.belongs; notes = λ n h. c.in_ok-entry.ensures.notes n h }

pub head-requires : goal.head-requires
head-requires g c = record { lawful = c.requires.lawful; put = c.if-facts.false; more = c.requires.more }

pub returns-in_err-push-in-Err : goal.returns-in_err-push-in-Err
returns-in_err-push-in-Err g c =
    let path = (goal.at.returns-in_err-push-in-Err g c).In_ok-entry in
    let last = g.P.ServiceSide.side c.fetch.new.self in
    let told = fails (g.P.ServiceSide.shows c.args.words.now) (g.P.ServiceSide.side c.args.side.now) last c.args.facts.now c.args.list.now.items c.push.new.self.items g.P.ServiceSide.wants c.from_residual-in_err-push-in-Err.result c.from_residual-in_err-push-in-Err.ensures.0
    (header_some c.args.facts.now (header g path) c.if-facts.false c.in-Err.error c.in-Err.ensures.verdict)
    (inr (rows_header c.args.facts.now last (header g path).fetches refl)) in
    record { fetches = told.0; some = told.1; rows = told.2; still = header_still g path; table = c.in_ok-entry.ensures.table }

pub returns-in-Err : goal.returns-in-Err
returns-in-Err g c =
    let path = (goal.at.returns-in-Err g c).In_ok-entry in
    record {
      fetches = header_fetched c.args.facts.now (header g path) c.if-facts.false c.args.list.now.items c.push.new.self.items c.in-Err.error c.in_ok-push-in-Err.ensures.items c.in-Err.ensures.verdict;
      some = tt;
      rows = tt;
      still = header_still g path;
      table = c.in_ok-entry.ensures.table;
    }

pub returns-in_err-reserve : goal.returns-in_err-reserve
returns-in_err-reserve g c =
    let path = (goal.at.returns-in_err-reserve g c).In_ok-entry in
    let last = g.P.ServiceSide.side c.fetch.new.self in
    let told = fails (g.P.ServiceSide.shows c.args.words.now) (g.P.ServiceSide.side c.args.side.now) last c.args.facts.now c.args.list.now.items c.reserve.new.self.items g.P.ServiceSide.wants c.from_residual-in_err-reserve.result c.from_residual-in_err-reserve.ensures.0
    (header_alone c.args.facts.now (header g path) c.if-facts.false c.in-Ok.shape c.in-Ok.ensures.verdict c.in-Ok.ensures.some)
    (inr (rows_header c.args.facts.now last (header g path).fetches refl)) in
    record { fetches = told.0; some = told.1; rows = told.2; still = header_still g path; table = c.in_ok-entry.ensures.table }

pub push_reserved-requires : goal.push_reserved-requires
push_reserved-requires g c = one_fits _ c.in-Ok.shape.ring_words _ c.in-Ok.ensures.some c.in_ok-reserve.ensures.ok

pub overflow_add-facts : goal.overflow_add-facts
overflow_add-facts g c = next_fits c.args.facts.now (g.P.ServiceSide.side c.args.side.now).plan.areas (sym c.requires.areas) c.requires.lawful

pub overflow_sub-shape : goal.overflow_sub-shape
overflow_sub-shape g c = c.in-Ok.ensures.some

-- the list, once the header is pushed
pushed : (g : Over) (c : goal.After-push_reserved g) → c.push_reserved.new.self.items ≡ c.args.list.now.items ++ (c.args.facts.now.get, c.in_ok-entry.entry) ∷ []
pushed g c = c.push_reserved.ensures.items ∙ ap (λ (l : List (ℕ × ℕ)). l ++ (c.args.facts.now.get, c.in_ok-entry.entry) ∷ []) c.reserve.ensures.items

pub fetch_row-requires : goal.fetch_row-requires
fetch_row-requires g c =
    let path = (goal.at.fetch_row-requires g c).In_ok-entry in
    let e = c.in-Ok.ensures in
    let lies = ring_within c.args.facts.now (g.P.ServiceSide.side c.fetch.new.self).plan.areas (header_areas g path) c.requires.lawful c.in-Ok.shape e.some e.fetched e.within in
    record { belongs = c.in_ok-entry.ensures.belongs; within = lies.0; few = lies.1 }

pub returns-in_err-fetch_row : goal.returns-in_err-fetch_row
returns-in_err-fetch_row g c =
    let path = (goal.at.returns-in_err-fetch_row g c).In_ok-entry in
    let last = g.P.ServiceSide.side c.fetch_row.new.side in
    let e = c.in_err-fetch_row.ensures in
    let told = fails (g.P.ServiceSide.shows c.args.words.now) (g.P.ServiceSide.side c.args.side.now) last c.args.facts.now c.args.list.now.items c.fetch_row.new.list.items g.P.ServiceSide.wants c.from_residual-in_err-fetch_row.result c.from_residual-in_err-fetch_row.ensures.0
    (ring_part_some c.args.facts.now (header g path) c.if-facts.false last c.in-Ok.shape c.in-Ok.ensures.verdict c.in-Ok.ensures.some e.part)
    (⊎_elim (λ w. inl w) (λ same. inr (rows_header c.args.facts.now last (header g path).fetches same)) e.whole) in
    record { fetches = told.0; some = told.1; rows = told.2; still = still_then g.P.ServiceSide.belongs g.P.ServiceSide.note_belongs (header_still g path) e.still; table = e.table ∙ c.in_ok-entry.ensures.table }

-- ---- once all ring words are fetched

module _ (g : Over) (c : goal.In_ok-fetch_row g) where
  -- the words that the list had, and the ring words that were added
  abbrev were : List (ℕ × ℕ)
  were = c.args.list.now.items

  abbrev own : List (ℕ × ℕ)
  own = items_since were c.fetch_row.new.list.items

  ring : RingFetched (g.P.ServiceSide.shows c.args.words.now) (g.P.ServiceSide.side c.args.side.now) (g.P.ServiceSide.side c.fetch_row.new.side) c.args.facts.now c.in_ok-entry.entry c.in-Ok.shape own
  ring =
      let path = goal.at.In_ok-fetch_row g c in
      ring_onto were c.push_reserved.new.self.items c.fetch_row.new.list.items (header g path.In_ok-entry) (pushed g path.After-push_reserved) c.in-Ok.ensures.some c.in_ok-fetch_row.ensures.row c.if-facts.false c.in-Ok.ensures.verdict

  -- the list has them after all that it had
  behind : c.fetch_row.new.list.items ≡ were ++ own
  behind = row_appends were ((c.args.facts.now.get, c.in_ok-entry.entry) ∷ []) (pushed g (goal.at.In_ok-fetch_row g c).After-push_reserved) c.in_ok-fetch_row.ensures.row

  ring_areas : (g.P.ServiceSide.side c.fetch_row.new.side).plan.areas ≡ c.args.facts.now.areas
  ring_areas = ap (λ (s : SideData). s.plan.areas) c.in_ok-fetch_row.ensures.row.fetches.fetches.grows ∙ header_areas g (goal.at.In_ok-fetch_row g c).In_ok-entry

  ring_still : StillBelongs g.P.ServiceSide.belongs g.P.ServiceSide.note_belongs c.args.words.now c.args.side.now c.fetch_row.new.side
  ring_still = still_then g.P.ServiceSide.belongs g.P.ServiceSide.note_belongs (header_still g (goal.at.In_ok-fetch_row g c).In_ok-entry) c.in_ok-fetch_row.ensures.still

  ring_table : g.P.ServiceSide.table c.fetch_row.new.side ≡ g.P.ServiceSide.table c.args.side.now
  ring_table = c.in_ok-fetch_row.ensures.table ∙ c.in_ok-entry.ensures.table

-- ---- once they are decoded

-- the decoder is given the ring words
are : (g : Over) (c : goal.After-deref g) → slice_range c.deref.result.now c.len-from.result (length c.deref.result.now) ≡ own g (goal.at.After-deref g c).In_ok-fetch_row
are g c = added_read c.args.list.now.items c.deref.result.now c.fetch_row.new.list.items c.len-from.result c.deref.ensures.value (c.len-from.ensures ∙ c.args.list.now.ok.0)

pub slice_bounds-decode-count : goal.slice_bounds-decode-count
slice_bounds-decode-count g c =
    let r = (goal.at.slice_bounds-decode-count g c).In_ok-fetch_row in
    longer_than (were g r) (own g r) c.deref.result.now c.len-from.result (c.len-from.ensures ∙ c.args.list.now.ok.0) (c.deref.ensures.value ∙ behind g r)

pub slice_bounds-decode-start : goal.slice_bounds-decode-start
slice_bounds-decode-start g c =
    let r = (goal.at.slice_bounds-decode-start g c).In_ok-fetch_row in
    longer_than (were g r) (own g r) c.deref.result.now c.len-from.result (c.len-from.ensures ∙ c.args.list.now.ok.0) (c.deref.ensures.value ∙ behind g r)

pub decode-requires : goal.decode-requires
decode-requires g c =
    let path = goal.at.decode-requires g c in
    record { lawful = c.requires.lawful; head = ring_headed (ring g path.In_ok-fetch_row) (are g path.After-deref) }

pub fetch_row-requires-in-Ok-decode : goal.fetch_row-requires-in-Ok-decode
fetch_row-requires-in-Ok-decode g c =
    let path = (goal.at.fetch_row-requires-in-Ok-decode g c).In_ok-fetch_row in
    let lies = transfer_within c.args.facts.now (g.P.ServiceSide.side c.fetch_row.new.side).plan.areas (ring_areas g path) c.requires.lawful c.in-Ok-decode.found c.in-Ok-decode.ensures.places in
    record { belongs = c.in_ok-fetch_row.ensures.still.beside; within = lies.0; few = lies.1 }

pub returns-in_err-fetch_row-in-Ok-decode : goal.returns-in_err-fetch_row-in-Ok-decode
returns-in_err-fetch_row-in-Ok-decode g c =
    let path = goal.at.returns-in_err-fetch_row-in-Ok-decode g c in
    let r = path.In_ok-fetch_row in
    let last = g.P.ServiceSide.side c.fetch_row-in-Ok-decode.new.side in
    let e = c.in_err-fetch_row-in-Ok-decode.ensures in
    let told = fails (g.P.ServiceSide.shows c.args.words.now) (g.P.ServiceSide.side c.args.side.now) last c.args.facts.now c.args.list.now.items c.fetch_row-in-Ok-decode.new.list.items g.P.ServiceSide.wants c.from_residual-in_err-fetch_row-in-Ok-decode.result c.from_residual-in_err-fetch_row-in-Ok-decode.ensures.0
    (transfer_some (ring g r) (are g path.After-deref) c.in-Ok-decode.found c.in-Ok-decode.ensures.verdict last e.part)
    (⊎_elim (λ w. inl w) (λ same. inr (rows_ring (ring g r) last same)) e.whole) in
    record { fetches = told.0; some = told.1; rows = told.2; still = still_then g.P.ServiceSide.belongs g.P.ServiceSide.note_belongs (ring_still g r) e.still; table = e.table ∙ ring_table g r }

pub returns-in_ok-fetch_row-in-Ok-decode : goal.returns-in_ok-fetch_row-in-Ok-decode
returns-in_ok-fetch_row-in-Ok-decode g c =
    let path = goal.at.returns-in_ok-fetch_row-in-Ok-decode g c in
    let r = path.In_ok-fetch_row in
    let last = g.P.ServiceSide.side c.fetch_row-in-Ok-decode.new.side in
    let e = c.in_ok-fetch_row-in-Ok-decode.ensures in
    record {
      fetches = command_fetched (ring g r) (are g path.After-deref) c.in-Ok-decode.found c.in-Ok-decode.ensures.verdict last (were g r) c.fetch_row.new.list.items c.fetch_row-in-Ok-decode.new.list.items (behind g r) e.row;
      some = tt;
      rows = tt;
      still = still_then g.P.ServiceSide.belongs g.P.ServiceSide.note_belongs (ring_still g r) e.still;
      table = e.table ∙ ring_table g r;
    }

pub returns-in-Err-decode : goal.returns-in-Err-decode
returns-in-Err-decode g c =
    let path = goal.at.returns-in-Err-decode g c in
    let r = path.In_ok-fetch_row in
    record {
      fetches = ring_refused (ring g r) (are g path.After-deref) (were g r) c.fetch_row.new.list.items c.in-Err-decode.error (behind g r) c.in-Err-decode.ensures.verdict;
      some = tt;
      rows = tt;
      still = ring_still g r;
      table = ring_table g r;
    }
