-- The members of a batch while it is fetched.
use Rattle.std.proofs.Common.{◌≡◌, ◌≢◌, ℕ, ◌+◌, ◌-◌, ◌<◌, ◌≤◌, true, false, ◌⊎◌, inl, inr, ⊎_elim, suc, List, [], ◌∷◌, ◌++◌, length, take, drop, Option, Some, None, get_or, refl, sym, ap, subst, ◌∙◌, arith, length-append}
use Rattle.std.specs.Prelude.{◌==◌, Result, Ok, Err, IfOk, IfErr, IfSome, slice_get, if◌then◌else◌}
use Rattle.std.specs.List.{All}
use Rattle.std.proofs.lemmas.Bool.Decides.{nat_tests}
use Rattle.std.proofs.Math.Seq.{take-append_seam}
use Rattle.std.proofs.lemmas.List.{append-nil, map-append, flat_map_more}
use Rattle.std.proofs.lemmas.List.Elements.{All-nil, All-cons, All-append}
use Rattle.atomic_table.specs.Seated.{TableId}
use Rattle.gpu_word.specs.Header.{size_of}
use Rattle.gpu_cmd.specs.declared.command.Command.{Command}
use Rattle.gpu_cmd.specs.declared.facts.StreamFacts.{StreamFacts}
use Rattle.gpu_cmd.specs.Copied.{value_in, fetched_places, places_listed, IsCopy}
use Rattle.gpu_cmd.specs.Lawful.{IsLawfulFacts}
use Rattle.gpu_cmd.specs.Laws.{LeavesRoom}
use Rattle.gpu_cmd.proofs.Fitting.{accepted_leaves_room}
use Rattle.gpu_plan.specs.Plans.{PlansData}
use Rattle.gpu_plan.proofs.Dumps.{found_behind}
use Rattle.gpu_fetch.specs.Side.{SideData, SideFetches}
use Rattle.gpu_fetch.specs.declared.fetched_part.FetchedPart.{FetchedPart}
use Rattle.gpu_fetch.specs.Fetched.{FetchedData, items_since, IsFetched, FetchesCommand, FetchesSome}
use Rattle.gpu_fetch.specs.Parts.{words_of_parts, parts_of}
use Rattle.gpu_fetch.proofs.Fetching.{fetches_then, finds_none, finds_then}
use Rattle.gpu_fetch.proofs.Cutting.{parts_more, words_whole}
use Rattle.stream_state.specs.Steps.{header_in}
use Rattle.stream_state.proofs.Accepting.{told, says}
use Rattle.step_parts.proofs.Asking.{first_value}
use Rattle.house_core.specs.Answers.{further}
use Rattle.house_core.specs.Desks.{RunData}
use Rattle.gpu_house.specs.Slots.{RunFits}
use Rattle.gpu_house.proofs.Running.{fetched_again}
use Rattle.gpu_house.specs.Batches.{facts_after, facts_behind, member_words, batch_words, AreChained, ends_by, is_last, most_members, EndsExactly, FetchesInPart}

-- ---- after a command that passed its checks

-- it has a word, it ends in the ring, and the stream stays within its quota
pub record Ends (words : List (ℕ × ℕ)) (facts : StreamFacts) : Type 0 where
  pub some : 0 < length words
  pub ends : facts.get + size_of (header_in words) ≤ facts.areas.ring
  pub quota : facts.fetched + length words ≤ 1048576

pub passed_ends : (words : List (ℕ × ℕ)) (facts : StreamFacts) (command : Command) → IsLawfulFacts facts → IsCopy words facts (Ok command) → Ends words facts
passed_ends words facts command lawful copy =
    let s = says words facts command (told words facts command lawful copy) in
    let room : LeavesRoom words facts = accepted_leaves_room words facts command lawful copy in
    let header : size_of (header_in words) ≡ size_of (value_in words facts.get) = ap size_of s.header in
    record {
      some = omega (arith, s.ring, s.some);
      ends = omega (arith, room.ends, header);
      quota = room.quota;
    }

-- the facts after it, as they are computed
pub behind_is : (words : List (ℕ × ℕ)) (facts : StreamFacts) (size get : ℕ) → size ≡ size_of (get_or words 0 (0, 0)).1 → get ≡ further facts.areas.ring facts.get size
    → record { areas = facts.areas; get = get; put = facts.put; fetched = facts.fetched + length words } ≡ facts_after facts words
behind_is words facts size get sized at =
    ap (λ (g : ℕ). record facts { get = g; fetched = facts.fetched + length words }) (at ∙ ap (further facts.areas.ring facts.get) (sized ∙ ap size_of (first_value words)))

-- the facts after it are lawful again
pub behind_lawful : (words : List (ℕ × ℕ)) (facts : StreamFacts) → IsLawfulFacts facts → Ends words facts → IsLawfulFacts (facts_after facts words)
behind_lawful words facts lawful ends =
    let ring = facts.areas.ring in
    let in_ring = lawful.get in
    let most = ends.ends in
    record {
      areas = lawful.areas;
      get = wraps ring (facts.get + size_of (header_in words)) (omega arith) most;
      fetched = ends.quota;
    }
  where
    wraps : (ring end : ℕ) → 0 < ring → end ≤ ring → (if end == ring then 0 else end) < ring
    wraps ring end some le = grind (arith, nat_tests)

-- ---- one member more

pub chained_more : (facts : StreamFacts) (members : List FetchedData) (member : FetchedData) → AreChained facts members → member.facts ≡ facts_behind facts (member_words members) → AreChained facts (members ++ member ∷ [])
chained_more facts [] member chained at = (at, tt)
chained_more facts (m ∷ ms) member chained at = (chained.0, chained_more (facts_after facts m.words) ms member chained.1 at)

pub behind_more : (facts : StreamFacts) (words : List (List (ℕ × ℕ))) (last : List (ℕ × ℕ)) → facts_behind facts (words ++ last ∷ []) ≡ facts_after (facts_behind facts words) last
behind_more facts [] last = refl
behind_more facts (w ∷ ws) last = behind_more (facts_after facts w) ws last

pub member_words_more : (members : List FetchedData) (member : FetchedData) → member_words (members ++ member ∷ []) ≡ member_words members ++ member.words ∷ []
member_words_more members member = map-append (λ (m : FetchedData). m.words) members (member ∷ [])

pub batch_words_more : (members : List FetchedData) (member : FetchedData) → batch_words (members ++ member ∷ []) ≡ batch_words members ++ member.words
batch_words_more members member = sym (flat_map_more (λ (m : FetchedData). m.words) [] members member)

pub all_more : {X : Type 0} (P : X → Type 0) (xs : List X) (x : X) → All P xs → P x → All P (xs ++ x ∷ [])
all_more P xs x all one = All-append P xs (x ∷ []) all (All-cons P x [] one (All-nil P))

pub ends_exactly : (members : List FetchedData) (member : FetchedData) → length members < most_members → All (λ m. is_last m ≡ false) members → (is_last member ≡ true) ⊎ (length members + 1 ≡ most_members) → EndsExactly (members ++ member ∷ [])
ends_exactly members member few goes_on ends =
    let long : length (members ++ member ∷ []) ≡ length members + 1 = length-append members (member ∷ []) in
    let at : length (members ++ member ∷ []) - 1 ≡ length members = omega (arith, long) in
    let first : take (length (members ++ member ∷ []) - 1) (members ++ member ∷ []) ≡ members = ap (λ (n : ℕ). take n (members ++ member ∷ [])) at ∙ take-append_seam members (member ∷ []) in
    let last : slice_get (members ++ member ∷ []) (length (members ++ member ∷ []) - 1) ≡ Some member = ap (slice_get (members ++ member ∷ [])) at ∙ found_behind members member in
    record {
      some = omega (arith, long);
      few = omega (arith, long);
      before = subst (All (λ (m : FetchedData). is_last m ≡ false)) (sym first) goes_on;
      last = subst (λ (o : Option FetchedData). IfSome o (λ (m : FetchedData). (is_last m ≡ true) ⊎ (length (members ++ member ∷ []) ≡ most_members))) (sym last)
          (subst (λ (n : ℕ). (is_last member ≡ true) ⊎ (n ≡ most_members)) (sym long) ends);
    }

-- ---- members that were fetched so far, at none of which the batch ends

pub record Gathered (S : ℕ × ℕ → Type 0) (old new : SideData) (first next : StreamFacts) (members : List FetchedData) : Type 0 where
  pub few : length members < most_members
  pub chained : AreChained first members
  pub copies : All IsFetched members
  pub goes_on : All (λ member. is_last member ≡ false) members
  pub whole : SideFetches S old new (batch_words members)
  pub next_is : next ≡ facts_behind first (member_words members)
  pub lawful : IsLawfulFacts next
  pub more : next.get ≢ next.put
  pub areas : next.areas ≡ new.plan.areas

pub gathered_none : (S : ℕ × ℕ → Type 0) (old : SideData) (facts : StreamFacts) → IsLawfulFacts facts → facts.get ≢ facts.put → facts.areas ≡ old.plan.areas → Gathered S old old facts facts []
gathered_none S old facts lawful more areas = record {
  few = omega arith;
  chained = tt;
  copies = All-nil IsFetched;
  goes_on = All-nil (λ (m : FetchedData). is_last m ≡ false);
  whole = finds_none S old old refl;
  next_is = refl;
  lawful = lawful;
  more = more;
  areas = areas;
}

-- the side fetched one command more
pub record Fetched (S : ℕ × ℕ → Type 0) (between new : SideData) (next : StreamFacts) (member : FetchedData) : Type 0 where
  pub facts : member.facts ≡ next
  pub fetches : SideFetches S between new member.words
  pub copy : IsCopy member.words member.facts member.verdict

module _ {S : ℕ × ℕ → Type 0} {old between : SideData} {first next : StreamFacts} {members : List FetchedData} (were : Gathered S old between first next members) (new : SideData) where
  -- a further command was not fetched whole
  pub gathered_part : FetchesSome between new next → FetchesInPart old new first
  gathered_part some = record {
    members = members;
    between = between;
    few = were.few;
    chained = were.chained;
    copies = were.copies;
    goes_on = were.goes_on;
    whole = were.whole.fetches;
    part = subst (FetchesSome between new) were.next_is some;
  }

  module _ (member : FetchedData) (one : Fetched S between new next member) where
    pub whole_more : SideFetches S old new (batch_words (members ++ member ∷ []))
    whole_more = subst (SideFetches S old new) (sym (batch_words_more members member)) (finds_then were.whole one.fetches)

    pub links_more : AreChained first (members ++ member ∷ [])
    links_more = chained_more first members member were.chained (one.facts ∙ were.next_is)

    pub copies_more : All IsFetched (members ++ member ∷ [])
    copies_more = all_more IsFetched members member were.copies record {
      lawful = subst IsLawfulFacts (sym one.facts) were.lawful;
      more = subst (λ (f : StreamFacts). f.get ≢ f.put) (sym one.facts) were.more;
      copy = one.copy;
    }

    -- a batch does not end at it
    pub gathered_more : (behind : StreamFacts) → behind ≡ facts_after member.facts member.words → IsLawfulFacts behind → behind.get ≢ behind.put → is_last member ≡ false → length members + 1 < most_members → Gathered S old new first behind (members ++ member ∷ [])
    gathered_more behind is lawful more goes_on few = record {
      few = (let long = length-append members (member ∷ []) in omega (arith, long, few));
      chained = links_more;
      copies = copies_more;
      goes_on = all_more (λ (m : FetchedData). is_last m ≡ false) members member were.goes_on goes_on;
      whole = whole_more;
      next_is = is ∙ ap (λ (f : StreamFacts). facts_after f member.words) (one.facts ∙ were.next_is) ∙ sym (behind_more first (member_words members) member.words) ∙ ap (facts_behind first) (sym (member_words_more members member));
      lawful = lawful;
      more = more;
      areas = ap (λ (f : StreamFacts). f.areas) is ∙ ap (λ (f : StreamFacts). f.areas) one.facts ∙ were.areas ∙ ap (λ (s : SideData). s.plan.areas) (sym one.fetches.fetches.grows);
    }

    -- it was fetched, and no room is found for it
    pub gathered_lost : FetchesInPart old new first
    gathered_lost = gathered_part record {
      words = member.words;
      rest = [];
      fetches = one.fetches.fetches;
      first = subst (λ (f : StreamFacts). fetched_places member.words f ≡ places_listed member.words ++ []) one.facts (sym one.copy.places ∙ sym (append-nil (places_listed member.words)));
    }

-- ---- a command whose words stand after those of the others

-- how many there are
pub parts_long : (list : List (ℕ × ℕ)) (parts : List FetchedPart) → length (parts_of list parts) ≡ length parts
parts_long list [] = refl
parts_long list (part ∷ parts) = ap suc (parts_long (drop part.count list) parts)

-- one command more was fetched onto the list, and is reported after the others
pub record IsOneMore (S : ℕ × ℕ → Type 0) (old between new : SideData) (first next : StreamFacts) (list longer : List (ℕ × ℕ)) (parts again : List FetchedPart) (part : FetchedPart) : Type 0 where
  pub were : Gathered S old between first next (parts_of list parts)
  pub full : words_of_parts parts ≡ length list
  pub fetched : FetchesCommand S between new next list longer part.verdict
  pub facts : part.facts.value ≡ next
  pub pushed : again ≡ parts ++ part ∷ []
  pub counted : part.count ≡ length longer - length list

module _ {S : ℕ × ℕ → Type 0} {old between new : SideData} {first next : StreamFacts} {list longer : List (ℕ × ℕ)} {parts again : List FetchedPart} {part : FetchedPart} (more : IsOneMore S old between new first next list longer parts again part) where
  abbrev last_member : FetchedData
  last_member = record { words = items_since list longer; verdict = part.verdict; facts = next }

  one_fetched : Fetched S between new next last_member
  one_fetched = record { facts = refl; fetches = more.fetched.fetches; copy = more.fetched.copy }

  pub parts_are : parts_of longer again ≡ parts_of list parts ++ last_member ∷ []
  parts_are =
      ap (parts_of longer) more.pushed ∙ parts_more list longer parts part more.full more.fetched.adds more.counted
      ∙ ap (λ (f : StreamFacts). parts_of list parts ++ record { words = items_since list longer; verdict = part.verdict; facts = f } ∷ []) more.facts

  pub parts_whole : words_of_parts again ≡ length longer
  parts_whole = ap words_of_parts more.pushed ∙ words_whole list longer parts part more.full more.fetched.adds more.counted

  pub parts_copies : All IsFetched (parts_of longer again)
  parts_copies = subst (All IsFetched) (sym parts_are) (copies_more more.were new last_member one_fetched)

  pub parts_chained : AreChained first (parts_of longer again)
  parts_chained = subst (AreChained first) (sym parts_are) (links_more more.were new last_member one_fetched)

  pub parts_fetched : SideFetches S old new (batch_words (parts_of longer again))
  parts_fetched = subst (λ (l : List FetchedData). SideFetches S old new (batch_words l)) (sym parts_are) (whole_more more.were new last_member one_fetched)

  pub parts_longer : length again ≡ length (parts_of list parts) + 1
  parts_longer = ap length more.pushed ∙ length-append parts (part ∷ []) ∙ ap (λ (n : ℕ). n + 1) (sym (parts_long list parts))

  -- its words, as they are read
  module _ {words : List (ℕ × ℕ)} (read : words ≡ items_since list longer) where
    -- the batch goes on after it
    pub parts_go_on : (behind : StreamFacts) → behind ≡ facts_after next words → IsLawfulFacts behind → behind.get ≢ behind.put → ends_by part.verdict (facts_after next words) ≡ false → length again < most_members → Gathered S old new first behind (parts_of longer again)
    parts_go_on behind is lawful going goes_on few =
        let same : facts_after next words ≡ facts_after next (items_since list longer) = ap (facts_after next) read in
        let long = parts_longer in
        subst (Gathered S old new first behind) (sym parts_are)
        (gathered_more more.were new last_member one_fetched behind (is ∙ same) lawful going (ap (ends_by part.verdict) (sym same) ∙ goes_on) (omega (arith, long, few)))

    -- it ends at it
    pub parts_end : (ends_by part.verdict (facts_after next words) ≡ true) ⊎ (length again ≡ most_members) → EndsExactly (parts_of longer again)
    parts_end ends =
        let same : facts_after next words ≡ facts_after next (items_since list longer) = ap (facts_after next) read in
        let long = parts_longer in
        subst EndsExactly (sym parts_are)
        (ends_exactly (parts_of list parts) last_member more.were.few more.were.goes_on (⊎_elim (λ e. inl (ap (ends_by part.verdict) (sym same) ∙ e)) (λ n. inr (omega (arith, long, n))) ends))

-- ---- what a run keeps while a batch is fetched

module _ {Side Note : Type 0} (side : Side → SideData) (table : Side → TableId) (mark : Note → ℕ) (note_of : Note → TableId → Type 0) (p : PlansData) (tables books : ℕ → TableId) (run : RunData) where
  -- a fetch of a batch, whole or in part
  pub batch_fetched : {Error : Type 0} (S : ℕ × ℕ → Type 0) (x y : Side) (facts : StreamFacts) (result : Result (List FetchedData) Error) → run.facts.get ≢ run.facts.put → RunFits side table mark note_of p tables books run x None → table y ≡ table x
      → IfOk result (λ batch. SideFetches S (side x) (side y) (batch_words batch)) → IfErr result (λ _. FetchesInPart (side x) (side y) facts) → RunFits side table mark note_of p tables books run y None
  batch_fetched S x y facts (Ok batch) going fits same whole part = fetched_again side table mark note_of p tables books run x y (batch_words batch) going fits whole.fetches same
  batch_fetched S x y facts (Err error) going fits same whole part =
      fetched_again side table mark note_of p tables books run x y (batch_words part.members ++ part.part.words) going fits (fetches_then part.whole part.part.fetches) same
