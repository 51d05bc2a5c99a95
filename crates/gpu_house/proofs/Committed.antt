-- A batch while it is committed: what its loop keeps, and what it leaves.
use Rattle.std.proofs.Common.{◌≡◌, ◌≢◌, ℕ, zero, suc, ◌+◌, ◌-◌, ◌<◌, Bool, true, false, Option, List, [], ◌∷◌, ◌++◌, length, drop, refl, sym, ap, subst, ◌∙◌, arith, append_assoc, length-append, length-drop, option_map, ◌≤◌}
use Rattle.std.specs.Prelude.{◌||◌, IfSome, IsOk, option_to_list, slice_set}
use Rattle.std.specs.List.{All}
use Rattle.std.proofs.Math.Seq.{drop-append_seam}
use Rattle.std.proofs.lemmas.List.{append-nil, map-append}
use Rattle.std.proofs.lemmas.List.Elements.{All-head, All-tail}
use Rattle.gpu_cmd.specs.declared.facts.StreamFacts.{StreamFacts}
use Rattle.gpu_store.specs.declared.op.Op.{Op}
use Rattle.gpu_plan.specs.Plans.{PlansData}
use Rattle.gpu_fetch.specs.Side.{SideData}
use Rattle.gpu_fetch.specs.Fetched.{FetchedData, IsFetched}
use Rattle.sync_core.specs.Standing.{is_open}
use Rattle.gpu_journal.specs.declared.event.Event.{Event}
use Rattle.gpu_journal.specs.declared.event.Event.TheVariants.{Step}
use Rattle.gpu_journal.specs.World.{replay}
use Rattle.gpu_journal.specs.Waits.{standing_of}
use Rattle.gpu_journal.specs.Facts.{verdict_at}
use Rattle.serial_laws.specs.Runs.{step_keeps}
use Rattle.serial_laws.proofs.Runs.{step_open}
use Rattle.house_core.specs.Core.{IsRunOf, with_out}
use Rattle.house_core.specs.Desks.{Out}
use Rattle.gpu_house.specs.declared.answers.Next.{Next}
use Rattle.gpu_house.specs.declared.answers.Next.TheVariants.{More, Paused, FlushEnd, Invalid, Lost, Closed}
use Rattle.gpu_house.specs.House.{OutData}
use Rattle.gpu_house.specs.declared.answers.Progress.{Progress}
use Rattle.gpu_house.specs.Changes.{ResultsBelong, WroteResults, met_by}
use Rattle.gpu_house.specs.Steps.{Steps, IsRunStepDone, told_side, asked_at}
use Rattle.gpu_house.specs.Drawing.{drawn_at, drawn_if}
use Rattle.gpu_house.specs.Batches.{facts_after, member_words, batch_words, AreChained, AreNext, EndsExactly}
use Rattle.gpu_house.specs.Stepping.{MayStep, MayCommit, KeepsBeside, TookStep}
use Rattle.gpu_house.specs.Committing.{journal_stepped, drawn_by_steps, IsMovedOver, TellsDrawn, IsOverBy, Stage, AreDone, IsStill, HaveGone, GoneInPart, Commits, is_executed}
use Rattle.gpu_house.proofs.Members.{member_words_more}
use Rattle.gpu_house.proofs.Going.{not_lost, not_closed}
use Rattle.gpu_house.proofs.Parts.{drop-drop}
use Rattle.gpu_house.proofs.Quiet.{Passes, passes, quiet, GoOn, go_on, go_on_behind}
use Rattle.gpu_house.proofs.Chains.{stepped_more, valid_more, keeps_more, told_more, drawn_more, facts_is, moved_one, moved_more, tells_none, tells_one, tells_then}

set_twice : {X : Type 0} (xs : List X) (i : ℕ) (x y : X) → slice_set (slice_set xs i x) i y ≡ slice_set xs i y
set_twice [] i x y = refl
set_twice (z ∷ xs) zero x y = refl
set_twice (z ∷ xs) (suc i) x y = ap (λ (l : List _). z ∷ l) (set_twice xs i x y)

none_more : (b : Bool) → (b || false) ≡ b
none_more true = refl
none_more false = refl

module _ {Side Note Results : Type 0} (side : Side → SideData) (mark : Note → ℕ) (p : PlansData) where
  abbrev Done : Stage Side Note Results → Stage Side Note Results → List (ℕ × ℕ) → Bool → Type 0
  Done old new words paused = IsRunStepDone side mark p old.house new.house old.out new.out words paused

  -- what one step told, as it is listed
  abbrev Lists : Stage Side Note Results → Stage Side Note Results → List (ℕ × ℕ) → Type 0
  Lists old new words = new.drawn ≡ old.drawn ++ option_to_list (drawn_at p old.house.core.past old.out.run.stream words)

  -- ---- one step more

  done_one : (old new : Stage Side Note Results) (words : List (ℕ × ℕ)) (paused : Bool) → Done old new words paused → Lists old new words → AreDone side mark p old new (words ∷ []) paused
  done_one old new words paused done lists = record {
    still_open = done.still_open;
    valid = (done.valid, tt);
    kept = done.kept ∙ sym (none_more (step_keeps p old.house.core.past old.out.run.stream (asked_at p old.house.core.past old.out.run.stream words)));
    events = done.event;
    moved = moved_one old.out.run new.out.run words paused done.moved;
    run = done.run;
    outs = done.outs;
    told = done.told;
    met = done.met;
    drawn = lists ∙ ap (λ (l : List Op). old.drawn ++ l) (sym (append-nil (option_to_list (drawn_at p old.house.core.past old.out.run.stream words))));
  }

  done_more : (old mid new : Stage Side Note Results) (ws : List (List (ℕ × ℕ))) (words : List (ℕ × ℕ)) (paused : Bool) → AreDone side mark p old mid ws false → Done mid new words paused → Lists mid new words → AreDone side mark p old new (ws ++ words ∷ []) paused
  done_more old mid new ws words paused were done lists =
      let s = old.out.run.stream in
      let h = old.house.core.past in
      let stream : mid.out.run.stream ≡ s = were.moved.stream in
      let order : mid.out.run.order ≡ old.out.run.order = were.moved.order in
      let out : Out = record { order = old.out.run.order; paused = paused } in
      let here : (F : List Event → ℕ → Type 0) → F mid.house.core.past mid.out.run.stream → F (journal_stepped s ws h) s = λ F f. subst (λ (g : List Event). F g s) were.events (subst (F mid.house.core.past) stream f) in
      let kept : paused ≡ step_keeps p (journal_stepped s ws h) s (asked_at p (journal_stepped s ws h) s words) = here (λ g t. paused ≡ step_keeps p g t (asked_at p g t words)) done.kept in
      let told : side new.out.side ≡ told_side (asked_at p (journal_stepped s ws h) s words) (met_by (option_map mark mid.out.note) (side mid.out.side)) = here (λ g t. side new.out.side ≡ told_side (asked_at p g t words) (met_by (option_map mark mid.out.note) (side mid.out.side))) done.told in
      let unmet : met_by (option_map mark mid.out.note) (side mid.out.side) ≡ side mid.out.side = ap (λ (o : Option Note). met_by (option_map mark o) (side mid.out.side)) were.met in
      let listed : new.drawn ≡ mid.drawn ++ option_to_list (drawn_at p (journal_stepped s ws h) s words) = here (λ g t. new.drawn ≡ mid.drawn ++ option_to_list (drawn_at p g t words)) lists in
      record {
        still_open = were.still_open;
        valid = valid_more p s words ws h were.valid (here (λ g t. IsOk (verdict_at p g t words)) done.valid);
        kept = kept ∙ ap (λ (b : Bool). b || step_keeps p (journal_stepped s ws h) s (asked_at p (journal_stepped s ws h) s words)) were.kept ∙ sym (keeps_more p s words ws h);
        events = here (λ g t. new.house.core.past ≡ Step t words ∷ g) done.event ∙ sym (stepped_more p s words ws h);
        moved = moved_more old.out.run mid.out.run new.out.run ws words false paused were.moved done.moved;
        run = done.run;
        outs = subst (λ (n : ℕ). new.house.core.outs ≡ with_out mid.house.core.outs s record { order = n; paused = paused }) order (subst (λ (t : ℕ). new.house.core.outs ≡ with_out mid.house.core.outs t record { order = mid.out.run.order; paused = paused }) stream done.outs)
            ∙ ap (λ (outs : List Out). with_out outs s out) were.outs ∙ set_twice old.house.core.outs (s - 1) record { order = old.out.run.order; paused = false } out;
        told = told ∙ ap (told_side (asked_at p (journal_stepped s ws h) s words)) (unmet ∙ were.told) ∙ sym (told_more p s words ws h (met_by (option_map mark old.out.note) (side old.out.side)));
        met = done.met;
        drawn = listed ∙ ap (λ (l : List Op). l ++ option_to_list (drawn_at p (journal_stepped s ws h) s words)) were.drawn ∙ append_assoc old.drawn (drawn_by_steps p s ws h) (option_to_list (drawn_at p (journal_stepped s ws h) s words))
            ∙ ap (λ (l : List Op). old.drawn ++ l) (sym (drawn_more p s words ws h));
      }

  -- these steps were made so far
  abbrev Gone : Stage Side Note Results → Stage Side Note Results → List (List (ℕ × ℕ)) → Type 0
  Gone old now [] = now ≡ old
  Gone old now (words ∷ more) = AreDone side mark p old now (words ∷ more) false

  gone_more : (old mid new : Stage Side Note Results) (ws : List (List (ℕ × ℕ))) (words : List (ℕ × ℕ)) (paused : Bool) → Gone old mid ws → Done mid new words paused → Lists mid new words → AreDone side mark p old new (ws ++ words ∷ []) paused
  gone_more old mid new [] words paused same done lists = done_one old new words paused (subst (λ (x : Stage Side Note Results). Done x new words paused) same done) (subst (λ (x : Stage Side Note Results). Lists x new words) same lists)
  gone_more old mid new (w ∷ ws) words paused were done lists = done_more old mid new (w ∷ ws) words paused were done lists

  gone_on : (old new : Stage Side Note Results) (ws : List (List (ℕ × ℕ))) (words : List (ℕ × ℕ)) → AreDone side mark p old new (ws ++ words ∷ []) false → Gone old new (ws ++ words ∷ [])
  gone_on old new [] words done = done
  gone_on old new (w ∷ ws) words done = done

  -- as contracts say it
  still_same : (x : Stage Side Note Results) → IsStill x x
  still_same x = record { house = record { past = refl; outs = refl; slots = refl; results = refl }; out = refl; drawn = refl }

  have_gone : (old now : Stage Side Note Results) (ws : List (List (ℕ × ℕ))) → Gone old now ws → HaveGone side mark p old now ws
  have_gone old now [] same = subst (λ (x : Stage Side Note Results). IsStill old x) (sym same) (still_same old)
  have_gone old now (w ∷ ws) done = done

  -- and where nothing has changed since
  gone_still : (old mid new : Stage Side Note Results) (ws : List (List (ℕ × ℕ))) → Gone old mid ws → IsStill mid new → HaveGone side mark p old new ws
  gone_still old mid new [] same still = subst (λ (x : Stage Side Note Results). IsStill x new) same still
  gone_still old mid new (w ∷ ws) were still = record {
    still_open = were.still_open;
    valid = were.valid;
    kept = were.kept;
    events = still.house.past ∙ were.events;
    moved = subst (λ (o : OutData Side Note). IsMovedOver old.out.run o.run (w ∷ ws) false) (sym still.out) were.moved;
    run = subst (λ (h : List Event). IsRunOf p h new.out.run) (sym still.house.past) (subst (λ (o : OutData Side Note). IsRunOf p mid.house.core.past o.run) (sym still.out) were.run);
    outs = still.house.outs ∙ were.outs;
    told = ap (λ (o : OutData Side Note). side o.side) still.out ∙ were.told;
    met = ap (λ (o : OutData Side Note). o.note) still.out ∙ were.met;
    drawn = still.drawn ∙ were.drawn;
  }

module _ {Side Note Results Words : Type 0} (side : Side → SideData) (mark : Note → ℕ) (belongs : Side → Words → Type 0) (note_belongs : Side → Words → Note → Type 0) (results_belong : Words → Results → Type 0) (p : PlansData) (words : Words) where
  -- ---- what each call keeps

  abbrev Beside : Stage Side Note Results → Stage Side Note Results → Type 0
  Beside old new = KeepsBeside side belongs note_belongs results_belong words old.house new.house old.out new.out

  pub record Kept (old new : Stage Side Note Results) : Type 0 where
    pub rest : Beside old new
    pub draws : TellsDrawn (replay p old.house.core.past) (replay p new.house.core.past) old.drawn new.drawn

  pub kept_none : (x : Stage Side Note Results) → belongs x.out.side words → ResultsBelong results_belong words x.house.results x.out.run.stream → Kept x x
  kept_none x beside results = record {
    rest = record { slots = refl; results = record { belong = results; others = λ t apart. refl }; still = record { beside = beside; notes = λ n its. its }; list = refl };
    draws = tells_none (replay p x.house.core.past) x.drawn;
  }

  kept_then : (old mid new : Stage Side Note Results) → mid.out.run.stream ≡ old.out.run.stream → Kept old mid → Kept mid new → Kept old new
  kept_then old mid new stream first second = record {
    rest =
        let one = first.rest in
        let two = second.rest in
        let wrote = subst (WroteResults results_belong words mid.house.results new.house.results) stream two.results in
        record {
          slots = two.slots ∙ one.slots;
          results = record { belong = wrote.belong; others = λ t apart. wrote.others t apart ∙ one.results.others t apart };
          still = record { beside = two.still.beside; notes = λ n its. two.still.notes n (one.still.notes n its) };
          list = two.list ∙ one.list;
        };
    draws = tells_then (replay p old.house.core.past) (replay p mid.house.core.past) (replay p new.house.core.past) old.drawn mid.drawn new.drawn first.draws second.draws;
  }

  -- ---- what one member's step did

  pub record Took (old new : Stage Side Note Results) (member : FetchedData) (progress : Progress) : Type 0 where
    pub step : TookStep side mark p old.house new.house old.out new.out member.words progress
    pub rest : Beside old new
    pub listed : new.drawn ≡ old.drawn ++ option_to_list progress.drawn

  -- ---- what the loop keeps

  pub record Stands (old now : Stage Side Note Results) (done rest : List FetchedData) : Type 0 where
    pub gone : Gone side mark p old now (member_words done)
    pub still_open : is_open (standing_of p now.house.core.past now.out.run.stream) ≡ true
    pub going : now.out.run.paused ≡ false
    pub chained : AreChained now.out.run.facts rest
    pub copies : All IsFetched rest
    pub goes_on : GoOn rest
    pub next : drop now.out.run.facts.fetched (side now.out.side).fetched ≡ batch_words rest
    pub long : length (side now.out.side).fetched ≡ now.out.run.facts.fetched + length (batch_words rest)
    pub ends : rest ≡ [] → now.out.run.facts.get ≢ now.out.run.facts.put
    pub stream : now.out.run.stream ≡ old.out.run.stream
    pub note : IfSome now.out.note (note_belongs now.out.side words)
    pub kept : Kept old now

  -- at its beginning
  pub stands_first : (x : Stage Side Note Results) (members : List FetchedData) → is_open (standing_of p x.house.core.past x.out.run.stream) ≡ true → MayCommit side belongs note_belongs results_belong words x.house x.out members → All IsFetched members → EndsExactly members
      → x.out.run.facts.fetched ≤ length (side x.out.side).fetched → Stands x x [] members
  stands_first x members still_open may copies exact low = record {
    gone = refl;
    still_open = still_open;
    going = may.going;
    chained = may.chained;
    copies = copies;
    goes_on = go_on members exact;
    next = may.list;
    long = (let n = length-drop x.out.run.facts.fetched (side x.out.side).fetched in let k = ap length may.list in omega (arith, n, k, low));
    ends = λ none. (let some = exact.some in let is = ap length none in absurd (omega (arith, some, is)));
    stream = refl;
    note = may.note;
    kept = kept_none x may.beside may.results;
  }

  module _ {old now : Stage Side Note Results} {done : List FetchedData} {member : FetchedData} {rest : List FetchedData} (st : Stands old now done (member ∷ rest)) where
    -- the facts after the member are those of its run
    behind : facts_after member.facts member.words ≡ facts_after now.out.run.facts member.words
    behind = ap (λ (f : StreamFacts). facts_after f member.words) st.chained.0

    -- where members stand after it, no batch ends at it
    passed_on : (next : FetchedData) (more : List FetchedData) → rest ≡ next ∷ more → Passes member
    passed_on next more is = passes member (subst (λ (l : List FetchedData). GoOn (member ∷ l)) is st.goes_on).0

    are_next : AreNext now.out.run.facts (side now.out.side).fetched member.words
    are_next = record { rest = batch_words rest; next = st.next; ended = λ end. by rest refl end }
      where
        by : (l : List FetchedData) → rest ≡ l → (facts_after now.out.run.facts member.words).get ≡ now.out.run.facts.put → batch_words l ≡ []
        by [] is end = refl
        by (n ∷ more) is end = absurd ((passed_on n more is).more (ap (λ (f : StreamFacts). f.get) behind ∙ end ∙ ap (λ (f : StreamFacts). f.put) (sym st.chained.0)))

    -- what the next step asks for
    pub may_step : MayStep side belongs note_belongs results_belong words now.house now.out member
    may_step = record {
      going = st.going;
      facts = st.chained.0;
      list = are_next;
      beside = st.kept.rest.still.beside;
      note = st.note;
      results = subst (ResultsBelong results_belong words now.house.results) (sym st.stream) st.kept.rest.results.belong;
    }

    module _ {new : Stage Side Note Results} {progress : Progress} (took : Took now new member progress) where
      -- what it drew is listed
      drawn_is : new.drawn ≡ now.drawn ++ option_to_list (drawn_if progress.next (drawn_at p now.house.core.past now.out.run.stream member.words))
      drawn_is = took.listed ∙ ap (λ (drawn : Option Op). now.drawn ++ option_to_list drawn) took.step.drawn

      kept_now : Kept now new
      kept_now = record { rest = took.rest; draws = tells_one (replay p now.house.core.past) (replay p new.house.core.past) now.drawn new.drawn progress.drawn took.listed took.step.draws }

      -- the step was executed
      abbrev Made : Bool → Type 0
      Made paused = IsRunStepDone side mark p now.house new.house now.out new.out member.words paused

      -- all words of the member are after the run
      long_after : (paused : Bool) → Made paused → length (side new.out.side).fetched ≡ new.out.run.facts.fetched + length (batch_words rest)
      long_after paused made =
          let long : length (side now.out.side).fetched ≡ now.out.run.facts.fetched + length (member.words ++ batch_words rest) = st.long in
          let split = length-append member.words (batch_words rest) in
          let moved = made.moved.fetched in
          let same = ap length took.rest.list in
          omega (arith, long, split, moved, same)

      next_after : (paused : Bool) → Made paused → drop new.out.run.facts.fetched (side new.out.side).fetched ≡ batch_words rest
      next_after paused made =
          let from = now.out.run.facts.fetched in
          let list = (side now.out.side).fetched in
          ap (drop new.out.run.facts.fetched) took.rest.list ∙ ap (λ (n : ℕ). drop n list) made.moved.fetched ∙ sym (drop-drop from (length member.words) list)
          ∙ ap (drop (length member.words)) st.next ∙ drop-append_seam member.words (batch_words rest)

      -- the list of members as far as this one
      these : member_words done ++ member.words ∷ [] ≡ member_words (done ++ member ∷ [])
      these = sym (member_words_more done member)

      -- ---- the run goes on

      pub goes_on : progress.next ≡ More → Stands old new (done ++ member ∷ []) rest
      goes_on is =
          let made : Made false = subst (λ (n : Next). Steps side mark p now.house new.house now.out new.out member.words n) is took.step.steps in
          let lists : new.drawn ≡ now.drawn ++ option_to_list (drawn_at p now.house.core.past now.out.run.stream member.words) = subst (λ (n : Next). new.drawn ≡ now.drawn ++ option_to_list (drawn_if n (drawn_at p now.house.core.past now.out.run.stream member.words))) is drawn_is in
          let all = gone_more side mark p old now new (member_words done) member.words false st.gone made lists in
          let s = now.out.run.stream in
          record {
            gone = subst (Gone side mark p old new) these (gone_on side mark p old new (member_words done) member.words all);
            still_open = ap (λ (t : ℕ). is_open (standing_of p new.house.core.past t)) made.moved.stream ∙ ap (λ (h : List Event). is_open (standing_of p h s)) made.event ∙ step_open p now.house.core.past s member.words ∙ st.still_open;
            going = made.moved.paused;
            chained = subst (λ (f : StreamFacts). AreChained f rest) (sym (facts_is now.out.run new.out.run member.words false made.moved)) st.chained.1;
            copies = All-tail IsFetched member rest st.copies;
            goes_on = go_on_behind member rest st.goes_on;
            next = next_after false made;
            long = long_after false made;
            ends = λ none. took.step.end.1 is;
            stream = made.moved.stream ∙ st.stream;
            note = subst (λ (o : Option Note). IfSome o (note_belongs new.out.side words)) (sym made.met) tt;
            kept = kept_then old now new st.stream st.kept kept_now;
          }

      -- ---- the run stops

      pub kept_at : Kept old new
      kept_at = kept_then old now new st.stream st.kept kept_now

      -- the members after one that stops the batch are none
      none_behind : (paused : Bool) → Made paused → ((member_passes : Passes member) → ⊥) → rest ≡ []
      none_behind paused made off = by rest refl
        where
          by : (l : List FetchedData) → rest ≡ l → l ≡ []
          by [] is = refl
          by (n ∷ more) is = absurd (off (passed_on n more is))

      paused_last : Made true → rest ≡ []
      paused_last made = none_behind true made (λ passed. (let none = quiet p now.house.core.past now.out.run.stream member (All-head IsFetched member rest st.copies) passed in let kept = made.kept in absurd (cc)))

      ended_last : Made false → new.out.run.facts.get ≡ new.out.run.facts.put → rest ≡ []
      ended_last made end = none_behind false made (λ passed. passed.more (ap (λ (f : StreamFacts). f.get) behind ∙ sym made.moved.get ∙ end ∙ made.moved.put ∙ ap (λ (f : StreamFacts). f.put) (sym st.chained.0)))

      -- all members were executed
      all_done : (paused : Bool) → Made paused → new.drawn ≡ now.drawn ++ option_to_list (drawn_at p now.house.core.past now.out.run.stream member.words) → rest ≡ [] → AreDone side mark p old new (member_words (done ++ member ∷ rest)) paused
      all_done paused made lists none =
          subst (λ (l : List FetchedData). AreDone side mark p old new (member_words (done ++ member ∷ l)) paused) (sym none)
          (subst (λ (ws : List (List (ℕ × ℕ))). AreDone side mark p old new ws paused) these (gone_more side mark p old now new (member_words done) member.words paused st.gone made lists))

      pub commits : progress.next ≢ More → Commits side mark p old new (member_words (done ++ member ∷ rest)) progress.next
      commits stops = by progress.next refl stops took.step.steps took.step.end drawn_is
        where
          by : (n : Next) → progress.next ≡ n → n ≢ More → Steps side mark p now.house new.house now.out new.out member.words n
              → (n ≡ FlushEnd → new.out.run.facts.get ≡ new.out.run.facts.put) × (n ≡ More → new.out.run.facts.get ≢ new.out.run.facts.put)
              → new.drawn ≡ now.drawn ++ option_to_list (drawn_if n (drawn_at p now.house.core.past now.out.run.stream member.words)) → Commits side mark p old new (member_words (done ++ member ∷ rest)) n
          by More is stops steps end drawn = absurd (stops refl)
          by Paused is stops steps end drawn = all_done true steps drawn (paused_last steps)
          by FlushEnd is stops steps end drawn = all_done false steps drawn (ended_last steps (end.0 refl))
          by (Invalid error) is stops steps end drawn = record {
            first = member_words done;
            words = member.words;
            rest = member_words rest;
            those = map-append (λ (m : FetchedData). m.words) done (member ∷ rest);
            between = now;
            gone = have_gone side mark p old now (member_words done) st.gone;
            refused = steps;
            drawn = drawn ∙ append-nil now.drawn;
          }
          by Lost is stops steps end drawn = absurd (not_lost (standing_of p now.house.core.past now.out.run.stream) st.still_open steps.is_over)
          by Closed is stops steps end drawn = absurd (not_closed (standing_of p now.house.core.past now.out.run.stream) st.still_open steps.is_over.1)

      pub ready : progress.next ≢ More → is_executed progress.next ≡ true → length (side new.out.side).fetched ≡ new.out.run.facts.fetched
      ready stops executed = by progress.next stops executed took.step.steps took.step.end
        where
          whole : (paused : Bool) → Made paused → rest ≡ [] → length (side new.out.side).fetched ≡ new.out.run.facts.fetched
          whole paused made none = let long = long_after paused made in let no = ap (λ (l : List FetchedData). length (batch_words l)) none in omega (arith, long, no)

          by : (n : Next) → n ≢ More → is_executed n ≡ true → Steps side mark p now.house new.house now.out new.out member.words n
              → (n ≡ FlushEnd → new.out.run.facts.get ≡ new.out.run.facts.put) × (n ≡ More → new.out.run.facts.get ≢ new.out.run.facts.put) → length (side new.out.side).fetched ≡ new.out.run.facts.fetched
          by More stops executed steps end = absurd (stops refl)
          by Paused stops executed steps end = whole true steps (paused_last steps)
          by FlushEnd stops executed steps end = whole false steps (ended_last steps (end.0 refl))
          by (Invalid error) stops executed steps end = absurd (cc)
          by Lost stops executed steps end = absurd (cc)
          by Closed stops executed steps end = absurd (cc)

    -- memory ran out for the step
    pub in_part : (new : Stage Side Note Results) → IsStill now new → GoneInPart side mark p old new (member_words (done ++ member ∷ rest))
    in_part new still = record {
      first = member_words done;
      rest = member_words (member ∷ rest);
      those = map-append (λ (m : FetchedData). m.words) done (member ∷ rest);
      gone = gone_still side mark p old now new (member_words done) st.gone still;
    }

  -- ---- no member is left

  pub all_gone : (old now : Stage Side Note Results) (done rest : List FetchedData) → Stands old now done rest → rest ≡ [] → 0 < length (done ++ rest) → AreDone side mark p old now (member_words (done ++ rest)) false
  all_gone old now done rest st none some =
      subst (λ (l : List FetchedData). AreDone side mark p old now (member_words (done ++ l)) false) (sym none)
      (subst (λ (l : List FetchedData). AreDone side mark p old now (member_words l) false) (sym (append-nil done)) (by done st.gone (subst (λ (l : List FetchedData). 0 < length l) (append-nil done) (subst (λ (l : List FetchedData). 0 < length (done ++ l)) none some))))
    where
      by : (l : List FetchedData) → Gone side mark p old now (member_words l) → 0 < length l → AreDone side mark p old now (member_words l) false
      by [] gone some = absurd (omega arith)
      by (m ∷ l) gone some = gone

  pub all_ready : (old now : Stage Side Note Results) (done rest : List FetchedData) → Stands old now done rest → rest ≡ [] → length (side now.out.side).fetched ≡ now.out.run.facts.fetched
  all_ready old now done rest st none = let long = st.long in let no = ap (λ (l : List FetchedData). length (batch_words l)) none in omega (arith, long, no)

  -- ---- the stream is over

  pub was_over : (x : Stage Side Note Results) (members : List (List (ℕ × ℕ))) (next : Next) → IsOverBy p x.house.core.past x.out.run.stream next → Commits side mark p x x members next
  was_over x members More over = absurd over
  was_over x members Paused over = absurd over
  was_over x members FlushEnd over = absurd over
  was_over x members (Invalid error) over = absurd over
  was_over x members Lost over = record { is_over = over; still = still_same side mark p x }
  was_over x members Closed over = record { is_over = over; still = still_same side mark p x }
