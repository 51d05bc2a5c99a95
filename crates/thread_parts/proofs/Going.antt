-- What a client keeps while it acts.
use Rattle.std.proofs.Common.{◌≡◌, ℕ, zero, suc, ◌+◌, ◌<◌, ◌≤◌, Bool, true, false, not, cond, Option, Some, None, List, [], ◌∷◌, ◌++◌, length, map, take, refl, sym, ap, subst, ◌∙◌, arith}
use Rattle.std.specs.Prelude.{nat_lt, slice_get, IfSome, IfNone, OnSome, IsTrue, option_to_list}
use Rattle.std.specs.Option.{IsSomeAnd}
use Rattle.std.specs.List.{All}
use Rattle.std.proofs.lemmas.List.{append-nil, length-map, length-append}
use Rattle.std.proofs.lemmas.List.Filters.{length-filter_both}
use Rattle.std.proofs.lemmas.Option.{slice_get_within, IfSome_then}
use Rattle.gpu_cmd.specs.Spans.{words_in}
use Rattle.gpu_plan.specs.declared.plan.Action.{Action}
use Rattle.gpu_plan.specs.declared.plan.Action.TheVariants as actions
use Rattle.gpu_plan.specs.Plans.{PlanData, IsDump, RiseFrom, is_closed, is_flush}
use Rattle.gpu_plan.proofs.Passing.{flushes_within}
use Rattle.shm_words.specs.declared.client.Acted.{Acted}
use Rattle.shm_words.specs.declared.client.Acted.TheVariants.{Stored, AtClose}
use Rattle.shm_words.specs.Seen as seen
use Rattle.shm_words.specs.Seen.{NoteData, client_at, next_action, flushes_before}
use Rattle.shm_words.specs.Acts.{Acts, IsAtFlush, answer_for, counts}
use Rattle.flush_queue.specs.Seen.{EndData, fresh_end, one_more}
use Rattle.flush_queue.specs.Clients.{HasPostedAll}
use Rattle.flush_queue.proofs.Posting as posting
use Rattle.result_words.specs.Seen.{ReaderData}
use Rattle.gpu_plan.specs.Passes.{flushes}
use Rattle.gpu_plan.specs.declared.acting.TheConstants.{MOST_ACTIONS}
use Rattle.thread_parts.specs.Clients.{IsHeldNote, ArePosted, dump_of, dumps_to, due_in, read_for, ThreadClientData, HasReadDumps, HasAtHand, IsThreadClient}
use Rattle.thread_parts.proofs.Planned.{none_before, next_dumps, due_is}
use Rattle.thread_parts.proofs.Planned as dues

-- ---- what the next action is, by how it went

answered : (next : Option Action) (passes : Bool) (answer : Acted) → answer ≡ answer_for passes next → counts answer ≡ 1 → (action : Action) × (next ≡ Some action)
answered None passes answer is one = absurd (let none = ap counts is in omega (arith, one, none))
answered (Some action) passes answer is one = (action, refl)

-- a client that did an action had one left
pub was_left : (old new : seen.ClientData) (answer : Acted) → Acts old new answer → counts answer ≡ 1 → old.done < length old.plan.actions
was_left old new answer acts one =
    let there = answered (next_action old) _ answer acts.answers one in
    slice_get_within old.plan.actions old.done there.0 there.1

stored : (next : Option Action) (passes : Bool) → answer_for passes next ≡ Stored → next ≡ Some actions.Finish → ⊥
stored None passes is fin = cc
stored (Some (actions.Put place value)) passes is fin = cc
stored (Some (actions.Flush put fences)) passes is fin = cc
stored (Some actions.Finish) true is fin = cc
stored (Some actions.Finish) false is fin = cc
stored (Some (actions.Token token)) passes is fin = cc
stored (Some actions.Close) passes is fin = cc

-- a put is no Finish
pub no_await : (old new : seen.ClientData) (answer : Acted) → Acts old new answer → answer ≡ Stored → slice_get old.plan.actions old.done ≡ Some actions.Finish → ⊥
no_await old new answer acts is fin = stored (next_action old) _ (sym acts.answers ∙ is) fin

flush_next : (next : Option Action) → IsSomeAnd next (λ action. IsTrue (is_flush action)) → (action : Action) × (next ≡ Some action) × (is_flush action ≡ true)
flush_next None at = absurd at
flush_next (Some action) at = (action, refl, at)

pub flush_left : (client : seen.ClientData) → IsAtFlush client → client.done < length client.plan.actions
flush_left client at =
    let there = flush_next (next_action client) at in
    slice_get_within client.plan.actions client.done there.0 there.1

-- a flush is no Finish
flush_other : (client : seen.ClientData) → IsAtFlush client → slice_get client.plan.actions client.done ≡ Some actions.Finish → ⊥
flush_other client at fin =
    let there = flush_next (next_action client) at in
    let same : there.0 ≡ actions.Finish = (let both : Some there.0 ≡ Some actions.Finish = sym there.1 ∙ fin in cc) in
    let no : false ≡ true = ap is_flush (sym same) ∙ there.2 in
    cc

-- ---- dumps

few_of : (k : ℕ) (dumps : List (ℕ × ℕ)) → length (dumps_to k dumps) ≤ length dumps
few_of k dumps = let both = length-filter_both (λ (dump : ℕ × ℕ). nat_lt dump.0 k) (λ (dump : ℕ × ℕ). not (nat_lt dump.0 k)) (λ dump. refl) dumps in omega (arith, both)

-- there is room for a dump that is due
pub has_room : (c : ThreadClientData) (planned : List (ℕ × ℕ)) (position flushed room : ℕ) (dump : ℕ × ℕ) → c.due ≡ Some dump → IsThreadClient c planned position flushed room → length c.dumps < room
has_room c planned position flushed room dump due is =
    let all : map dump_of c.dumps ++ dump ∷ [] ≡ dumps_to c.pass.done c.pass.plan.dumps = sym (ap (λ (d : Option (ℕ × ℕ)). map dump_of c.dumps ++ option_to_list d) due) ∙ is.read.in_order in
    let more = length-append (map dump_of c.dumps) (dump ∷ []) in
    let same = length-map c.dumps dump_of in
    let count = ap length all in
    let few = few_of c.pass.done c.pass.plan.dumps in
    let listed = ap length is.counted.planned_is in
    let room_is = is.counted.room_is in
    omega (arith, more, same, count, few, listed, room_is)

-- where as many are read as are planned, each is
pub is_whole : (c : ThreadClientData) (planned : List (ℕ × ℕ)) (position flushed room : ℕ) → length c.dumps ≡ length planned → IsThreadClient c planned position flushed room → map dump_of c.dumps ≡ c.pass.plan.dumps
is_whole c planned position flushed room many is = whole (map dump_of c.dumps) (option_to_list c.due) c.pass.done c.pass.plan.dumps is.read.in_order (length-map c.dumps dump_of ∙ many ∙ ap length is.counted.planned_is)
  where
    -- a list that keeps all is the whole
    kept : (k : ℕ) (dumps : List (ℕ × ℕ)) → length dumps ≤ length (dumps_to k dumps) → dumps_to k dumps ≡ dumps
    kept k [] le = refl
    kept k (dump ∷ dumps) le = by (nat_lt dump.0 k) (kept k dumps) le
      where
        by : (b : Bool) → (length dumps ≤ length (dumps_to k dumps) → dumps_to k dumps ≡ dumps) → suc (length dumps) ≤ length (cond b (dump ∷ dumps_to k dumps) (dumps_to k dumps)) → cond b (dump ∷ dumps_to k dumps) (dumps_to k dumps) ≡ dump ∷ dumps
        by true rest le = ap (λ (l : List (ℕ × ℕ)). dump ∷ l) (rest (omega (arith, le)))
        by false rest le = absurd (let few = few_of k dumps in omega (arith, le, few))

    no_more : (xs ys : List (ℕ × ℕ)) → length ys ≡ 0 → xs ++ ys ≡ xs
    no_more xs [] e = append-nil xs
    no_more xs (y ∷ ys) e = absurd (omega (arith, e))

    whole : (xs ys : List (ℕ × ℕ)) (k : ℕ) (dumps : List (ℕ × ℕ)) → xs ++ ys ≡ dumps_to k dumps → length xs ≡ length dumps → xs ≡ dumps
    whole xs ys k dumps same many =
        let sum = length-append xs ys in
        let count = ap length same in
        let few = few_of k dumps in
        let none : length ys ≡ 0 = omega (arith, sum, count, few, many) in
        sym (no_more xs ys none) ∙ same ∙ kept k dumps (omega (arith, sum, count, many))

-- ---- the whole client

module _ (c : ThreadClientData) (planned : List (ℕ × ℕ)) (position flushed room : ℕ) (none_held : c.held ≡ None) (none_due : c.due ≡ None) (is : IsThreadClient c planned position flushed room) where
  all_posted : HasPostedAll c.pass c.poster
  all_posted = subst (ArePosted c.pass c.poster) none_held is.posted

  its_read : HasReadDumps c.pass c.reader None c.dumps
  its_read = subst (λ (due : Option (ℕ × ℕ)). HasReadDumps c.pass c.reader due c.dumps) none_due is.read

  -- with none due, those that were read are those that the pass came to
  all_read : map dump_of c.dumps ≡ dumps_to c.pass.done c.pass.plan.dumps
  all_read = sym (append-nil (map dump_of c.dumps)) ∙ its_read.in_order

  -- with one action more there is the next one, where it is due
  one_further : map dump_of c.dumps ++ option_to_list (due_in (slice_get planned (length c.dumps)) position) ≡ dumps_to (c.pass.done + 1) c.pass.plan.dumps
  one_further =
      let long : length c.dumps ≡ length (dumps_to c.pass.done c.pass.plan.dumps) = sym (length-map c.dumps dump_of) ∙ ap length all_read in
      let next = next_dumps 0 c.pass.done c.pass.plan.dumps (subst (RiseFrom 0) is.counted.planned_is is.counted.rising) in
      ap (λ (l : List (ℕ × ℕ)). l ++ option_to_list (due_in (slice_get planned (length c.dumps)) position)) all_read
      ∙ ap (λ (l : List (ℕ × ℕ)). dumps_to c.pass.done c.pass.plan.dumps ++ option_to_list (due_in (slice_get l (length c.dumps)) position)) is.counted.planned_is
      ∙ ap (λ (n : ℕ). dumps_to c.pass.done c.pass.plan.dumps ++ option_to_list (due_in (slice_get c.pass.plan.dumps n) position)) long
      ∙ ap (λ (k : ℕ). dumps_to c.pass.done c.pass.plan.dumps ++ option_to_list (due_in (slice_get c.pass.plan.dumps (length (dumps_to c.pass.done c.pass.plan.dumps))) k)) is.counted.place
      ∙ sym next

  -- an action was done, after which a dump may be due
  pub went : (new : seen.ClientData) (due : Option (ℕ × ℕ)) (answer : Acted) → Acts c.pass new answer → counts answer ≡ 1 → due ≡ due_in (slice_get planned (length c.dumps)) position
      → IsThreadClient (record c { pass = new; due = due }) planned (position + 1) flushed room
  went new due answer acts one due_is' =
      let posted = posting.acted c.pass c.poster all_posted new answer acts in
      let place = is.counted.place in
      let dump : IfSome due (λ dump. (dump.0 ≡ position) × IsDump c.pass.plan.areas.results c.pass.plan.actions dump) =
      subst (λ (o : Option (ℕ × ℕ)). IfSome o (λ dump. (dump.0 ≡ position) × IsDump c.pass.plan.areas.results c.pass.plan.actions dump)) (sym due_is')
      (due_is c.pass.plan.areas.results c.pass.plan.actions planned is.counted.lawful (length c.dumps) position) in
      record {
        posted = subst (ArePosted new c.poster) (sym none_held) posted;
        read = record {
          in_order = ap (λ (d : Option (ℕ × ℕ)). map dump_of c.dumps ++ option_to_list d) due_is' ∙ one_further ∙ sym (ap (λ (n : seen.ClientData). dumps_to n.done n.plan.dumps) acts.becomes ∙ ap (λ (k : ℕ). dumps_to (c.pass.done + k) c.pass.plan.dumps) one);
          reads = its_read.reads ∙ sym (ap (λ (n : seen.ClientData). map (read_for n.plan) c.dumps) acts.becomes);
          places = subst (λ (n : seen.ClientData). words_in n.plan.areas.results ≤ c.reader.places) (sym acts.becomes) its_read.places;
        };
        counted = subst (λ (n : seen.ClientData). HasAtHand n due planned (position + 1) flushed room) (sym acts.becomes) record {
          planned_is = is.counted.planned_is;
          lawful = is.counted.lawful;
          rising = is.counted.rising;
          few = is.counted.few;
          place = omega (arith, one, place);
          count = is.counted.count ∙ sym all_posted.count ∙ posted.count ∙ ap flushes_before acts.becomes;
          due_asks = IfSome_then due dump (λ dump its. is.counted.count ∙ ap (λ (k : ℕ). flushes (take k c.pass.plan.actions)) (sym (its.0 ∙ place)));
          due_there = IfSome_then due dump (λ dump its. its.1.1);
          room_is = is.counted.room_is;
        };
      }

  -- a put was done
  pub put : (new : seen.ClientData) (answer : Acted) → Acts c.pass new answer → answer ≡ Stored → IsThreadClient (record c { pass = new }) planned (position + 1) flushed room
  put new answer acts stored =
      let none : due_in (slice_get planned (length c.dumps)) position ≡ None = dues.none_due c.pass.plan.areas.results c.pass.plan.actions planned is.counted.lawful (length c.dumps) position (λ fin. no_await c.pass new answer acts stored (ap (slice_get c.pass.plan.actions) (sym is.counted.place) ∙ fin)) in
      subst (λ (due : Option (ℕ × ℕ)). IsThreadClient (record c { pass = new; due = due }) planned (position + 1) flushed room) (none ∙ sym none_due) (went new (due_in (slice_get planned (length c.dumps)) position) answer acts (ap counts stored) refl)

  -- no action was done
  pub tried : (new : seen.ClientData) (answer : Acted) → Acts c.pass new answer → counts answer ≡ 0 → IsThreadClient (record c { pass = new }) planned position flushed room
  tried new answer acts zero' =
      let posted = posting.acted c.pass c.poster all_posted new answer acts in
      let place = is.counted.place in
      let done : c.pass.done + counts answer ≡ c.pass.done = omega (arith, zero') in
      record {
        posted = subst (ArePosted new c.poster) (sym none_held) posted;
        read = record {
          in_order = is.read.in_order ∙ sym (ap (λ (n : seen.ClientData). dumps_to n.done n.plan.dumps) acts.becomes ∙ ap (λ (k : ℕ). dumps_to k c.pass.plan.dumps) done);
          reads = is.read.reads ∙ sym (ap (λ (n : seen.ClientData). map (read_for n.plan) c.dumps) acts.becomes);
          places = subst (λ (n : seen.ClientData). words_in n.plan.areas.results ≤ c.reader.places) (sym acts.becomes) is.read.places;
        };
        counted = subst (λ (n : seen.ClientData). HasAtHand n c.due planned position flushed room) (sym acts.becomes) record {
          planned_is = is.counted.planned_is;
          lawful = is.counted.lawful;
          rising = is.counted.rising;
          few = is.counted.few;
          place = omega (arith, zero', place);
          count = is.counted.count ∙ sym all_posted.count ∙ posted.count ∙ ap flushes_before acts.becomes;
          due_asks = is.counted.due_asks;
          due_there = is.counted.due_there;
          room_is = is.counted.room_is;
        };
      }

  -- at a flush, its note is the next to be posted
  pub held : IsAtFlush c.pass → (new : seen.ClientData) (note : NoteData) → new ≡ record c.pass { done = c.pass.done + 1 } → note ≡ record { table = c.pass.table; mark = c.pass.done + 1 } → IsHeldNote new c.poster note
  held at new note becomes its = record { next = posting.next_note c.pass c.poster all_posted at note its; there = posting.next_flush c.pass c.poster all_posted at; others = posting.posted c.pass c.poster all_posted at new becomes }

  -- a flush was made, and its note was posted or is kept
  pub flushed_one : (at : IsAtFlush c.pass) (new : seen.ClientData) (note : NoteData) (poster : EndData) (kept : Option NoteData) → new ≡ record c.pass { done = c.pass.done + 1 } → note ≡ record { table = c.pass.table; mark = c.pass.done + 1 }
      → IfNone kept (poster ≡ one_more c.poster) → OnSome kept (poster ≡ c.poster) → IfSome kept (λ back. back ≡ note) → IsThreadClient (record c { pass = new; poster = poster; held = kept }) planned (position + 1) (flushed + 1) room
  flushed_one at new note poster kept becomes its gone stays back =
      let next = held at new note becomes its in
      let others = next.others in
      let place = is.counted.place in
      let none : due_in (slice_get planned (length c.dumps)) position ≡ None = dues.none_due c.pass.plan.areas.results c.pass.plan.actions planned is.counted.lawful (length c.dumps) position (λ fin. flush_other c.pass at (ap (slice_get c.pass.plan.actions) (sym place) ∙ fin)) in
      let count = is.counted.count in
      let before = all_posted.count in
      let after : c.poster.count + 1 ≡ flushes_before (record c.pass { done = c.pass.done + 1 }) = others.count ∙ ap flushes_before becomes in
      record {
        posted = by kept gone stays back next;
        read = record {
          in_order = ap (λ (d : Option (ℕ × ℕ)). map dump_of c.dumps ++ option_to_list d) (none_due ∙ sym none) ∙ one_further ∙ sym (ap (λ (n : seen.ClientData). dumps_to n.done n.plan.dumps) becomes);
          reads = is.read.reads ∙ sym (ap (λ (n : seen.ClientData). map (read_for n.plan) c.dumps) becomes);
          places = subst (λ (n : seen.ClientData). words_in n.plan.areas.results ≤ c.reader.places) (sym becomes) is.read.places;
        };
        counted = subst (λ (n : seen.ClientData). HasAtHand n c.due planned (position + 1) (flushed + 1) room) (sym becomes) record {
          planned_is = is.counted.planned_is;
          lawful = is.counted.lawful;
          rising = is.counted.rising;
          few = is.counted.few;
          place = omega (arith, place);
          count = omega (arith, count, before, after);
          due_asks = subst (λ (due : Option (ℕ × ℕ)). IfSome due (λ dump. flushed + 1 ≡ flushes (take dump.0 c.pass.plan.actions))) (sym none_due) tt;
          due_there = is.counted.due_there;
          room_is = is.counted.room_is;
        };
      }
    where
      by : (kept : Option NoteData) → IfNone kept (poster ≡ one_more c.poster) → OnSome kept (poster ≡ c.poster) → IfSome kept (λ back. back ≡ note) → IsHeldNote new c.poster note → ArePosted new poster kept
      by None gone stays back next = subst (HasPostedAll new) (sym gone) next.others
      by (Some kept) gone stays back next = subst (λ (end : EndData). IsHeldNote new end kept) (sym stays) (subst (IsHeldNote new c.poster) (sym back) next)

-- ---- a client that has done nothing

pub made : (stream : ℕ) (plan : PlanData) (pass : seen.ClientData) (poster : EndData) (reader : ReaderData) (dumps : List (ℕ × ℕ × ℕ)) (planned : List (ℕ × ℕ)) (room : ℕ) → pass ≡ client_at pass.table plan → poster ≡ fresh_end poster.queue pass.table plan
    → reader.reads ≡ [] → words_in plan.areas.results ≤ reader.places → dumps ≡ [] → planned ≡ plan.dumps → All (IsDump plan.areas.results plan.actions) plan.dumps → RiseFrom 0 plan.dumps → length plan.actions ≤ MOST_ACTIONS → length planned ≤ room
    → IsThreadClient record { stream = stream; pass = pass; poster = poster; held = None; reader = reader; due = None; dumps = dumps } planned 0 0 room
made stream plan pass poster reader dumps planned room its_pass its_poster none places empty listed lawful rising few room_is =
    let none_yet = none_before 0 0 plan.dumps rising (omega arith) in
    record {
      posted = record {
        words = ap (λ (end : EndData). end.words) its_poster;
        plan = ap (λ (end : EndData). end.plan) its_poster ∙ sym (ap (λ (c : seen.ClientData). c.plan) its_pass);
        count = ap (λ (end : EndData). end.count) its_poster ∙ sym (ap flushes_before its_pass);
      };
      read = record {
        in_order = ap (λ (l : List (ℕ × ℕ × ℕ)). map dump_of l ++ []) empty ∙ sym none_yet ∙ sym (ap (λ (c : seen.ClientData). dumps_to c.done c.plan.dumps) its_pass);
        reads = none ∙ sym (ap (map (read_for pass.plan)) empty);
        places = subst (λ (c : seen.ClientData). words_in c.plan.areas.results ≤ reader.places) (sym its_pass) places;
      };
      counted = subst (λ (c : seen.ClientData). HasAtHand c None planned 0 0 room) (sym its_pass) record {
        planned_is = listed;
        lawful = subst (All (IsDump plan.areas.results plan.actions)) (sym listed) lawful;
        rising = subst (RiseFrom 0) (sym listed) rising;
        few = few;
        place = refl;
        count = refl;
        due_asks = tt;
        due_there = tt;
        room_is = room_is;
      };
    }

-- ---- numbers that fit

pub position_fits : (c : ThreadClientData) (planned : List (ℕ × ℕ)) (position flushed room : ℕ) → IsThreadClient c planned position flushed room → c.pass.done < length c.pass.plan.actions → position < MOST_ACTIONS
position_fits c planned position flushed room is lt = let few = is.counted.few in let place = is.counted.place in omega (arith, few, place, lt)

pub flushed_fits : (c : ThreadClientData) (planned : List (ℕ × ℕ)) (position flushed room : ℕ) → IsThreadClient c planned position flushed room → c.pass.done < length c.pass.plan.actions → flushed < MOST_ACTIONS
flushed_fits c planned position flushed room is lt = let few = is.counted.few in let count = is.counted.count in let most = flushes_within c.pass.plan.actions c.pass.done in omega (arith, few, count, most, lt)

-- ---- a Close

-- where a Close is next, the plan has one
close_among : (xs : List Action) (k : ℕ) → slice_get xs k ≡ Some actions.Close → is_closed xs ≡ true
close_among [] k e = absurd (cc)
close_among (x ∷ xs) zero e = let same : x ≡ actions.Close = cc in ap (λ (x : Action). is_closed (x ∷ xs)) same
close_among (x ∷ xs) (suc k) e = by x (close_among xs k e)
  where
    by : (x : Action) → is_closed xs ≡ true → is_closed (x ∷ xs) ≡ true
    by (actions.Put place value) it = it
    by (actions.Flush put fences) it = it
    by actions.Finish it = it
    by (actions.Token token) it = it
    by actions.Close it = refl

close_next : (next : Option Action) (passes : Bool) → answer_for passes next ≡ AtClose → next ≡ Some actions.Close
close_next None passes is = absurd (cc)
close_next (Some (actions.Put place value)) passes is = absurd (cc)
close_next (Some (actions.Flush put fences)) passes is = absurd (cc)
close_next (Some actions.Finish) true is = absurd (cc)
close_next (Some actions.Finish) false is = absurd (cc)
close_next (Some (actions.Token token)) true is = absurd (cc)
close_next (Some (actions.Token token)) false is = absurd (cc)
close_next (Some actions.Close) passes is = refl

pub stands_at_close : (old new : seen.ClientData) (answer : Acted) → Acts old new answer → answer ≡ AtClose → is_closed new.plan.actions ≡ true
stands_at_close old new answer acts is =
    ap (λ (c : seen.ClientData). is_closed c.plan.actions) acts.becomes ∙ close_among old.plan.actions old.done (close_next (next_action old) _ (sym acts.answers ∙ is))
