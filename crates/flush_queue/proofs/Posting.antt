-- What a client has posted, while it goes on.
use Rattle.std.proofs.Common.{◌≡◌, ℕ, zero, suc, ◌+◌, ◌<◌, ◌≤◌, Bool, true, false, cond, List, [], ◌∷◌, length, take, Option, Some, None, refl, sym, ap, subst, ◌∙◌, arith, option_map, unwrap_or}
use Rattle.std.specs.Prelude.{slice_get, IsTrue}
use Rattle.std.specs.Option.{IsSomeAnd}
use Rattle.atomic_table.specs.Seated.{TableId}
use Rattle.gpu_plan.specs.declared.plan.Action.{Action}
use Rattle.gpu_plan.specs.declared.plan.Action.TheVariants.{Put, Flush, Finish, Token, Close}
use Rattle.gpu_plan.specs.Plans.{PlanData, is_flush}
use Rattle.gpu_plan.specs.Passes.{flush_count, flushes}
use Rattle.gpu_plan.specs.Places.{flush_places_from, mark_of}
use Rattle.gpu_plan.proofs.Passing.{flushes_one_further, flushes_all, by_flush}
use Rattle.shm_words.specs.declared.client.Acted.{Acted}
use Rattle.shm_words.specs.Seen.{ClientData, NoteData, next_action, flushes_before}
use Rattle.shm_words.specs.Acts.{Acts, IsAtFlush, answer_for, counts}
use Rattle.crossbeam_queue.specs.Fifo.{Held}
use Rattle.flush_queue.specs.Views.{Item, note_at}
use Rattle.flush_queue.specs.Rule.{AreFlushes}
use Rattle.flush_queue.specs.Seen.{EndData, one_more, note_of, AreLatest}
use Rattle.flush_queue.specs.Clients.{HasPostedAll}

-- ---- flushes among actions

-- a flush stands where its number says
flush_stands : (i : ℕ) (xs : List Action) (k : ℕ) (a : Action) → slice_get xs k ≡ Some a → is_flush a ≡ true → slice_get (flush_places_from i xs) (flushes (take k xs)) ≡ Some (i + k)
flush_stands i [] k a e is = absurd (cc)
flush_stands i (x ∷ xs) zero a e is =
    let same : x ≡ a = cc in
    subst (λ (b : Bool). slice_get (cond b (i ∷ flush_places_from (i + 1) xs) (flush_places_from (i + 1) xs)) 0 ≡ Some (i + 0)) (sym (ap is_flush same ∙ is)) (ap Some (omega arith))
flush_stands i (x ∷ xs) (suc k) a e is =
    let further : i + 1 + k ≡ i + suc k = omega arith in
    let places = flush_places_from (i + 1) xs in
    let one_more : 1 + flushes (take k xs) ≡ suc (flushes (take k xs)) = omega arith in
    let none_more : 0 + flushes (take k xs) ≡ flushes (take k xs) = omega arith in
    let rest : slice_get places (flushes (take k xs)) ≡ Some (i + suc k) = flush_stands (i + 1) xs k a e is ∙ ap Some further in
    by_flush (λ b n. slice_get (cond b (i ∷ places) places) (n + flushes (take k xs)) ≡ Some (i + suc k)) x
    (ap (slice_get (i ∷ places)) one_more ∙ rest) (ap (slice_get places) none_more ∙ rest)

-- ---- a full queue

-- as many flushes lie there as were posted and not taken
lie_between : (words : TableId) (plan : PlanData) (taken posted : ℕ) (items : List Item) → AreFlushes words plan taken items posted → taken + length items ≡ posted
lie_between words plan taken posted [] are = omega (arith, are)
lie_between words plan taken posted (item ∷ items) are = let rest = lie_between words plan (taken + 1) posted items are.2 in omega (arith, rest)

-- so where this number lies there, no fewer were posted
pub as_many_posted : (poster : EndData) (n : ℕ) → Held n (AreLatest poster) → n ≤ poster.count
as_many_posted poster n (items, many, (taken, are)) = let all = lie_between poster.words poster.plan taken poster.count items are in omega (arith, many, all)

-- ---- a client and its poster

-- what a call of act does counts no flush
none_counted : (xs : List Action) (k : ℕ) (next : Option Action) (passes : Bool) → slice_get xs k ≡ next → flushes (take (k + counts (answer_for passes next)) xs) ≡ flushes (take k xs)
none_counted xs k None passes e = ap (λ (n : ℕ). flushes (take n xs)) (omega arith)
none_counted xs k (Some (Put place value)) passes e = let one = flushes_one_further xs k (Put place value) e in omega (arith, one)
none_counted xs k (Some (Flush put fences)) passes e = ap (λ (n : ℕ). flushes (take n xs)) (omega arith)
none_counted xs k (Some Finish) true e = let one = flushes_one_further xs k Finish e in omega (arith, one)
none_counted xs k (Some Finish) false e = ap (λ (n : ℕ). flushes (take n xs)) (omega arith)
none_counted xs k (Some (Token token)) true e = let one = flushes_one_further xs k (Token token) e in omega (arith, one)
none_counted xs k (Some (Token token)) false e = ap (λ (n : ℕ). flushes (take n xs)) (omega arith)
none_counted xs k (Some Close) passes e = ap (λ (n : ℕ). flushes (take n xs)) (omega arith)

module _ (client : ClientData) (poster : EndData) (all : HasPostedAll client poster) where
  -- the client acted
  pub acted : (new : ClientData) (answer : Acted) → Acts client new answer → HasPostedAll new poster
  acted new answer acts = record {
    words = all.words ∙ sym (ap (λ (c : ClientData). c.table) acts.becomes);
    plan = all.plan ∙ sym (ap (λ (c : ClientData). c.plan) acts.becomes);
    count = all.count
        ∙ sym (ap flushes_before acts.becomes ∙ ap (λ (a : Acted). flushes (take (client.done + counts a) client.plan.actions)) acts.answers ∙ none_counted client.plan.actions client.done (next_action client) _ refl);
  }

  module _ (at : IsAtFlush client) where
    flush_there : (next : Option Action) → next_action client ≡ next → (a : Action) × (next_action client ≡ Some a) × (is_flush a ≡ true)
    flush_there None e = absurd (subst (λ (o : Option Action). IsSomeAnd o (λ action. IsTrue (is_flush action))) e at)
    flush_there (Some a) e = (a, e, subst (λ (o : Option Action). IsSomeAnd o (λ action. IsTrue (is_flush action))) e at)

    one_further : flushes (take (client.done + 1) client.plan.actions) ≡ flushes_before client + 1
    one_further =
        let there = flush_there (next_action client) refl in
        let step = flushes_one_further client.plan.actions client.done there.0 there.1 in
        let one : flush_count there.0 ≡ 1 = by_flush (λ b n. b ≡ true → n ≡ 1) there.0 (λ e. refl) (λ e. absurd (cc)) there.2 in
        omega (arith, step, one)

    mark_is : client.done + 1 ≡ mark_of client.plan (flushes_before client)
    mark_is =
        let there = flush_there (next_action client) refl in
        sym (ap (λ (place : Option ℕ). unwrap_or (option_map suc place) (length client.plan.actions)) (flush_stands 0 client.plan.actions client.done there.0 there.1 there.2) ∙ omega arith)

    -- the flush that it makes is the next one to be posted
    pub next_flush : poster.count < flushes poster.plan.actions
    next_flush =
        let more = one_further in
        let few = flushes_all client.plan.actions (client.done + 1) in
        let count = all.count in
        let same = ap (λ (plan : PlanData). flushes plan.actions) all.plan in
        omega (arith, more, few, count, same)

    pub next_note : (note : NoteData) → note ≡ record { table = client.table; mark = client.done + 1 } → note ≡ note_of poster
    next_note note is =
        is ∙ ap (λ (mark : ℕ). record { table = client.table; mark = mark }) mark_is
        ∙ λ i. note_at (sym all.words i) (sym all.plan i) (sym all.count i)

    -- and once that was posted, all are
    pub posted : (new : ClientData) → new ≡ record client { done = client.done + 1 } → HasPostedAll new (one_more poster)
    posted new is = record {
      words = all.words ∙ sym (ap (λ (c : ClientData). c.table) is);
      plan = all.plan ∙ sym (ap (λ (c : ClientData). c.plan) is);
      count = ap (λ (n : ℕ). n + 1) all.count ∙ sym one_further ∙ sym (ap flushes_before is);
    }
