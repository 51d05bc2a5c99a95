use Rattle.std.proofs.Common.{◌≡◌, ◌+◌, ◌++◌, ℕ, List, [], ◌∷◌, length, drop, slice_get, Some, ap, sym, subst, ◌∙◌, arith}
use Rattle.std.proofs.lemmas.List.{append_assoc, length_push, drop_more}
use Rattle.std.proofs.lemmas.List.Elements.{All-tail}
use Rattle.std.proofs.lemmas.Option.{get_or_from_slice_get, slice_get_within}
use Rattle.std.specs.List.{All}
use Rattle.gpu_plan.specs.Plans.{PlanData}
use Rattle.gpu_plan.specs.Places.{flush_places}
use Rattle.house_core.specs.Desks.{DeskData, fresh_desk}
use Rattle.house_core.specs.Core.{Booked, names_of, IsFresh}
use Rattle.house_core.specs.Making.{desks_of}
use Rattle.house_core.proofs.making.desks.Goals as goal

plan_next : (plans : List PlanData) (k : ℕ) (plan : PlanData) → slice_get plans k ≡ Some plan → drop k plans ≡ plan ∷ drop (k + 1) plans
plan_next plans k plan e = drop_more plans k plan (slice_get_within plans k plan e) ∙ ap (λ (x : PlanData). x ∷ drop (k + 1) plans) (get_or_from_slice_get plans k plan plan e)

-- the desk of the next plan is made
one_more : (row : List DeskData) (desk : DeskData) (plans : List PlanData) (plan : PlanData) (book : Booked) (books : List Booked) → slice_get plans (length row) ≡ Some plan → desk ≡ fresh_desk book.0 (flush_places plan.actions)
    → (row ++ desk ∷ []) ++ desks_of (drop (length (row ++ desk ∷ [])) plans) (names_of books) ≡ row ++ desks_of (drop (length row) plans) (names_of (book ∷ books))
one_more row desk plans plan book books e is =
    let rest = desks_of (drop (length row + 1) plans) (names_of books) in
    ap (λ (n : ℕ). (row ++ desk ∷ []) ++ desks_of (drop n plans) (names_of books)) (length_push row desk)
    ∙ append_assoc row (desk ∷ []) rest
    ∙ ap (λ (d : DeskData). row ++ d ∷ rest) is
    ∙ ap (λ (left : List PlanData). row ++ desks_of left (names_of (book ∷ books))) (sym (plan_next plans (length row) plan e))

pub loop-book-preserved : goal.loop-book-preserved
loop-book-preserved c =
    let row = c.loop-book.desks.items in
    let plans = c.args.plans.now.plans in
    let plan = c.plan-plan.result.now in
    let book : Booked = (c.in-Some.book, c.in-Some.kept, c.in-Some.home) in
    let left = c.next.new.self.rest.items in
    let was : c.loop-book.book-iterator.rest.items ≡ book ∷ left = c.in-Some.ensures.steps.0 in
    let now : c.push.new.self.items ≡ row ++ c.make.result ∷ [] = c.in_ok-push.ensures.items in
    let there : slice_get plans (length row) ≡ Some plan = ap (slice_get plans) (omega (arith, c.len.ensures)) ∙ c.plan-plan.ensures in
    let is : c.make.result ≡ fresh_desk c.in-Some.book (flush_places plan.actions) = c.make.ensures ∙ ap (fresh_desk c.in-Some.book) (c.in_ok-places.ensures ∙ ap flush_places c.actions.ensures.value) in
    let count = c.loop-book.invariant.count in
    let more = ap length now ∙ length_push row c.make.result in
    let less = ap length was in
    record {
      count = omega arith;
      fresh = All-tail IsFresh book left (subst (All IsFresh) was c.loop-book.invariant.fresh);
      done = subst (λ (l : List DeskData). l ++ desks_of (drop (length l) plans) (names_of left) ≡ desks_of plans (names_of c.args.books.items)) (sym now)
          (one_more row c.make.result plans plan book left there is ∙ sym (ap (λ (l : List Booked). row ++ desks_of (drop (length row) plans) (names_of l)) was) ∙ c.loop-book.invariant.done);
    }
