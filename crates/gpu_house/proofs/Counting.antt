-- The finishes among what was written to the results of a stream are those of the journal.
use Rattle.std.proofs.Common.{◌≡◌, ℕ, ◌+◌, ◌≤◌, length, eqb, Bool, true, false, cond, List, [], ◌∷◌, ◌++◌, Option, Some, None, refl, sym, ap, subst, ◌∙◌, arith}
use Rattle.std.specs.Prelude.{IfSome}
use Rattle.std.proofs.lemmas.List.Sums.{sum_by-cons}
use Rattle.gpu_word.specs.Results.{Written, is_finish, finishes_in, writes_listed}
use Rattle.gpu_word.specs.Results.{Write, Finish as finish}
use Rattle.gpu_word.proofs.Written.{finishes_of_both}
use Rattle.gpu_plan.specs.Plans.{PlansData, plan_of}
use Rattle.gpu_plan.proofs.Passing.{flushes_within}
use Rattle.gpu_fetch.specs.Side.{told_more}
use Rattle.sync_core.specs.Standing.{IsKnown}
use Rattle.serial_laws.proofs.Flushes.{flushes_end}
use Rattle.serial_laws.proofs.Passed.{lawful_of}
use Rattle.serial_laws.proofs.Fronts.{counts_within}
use Rattle.house_core.specs.Core.{CoreData}
use Rattle.house_core.specs.Invariant.{IsCore}
use Rattle.stream_state.specs.Steps.{writes}
use Rattle.gpu_journal.specs.declared.event.Event.{Event}
use Rattle.gpu_journal.specs.declared.event.Event.TheVariants.{Order, Step, Finish, Lost, Close}
use Rattle.gpu_journal.specs.World.{World, Known, world, stream_in, known, known_after, state_of}
use Rattle.gpu_journal.specs.Written.{written, written_by}
use Rattle.gpu_journal.proofs.Worlds.{world_none, known_then}
use Rattle.gpu_journal.proofs.Folding.{written_none, written_then}

-- a stream has no more finishes than its plan has actions, which are few
pub few_finishes : (core : CoreData) (s : ℕ) → IsCore core → IsKnown (length core.plans.plans) s → (known core.plans core.past s).finished ≤ 1000000
few_finishes core s is = subst (λ (v : CoreData). IsKnown (length v.plans.plans) s → (known v.plans v.past s).finished ≤ 1000000) is.shown few
  where
    few : IsKnown (length is.parts.plans.plans) s → (known is.parts.plans is.parts.past s).finished ≤ 1000000
    few there =
        let actions = (plan_of is.parts.plans s).actions in
        let counts = counts_within is.parts.plans is.parts.past s is.kept.legal in
        let most = (lawful_of is.parts.plans s is.kept.lawful there).few in
        let all = flushes_end actions (length actions) (omega arith) in
        let within = flushes_within actions (length actions) in
        omega (arith, counts.0, counts.1, most, all, within)

-- what a member counts
abbrev counts : Written → ℕ
counts x = cond (is_finish x) 1 0

-- a value that is written is no finish
pub no_finish : (pairs : List (ℕ × ℕ)) → finishes_in (writes_listed pairs) ≡ 0
no_finish [] = refl
no_finish (pair ∷ pairs) = let parts = sum_by-cons counts (Write pair.0 pair.1) (writes_listed pairs) in let rest = no_finish pairs in omega (arith, parts, rest)

-- an event of a stream counts a finish where it is one
finishes_by : (p : PlansData) (e : Event) (h : List Event) (s n : ℕ) → n ≡ (known p h s).finished
    → n + finishes_in (written_by p h s e) ≡ (known_after p e (world p h) (known p h s)).finished
finishes_by p (Order t o c) h s n same = omega (arith, same)
finishes_by p (Step t words) h s n same = let none = no_finish (writes (plan_of p s).areas words (state_of p h s)) in omega (arith, same, none)
finishes_by p (Finish t o) h s n same = omega (arith, same)
finishes_by p (Lost t why words) h s n same = omega (arith, same)
finishes_by p (Close t) h s n same = omega (arith, same)

counted_then : (p : PlansData) (e : Event) (h : List Event) (s : ℕ) (b : Bool) → finishes_in (written p h s) ≡ (known p h s).finished
    → finishes_in (cond b (written p h s ++ written_by p h s e) (written p h s)) ≡ (cond b (known_after p e (world p h) (known p h s)) (known p h s)).finished
counted_then p e h s true before = finishes_of_both (written p h s) (written_by p h s e) ∙ finishes_by p e h s (finishes_in (written p h s)) before
counted_then p e h s false before = before

pub finishes_are : (p : PlansData) (h : List Event) (s : ℕ) → finishes_in (written p h s) ≡ (known p h s).finished
finishes_are p [] s = ap finishes_in (written_none p s) ∙ sym (ap (λ (w : World). (w.streams s).finished) (world_none p))
finishes_are p (e ∷ h) s =
    ap finishes_in (written_then p e h s) ∙ counted_then p e h s (eqb (stream_in e) s) (finishes_are p h s) ∙ sym (ap (λ (k : Known). k.finished) (known_then p e h s))

-- once a finish was counted, there is one more than the journal had
pub counted_next : (p : PlansData) (h : List Event) (s : ℕ) (old new : Option (List Written)) → IfSome old (λ list. list ≡ written p h s) → new ≡ told_more old (finish ∷ [])
    → IfSome new (λ list. finishes_in list ≡ (known p h s).finished + 1)
counted_next p h s old new are told = subst (λ (o : Option (List Written)). IfSome o (λ list. finishes_in list ≡ (known p h s).finished + 1)) (sym told) (by old are)
  where
    by : (o : Option (List Written)) → IfSome o (λ list. list ≡ written p h s) → IfSome (told_more o (finish ∷ [])) (λ list. finishes_in list ≡ (known p h s).finished + 1)
    by None is = tt
    by (Some list) is =
        let more : finishes_in (list ++ finish ∷ []) ≡ finishes_in list + 1 = finishes_of_both list (finish ∷ []) in
        let so : finishes_in list ≡ (known p h s).finished = ap finishes_in is ∙ finishes_are p h s in
        omega (arith, more, so)
