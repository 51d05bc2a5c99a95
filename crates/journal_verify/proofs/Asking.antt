-- What is kept of a whole history answers what may be told of it.
use Rattle.std.proofs.Common.{◌≡◌, ℕ, zero, suc, true, Some, List, length, sym, ap, subst, ◌∙◌, arith}
use Rattle.std.specs.Prelude.{Contains, take}
use Rattle.std.specs.Bool.{Decides}
use Rattle.std.proofs.lemmas.List.Elements.{All-contains}
use Rattle.gpu_plan.specs.Plans.{PlansData, plan_of}
use Rattle.gpu_plan.specs.Passes.{flushes}
use Rattle.sync_core.specs.Standing.{IsKnown}
use Rattle.gpu_journal.specs.declared.event.Event.{Event}
use Rattle.gpu_journal.specs.World.{known}
use Rattle.gpu_journal.specs.Dumps.{MayDump}
use Rattle.journal_verify.specs.Faults.{finished_in}
use Rattle.journal_verify.specs.Dumped.{DumpedData, is_dumped_in, last_held, is_from, HoldsDumped}
use Rattle.journal_verify.specs.Followed.{FollowedData, dumped_of, told_by, may_be_told, IsSumIn, sum_after, IsSum, AreDumped, IsFollowed}
use Rattle.journal_verify.proofs.Hearing.{some_at}
use Rattle.journal_verify.proofs.Keeping.{finished_is}
use Rattle.journal_verify.proofs.Dumping.{with_held, last_held_may_be_told, told_was_last_held}

some_dumped : (all : List DumpedData) (s : ℕ) → IsKnown (length all) s → (own : DumpedData) × (dumped_of all s ≡ Some own)
some_dumped all zero known = absurd (omega (arith, known.0))
some_dumped all (suc k) known = some_at all k (omega (arith, known.1))

held_in : (p : PlansData) (h : List Event) (s : ℕ) (all : List DumpedData) (own : DumpedData) → AreDumped p h all → dumped_of all s ≡ Some own → HoldsDumped p h s own
held_in p h zero all own dumped at = absurd (cc)
held_in p h (suc k) all own dumped at = dumped.each k own at

module _ (p : PlansData) (h : List Event) (followed : FollowedData) (s : ℕ) (dump : ℕ × ℕ) (is : IsFollowed p h followed) (known_s : IsKnown (length p.plans) s) (there : Contains (plan_of p s).dumps dump) where
  -- a value may be told where its place last had it late enough
  pub told_held : (least value : ℕ) → may_be_told followed s dump.1 least value ≡ is_from least (last_held p h s dump.1 value)
  told_held least value =
      let own = some_dumped followed.dumped s (subst (λ (n : ℕ). IsKnown n s) (sym is.dumped.count) known_s) in
      let holds = held_in p h s followed.dumped own.0 is.dumped own.1 in
      let watched = All-contains (λ (dump : ℕ × ℕ). is_dumped_in own.0 dump.1 ≡ true) (plan_of p s).dumps dump holds.watched there in
      let finished : finished_in followed.judge s ≡ (known p h s).finished = finished_is p h followed.judge s is.follows known_s in
      (λ i. told_by (own.1 i) (finished i) dump.1 least value)
      ∙ ap (is_from least) (with_held p h s own.0 dump.1 value holds watched)

  -- so it is told of the dump, and nowhere else
  pub told_decides : (value : ℕ) → Decides (may_be_told followed s dump.1 (flushes (take dump.0 (plan_of p s).actions)) value) (MayDump p h s dump value)
  told_decides value =
      let same = told_held (flushes (take dump.0 (plan_of p s).actions)) value in
      (λ test. last_held_may_be_told p h s dump value (sym same ∙ test), λ may. same ∙ told_was_last_held p h s dump value may)

-- a sum that is noted is that of the images after its number of events
pub noted_sum : (p : PlansData) (h : List Event) (followed : FollowedData) (events sum : ℕ) → IsFollowed p h followed → IsSumIn followed (events, sum) → sum ≡ sum_after p h events
noted_sum p h followed events sum is there = (All-contains (IsSum p h) followed.sums (events, sum) is.sums there).is
