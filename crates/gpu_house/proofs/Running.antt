-- What a run keeps while it meets a note and fetches, without the lock.
use Rattle.std.proofs.Common.{◌≡◌, ◌≢◌, ℕ, ◌+◌, ◌≤◌, max, List, [], ◌∷◌, ◌++◌, length, drop, Option, Some, None, sym, ap, subst, ◌∙◌, arith, length-append}
use Rattle.std.specs.Prelude.{Result, Ok, Err, IfOk, IfErr}
use Rattle.std.specs.List.{All}
use Rattle.std.proofs.Math.Nat.{max-le, le-max_right}
use Rattle.std.proofs.lemmas.List.{drop-append-le}
use Rattle.std.proofs.lemmas.List.Elements.{All-append, All-weaker}
use Rattle.atomic_table.specs.Seated.{TableId}
use Rattle.gpu_cmd.specs.declared.command.Command.{Command}
use Rattle.gpu_cmd.specs.declared.error.CmdError.{CmdError}
use Rattle.gpu_cmd.specs.declared.facts.StreamFacts.{StreamFacts}
use Rattle.gpu_plan.specs.Plans.{PlansData, PlanData, plan_of}
use Rattle.gpu_plan.specs.Passes.{bound}
use Rattle.gpu_plan.specs.MayHold.{MayHold}
use Rattle.gpu_plan.proofs.Holding.{may_hold_between}
use Rattle.gpu_fetch.specs.Side.{SideData, side_reach, MayFetch, with_met, Fetches}
use Rattle.gpu_fetch.specs.Fetched.{items_since, FetchesCommand, FetchesSome}
use Rattle.house_core.specs.Core.{MayHavePut}
use Rattle.house_core.specs.Desks.{RunData}
use Rattle.gpu_house.specs.Slots.{RunFits}

-- how far a client can be, by the numbers of its run
abbrev pub reach_of : PlansData → RunData → ℕ
reach_of p run = bound (plan_of p run.stream).actions run.finished (run.greatest ∷ [])

module _ {Side Note : Type 0} (side : Side → SideData) (table : Side → TableId) (mark : Note → ℕ) (note_of : Note → TableId → Type 0) (p : PlansData) (tables books : ℕ → TableId) (run : RunData) where
  abbrev pub Fits : Side → Option Note → Type 0
  Fits x note = RunFits side table mark note_of p tables books run x note

  pub side_reaches : (x : Side) (left : Option Note) → Fits x left → side_reach (side x) ≡ reach_of p run
  side_reaches x left fits =
      ap (λ (plan : PlanData). bound plan.actions (side x).finished ((side x).greatest ∷ [])) fits.plan
      ∙ ap (λ (finished : ℕ). bound (plan_of p run.stream).actions finished ((side x).greatest ∷ [])) fits.finished
      ∙ ap (λ (greatest : ℕ). bound (plan_of p run.stream).actions run.finished (greatest ∷ [])) fits.greatest

  -- a side that has met its flush, may have fetched more, and says the rest as before
  pub met_further : (x y : Side) (left : Option Note) (met : ℕ) (list : List (ℕ × ℕ)) → Fits x left → side y ≡ record (side x) { met = met; fetched = list } → table y ≡ table x
      → run.facts.fetched ≤ length list → All (MayHavePut p run) (drop run.facts.fetched list) → (run.facts.get ≡ run.facts.put → length list ≡ run.facts.fetched) → met ≡ run.place + 1 → (side y).met ≤ side_reach (side y) → Fits y None
  met_further x y left met list fits told same long may whole noted reached =
      let listed : (side y).fetched ≡ list = ap (λ (s : SideData). s.fetched) told in
      let at_place : (side y).met ≡ run.place + 1 = ap (λ (s : SideData). s.met) told ∙ noted in
      record {
        of_plans = fits.of_plans;
        book = fits.book;
        plan = ap (λ (s : SideData). s.plan) told ∙ fits.plan;
        shared = same ∙ fits.shared;
        note_shared = tt;
        finished = ap (λ (s : SideData). s.finished) told ∙ fits.finished;
        greatest = ap (λ (s : SideData). s.greatest) told ∙ fits.greatest;
        list = subst (λ (l : List (ℕ × ℕ)). run.facts.fetched ≤ length l) (sym listed) long;
        may = subst (λ (l : List (ℕ × ℕ)). All (MayHavePut p run) (drop run.facts.fetched l)) (sym listed) may;
        whole = λ end. ap length listed ∙ whole end;
        behind = omega (arith, at_place);
        noted = (at_place, reached);
      }

  -- the note of its flush is met
  pub met_again : (x y : Side) (note : Note) → Fits x (Some note) → side y ≡ with_met (side x) (mark note) → (side y).met ≤ side_reach (side y) → table y ≡ table x → Fits y None
  met_again x y note fits told reached same =
      let behind = fits.behind in
      let noted : mark note ≡ run.place + 1 = fits.noted in
      let low : max (side x).met (mark note) ≤ run.place + 1 = max-le behind (subst (λ (n : ℕ). n ≤ run.place + 1) (sym noted) (omega arith)) in
      let high = le-max_right (side x).met (mark note) in
      met_further x y (Some note) (max (side x).met (mark note)) (side x).fetched fits told same fits.list fits.may fits.whole (omega (arith, low, high, noted)) reached

  -- words are fetched once the note is met: the client may have put each, from the flush on
  pub fetched_again : (x y : Side) (words : List (ℕ × ℕ)) → run.facts.get ≢ run.facts.put → Fits x None → Fetches (side x) (side y) words → table y ≡ table x → Fits y None
  fetched_again x y words going fits fetches same =
      let told = fetches.grows in
      let old = (side x).fetched in
      let many = fits.list in
      let more = length-append old words in
      let at_place = fits.noted.0 in
      let wider : (word : ℕ × ℕ) → MayFetch (side x) word → MayHavePut p run word = λ word may.
      may_hold_between (plan_of p run.stream).actions (run.place + 1) run.place (reach_of p run) (reach_of p run) word.0 word.1 (omega arith) (omega arith)
      (subst (λ (most : ℕ). MayHold (plan_of p run.stream).actions (run.place + 1) most word.0 word.1) (side_reaches x None fits)
      (subst (λ (least : ℕ). MayHold (plan_of p run.stream).actions least (side_reach (side x)) word.0 word.1) at_place
      (subst (λ (plan : PlanData). MayHold plan.actions (side x).met (side_reach (side x)) word.0 word.1) fits.plan may))) in
      let all : All (MayHavePut p run) (drop run.facts.fetched old ++ words) = All-append (MayHavePut p run) (drop run.facts.fetched old) words fits.may (All-weaker (MayFetch (side x)) (MayHavePut p run) wider words fetches.may) in
      met_further x y None (side x).met (old ++ words) fits told same (omega (arith, many, more))
      (subst (All (MayHavePut p run)) (sym (drop-append-le run.facts.fetched old words many)) all) (λ end. absurd (going end)) at_place
      (subst (λ (s : SideData). s.met ≤ side_reach s) (sym told) fits.noted.1)

  -- a fetch of a command, whole or in part
  pub command_fetched : {Error : Type 0} (S : ℕ × ℕ → Type 0) (x y : Side) (facts : StreamFacts) (old list : List (ℕ × ℕ)) (result : Result (Result Command CmdError) Error) → run.facts.get ≢ run.facts.put → Fits x None → table y ≡ table x → IfOk result (FetchesCommand S (side x) (side y) facts old list)
      → IfErr result (λ _. FetchesSome (side x) (side y) facts) → Fits y None
  command_fetched S x y facts old list (Ok verdict) going fits same whole part = fetched_again x y (items_since old list) going fits whole.fetches.fetches same
  command_fetched S x y facts old list (Err error) going fits same whole part = fetched_again x y part.words going fits part.fetches same

-- ---- a list that a command's words were fetched into

-- all that it has is new, since it was empty
pub all_new : (old list : List (ℕ × ℕ)) → old ≡ [] → items_since old list ≡ list
all_new old list none = ap (λ (l : List (ℕ × ℕ)). items_since l list) none
