-- The earlier works of a settled stream determine its next one.
use Rattle.std.proofs.Common.{◌≡◌, ℕ, ◌≤◌, Some, Err, List, refl, sym, ap, subst, ◌∙◌, IsOk, IsSome}
use Rattle.std.specs.List.{All}
use Rattle.std.proofs.lemmas.List.Elements.{recursion_from_All}
use Rattle.gpu_cmd.specs.declared.error.CmdError.{CmdError}
use Rattle.gpu_cmd.specs.declared.facts.StreamFacts.{StreamFacts}
use Rattle.gpu_cmd.specs.Copied.{fetched_places, places_listed}
use Rattle.gpu_plan.specs.MayHold.{MayHold}
use Rattle.gpu_plan.specs.Passes.{bound}
use Rattle.gpu_plan.specs.Plans.{PlansData, plan_of}
use Rattle.gpu_plan.specs.Values.{value_at}
use Rattle.stream_state.specs.State.{facts_of}
use Rattle.stream_state.specs.Verdict.{verdict}
use Rattle.sync_core.specs.Standing.{first_order}
use Rattle.gpu_journal.specs.declared.event.Event.{Event}
use Rattle.gpu_journal.specs.declared.event.Event.TheVariants.{Order, Step, Finish, Lost, Close}
use Rattle.gpu_journal.specs.declared.event.Why.TheVariants.{Error, Memory}
use Rattle.gpu_journal.specs.World.{known, state_of, stream_in}
use Rattle.gpu_journal.specs.Waits.{left_of}
use Rattle.gpu_journal.specs.Facts.{flush_of, put_of, facts_at, verdict_at, reach}
use Rattle.gpu_journal.specs.Legal.{AreFetched, MayHaveBeenPut, Obeys, IsLegal}
use Rattle.serial_laws.proofs.Fitting.{first_some}
use Rattle.serial_laws.proofs.Fronts.{flush_same, put_same}
use Rattle.race_laws.specs.Works.{Work, Executed, Finished, Refused, work_of, works, bare}
use Rattle.race_laws.specs.Settled.{IsStill, FetchesStill}
use Rattle.race_laws.proofs.Answers.{verdict_bare}
use Rattle.race_laws.proofs.Own.{Own, own_same}
use Rattle.race_laws.proofs.Copies.{same_words}

-- what the rules say of a work
abbrev pub Works : PlansData → List Event → ℕ → Work → Type 0
Works p g s (Executed words) = AreFetched p g s words × All (MayHaveBeenPut p g s) words × IsOk (verdict_at p g s words)
Works p g s Finished = (facts_at p g s).get ≡ (facts_at p g s).put
Works p g s (Refused error words) = AreFetched p g s words × All (MayHaveBeenPut p g s) words × (verdict_at p g s words ≡ Err error)

-- its words were not changed in flight
abbrev pub StillWorks : PlansData → List Event → ℕ → Work → Type 0
StillWorks p g s (Executed words) = All (IsStill p g s) words
StillWorks p g s Finished = Unit {0}
StillWorks p g s (Refused error words) = All (IsStill p g s) words

-- a work that obeys its rules
pub record Worked (p : PlansData) (g : List Event) (s : ℕ) (work : Work) : Type 0 where
  pub some : IsSome (first_order (left_of p g s))
  pub so : Works p g s work

worked_here : (p : PlansData) (g : List Event) (e : Event) (work : Work) → Obeys p g e → work_of e ≡ Some work → Worked p g (stream_in e) work
worked_here p g (Order s n c) work o is = absurd (cc)
worked_here p g (Step s words) work o is =
    let same : Executed words ≡ work = cc in
    subst (Worked p g s) same record { some = o.rule_4; so = (o.rule_7, o.rule_8, o.rule_9) }
worked_here p g (Finish s n) work o is =
    let same : Finished ≡ work = cc in
    subst (Worked p g s) same record { some = first_some (first_order (left_of p g s)) n o.rule_4; so = o.rule_10 }
worked_here p g (Lost s (Error error) words) work o is =
    let same : Refused error words ≡ work = cc in
    subst (Worked p g s) same record { some = o.rule_4; so = (o.rule_7, o.rule_8, o.rule_9) }
worked_here p g (Lost s Memory words) work o is = absurd (cc)
worked_here p g (Close s) work o is = absurd (cc)

pub worked : (p : PlansData) (g : List Event) (e : Event) (s : ℕ) (work : Work) → Obeys p g e → stream_in e ≡ s → work_of e ≡ Some work → Worked p g s work
worked p g e s work o own is = subst (λ (t : ℕ). Worked p g t work) own (worked_here p g e work o is)

pub still_worked : (p : PlansData) (g : List Event) (e : Event) (s : ℕ) (work : Work) → FetchesStill p g s e → stream_in e ≡ s → work_of e ≡ Some work → StillWorks p g s work
still_worked p g (Order t n c) s work still own is = absurd (cc)
still_worked p g (Step t words) s work still own is = let same : Executed words ≡ work = cc in subst (StillWorks p g s) same (still own)
still_worked p g (Finish t n) s work still own is = let same : Finished ≡ work = cc in subst (StillWorks p g s) same tt
still_worked p g (Lost t (Error error) words) s work still own is = let same : Refused error words ≡ work = cc in subst (StillWorks p g s) same (still own)
still_worked p g (Lost t Memory words) s work still own is = absurd (cc)
still_worked p g (Close t) s work still own is = absurd (cc)

-- what counts for the next work of a stream that has an unprocessed number
record Alike (p : PlansData) (h g : List Event) (s : ℕ) : Type 0 where
  flush : flush_of p h s ≡ flush_of p g s
  reached : reach p h s ≡ reach p g s
  facts : facts_at p h s ≡ facts_at p g s
  verdicts : (words : List (ℕ × ℕ)) → verdict_at p h s words ≡ verdict_at p g s words

alike : (p : PlansData) (h g : List Event) (s : ℕ) → IsLegal p h → IsLegal p g → IsSome (first_order (left_of p h s)) → IsSome (first_order (left_of p g s)) → works h s ≡ works g s → Alike p h g s
alike p h g s legal also some there same =
    let own = own_same p h g s same in
    let state : bare (state_of p h s) ≡ bare (state_of p g s) = ap (λ (o : Own). o.state) own in
    let finished : (known p h s).finished ≡ (known p g s).finished = ap (λ (o : Own). o.finished) own in
    let tokens : (known p h s).tokens ≡ (known p g s).tokens = ap (λ (o : Own). o.tokens) own in
    let put : put_of p h s ≡ put_of p g s = put_same p h g s legal also some there finished in
    let facts : facts_at p h s ≡ facts_at p g s = λ i. facts_of (plan_of p s).areas (put i) (state i) in
    record {
      flush = flush_same p h g s legal also some there finished;
      reached = λ i. bound (plan_of p s).actions (finished i) (tokens i);
      facts = facts;
      verdicts = λ words. sym (verdict_bare words (facts_at p h s) (state_of p h s)) ∙ (λ i. verdict words (facts i) (state i)) ∙ verdict_bare words (facts_at p g s) (state_of p g s);
    }

-- the words of both
words_alike : (p : PlansData) (h g : List Event) (s : ℕ) (words others : List (ℕ × ℕ)) → Alike p h g s → AreFetched p h s words → AreFetched p g s others → All (IsStill p h s) words → All (MayHaveBeenPut p g s) others → words ≡ others
words_alike p h g s words others same fetched also still put =
    let actions = (plan_of p s).actions in
    let P : ℕ → ℕ → Type 0 = λ i v. (k : ℕ) → flush_of p h s ≤ k → k ≤ reach p h s → value_at actions k i ≡ v in
    let Q : ℕ → ℕ → Type 0 = λ i v. MayHold actions (flush_of p g s) (reach p g s) i v in
    same_words P Q words others (facts_at p h s)
    (λ i v w all may. sym (all may.done (subst (λ (c : ℕ). c ≤ may.done) (sym same.flush) may.since) (subst (λ (b : ℕ). may.done ≤ b) (sym same.reached) may.until)) ∙ may.held)
    (recursion_from_All (λ word. P word.0 word.1) words still)
    (recursion_from_All (λ word. Q word.0 word.1) others put)
    fetched.1
    (subst (λ (facts : StreamFacts). places_listed others ≡ fetched_places others facts) (sym same.facts) also.1)

-- the two are the same
pub next_same : (p : PlansData) (h g : List Event) (s : ℕ) (work other : Work) → IsLegal p h → IsLegal p g → works h s ≡ works g s → Worked p h s work → StillWorks p h s work → Worked p g s other → work ≡ other
next_same p h g s work other legal also same one still two = by work other (alike p h g s legal also one.some two.some same) one.so still two.so
  where
    ends : Alike p h g s → (facts_at p h s).get ≡ (facts_at p h s).put → (facts_at p g s).get ≡ (facts_at p g s).put
    ends a e = subst (λ (facts : StreamFacts). facts.get ≡ facts.put) a.facts e

    back : Alike p h g s → (facts_at p g s).get ≡ (facts_at p g s).put → (facts_at p h s).get ≡ (facts_at p h s).put
    back a e = subst (λ (facts : StreamFacts). facts.get ≡ facts.put) (sym a.facts) e

    judged : (words others : List (ℕ × ℕ)) (error : CmdError) → words ≡ others → Alike p h g s → IsOk (verdict_at p h s words) → verdict_at p g s others ≡ Err error → ⊥
    judged words others error is a ok err =
        let there : verdict_at p h s words ≡ Err error = a.verdicts words ∙ ap (verdict_at p g s) is ∙ err in
        let bad = subst IsOk there ok in
        cc

    by : (work other : Work) → Alike p h g s → Works p h s work → StillWorks p h s work → Works p g s other → work ≡ other
    by (Executed words) (Executed others) a x still y = ap Executed (words_alike p h g s words others a x.0 y.0 still y.1)
    by (Executed words) Finished a x still y = absurd (x.0.0 (back a y))
    by (Executed words) (Refused error others) a x still y = absurd (judged words others error (words_alike p h g s words others a x.0 y.0 still y.1) a x.2 y.2)
    by Finished (Executed others) a x still y = absurd (y.0.0 (ends a x))
    by Finished Finished a x still y = refl
    by Finished (Refused error others) a x still y = absurd (y.0.0 (ends a x))
    by (Refused error words) (Executed others) a x still y =
        let is = words_alike p h g s words others a x.0 y.0 still y.1 in
        let there : verdict_at p g s others ≡ Err error = sym (a.verdicts others) ∙ ap (verdict_at p h s) (sym is) ∙ x.2 in
        let bad = subst IsOk there y.2 in
        absurd (cc)
    by (Refused error words) Finished a x still y = absurd (x.0.0 (back a y))
    by (Refused error words) (Refused error' others) a x still y =
        let is = words_alike p h g s words others a x.0 y.0 still y.1 in
        let there : Err error ≡ Err error' = sym x.2 ∙ a.verdicts words ∙ ap (verdict_at p g s) is ∙ y.2 in
        let error_is : error ≡ error' = cc in
        λ i. Refused (error_is i) (is i)
