-- What is looked at of an event is the first rule that it breaks.
use Rattle.std.proofs.Common.{◌≡◌, ◌≢◌, ℕ, ◌+◌, ◌≤◌, Bool, true, false, not, eqb, ◌&&◌, Option, Some, None, Result, Ok, Err, List, [], ◌∷◌, length, refl, sym, ap, subst, ◌∙◌, arith, IsSome}
use Rattle.std.specs.Prelude.{is_some, slice_get, IsOk}
use Rattle.std.specs.Bool.{Decides}
use Rattle.std.specs.Option.{option_map_or}
use Rattle.std.specs.List.{All}
use Rattle.std.proofs.lemmas.Bool.Decides.{nat_tests}
use Rattle.std.proofs.lemmas.Bool.{and_parts, and_from, both_ways}
use Rattle.std.proofs.lemmas.List.{nil_from_length}
use Rattle.gpu_cmd.specs.declared.command.Command.{Command}
use Rattle.gpu_cmd.specs.declared.error.CmdError.{CmdError}
use Rattle.gpu_cmd.specs.declared.facts.StreamFacts.{StreamFacts}
use Rattle.gpu_cmd.specs.Errors.{code_of}
use Rattle.gpu_cmd.specs.Copied.{places_listed, fetched_places, copied, IsCopy}
use Rattle.gpu_plan.specs.Plans.{PlansData, plan_of}
use Rattle.gpu_plan.specs.Passes.{flushes}
use Rattle.gpu_plan.specs.Places.{flush_places}
use Rattle.stream_state.specs.State.{State}
use Rattle.stream_state.specs.Verdict.{checked_state}
use Rattle.stream_state.proofs.Telling.{copy_refuses, state_refuses, command_passes}
use Rattle.sync_core.specs.Standing.{first_order}
use Rattle.sync_core.specs.Pending.{is_blocked}
use Rattle.sync_core.specs.Core as core
use Rattle.gpu_plan.proofs.Counts.{places_count}
use Rattle.gpu_journal.specs.declared.event.Event.{Event}
use Rattle.gpu_journal.specs.declared.event.Event.TheVariants.{Order, Step, Finish, Lost, Close}
use Rattle.gpu_journal.specs.declared.event.Why.TheVariants.{Error, Memory}
use Rattle.gpu_journal.specs.World.{known, state_of}
use Rattle.gpu_journal.specs.Waits.{IsOpen, left_of, pending_in, drawn}
use Rattle.gpu_journal.specs.Facts.{flush_of, facts_at, verdict_at, reach}
use Rattle.gpu_journal.specs.Legal.{MayHaveBeenPut, MayClose, IsLegal}
use Rattle.gpu_journal.specs.Serial.{is_close}
use Rattle.gpu_journal.proofs.Worlds.{known_of_left}
use Rattle.gpu_journal.proofs.Errors.{same_error}
use Rattle.serial_laws.specs.Scripts.{AreLawfulPlans}
use Rattle.serial_laws.proofs.Fitting.{first_some}
use Rattle.serial_laws.proofs.Obeying.{close_of}
use Rattle.serial_laws.proofs.Further.{flush_reached}
use Rattle.journal_verify.specs.declared.outcome.Outcome.{Outcome}
use Rattle.journal_verify.specs.declared.outcome.Outcome.TheVariants.{Broken, Valid, Refused}
use Rattle.journal_verify.specs.Rules.{IsFirstFailing}
use Rattle.journal_verify.specs.Answers.{IsJudged}
use Rattle.journal_verify.specs.Kept.{WatchData, JudgeData, watch_of}
use Rattle.journal_verify.specs.Copy.{copy_read}
use Rattle.journal_verify.specs.Faults.{or_fault, is_this_number, is_open_in, next_flush, order_fault, kept_state, kept_facts, are_held, or_broken, checked_outcome, verdict_outcome, copy_outcome, fetch_outcome, step_fault, lost_fault, finish_fault, memory_fault, may_close, close_fault, fault_of}
use Rattle.journal_verify.specs.Follows.{Follows}
use Rattle.journal_verify.proofs.Copying.{IsRead, copy_is}
use Rattle.journal_verify.proofs.Following.{told, watched, watch_of_known, open_decides, left_is, blocked_is, facts_are, reach_is, held_decides}

-- ---- orders

number_is : (o : Option ℕ) (n : ℕ) → Decides (is_this_number o n) (o ≡ Some n)
number_is None n = (λ e. absurd (cc), λ e. absurd (cc))
number_is (Some m) n = (λ e. (let same : m ≡ n = grind (arith, nat_tests) in ap Some same), λ e. (let same : m ≡ n = cc in grind (arith, nat_tests)))

-- the place is that of the next flush, where the stream has a watch
next_decides : (p : PlansData) (h : List Event) (j : JudgeData) (s c : ℕ) → Follows p h j → IsOpen p h s → Decides (option_map_or (λ w. is_this_number (next_flush w) c) (watch_of j s) false) (slice_get (flush_places (plan_of p s).actions) (known p h s).ordered ≡ Some c)
next_decides p h j s c f o =
    let w = watch_of_known p j s f.fits o.known in
    let same : next_flush w.0 ≡ slice_get (flush_places (plan_of p s).actions) (known p h s).ordered = (λ i. slice_get ((watched p h j s w.0 f w.1).flushes i) ((told p h j s w.0 f w.1).ordered i)) in
    subst (λ (o : Option WatchData). Decides (option_map_or (λ w. is_this_number (next_flush w) c) o false) (slice_get (flush_places (plan_of p s).actions) (known p h s).ordered ≡ Some c)) (sym w.1)
    (subst (λ (o : Option ℕ). Decides (is_this_number (next_flush w.0) c) (o ≡ Some c)) same (number_is (next_flush w.0) c))

order_judged : (p : PlansData) (h : List Event) (j : JudgeData) (s n c : ℕ) → Follows p h j → IsJudged p h (Order s n c) (order_fault j s n c)
order_judged p h j s n c f = by (is_open_in j s) (eqb n (j.drawn + 1)) (option_map_or (λ w. is_this_number (next_flush w) c) (watch_of j s) false) refl refl refl
  where
    drawn_is : j.drawn + 1 ≡ drawn p h + 1
    drawn_is = ap (λ n. n + 1) f.drawn

    by : (a b d : Bool) → is_open_in j s ≡ a → eqb n (j.drawn + 1) ≡ b → option_map_or (λ w. is_this_number (next_flush w) c) (watch_of j s) false ≡ d → IsJudged p h (Order s n c) (or_fault a 1 (or_fault b 2 (or_fault d 3 None)))
    by false b d ea eb ed = λ o. let t = (open_decides p h j s f).1 o in absurd (cc)
    by true false d ea eb ed =
        let o = (open_decides p h j s f).0 ea in
        (o, λ e. let same : n ≡ j.drawn + 1 = e ∙ sym drawn_is in let t : eqb n (j.drawn + 1) ≡ true = grind (arith, nat_tests) in absurd (cc))
    by true true false ea eb ed =
        let o = (open_decides p h j s f).0 ea in
        let same : n ≡ j.drawn + 1 = grind (arith, nat_tests) in
        (o, (same ∙ drawn_is, λ e. let t = (next_decides p h j s c f o).1 e in absurd (cc)))
    by true true true ea eb ed =
        let o = (open_decides p h j s f).0 ea in
        let same : n ≡ j.drawn + 1 = grind (arith, nat_tests) in
        record { rule_1 = o; rule_2 = same ∙ drawn_is; rule_3 = (next_decides p h j s c f o).0 ed; rule_4 = tt; rule_5 = tt; rule_6 = tt; rule_7 = tt; rule_8 = tt; rule_9 = tt; rule_10 = tt; rule_11 = tt; rule_12 = tt }

-- ---- words that are fetched

-- rules 4 to 8 of words of stream s
record IsFetched (p : PlansData) (h : List Event) (s : ℕ) (words : List (ℕ × ℕ)) : Type 0 where
  some : IsSome (first_order (left_of p h s))
  free : is_blocked s (left_of p h s) (pending_in p h) ≡ false
  reached : flush_of p h s ≤ reach p h s
  more : (facts_at p h s).get ≢ (facts_at p h s).put
  places : places_listed words ≡ fetched_places words (facts_at p h s)
  held : All (MayHaveBeenPut p h s) words

-- the rules of an event with these words, of which the ninth is this
abbrev fetch_rules : PlansData → List Event → ℕ → List (ℕ × ℕ) → Type 0 → List (Type 0)
fetch_rules p h s words ninth =
    Unit {0} ∷ Unit {0} ∷ Unit {0}
    ∷ IsSome (first_order (left_of p h s)) ∷ (is_blocked s (left_of p h s) (pending_in p h) ≡ false) ∷ (flush_of p h s ≤ reach p h s)
    ∷ (((facts_at p h s).get ≢ (facts_at p h s).put) × (places_listed words ≡ fetched_places words (facts_at p h s))) ∷ All (MayHaveBeenPut p h s) words ∷ ninth
    ∷ Unit {0} ∷ Unit {0} ∷ Unit {0} ∷ []

-- what an outcome says
abbrev IsFound : PlansData → List Event → ℕ → List (ℕ × ℕ) → Type 0 → Outcome → Type 0
IsFound p h s words ninth (Broken rule) = IsFirstFailing (fetch_rules p h s words ninth) rule
IsFound p h s words ninth (Valid command) = IsFetched p h s words × (verdict_at p h s words ≡ Ok command)
IsFound p h s words ninth (Refused error) = IsFetched p h s words × (verdict_at p h s words ≡ Err error)

checked_found : (p : PlansData) (h : List Event) (s : ℕ) (words : List (ℕ × ℕ)) (ninth : Type 0) (command : Command) (checked : Result (Unit {0}) CmdError) → checked_state command (state_of p h s) ≡ checked → copied words (facts_at p h s) ≡ Ok command → IsFetched p h s words
    → IsFound p h s words ninth (checked_outcome command checked)
checked_found p h s words ninth command (Ok x) e copy fetched = (fetched, command_passes words (facts_at p h s) (state_of p h s) command copy e)
checked_found p h s words ninth command (Err error) e copy fetched = (fetched, state_refuses words (facts_at p h s) (state_of p h s) command error copy e)

verdict_found : (p : PlansData) (h : List Event) (s : ℕ) (words : List (ℕ × ℕ)) (ninth : Type 0) (answer : Result Command CmdError) → copied words (facts_at p h s) ≡ answer → IsFetched p h s words → IsFound p h s words ninth (verdict_outcome answer (state_of p h s))
verdict_found p h s words ninth (Ok command) copy fetched = checked_found p h s words ninth command (checked_state command (state_of p h s)) refl copy fetched
verdict_found p h s words ninth (Err error) copy fetched = (fetched, copy_refuses words (facts_at p h s) (state_of p h s) error copy)

fetch_judged : (p : PlansData) (h : List Event) (j : JudgeData) (s : ℕ) (words : List (ℕ × ℕ)) (ninth : Type 0) → AreLawfulPlans p → IsLegal p h → Follows p h j → IsFound p h s words ninth (fetch_outcome p j s words)
fetch_judged p h j s words ninth lawful legal f =
    by (is_some (first_order (core.unprocessed_of j.core s))) (core.blocked j.core s) (eqb (kept_facts p j s).get (kept_facts p j s).put) (copy_read words (kept_facts p j s)) (are_held j s words) refl refl refl refl refl
  where
    left : first_order (core.unprocessed_of j.core s) ≡ first_order (left_of p h s)
    left = ap first_order (left_is p h j s f)

    facts : IsSome (first_order (left_of p h s)) → kept_facts p j s ≡ facts_at p h s
    facts some =
        let w = watch_of_known p j s f.fits (known_of_left p h s legal some) in
        facts_are p h j s w.0 legal f w.1 some

    apart : IsSome (first_order (left_of p h s)) → eqb (kept_facts p j s).get (kept_facts p j s).put ≡ false → (facts_at p h s).get ≢ (facts_at p h s).put
    apart some e = subst (λ (x : StreamFacts). x.get ≢ x.put) (facts some) (λ same. let t : eqb (kept_facts p j s).get (kept_facts p j s).put ≡ true = grind (arith, nat_tests) in absurd (cc))

    held : (some : IsSome (first_order (left_of p h s))) → flush_of p h s ≤ reach p h s → Decides (are_held j s words) (All (MayHaveBeenPut p h s) words)
    held some reached = let w = watch_of_known p j s f.fits (known_of_left p h s legal some) in held_decides p h j s w.0 words legal f w.1 some reached

    by : (a b c : Bool) (o : Option (Result Command CmdError)) (d : Bool) → is_some (first_order (core.unprocessed_of j.core s)) ≡ a → core.blocked j.core s ≡ b → eqb (kept_facts p j s).get (kept_facts p j s).put ≡ c → copy_read words (kept_facts p j s) ≡ o → are_held j s words ≡ d
        → IsFound p h s words ninth (or_broken a 4 (or_broken (not b) 5 (or_broken (not c) 7 (copy_outcome o d (kept_state j s)))))
    by false b c o d ea eb ec eo ed = (tt, (tt, (tt, both_ways (is_some (first_order (left_of p h s))) (ap is_some (sym left) ∙ ea))))
    by true true c o d ea eb ec eo ed =
        let some = ap is_some (sym left) ∙ ea in
        (tt, (tt, (tt, (some, λ e. let q = blocked_is p h j s f ∙ e in absurd (cc)))))
    by true false c o d ea eb ec eo ed = further c o d ec eo ed
      where
        some : IsSome (first_order (left_of p h s))
        some = ap is_some (sym left) ∙ ea

        free : is_blocked s (left_of p h s) (pending_in p h) ≡ false
        free = sym (blocked_is p h j s f) ∙ eb

        reached : flush_of p h s ≤ reach p h s
        reached = flush_reached p h s lawful legal (record { isknown = known_of_left p h s legal some; some = some; free = free })

        further : (c : Bool) (o : Option (Result Command CmdError)) (d : Bool) → eqb (kept_facts p j s).get (kept_facts p j s).put ≡ c → copy_read words (kept_facts p j s) ≡ o → are_held j s words ≡ d → IsFound p h s words ninth (or_broken (not c) 7 (copy_outcome o d (kept_state j s)))
        further true o d ec eo ed = (tt, (tt, (tt, (some, (free, (reached, λ both. ended both))))))
          where
            ended : ((facts_at p h s).get ≢ (facts_at p h s).put) × (places_listed words ≡ fetched_places words (facts_at p h s)) → ⊥
            ended both =
                let same : (kept_facts p j s).get ≡ (kept_facts p j s).put = grind (arith, nat_tests) in
                both.0 (subst (λ (x : StreamFacts). x.get ≡ x.put) (facts some) same)
        further false None d ec eo ed = (tt, (tt, (tt, (some, (free, (reached, λ both. elsewhere both.1))))))
          where
            elsewhere : places_listed words ≡ fetched_places words (facts_at p h s) → ⊥
            elsewhere e = subst (λ (o : Option (Result Command CmdError)). IsRead words (kept_facts p j s) o) eo (copy_is words (kept_facts p j s)) (e ∙ ap (fetched_places words) (sym (facts some)))
        further false (Some answer) d ec eo ed = words_held d ed
          where
            copy : IsCopy words (facts_at p h s) answer
            copy = subst (λ (x : StreamFacts). IsCopy words x answer) (facts some) (subst (λ (o : Option (Result Command CmdError)). IsRead words (kept_facts p j s) o) eo (copy_is words (kept_facts p j s)))

            words_held : (d : Bool) → are_held j s words ≡ d → IsFound p h s words ninth (or_broken d 8 (verdict_outcome answer (kept_state j s)))
            words_held false ed = (tt, (tt, (tt, (some, (free, (reached, ((apart some ec, copy.places), λ all. let t = (held some reached).1 all in absurd (cc))))))))
            words_held true ed =
                subst (λ (x : State). IsFound p h s words ninth (verdict_outcome answer x)) (sym (f.shows.each s))
                (verdict_found p h s words ninth answer copy.verdict (record { some = some; free = free; reached = reached; more = apart some ec; places = copy.places; held = (held some reached).0 ed }))

-- ---- steps and losses by an error

ok_of : (answer : Result Command CmdError) (command : Command) → answer ≡ Ok command → IsOk answer
ok_of (Ok command') command e = refl
ok_of (Err error) command e = absurd (cc)

no_ok : (answer : Result Command CmdError) (error : CmdError) → answer ≡ Err error → IsOk answer → ⊥
no_ok (Ok command) error e ok = cc
no_ok (Err error') error e ok = cc

step_judged : (p : PlansData) (h : List Event) (s : ℕ) (words : List (ℕ × ℕ)) (outcome : Outcome) → IsFound p h s words (IsOk (verdict_at p h s words)) outcome → IsJudged p h (Step s words) (step_fault outcome)
step_judged p h s words (Broken rule) found = found
step_judged p h s words (Valid command) found =
    let x = found.0 in
    record { rule_1 = tt; rule_2 = tt; rule_3 = tt; rule_4 = x.some; rule_5 = x.free; rule_6 = x.reached; rule_7 = (x.more, x.places); rule_8 = x.held; rule_9 = ok_of (verdict_at p h s words) command found.1; rule_10 = tt; rule_11 = tt; rule_12 = tt }
step_judged p h s words (Refused error) found =
    let x = found.0 in
    (tt, (tt, (tt, (x.some, (x.free, (x.reached, ((x.more, x.places), (x.held, no_ok (verdict_at p h s words) error found.1))))))))

lost_judged : (p : PlansData) (h : List Event) (s : ℕ) (error : CmdError) (words : List (ℕ × ℕ)) (outcome : Outcome) → IsFound p h s words (verdict_at p h s words ≡ Err error) outcome → IsJudged p h (Lost s (Error error) words) (lost_fault error outcome)
lost_judged p h s error words (Broken rule) found = found
lost_judged p h s error words (Valid command) found =
    let x = found.0 in
    (tt, (tt, (tt, (x.some, (x.free, (x.reached, ((x.more, x.places), (x.held, λ e. let q = found.1 in cc))))))))
lost_judged p h s error words (Refused other) found = by (eqb (code_of other) (code_of error)) refl
  where
    by : (b : Bool) → eqb (code_of other) (code_of error) ≡ b → IsJudged p h (Lost s (Error error) words) (or_fault b 9 None)
    by true e =
        let x = found.0 in
        let same : other ≡ error = same_error other error (grind (arith, nat_tests)) in
        record { rule_1 = tt; rule_2 = tt; rule_3 = tt; rule_4 = x.some; rule_5 = x.free; rule_6 = x.reached; rule_7 = (x.more, x.places); rule_8 = x.held; rule_9 = found.1 ∙ ap Err same; rule_10 = tt; rule_11 = tt; rule_12 = tt }
    by false e =
        let x = found.0 in
        (tt, (tt, (tt, (x.some, (x.free, (x.reached, ((x.more, x.places), (x.held, λ q. unlike q))))))))
      where
        unlike : verdict_at p h s words ≡ Err error → ⊥
        unlike q =
            let answers = sym found.1 ∙ q in
            let same : other ≡ error = cc in
            let codes : code_of other ≡ code_of error = ap code_of same in
            let t : eqb (code_of other) (code_of error) ≡ true = grind (arith, nat_tests) in
            absurd (cc)

-- ---- finishes

finish_judged : (p : PlansData) (h : List Event) (j : JudgeData) (s n : ℕ) → AreLawfulPlans p → IsLegal p h → Follows p h j → IsJudged p h (Finish s n) (finish_fault p j s n)
finish_judged p h j s n lawful legal f = by (is_this_number (first_order (core.unprocessed_of j.core s)) n) (core.blocked j.core s) (eqb (kept_facts p j s).get (kept_facts p j s).put) refl refl refl
  where
    left : first_order (core.unprocessed_of j.core s) ≡ first_order (left_of p h s)
    left = ap first_order (left_is p h j s f)

    by : (a b c : Bool) → is_this_number (first_order (core.unprocessed_of j.core s)) n ≡ a → core.blocked j.core s ≡ b → eqb (kept_facts p j s).get (kept_facts p j s).put ≡ c → IsJudged p h (Finish s n) (or_fault a 4 (or_fault (not b) 5 (or_fault c 10 None)))
    by false b c ea eb ec = (tt, (tt, (tt, λ e. let t = (number_is (first_order (core.unprocessed_of j.core s)) n).1 (left ∙ e) in absurd (cc))))
    by true true c ea eb ec = (tt, (tt, (tt, (sym left ∙ (number_is (first_order (core.unprocessed_of j.core s)) n).0 ea, λ e. let q = blocked_is p h j s f ∙ e in absurd (cc)))))
    by true false c ea eb ec = ended c ec
      where
        first : first_order (left_of p h s) ≡ Some n
        first = sym left ∙ (number_is (first_order (core.unprocessed_of j.core s)) n).0 ea

        some : IsSome (first_order (left_of p h s))
        some = first_some (first_order (left_of p h s)) n first

        free : is_blocked s (left_of p h s) (pending_in p h) ≡ false
        free = sym (blocked_is p h j s f) ∙ eb

        reached : flush_of p h s ≤ reach p h s
        reached = flush_reached p h s lawful legal (record { isknown = known_of_left p h s legal some; some = some; free = free })

        facts : kept_facts p j s ≡ facts_at p h s
        facts = let w = watch_of_known p j s f.fits (known_of_left p h s legal some) in facts_are p h j s w.0 legal f w.1 some

        ended : (c : Bool) → eqb (kept_facts p j s).get (kept_facts p j s).put ≡ c → IsJudged p h (Finish s n) (or_fault c 10 None)
        ended true ec =
            let same : (kept_facts p j s).get ≡ (kept_facts p j s).put = grind (arith, nat_tests) in
            record { rule_1 = tt; rule_2 = tt; rule_3 = tt; rule_4 = first; rule_5 = free; rule_6 = reached; rule_7 = tt; rule_8 = tt; rule_9 = tt; rule_10 = subst (λ (x : StreamFacts). x.get ≡ x.put) facts same; rule_11 = tt; rule_12 = tt }
        ended false ec = (tt, (tt, (tt, (first, (free, (reached, (tt, (tt, (tt, more)))))))))
          where
            more : (facts_at p h s).get ≡ (facts_at p h s).put → ⊥
            more e =
                let same : (kept_facts p j s).get ≡ (kept_facts p j s).put = subst (λ (x : StreamFacts). x.get ≡ x.put) (sym facts) e in
                let t : eqb (kept_facts p j s).get (kept_facts p j s).put ≡ true = grind (arith, nat_tests) in
                absurd (cc)

-- ---- losses as out of memory, and closes

memory_judged : (p : PlansData) (h : List Event) (j : JudgeData) (s : ℕ) (words : List (ℕ × ℕ)) → Follows p h j → IsJudged p h (Lost s Memory words) (memory_fault j s words)
memory_judged p h j s words f = by (is_open_in j s) (eqb (length words) 0) refl refl
  where
    by : (a b : Bool) → is_open_in j s ≡ a → eqb (length words) 0 ≡ b → IsJudged p h (Lost s Memory words) (or_fault (a && b) 11 None)
    by true true ea eb =
        let none : length words ≡ 0 = grind (arith, nat_tests) in
        record { rule_1 = tt; rule_2 = tt; rule_3 = tt; rule_4 = tt; rule_5 = tt; rule_6 = tt; rule_7 = tt; rule_8 = tt; rule_9 = tt; rule_10 = tt; rule_11 = ((open_decides p h j s f).0 ea, nil_from_length words none); rule_12 = tt }
    by true false ea eb = (tt, (tt, (tt, (tt, (tt, (tt, (tt, (tt, (tt, (tt, λ both. let none : length words ≡ 0 = ap length both.1 in let t : eqb (length words) 0 ≡ true = grind (arith, nat_tests) in absurd (cc)))))))))))
    by false b ea eb = (tt, (tt, (tt, (tt, (tt, (tt, (tt, (tt, (tt, (tt, λ both. let t = (open_decides p h j s f).1 both.0 in absurd (cc)))))))))))

close_decides : (p : PlansData) (h : List Event) (j : JudgeData) (s : ℕ) (w : WatchData) → Follows p h j → watch_of j s ≡ Some w → is_open_in j s ≡ w.stays → Decides (may_close (plan_of p s).actions w) (MayClose p h s)
close_decides p h j s w f at stays = (told_by, told_of)
  where
    ordered : length w.flushes ≡ flushes (plan_of p s).actions
    ordered = ap length (watched p h j s w f at).flushes ∙ places_count 0 (plan_of p s).actions

    told_by : may_close (plan_of p s).actions w ≡ true → MayClose p h s
    told_by e =
        let both = and_parts (w.stays && eqb w.ordered (length w.flushes)) (is_close (slice_get (plan_of p s).actions w.client.reached.upto)) e in
        let first = and_parts w.stays (eqb w.ordered (length w.flushes)) both.0 in
        let all : w.ordered ≡ length w.flushes = let t = first.1 in grind (arith, nat_tests) in
        record {
          still_open = (open_decides p h j s f).0 (stays ∙ first.0);
          ordered = sym (told p h j s w f at).ordered ∙ all ∙ ordered;
          reached = ap (slice_get (plan_of p s).actions) (sym (reach_is p h j s w f at)) ∙ close_of (slice_get (plan_of p s).actions w.client.reached.upto) both.1;
        }

    told_of : MayClose p h s → may_close (plan_of p s).actions w ≡ true
    told_of may =
        let open' : w.stays ≡ true = sym stays ∙ (open_decides p h j s f).1 may.still_open in
        let all : w.ordered ≡ length w.flushes = (told p h j s w f at).ordered ∙ may.ordered ∙ sym ordered in
        let test : eqb w.ordered (length w.flushes) ≡ true = grind (arith, nat_tests) in
        let close : is_close (slice_get (plan_of p s).actions w.client.reached.upto) ≡ true = ap (λ n. is_close (slice_get (plan_of p s).actions n)) (reach_is p h j s w f at) ∙ ap is_close may.reached in
        and_from (w.stays && eqb w.ordered (length w.flushes)) (is_close (slice_get (plan_of p s).actions w.client.reached.upto)) (and_from w.stays (eqb w.ordered (length w.flushes)) open' test) close

close_judged : (p : PlansData) (h : List Event) (j : JudgeData) (s : ℕ) → Follows p h j → IsJudged p h (Close s) (close_fault p j s)
close_judged p h j s f = by (watch_of j s) refl
  where
    answer : (b : Bool) → Decides b (MayClose p h s) → IsJudged p h (Close s) (or_fault b 12 None)
    answer true d = record { rule_1 = tt; rule_2 = tt; rule_3 = tt; rule_4 = tt; rule_5 = tt; rule_6 = tt; rule_7 = tt; rule_8 = tt; rule_9 = tt; rule_10 = tt; rule_11 = tt; rule_12 = d.0 refl }
    answer false d = (tt, (tt, (tt, (tt, (tt, (tt, (tt, (tt, (tt, (tt, (tt, λ may. let t = d.1 may in absurd (cc))))))))))))

    by : (o : Option WatchData) → watch_of j s ≡ o → IsJudged p h (Close s) (or_fault (option_map_or (may_close (plan_of p s).actions) o false) 12 None)
    by None at = answer false (λ e. absurd (cc), λ may. let w = watch_of_known p j s f.fits may.still_open.known in let q = sym at ∙ w.1 in absurd (cc))
    by (Some w) at = answer (may_close (plan_of p s).actions w) (close_decides p h j s w f at (ap (λ (o : Option WatchData). option_map_or (λ (w : WatchData). w.stays) o false) at))

-- ---- every event

pub judged : (p : PlansData) (h : List Event) (j : JudgeData) (e : Event) → AreLawfulPlans p → IsLegal p h → Follows p h j → IsJudged p h e (fault_of p j e)
judged p h j (Order s n c) lawful legal f = order_judged p h j s n c f
judged p h j (Step s words) lawful legal f = step_judged p h s words (fetch_outcome p j s words) (fetch_judged p h j s words (IsOk (verdict_at p h s words)) lawful legal f)
judged p h j (Finish s n) lawful legal f = finish_judged p h j s n lawful legal f
judged p h j (Lost s (Error error) words) lawful legal f = lost_judged p h s error words (fetch_outcome p j s words) (fetch_judged p h j s words (verdict_at p h s words ≡ Err error) lawful legal f)
judged p h j (Lost s Memory words) lawful legal f = memory_judged p h j s words f
judged p h j (Close s) lawful legal f = close_judged p h j s f
