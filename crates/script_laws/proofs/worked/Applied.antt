-- Laws on which no other proof rests, each applied once: if one of them said less, its case here could not be shown.
use Rattle.std.proofs.Common.{◌≡◌, ℕ, suc, Bool, cond, ◌+◌, ◌*◌, ◌^◌, ◌<◌, ◌≤◌, lit<, true, false, Some, Result, Ok, IfOk, List, [], ◌∷◌, ◌++◌, length, map, take, refl, sym, ap, subst, ◌∙◌, arith}
use Rattle.std.proofs.lemmas.Bool.{both_ways, and_from, eq-eqb}
use Rattle.std.specs.Prelude.{AllPairs, Contains, filter}
use Rattle.std.specs.List.{All}
use Rattle.std.proofs.lemmas.List.Elements.{All-head, All-contains}
use Rattle.std.proofs.lemmas.List.Kept.{AllPairs-from_increasing}
use Rattle.gpu_word.specs.Header.{size_of, id_of, SplitsJoined, JoinsSplit}
use Rattle.gpu_cmd.specs.declared.areas.Areas.{Areas}
use Rattle.gpu_cmd.specs.declared.facts.TheConstants.{MOST_FETCHED}
use Rattle.gpu_cmd.specs.Lawful.{IsLawfulAreas}
use Rattle.script_lines.specs.declared.fault.Kind.{Kind}
use Rattle.gpu_plan.specs.declared.plan.Action.{Action}
use Rattle.gpu_plan.specs.declared.plan.Action.TheVariants as actions
use Rattle.gpu_plan.specs.Plans.{PlansData, plan_of}
use Rattle.gpu_plan.specs.Passes.{flushes, passes, bound}
use Rattle.gpu_plan.specs.MayHold.{MayHold}
use Rattle.gpu_plan.specs.Laws.{NamesAreLawful, PassesOn, BoundIsFirst, MayHoldBehindFlush}
use Rattle.gpu_plan.specs.Named.{names_in, AreNumbered, AreLawfulNames}
use Rattle.gpu_plan.specs.Script.{script_of}
use Rattle.stream_state.specs.State.{State, IsBounded, result_of}
use Rattle.stream_state.specs.Steps.{Step, writes, stepped, stream_of}
use Rattle.stream_state.specs.Writes.{Writes, left_by_writes}
use Rattle.stream_state.specs.Told.{ReleasesRise}
use Rattle.stream_state.specs.Laws.{IsTaken, AreTaken, StepsMoveOn, StatesAreBounded, ResultsAreLastWritten, WritesRise, all_written}
use Rattle.sync_core.specs.declared.wait.Wait.{Wait}
use Rattle.sync_core.specs.declared.ending.Ending.{Ending}
use Rattle.sync_core.specs.declared.ending.How.TheVariants as how
use Rattle.sync_core.specs.Standing.{first_order, contains_number, has_below}
use Rattle.sync_core.specs.Events.{SyncEvent, standing, left}
use Rattle.sync_core.specs.Pending.{is_kept, is_blocked, still, kept_waits, pending}
use Rattle.sync_core.specs.Laws.{KeptIsDecided, EndedStaysEnded, WaitsRise, OrdersArePositive, OrdersRise, Precedes, IsPendingOfNamed, NoCycle}
use Rattle.gpu_journal.specs.declared.event.Event.{Event}
use Rattle.gpu_journal.specs.declared.event.Event.TheVariants as events
use Rattle.gpu_journal.specs.declared.event.Why.TheVariants.{Memory}
use Rattle.gpu_journal.specs.World.{known, state_of}
use Rattle.gpu_journal.specs.Folds.{steps_of, StateIsFold}
use Rattle.gpu_journal.specs.Waits.{sync_of, standing_of, left_of, pending_in, endings_in, IsOpen}
use Rattle.gpu_journal.specs.Facts.{flush_of, reach}
use Rattle.gpu_journal.specs.Legal.{IsLegal}
use Rattle.gpu_journal.specs.Complete.{IsComplete}
use Rattle.gpu_journal.specs.Serial.{serial}
use Rattle.gpu_journal.specs.Written.{result_at}
use Rattle.gpu_journal.specs.Dumps.{MayDump}
use Rattle.journal_text.specs.Digits.{number_text}
use Rattle.journal_text.specs.Text.{event_text}
use Rattle.journal_text.specs.Lines.{journal_head, dump_text, view_text}
use Rattle.journal_text.specs.Laws.{DifferentNumbers, EventsAreApart, OthersBegin, begins_other_part}
use Rattle.journal_text.specs.Output.{output, AreDumpLines, dump_lines}
use Rattle.serial_laws.specs.Scripts.{AreLawfulPlans}
use Rattle.serial_laws.specs.Going.{is_memory_loss}
use Rattle.serial_laws.specs.Laws.{UnfinishedHasEvent, SerialWantsNoMemory, MostEventsAreFew}
use Rattle.script_laws.specs.Kept.{kept_in, is_wait, is_ending_of, HasNotEnded, EndsSo, HasCause}
use Rattle.script_laws.specs.Laws.{ScriptsAreLawful, ScriptsRunLegally, ScriptsRunToTheEnd, DumpsMayBeTold, LaterMayBeTold, SameOutputIsSameHistory, SameRunIsSameHistory, SameThreadedRunIsSameHistory, NoneRunsWaiting, RunsAfterEndings, FinishedHaveEnded, NoneIsForgotten, NoneIsBoth, EndingsHaveCauses, CompleteWaitsForNone, SerialIsShort, SixAlwaysHolds}

-- ---- headers

-- of a size of 4 and the id 258 the header of CreateImage has both again
create_image : SplitsJoined → (size_of (4 + 258 * 2 ^ 21) ≡ 4) × (id_of (4 + 258 * 2 ^ 21) ≡ 258)
create_image law = law 4 258 (lit< tt)

-- entries with the same size and the same id are the same
one_header : JoinsSplit → (a b : ℕ) → size_of a ≡ size_of b → id_of a ≡ id_of b → a ≡ b
one_header law a b size id = sym (law a) ∙ ap (λ (n : ℕ). n + id_of a * 2 ^ 21) size ∙ ap (λ (n : ℕ). size_of b + n * 2 ^ 21) id ∙ law b

-- ---- clients

-- what passes goes on passing where one flush more is finished
finished_more : PassesOn → (xs : List Action) (k finished : ℕ) (tokens : List ℕ) → passes xs k finished tokens ≡ true → passes xs k (finished + 1) tokens ≡ true
finished_more law xs k finished tokens passing = law xs k finished (finished + 1) tokens tokens (omega arith) (λ token some. some) passing

-- a client whose first action does not pass has done nothing
stands_at_first : BoundIsFirst → (xs : List Action) (finished : ℕ) (tokens : List ℕ) → passes xs 0 finished tokens ≡ false → bound xs finished tokens ≡ 0
stands_at_first law xs finished tokens stops = law xs 0 finished tokens (λ k lt. absurd (omega (arith, lt))) stops

-- what may have been put since a first flush may have been put since the action after it
behind_first : MayHoldBehindFlush → (xs : List Action) (put most place value : ℕ) → MayHold (actions.Flush put [] ∷ xs) 0 (suc most) place value → MayHold (actions.Flush put [] ∷ xs) 1 (suc most) place value
behind_first law xs put most place value may = law (actions.Flush put [] ∷ xs) 0 put (suc most) place value [] refl (omega arith) may

-- ---- states

-- a step that is taken leaves another state
step_changes : StepsMoveOn → (areas : Areas) (words : List (ℕ × ℕ)) (state : State) → IsLawfulAreas areas → IsBounded state → IsTaken areas words state → stepped areas words state ≡ state → ⊥
step_changes law areas words state lawful bounded taken same =
    let moves = law areas words state lawful bounded taken in
    let more = moves.entries in
    let entries : (stepped areas words state).entries ≡ state.entries = ap (λ (s : State). s.entries) same in
    omega (arith, more, entries)

-- no stream fetches more words than it may
never_more : StatesAreBounded → (areas : Areas) (steps : List Step) → IsLawfulAreas areas → AreTaken areas steps → (stream_of areas steps).fetched ≤ MOST_FETCHED
never_more law areas steps lawful taken = (law areas steps lawful taken).fetched

-- steps that write the same leave the same results
same_results : ResultsAreLastWritten → (areas : Areas) (steps others : List Step) (place : ℕ) → all_written areas steps ≡ all_written areas others → result_of (stream_of areas steps) place ≡ result_of (stream_of areas others) place
same_results law areas steps others place same = law areas steps place ∙ ap (λ (all : Writes). left_by_writes all place 0) same ∙ sym (law areas others place)

-- no step writes a place twice
never_twice : WritesRise → (areas : Areas) (words : List (ℕ × ℕ)) (state : State) (place v w : ℕ) → writes areas words state ≡ (place, v) ∷ (place, w) ∷ [] → ⊥
never_twice law areas words state place v w same =
    let rising = AllPairs-from_increasing (map (λ (write : ℕ × ℕ). write.0) (writes areas words state)) (law areas words state) in
    let less = (subst (λ (all : Writes). AllPairs (λ (a b : ℕ). a < b) (map (λ (write : ℕ × ℕ). write.0) all)) same rising) 0 1 0 (omega arith) (omega arith) in
    omega (arith, less)

-- a release count that was come to stays so
stays_released : ReleasesRise → (areas : Areas) (words : List (ℕ × ℕ)) (state : State) (release : ℕ) → release ≤ state.release → release ≤ (stepped areas words state).release
stays_released law areas words state release was = let more = law areas words state in omega (arith, was, more)

-- histories with the same steps of a stream leave it the same state
same_steps : StateIsFold → (p : PlansData) (g h : List Event) (s : ℕ) → steps_of p g s ≡ steps_of p h s → state_of p g s ≡ state_of p h s
same_steps law p g h s same = law p g s ∙ ap (stream_of (plan_of p s).areas) same ∙ sym (law p h s)

-- ---- waits

-- a wait on one's own stream is not kept
own_dropped : KeptIsDecided → (streams : ℕ) (h : List SyncEvent) (s n r : ℕ) → is_kept streams (standing h) s n s r ≡ true → ⊥
own_dropped law streams h s n r kept = ((law streams h s n s r).0 kept).other refl

-- a pending wait is one that was kept, and it still holds
pending_holds : EndedStaysEnded → (streams : ℕ) (h : List SyncEvent) (w : Wait) → Contains (pending streams h) w → still (standing h) w ≡ true
pending_holds law streams h w among = ((law streams h w).0 among).1

-- and a kept wait that holds is pending
holds_pending : EndedStaysEnded → (streams : ℕ) (h : List SyncEvent) (w : Wait) → Contains (kept_waits streams h) w → still (standing h) w ≡ true → Contains (pending streams h) w
holds_pending law streams h w kept holds = (law streams h w).1 (kept, holds)

-- of two pending waits the first is of no higher number
two_waits : WaitsRise → (streams : ℕ) (h : List SyncEvent) (a b : Wait) → pending streams h ≡ a ∷ b ∷ [] → Precedes a b
two_waits law streams h a b are = (subst (AllPairs Precedes) are (law streams h)) 0 1 a (omega arith) (omega arith)

-- of two unprocessed numbers the first is lower
two_numbers : OrdersRise → (h : List SyncEvent) (t a b : ℕ) → left h t ≡ a ∷ b ∷ [] → a < b
two_numbers law h t a b are = (subst (AllPairs (λ (a b : ℕ). a < b)) are (law h t)) 0 1 a (omega arith) (omega arith)

-- and neither is 0
first_positive : OrdersArePositive → (h : List SyncEvent) (t a : ℕ) → left h t ≡ a ∷ [] → 0 < a
first_positive law h t a are = All-head (λ (m : ℕ). 0 < m) a [] (subst (All (λ (m : ℕ). 0 < m)) are (law h t))

-- no wait follows itself, and no two follow each other
no_loop : NoCycle → (streams : ℕ) (h : List SyncEvent) (w : Wait) → Contains (pending streams h) w → IsPendingOfNamed streams h w w → ⊥
no_loop law streams h w among follows =
    let less = All-head (λ (v : Wait). v.order < w.order) w [] (law streams h w (w ∷ []) among (follows, tt)) in
    omega (arith, less)

no_two : NoCycle → (streams : ℕ) (h : List SyncEvent) (w v : Wait) → Contains (pending streams h) w → Contains (pending streams h) v → IsPendingOfNamed streams h w v → IsPendingOfNamed streams h v w → ⊥
no_two law streams h w v among also follows back =
    let one = All-head (λ (x : Wait). x.order < w.order) v [] (law streams h w (v ∷ []) among (follows, tt)) in
    let two = All-head (λ (x : Wait). x.order < v.order) w [] (law streams h v (w ∷ []) also (back, tt)) in
    omega (arith, one, two)

-- ---- texts

-- a number and the next one differ
next_differs : DifferentNumbers → (n : ℕ) → number_text n ≡ number_text (n + 1) → ⊥
next_differs law n same = let equal = law n (n + 1) same in omega (arith, equal)

-- no event's line is the head or the line of a dump
no_head : EventsAreApart → OthersBegin → (event : Event) (behind other : List ℕ) → event_text event ++ behind ≡ journal_head ++ other → ⊥
no_head apart others event behind other same = both_ways (begins_other_part (event_text event ++ behind)) (apart event behind) (ap begins_other_part same ∙ others.head other)

no_dump : EventsAreApart → OthersBegin → (event : Event) (behind other : List ℕ) (stream place index value : ℕ) → event_text event ++ behind ≡ dump_text stream place index value ++ other → ⊥
no_dump apart others event behind other stream place index value same = both_ways (begins_other_part (event_text event ++ behind)) (apart event behind) (ap begins_other_part same ∙ others.dump stream place index value other)

-- ---- histories

-- a legal history after which every legal event is a loss as out of memory is complete, or at least not incomplete
stuck_complete : UnfinishedHasEvent → (p : PlansData) (h : List Event) → AreLawfulPlans p → IsLegal p h → ((e : Event) → IsLegal p (e ∷ h) → is_memory_loss e ≡ true) → (IsComplete p h → ⊥) → ⊥
stuck_complete law p h lawful legal stuck unfinished = let more = law p h lawful legal unfinished in both_ways (is_memory_loss more.0) more.1 (stuck more.0 more.2)

-- some legal event alone would say less: wherever a stream is open, its loss as out of memory is legal
loss_is_legal : (p : PlansData) (h : List Event) (s : ℕ) → IsLegal p h → IsOpen p h s → IsLegal p (events.Lost s Memory [] ∷ h)
loss_is_legal p h s legal open' = (record { rule_1 = tt; rule_2 = tt; rule_3 = tt; rule_4 = tt; rule_5 = tt; rule_6 = tt; rule_7 = tt; rule_8 = tt; rule_9 = tt; rule_10 = tt; rule_11 = (open', refl); rule_12 = tt }, legal)

-- no serial history ends with a loss as out of memory
no_memory : SerialWantsNoMemory → (p : PlansData) (s : ℕ) (h : List Event) → AreLawfulPlans p → serial p ≡ events.Lost s Memory [] ∷ h → ⊥
no_memory law p s h lawful ends =
    let none : is_memory_loss (events.Lost s Memory []) ≡ false = All-head (λ event. is_memory_loss event ≡ false) (events.Lost s Memory []) h (subst (All (λ event. is_memory_loss event ≡ false)) ends (law p lawful)) in
    cc

-- what holds of each text that is a script
of_script : (P : PlansData → Type 0) (r : Result PlansData (ℕ × Kind)) (p : PlansData) → IfOk r P → r ≡ Ok p → P p
of_script P r p holds is = subst (λ (r : Result PlansData (ℕ × Kind)). IfOk r P) is holds

-- in version 1 its streams are numbered
numbered_streams : NamesAreLawful → (text : List ℕ) (p : PlansData) → script_of text ≡ Ok p → p.version ≡ 1 → AreNumbered (names_in p.plans)
numbered_streams law text p is one = (of_script (λ p. AreLawfulNames p.version (names_in p.plans)) (script_of text) p (law text) is).numbered one

-- a script has at most 16 streams
few_streams : ScriptsAreLawful → (text : List ℕ) (p : PlansData) → script_of text ≡ Ok p → length p.plans ≤ 16
few_streams law text p is = (of_script AreLawfulPlans (script_of text) p (law text) is).together.streams

-- its serial history is legal and complete
runs_well : ScriptsRunLegally → ScriptsRunToTheEnd → (text : List ℕ) (p : PlansData) → script_of text ≡ Ok p → IsLegal p (serial p) × IsComplete p (serial p)
runs_well legal complete text p is = (of_script (λ p. IsLegal p (serial p)) (script_of text) p (legal text) is, of_script (λ p. IsComplete p (serial p)) (script_of text) p (complete text) is)

-- its number of events has a limit that is the same for all scripts
few_events : ScriptsAreLawful → SerialIsShort → MostEventsAreFew → (text : List ℕ) (p : PlansData) → script_of text ≡ Ok p → length (serial p) ≤ 409800016
few_events lawful short few text p is = let a = short p in let b = few p (of_script AreLawfulPlans (script_of text) p (lawful text) is) in omega (arith, a, b)

-- its dumps may be told as they are printed
its_dumps : ScriptsAreLawful → DumpsMayBeTold → (text : List ℕ) (p : PlansData) → script_of text ≡ Ok p → AreDumpLines p (serial p) (dump_lines p (serial p))
its_dumps lawful law text p is = law p (of_script AreLawfulPlans (script_of text) p (lawful text) is)

-- what may be told after a history may be told when one more event has come, and so may the value after that event
one_later : LaterMayBeTold → (p : PlansData) (e : Event) (h : List Event) (s : ℕ) (dump : ℕ × ℕ) → flushes (take dump.0 (plan_of p s).actions) ≤ (known p h s).finished → MayDump p (e ∷ h) s dump (result_at p h s dump.1) × MayDump p (e ∷ h) s dump (result_at p (e ∷ h) s dump.1)
one_later law p e h s dump enough = (law p (e ∷ []) [] h s dump enough, law p [] (e ∷ []) h s dump enough)

-- two callbacks do not hide a difference of histories
same_history : SameOutputIsSameHistory → (p : PlansData) (mark other : Ending → ℕ) (g h : List Event) → AreLawfulPlans p → IsLegal p g → IsLegal p h → output p mark g ≡ output p other h → g ≡ h
same_history law p mark other g h lawful legal also same = law p p mark other g h lawful lawful legal also same

-- and serial histories whose whole text is the same are the same
same_runs : SameRunIsSameHistory → ScriptsRunLegally → ScriptsAreLawful → (text other : List ℕ) (p q : PlansData) (mark : Ending → ℕ) → script_of text ≡ Ok p → script_of other ≡ Ok q → output p mark (serial p) ++ dump_lines p (serial p) ≡ output q mark (serial q) ++ dump_lines q (serial q) → serial p ≡ serial q
same_runs law legal lawful text other p q mark is its same =
    law p q mark mark (serial p) (serial q) (of_script AreLawfulPlans (script_of text) p (lawful text) is) (of_script AreLawfulPlans (script_of other) q (lawful other) its)
    (of_script (λ p. IsLegal p (serial p)) (script_of text) p (legal text) is) (of_script (λ p. IsLegal p (serial p)) (script_of other) q (legal other) its) same

-- nor does it hang on what is said of dumps, or on the looks of viewers
same_looked : SameThreadedRunIsSameHistory → (p : PlansData) (mark : Ending → ℕ) (g h : List Event) (dumps : List ℕ) (viewer events sum : ℕ) → AreLawfulPlans p → IsLegal p g → IsLegal p h → AreDumpLines p g dumps → AreDumpLines p h []
    → output p mark g ++ (dumps ++ []) ≡ output p mark h ++ ([] ++ (view_text viewer events sum ++ [])) → g ≡ h
same_looked law p mark g h dumps viewer events sum lawful legal also told none same = law p p mark mark g h dumps [] [] ((viewer, events, sum) ∷ []) lawful lawful legal also told none same

-- ---- kept waits

-- no stream steps while a wait of its first number is pending
waiting_stays : NoneRunsWaiting → (p : PlansData) (g : List Event) (w : Wait) (words : List (ℕ × ℕ)) → Contains (pending_in p g) w → first_order (left_of p g w.stream) ≡ Some w.order → IsLegal p (events.Step w.stream words ∷ g) → ⊥
waiting_stays law p g w words among first legal =
    All-contains (λ (v : Wait). v.stream ≡ w.stream → first_order (left_of p g w.stream) ≡ Some v.order → ⊥) (pending_in p g) w (law p g (events.Step w.stream words) legal) among refl first

-- the wait is one of its own number, stream and release
own_wait : (w : Wait) → length (filter (is_wait w.stream w.order w.target w.release) (w ∷ [])) ≡ 1
own_wait w =
    let same : is_wait w.stream w.order w.target w.release w ≡ true =
    and_from _ _ (eq-eqb w.stream w.stream refl) (and_from _ _ (eq-eqb w.order w.order refl) (and_from _ _ (eq-eqb w.target w.target refl) (eq-eqb w.release w.release refl))) in
    ap (λ (b : Bool). length (cond b (w ∷ []) [])) same

-- a number whose one wait was kept is not run before an ending is reported
not_before : RunsAfterEndings → (p : PlansData) (g : List Event) (w : Wait) (words : List (ℕ × ℕ)) → kept_in p g ≡ w ∷ [] → endings_in p g ≡ [] → first_order (left_of p g w.stream) ≡ Some w.order → IsLegal p (events.Step w.stream words ∷ g) → ⊥
not_before law p g w words kept none first legal =
    let same = law p g (events.Step w.stream words) legal w.order first w.target w.release in
    let ended : length (filter (is_ending_of w.stream w.order w.target w.release) (endings_in p g)) ≡ 0 = ap (λ (es : List Ending). length (filter (is_ending_of w.stream w.order w.target w.release) es)) none in
    let one : length (filter (is_wait w.stream w.order w.target w.release) (kept_in p g)) ≡ 1 = ap (λ (ws : List Wait). length (filter (is_wait w.stream w.order w.target w.release) ws)) kept ∙ own_wait w in
    omega (arith, same, ended, one)

-- once it is finished there is an ending, whatever comes later
told_once : FinishedHaveEnded → (p : PlansData) (later g : List Event) (w : Wait) → IsLegal p (later ++ events.Finish w.stream w.order ∷ g) → kept_in p (later ++ events.Finish w.stream w.order ∷ g) ≡ w ∷ []
    → length (filter (is_ending_of w.stream w.order w.target w.release) (endings_in p (later ++ events.Finish w.stream w.order ∷ g))) ≡ 1
told_once law p later g w legal kept = law p later g w.stream w.order legal w.target w.release ∙ ap (λ (ws : List Wait). length (filter (is_wait w.stream w.order w.target w.release) ws)) kept ∙ own_wait w

-- a number that is there, whose one kept wait is not pending, has one ending
not_forgotten : NoneIsForgotten → (p : PlansData) (h : List Event) (w : Wait) → contains_number w.order (left_of p h w.stream) ≡ true → kept_in p h ≡ w ∷ [] → pending_in p h ≡ []
    → length (filter (is_ending_of w.stream w.order w.target w.release) (endings_in p h)) ≡ 1
not_forgotten law p h w there kept none =
    let same = law p h w.stream w.order there w.target w.release in
    let one : length (filter (is_wait w.stream w.order w.target w.release) (kept_in p h)) ≡ 1 = ap (λ (ws : List Wait). length (filter (is_wait w.stream w.order w.target w.release) ws)) kept ∙ own_wait w in
    let left : length (filter (is_wait w.stream w.order w.target w.release) (pending_in p h)) ≡ 0 = ap (λ (ws : List Wait). length (filter (is_wait w.stream w.order w.target w.release) ws)) none in
    omega (arith, same, one, left)

-- while it is pending, an ending is not its own
not_both : NoneIsBoth → (p : PlansData) (h : List Event) (w : Wait) (ending : Ending) → Contains (pending_in p h) w → Contains (endings_in p h) ending
    → is_ending_of w.stream w.order w.target w.release ending ≡ false
not_both law p h w ending among ended =
    All-contains (λ (x : Ending). is_ending_of w.stream w.order w.target w.release x ≡ false) (endings_in p h) ending (All-contains (HasNotEnded p h) (pending_in p h) w (law p h) among) ended

-- where a wait is said to have ended by close, its target was closed
has_close : EndingsHaveCauses → (p : PlansData) (h : List Event) (ending : Ending) → endings_in p h ≡ ending ∷ [] → ending.how ≡ how.Closed → (later before : List Event) × (later ++ events.Close ending.target ∷ before ≡ h)
has_close law p h ending are closed =
    let cause = All-head (HasCause p h) ending [] (subst (All (HasCause p h)) are (law p h)) in
    let close : cause.event ≡ events.Close cause.wait.target = subst (EndsSo cause.event (standing (sync_of p cause.before)) (standing (sync_of p (cause.event ∷ cause.before))) cause.wait) closed cause.ended in
    let target : cause.wait.target ≡ ending.target = sym (ap (λ (e : Ending). e.target) cause.told) in
    let is : cause.event ≡ events.Close ending.target = close ∙ ap events.Close target in
    (cause.later, cause.before, subst (λ (e : Event). cause.later ++ e ∷ cause.before ≡ h) is cause.whole)

-- and by release, that its target came to the release
has_release : EndingsHaveCauses → (p : PlansData) (h : List Event) (ending : Ending) → endings_in p h ≡ ending ∷ [] → ending.how ≡ how.Release → (later past : List Event) × (later ++ past ≡ h) × (ending.release ≤ (standing_of p past ending.target).release)
has_release law p h ending are released =
    let cause = All-head (HasCause p h) ending [] (subst (All (HasCause p h)) are (law p h)) in
    let ends = subst (EndsSo cause.event (standing (sync_of p cause.before)) (standing (sync_of p (cause.event ∷ cause.before))) cause.wait) released cause.ended in
    let target : cause.wait.target ≡ ending.target = sym (ap (λ (e : Ending). e.target) cause.told) in
    let release : cause.wait.release ≡ ending.release = sym (ap (λ (e : Ending). e.release) cause.told) in
    let after = subst (λ (t : ℕ). cause.wait.release ≤ (standing_of p (cause.event ∷ cause.before) t).release) target ends.1 in
    (cause.later, cause.event ∷ cause.before, cause.whole, subst (λ (r : ℕ). r ≤ (standing_of p (cause.event ∷ cause.before) ending.target).release) release after)

-- and by guard, that its target passed its number
has_guard : EndingsHaveCauses → (p : PlansData) (h : List Event) (ending : Ending) → endings_in p h ≡ ending ∷ [] → ending.how ≡ how.Guard → (later past : List Event) × (later ++ past ≡ h) × (has_below ending.order (left_of p past ending.target) ≡ false)
has_guard law p h ending are guarded =
    let cause = All-head (HasCause p h) ending [] (subst (All (HasCause p h)) are (law p h)) in
    let ends = subst (EndsSo cause.event (standing (sync_of p cause.before)) (standing (sync_of p (cause.event ∷ cause.before))) cause.wait) guarded cause.ended in
    let target : cause.wait.target ≡ ending.target = sym (ap (λ (e : Ending). e.target) cause.told) in
    let order : cause.wait.order ≡ ending.order = sym (ap (λ (e : Ending). e.order) cause.told) in
    let after = subst (λ (t : ℕ). has_below cause.wait.order (standing_of p (cause.event ∷ cause.before) t).left ≡ false) target ends.1 in
    (cause.later, cause.event ∷ cause.before, cause.whole, subst (λ (n : ℕ). has_below n (standing_of p (cause.event ∷ cause.before) ending.target).left ≡ false) order after)

-- no run of a script leaves a wait after
none_left_waiting : CompleteWaitsForNone → ScriptsRunLegally → ScriptsRunToTheEnd → (text : List ℕ) (p : PlansData) → script_of text ≡ Ok p → pending_in p (serial p) ≡ []
none_left_waiting law legal complete text p is = law p (serial p) (of_script (λ p. IsLegal p (serial p)) (script_of text) p (legal text) is) (of_script (λ p. IsComplete p (serial p)) (script_of text) p (complete text) is)

-- ---- rule 6

-- a number that can be finished is of a flush that its client can have come to
finish_reached : SixAlwaysHolds → (p : PlansData) (g : List Event) (s n : ℕ) → AreLawfulPlans p → IsLegal p g → first_order (left_of p g s) ≡ Some n → is_blocked s (left_of p g s) (pending_in p g) ≡ false → flush_of p g s ≤ reach p g s
finish_reached law p g s n lawful legal first free = law p g (events.Finish s n) lawful legal first free
