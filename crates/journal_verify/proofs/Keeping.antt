-- What is kept for the judge of a whole output, one event more.
use Rattle.std.proofs.Common.{◌≡◌, ◌≢◌, ℕ, suc, ◌+◌, ◌-◌, ◌≤◌, ◌<◌, inl, inr, Bool, true, false, Option, None, List, [], ◌∷◌, ◌++◌, length, get_or, take, drop, reverse, refl, sym, ap, subst, ◌∙◌, arith}
use Rattle.std.specs.Prelude.{◌==◌, Contains, slice_get, if◌then◌else◌}
use Rattle.std.specs.Option.{option_map_or}
use Rattle.std.specs.List.{All}
use Rattle.std.proofs.lemmas.Bool.Decides.{nat_tests}
use Rattle.std.proofs.Math.Seq.{take-length}
use Rattle.std.proofs.lemmas.List.{length-set, length-reverse, length-take-le}
use Rattle.std.proofs.lemmas.List.Elements.{All-nil, All-weaker, All-contains, All-contains_itself, Contains-push_cases}
use Rattle.gpu_word.specs.Results as results
use Rattle.gpu_word.proofs.Written.{last_of_both}
use Rattle.gpu_store.specs.Sums.{texel_sum}
use Rattle.gpu_plan.specs.Plans.{PlansData, plan_of}
use Rattle.stream_state.specs.State.{State}
use Rattle.stream_state.specs.Steps.{writes}
use Rattle.stream_state.specs.Writes as writing
use Rattle.sync_core.specs.Standing.{IsKnown}
use Rattle.gpu_journal.specs.declared.event.Event.{Event}
use Rattle.gpu_journal.specs.declared.event.Event.TheVariants.{Order, Step, Finish, Lost, Close}
use Rattle.gpu_journal.specs.World.{stream_in, known, state_of, replay}
use Rattle.gpu_journal.specs.Written.{written, written_by, result_at}
use Rattle.gpu_journal.specs.Legal.{IsLegal}
use Rattle.gpu_journal.proofs.Folding.{written_then}
use Rattle.gpu_journal.proofs.Following.{past_more}
use Rattle.serial_laws.specs.Scripts.{AreLawfulPlans}
use Rattle.journal_verify.specs.Answers.{IsWholeHistory}
use Rattle.journal_verify.specs.Faults.{fault_of, finished_in, kept_state, AreAllSettled}
use Rattle.journal_verify.specs.Kept.{WatchData, JudgeData}
use Rattle.journal_verify.specs.Entered.{FitsPlans, CountsAtMost}
use Rattle.journal_verify.specs.Follows.{Follows}
use Rattle.journal_verify.specs.Dumped.{DumpedData, HasTakenUp, HoldsDumped}
use Rattle.journal_verify.specs.Followed.{FollowedData, AreUntouched, HasDumped, HasFollowed, NotesSum, sum_after, IsSum, AreDumped, IsFollowed}
use Rattle.journal_verify.proofs.Turning.{get_put}
use Rattle.journal_verify.proofs.Following.{told, watch_of_known}
use Rattle.journal_verify.proofs.Ensuing.{follows_entered}
use Rattle.journal_verify.proofs.Taking.{IsTaken, taken_more, taken_whole}
use Rattle.journal_verify.proofs.Dumping.{holds_none, holds_same, holds_step}

-- ---- the results of a stream after an event

result_then : (p : PlansData) (e : Event) (h : List Event) (s place : ℕ) (b : Bool) → (stream_in e == s) ≡ b
    → result_at p (e ∷ h) s place ≡ (if b then results.last_or place (result_at p h s place) (written_by p h s e) else result_at p h s place)
result_then p e h s place b test =
    ap (λ (l : List results.Written). results.last_written l place) (written_then p e h s)
    ∙ ap (λ (c : Bool). results.last_written (if c then written p h s ++ written_by p h s e else written p h s) place) test
    ∙ by b
  where
    by : (c : Bool) → results.last_written (if c then written p h s ++ written_by p h s e else written p h s) place ≡ (if c then results.last_or place (result_at p h s place) (written_by p h s e) else result_at p h s place)
    by true = last_of_both place 0 (written p h s) (written_by p h s e)
    by false = refl

-- an event of another stream
result_other : (p : PlansData) (e : Event) (h : List Event) (s : ℕ) → stream_in e ≢ s → (place : ℕ) → result_at p (e ∷ h) s place ≡ result_at p h s place
result_other p e h s apart place = result_then p e h s place false (grind (arith, nat_tests))

-- an event that is no step
result_plain : (p : PlansData) (e : Event) (h : List Event) (s : ℕ) → ((place v : ℕ) → results.last_or place v (written_by p h s e) ≡ v) → (place : ℕ) → result_at p (e ∷ h) s place ≡ result_at p h s place
result_plain p e h s none place = by (stream_in e == s) refl
  where
    by : (b : Bool) → (stream_in e == s) ≡ b → result_at p (e ∷ h) s place ≡ result_at p h s place
    by true test = result_then p e h s place true test ∙ none place (result_at p h s place)
    by false test = result_then p e h s place false test

last_of_pairs : (i v : ℕ) (pairs : List (ℕ × ℕ)) → results.last_or i v (results.writes_listed pairs) ≡ writing.left_by_writes pairs i v
last_of_pairs i v [] = refl
last_of_pairs i v (pair ∷ pairs) = last_of_pairs i (if pair.0 == i then pair.1 else v) pairs

-- a step of the stream
result_step : (p : PlansData) (h : List Event) (s : ℕ) (words : List (ℕ × ℕ)) (place : ℕ)
    → result_at p (Step s words ∷ h) s place ≡ writing.left_by_writes (writes (plan_of p s).areas words (state_of p h s)) place (result_at p h s place)
result_step p h s words place =
    result_then p (Step s words) h s place true (grind (arith, nat_tests))
    ∙ last_of_pairs place (result_at p h s place) (writes (plan_of p s).areas words (state_of p h s))

-- ---- the dumped places

plain_more : (p : PlansData) (e : Event) (h : List Event) (old new : List DumpedData) → ((s place v : ℕ) → results.last_or place v (written_by p h s e) ≡ v) → new ≡ old → AreDumped p h old → AreDumped p (e ∷ h) new
plain_more p e h old new none same dumped = record {
  count = ap (λ (l : List DumpedData). length l) same ∙ dumped.count;
  each = λ k own at.
      holds_same p e h (suc k) own (result_plain p e h (suc k) (none (suc k)))
      (dumped.each k own (ap (λ (l : List DumpedData). slice_get l k) (sym same) ∙ at));
}

-- as many flushes are finished as the history says
pub finished_is : (p : PlansData) (h : List Event) (judge : JudgeData) (s : ℕ) → Follows p h judge → IsKnown (length p.plans) s → finished_in judge s ≡ (known p h s).finished
finished_is p h judge s follows known_s =
    let watch = watch_of_known p judge s follows.fits known_s in
    ap (λ (o : Option WatchData). option_map_or (λ (w : WatchData). w.finished) o 0) watch.1 ∙ (told p h judge s watch.0 follows watch.1).finished

step_more : (p : PlansData) (h : List Event) (s : ℕ) (words : List (ℕ × ℕ)) (judge : JudgeData) (old new : List DumpedData) → Follows p h judge → HasDumped p (Step s words) judge old new → AreDumped p h old → AreDumped p (Step s words ∷ h) new
step_more p h s words judge old new follows heard dumped = record {
  count = ap (λ (l : List DumpedData). length l) heard.put ∙ length-set old (s - 1) heard.now ∙ dumped.count;
  each = λ k own at. elim (get_put old (s - 1) k own heard.now (ap (λ (l : List DumpedData). slice_get l k) (sym heard.put) ∙ at)) [
    | inl here ↦ (
        let same : s ≡ suc k = omega (arith, here.0, known_s.0) in
        subst (λ (d : DumpedData). HoldsDumped p (Step s words ∷ h) (suc k) d) (sym here.1)
        (subst (λ t. HoldsDumped p (Step s words ∷ h) t heard.now) same now))
    | inr other ↦ holds_same p (Step s words) h (suc k) own (result_other p (Step s words) h (suc k) (λ q. other.0 (omega arith))) (dumped.each k own other.1)
  ];
}
  where
    known_s : IsKnown (length p.plans) s
    known_s = subst (λ (n : ℕ). IsKnown n s) dumped.count heard.known

    finished : finished_in judge s ≡ (known p h s).finished
    finished = finished_is p h judge s follows known_s

    state : kept_state judge s ≡ state_of p h s
    state = follows.shows.each s

    up : HasTakenUp (writes (plan_of p s).areas words (state_of p h s)) (known p h s).finished heard.was heard.now
    up =
        subst (λ (n : ℕ). HasTakenUp (writes (plan_of p s).areas words (state_of p h s)) n heard.was heard.now) finished
        (subst (λ (x : State). HasTakenUp (writes (plan_of p s).areas words x) (finished_in judge s) heard.was heard.now) state heard.taken)

    before : HoldsDumped p h s heard.was
    before =
        let here : s ≡ suc (s - 1) = omega (arith, known_s.0) in
        subst (λ t. HoldsDumped p h t heard.was) (sym here) (dumped.each (s - 1) heard.was heard.there)

    now : HoldsDumped p (Step s words ∷ h) s heard.now
    now = holds_step p h s words heard.was heard.now (result_step p h s words) up before

dumped_more : (p : PlansData) (e : Event) (h : List Event) (judge : JudgeData) (old new : List DumpedData) → Follows p h judge → HasDumped p e judge old new → AreDumped p h old → AreDumped p (e ∷ h) new
dumped_more p (Order s n c) h judge old new follows same dumped = plain_more p (Order s n c) h old new (λ s place v. refl) same dumped
dumped_more p (Step s words) h judge old new follows heard dumped = step_more p h s words judge old new follows heard dumped
dumped_more p (Finish s n) h judge old new follows same dumped = plain_more p (Finish s n) h old new (λ s place v. refl) same dumped
dumped_more p (Lost s why words) h judge old new follows same dumped = plain_more p (Lost s why words) h old new (λ s place v. refl) same dumped
dumped_more p (Close s) h judge old new follows same dumped = plain_more p (Close s) h old new (λ s place v. refl) same dumped

-- ---- the sums

-- the first events of a longer history are the same
sum_more : (p : PlansData) (e : Event) (h : List Event) (sum : ℕ × ℕ) → IsSum p h sum → IsSum p (e ∷ h) sum
sum_more p e h sum is =
    let few = is.few in
    let more : length (e ∷ h) - sum.0 ≡ suc (length h - sum.0) = omega (arith, few) in
    record {
      few = omega (arith, few);
      is = is.is ∙ ap (λ (n : ℕ). texel_sum (replay p (drop n (e ∷ h)))) (sym more);
    }

-- ---- all of it

pub followed_none : (p : PlansData) (followed : FollowedData) → Follows p [] followed.judge → AreUntouched p followed.dumped → followed.sums ≡ [] → IsFollowed p [] followed
followed_none p followed follows new none = record {
  follows = follows;
  dumped = record { count = new.count; each = λ k own at. holds_none p (suc k) own (new.each k own at) };
  sums = subst (λ (l : List (ℕ × ℕ)). All (IsSum p []) l) (sym none) (All-nil (IsSum p []));
}

pub followed_more : (p : PlansData) (e : Event) (h : List Event) (old new : FollowedData) → FitsPlans p new.judge → HasFollowed p e old new → IsFollowed p h old → IsFollowed p (e ∷ h) new
followed_more p e h old new fits next is = record {
  follows = follows_entered p h e old.judge new.judge is.follows next.entered fits;
  dumped = dumped_more p e h old.judge old.dumped new.dumped is.follows next.dumped is.dumped;
  sums = subst (λ (l : List (ℕ × ℕ)). All (IsSum p (e ∷ h)) l) (sym next.sums) (All-weaker (IsSum p h) (IsSum p (e ∷ h)) (sum_more p e h) old.sums is.sums);
}

pub noted_none : (events : ℕ) (followed : FollowedData) → NotesSum events followed followed
noted_none events followed = record { judge = refl; dumped = refl; sums = λ x at. inl at }

pub noted_one : (events : ℕ) (old new : FollowedData) → new ≡ record old { sums = old.sums ++ (events, texel_sum old.judge.images) ∷ [] } → NotesSum events old new
noted_one events old new is = record {
  judge = ap (λ (f : FollowedData). f.judge) is;
  dumped = ap (λ (f : FollowedData). f.dumped) is;
  sums = λ x at.
      elim (Contains-push_cases old.sums (events, texel_sum old.judge.images) x (subst (λ (l : List (ℕ × ℕ)). Contains l x) (ap (λ (f : FollowedData). f.sums) is) at)) [
        | inl before ↦ inl before
        | inr now ↦ inr (sym now)
      ];
}

pub followed_noted : (p : PlansData) (h : List Event) (old new : FollowedData) → NotesSum (length h) old new → IsFollowed p h old → IsFollowed p h new
followed_noted p h old new noted is = record {
  follows = subst (Follows p h) (sym noted.judge) is.follows;
  dumped = subst (AreDumped p h) (sym noted.dumped) is.dumped;
  sums = All-weaker (λ (x : ℕ × ℕ). Contains new.sums x) (IsSum p h) each new.sums (All-contains_itself new.sums);
}
  where
    here : texel_sum old.judge.images ≡ sum_after p h (length h)
    here =
        let none : length h - length h ≡ 0 = omega arith in
        ap texel_sum is.follows.shows.drawn ∙ ap (λ (n : ℕ). texel_sum (replay p (drop n h))) (sym none)

    each : (x : ℕ × ℕ) → Contains new.sums x → IsSum p h x
    each x at = elim (noted.sums x at) [
      | inl before ↦ All-contains (IsSum p h) old.sums x is.sums before
      | inr now ↦ subst (IsSum p h) (sym now) record { few = omega arith; is = here }
    ]

-- ---- the events so far

-- the events up to a place are legal, and what is kept is what they say
pub record IsOnWay (p : PlansData) (events : List Event) (index : ℕ) (followed : FollowedData) : Type 0 where
  pub legal : IsLegal p (reverse (take index events))
  pub is : IsFollowed p (reverse (take index events)) followed
  pub counted : CountsAtMost index followed.judge

pub way_taken : (p : PlansData) (events : List Event) (index : ℕ) (followed : FollowedData) → IsOnWay p events index followed → IsTaken p events index followed.judge
way_taken p events index followed way = record { legal = way.legal; follows = way.is.follows; counted = way.counted }

pub way_none : (p : PlansData) (events : List Event) (followed : FollowedData) → IsFollowed p [] followed → CountsAtMost 0 followed.judge → IsOnWay p events 0 followed
way_none p events followed is counted = record { legal = tt; is = is; counted = counted }

pub way_more : (p : PlansData) (events : List Event) (index : ℕ) (e : Event) (old new : FollowedData) → AreLawfulPlans p → IsOnWay p events index old → index < length events → e ≡ get_or events index e → fault_of p old.judge e ≡ None → HasFollowed p e old new → FitsPlans p new.judge
    → IsOnWay p events (index + 1) new
way_more p events index e old new lawful way lt at fault done fits =
    let taken = taken_more p events index e old.judge new.judge lawful (way_taken p events index old way) lt at fault done.entered fits in
    let next : e ∷ reverse (take index events) ≡ reverse (take (index + 1) events) = sym (past_more events index e e lt at) in
    record {
      legal = taken.legal;
      is = subst (λ (h : List Event). IsFollowed p h new) next (followed_more p e (reverse (take index events)) old new fits done way.is);
      counted = taken.counted;
    }

pub way_noted : (p : PlansData) (events : List Event) (index : ℕ) (old new : FollowedData) → index ≤ length events → IsOnWay p events index old → NotesSum index old new → IsOnWay p events index new
way_noted p events index old new few way noted =
    let many : length (reverse (take index events)) ≡ index = length-reverse (take index events) ∙ length-take-le index events few in
    record {
      legal = way.legal;
      is = followed_noted p (reverse (take index events)) old new (subst (λ (n : ℕ). NotesSum n old new) (sym many) noted) way.is;
      counted = subst (CountsAtMost index) (sym noted.judge) way.counted;
    }

-- the whole list is judged
pub way_whole : (p : PlansData) (events : List Event) (index : ℕ) (followed : FollowedData) → IsOnWay p events index followed → length events ≤ index → index ≤ length events → AreAllSettled p followed.judge.watches → IsWholeHistory p (reverse events) × IsFollowed p (reverse events) followed
way_whole p events index followed way far within settled =
    let end : index ≡ length events = omega (arith, far, within) in
    let all : reverse (take index events) ≡ reverse events = ap (λ n. reverse (take n events)) end ∙ ap reverse (take-length events) in (
      (taken_whole p events index followed.judge (way_taken p events index followed way) far within settled).0,
      subst (λ (h : List Event). IsFollowed p h followed) all way.is,
    )
