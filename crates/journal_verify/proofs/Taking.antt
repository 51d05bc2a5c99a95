-- One event more is judged.
use Rattle.std.proofs.Common.{◌≡◌, ℕ, ◌+◌, ◌-◌, ◌≤◌, ◌<◌, Some, None, List, [], ◌∷◌, length, take, get_or, reverse, refl, sym, ap, subst, ◌∙◌, arith}
use Rattle.std.specs.Prelude.{slice_get}
use Rattle.std.proofs.Math.Seq.{take-length}
use Rattle.std.proofs.lemmas.Option.{slice_get_read}
use Rattle.gpu_plan.specs.Plans.{PlansData}
use Rattle.gpu_journal.specs.declared.event.Event.{Event}
use Rattle.gpu_journal.specs.Legal.{Obeys, IsLegal}
use Rattle.gpu_journal.specs.World.{replay}
use Rattle.gpu_journal.proofs.Following.{past_more}
use Rattle.serial_laws.specs.Scripts.{AreLawfulPlans}
use Rattle.journal_verify.specs.Answers.{IsFirstWrong, IsWholeHistory, IsUnfinished, IsJudged}
use Rattle.journal_verify.specs.Kept.{JudgeData}
use Rattle.journal_verify.specs.Faults.{fault_of, AreAllSettled}
use Rattle.journal_verify.specs.Entered.{FitsPlans, CountsAtMost, HasEntered}
use Rattle.journal_verify.specs.Follows.{Follows}
use Rattle.journal_verify.proofs.Breaking.{judged}
use Rattle.journal_verify.proofs.Ensuing.{follows_entered, counted_entered}
use Rattle.journal_verify.proofs.Ending.{settled_complete, complete_settled}

-- the events up to a place are legal, and the record is what they say
pub record IsTaken (p : PlansData) (events : List Event) (index : ℕ) (judge : JudgeData) : Type 0 where
  pub legal : IsLegal p (reverse (take index events))
  pub follows : Follows p (reverse (take index events)) judge
  pub counted : CountsAtMost index judge

pub taken_none : (p : PlansData) (events : List Event) (judge : JudgeData) → Follows p [] judge → CountsAtMost 0 judge → IsTaken p events 0 judge
taken_none p events judge follows counted = record { legal = tt; follows = follows; counted = counted }

pub taken_wrong : (p : PlansData) (events : List Event) (index rule : ℕ) (e : Event) (judge : JudgeData) → AreLawfulPlans p → IsTaken p events index judge → index < length events → e ≡ get_or events index e → fault_of p judge e ≡ Some rule → IsFirstWrong p events (index + 1) rule
taken_wrong p events index rule e judge lawful taken lt at fault =
    let back : index + 1 - 1 ≡ index = omega arith in
    record {
      counted = omega arith;
      event = e;
      there = ap (slice_get events) back ∙ slice_get_read events (length events) index e refl lt at;
      before = subst (λ k. IsLegal p (reverse (take k events))) (sym back) taken.legal;
      breaks = subst (λ k. IsJudged p (reverse (take k events)) e (Some rule)) (sym back) (subst (IsJudged p (reverse (take index events)) e) fault (judged p (reverse (take index events)) judge e lawful taken.legal taken.follows));
    }

pub taken_more : (p : PlansData) (events : List Event) (index : ℕ) (e : Event) (old new : JudgeData) → AreLawfulPlans p → IsTaken p events index old → index < length events → e ≡ get_or events index e → fault_of p old e ≡ None → HasEntered p e old new → FitsPlans p new → IsTaken p events (index + 1) new
taken_more p events index e old new lawful taken lt at fault entered fits =
    let h = reverse (take index events) in
    let obeys : Obeys p h e = subst (IsJudged p h e) fault (judged p h old e lawful taken.legal taken.follows) in
    let next : e ∷ h ≡ reverse (take (index + 1) events) = sym (past_more events index e e lt at) in
    record {
      legal = subst (IsLegal p) next (obeys, taken.legal);
      follows = subst (λ (h : List Event). Follows p h new) next (follows_entered p h e old new taken.follows entered fits);
      counted = counted_entered index p e old new taken.counted entered;
    }

whole : (p : PlansData) (events : List Event) (index : ℕ) (judge : JudgeData) → IsTaken p events index judge → length events ≤ index → index ≤ length events → IsLegal p (reverse events) × Follows p (reverse events) judge
whole p events index judge taken far within =
    let end : index ≡ length events = omega arith in
    let all : reverse (take index events) ≡ reverse events = ap (λ n. reverse (take n events)) end ∙ ap reverse (take-length events) in
    (subst (IsLegal p) all taken.legal, subst (λ (h : List Event). Follows p h judge) all taken.follows)

pub taken_whole : (p : PlansData) (events : List Event) (index : ℕ) (judge : JudgeData) → IsTaken p events index judge → length events ≤ index → index ≤ length events → AreAllSettled p judge.watches → IsWholeHistory p (reverse events) × (judge.images ≡ replay p (reverse events))
taken_whole p events index judge taken far within settled =
    let all = whole p events index judge taken far within in
    (record { legal = all.0; complete = settled_complete p (reverse events) judge all.1 settled }, all.1.shows.drawn)

pub taken_unfinished : (p : PlansData) (events : List Event) (index : ℕ) (judge : JudgeData) → IsTaken p events index judge → length events ≤ index → index ≤ length events → (AreAllSettled p judge.watches → ⊥) → IsUnfinished p (reverse events)
taken_unfinished p events index judge taken far within open' =
    let all = whole p events index judge taken far within in
    record { legal = all.0; unfinished = λ complete. open' (complete_settled p (reverse events) judge all.1 complete) }
