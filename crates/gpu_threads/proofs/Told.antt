-- What the clients have read may be told of their dumps.
use Rattle.std.proofs.Common.{◌≡◌, ℕ, zero, suc, ◌+◌, Bool, true, false, cond, List, [], ◌∷◌, ◌++◌, map, refl, sym, ap, subst, ◌∙◌, arith}
use Rattle.std.specs.List.{range_with_len}
use Rattle.std.proofs.lemmas.List.Elements.{All-head, All-tail}
use Rattle.gpu_word.specs.Results.{WasLast, Settles}
use Rattle.gpu_plan.specs.Plans.{PlansData, PlanData, plan_of}
use Rattle.gpu_journal.specs.declared.event.Event.{Event}
use Rattle.gpu_journal.specs.Waits.{standing_of}
use Rattle.gpu_journal.specs.Written.{written}
use Rattle.gpu_journal.specs.Dumps.{dumps_of}
use Rattle.house_core.specs.Core.{is_done}
use Rattle.gpu_house.specs.declared.answers.Doing.{Doing}
use Rattle.gpu_house.specs.declared.answers.Doing.TheVariants.{Open, Lost, AllDone, Closed}
use Rattle.gpu_house.specs.Ending.{doing_of}
use Rattle.thread_parts.specs.Clients.{dump_of, read_for}
use Rattle.gpu_threads.specs.Dumps.{AreRead, AreAllRead}
use Rattle.gpu_threads.proofs.Cutting.{may_be_told}

module _ (p : PlansData) (h : List Event) (s : ℕ) where
  -- each value that the reader was given is one that was written after enough finishes
  each_read : (reads : List (ℕ × ℕ × ℕ)) → Settles (written p h s) (map (read_for (plan_of p s)) reads) → AreRead p h s (map dump_of reads) reads
  each_read [] settles = tt
  each_read (read ∷ reads) settles =
      let P = λ (asked : ℕ × ℕ × ℕ). WasLast (written p h s) asked.0 asked.1 asked.2 in (
        record { action = refl; place = refl; value = may_be_told p s (dump_of read) read.2 h (All-head P (read_for (plan_of p s) read) (map (read_for (plan_of p s)) reads) settles) },
        each_read reads (All-tail P (read_for (plan_of p s) read) (map (read_for (plan_of p s)) reads) settles),
      )

  -- what a client has read that is whole
  pub whole_read : (plan : PlanData) (reads : List (ℕ × ℕ × ℕ)) → plan ≡ plan_of p s → (standing_of p h s).lost ≡ false → map dump_of reads ≡ plan.dumps → Settles (written p h s) (map (read_for plan) reads) → AreRead p h s (dumps_of p h s) reads
  whole_read plan reads its kept whole settles =
      let all : map dump_of reads ≡ (plan_of p s).dumps = whole ∙ ap (λ (plan : PlanData). plan.dumps) its in
      subst (λ (lost : Bool). AreRead p h s (cond lost [] (plan_of p s).dumps) reads) (sym kept)
      (subst (λ (dumps : List (ℕ × ℕ)). AreRead p h s dumps reads) all (each_read reads (subst (λ (plan : PlanData). Settles (written p h s) (map (read_for plan) reads)) its settles)))

  -- what the reader was given settles, once the hall has taken it back
  pub settled_so : (plan : PlanData) (stream : ℕ) (reads list : List (ℕ × ℕ × ℕ)) → stream ≡ s → reads ≡ map (read_for plan) list → Settles (written p h stream) reads → Settles (written p h s) (map (read_for plan) list)
  settled_so plan stream reads list at are settled = subst (Settles (written p h s)) are (subst (λ (s : ℕ). Settles (written p h s) reads) at settled)

  -- of a lost stream there is none
  pub none_read : (reads : List (ℕ × ℕ × ℕ)) → (standing_of p h s).lost ≡ true → reads ≡ [] → AreRead p h s (dumps_of p h s) reads
  none_read reads lost is =
      subst (λ (b : Bool). AreRead p h s (cond b [] (plan_of p s).dumps) reads) (sym lost) (subst (AreRead p h s []) (sym is) tt)

-- ---- one stream more

one_longer : (p : PlansData) (h : List Event) (from n : ℕ) (all : List (List (ℕ × ℕ × ℕ))) (reads : List (ℕ × ℕ × ℕ)) → AreAllRead p h (range_with_len from n) all → AreRead p h (from + n) (dumps_of p h (from + n)) reads
    → AreAllRead p h (range_with_len from (n + 1)) (all ++ reads ∷ [])
one_longer p h from zero [] reads are is = subst (λ (s : ℕ). AreAllRead p h (s ∷ []) (reads ∷ [])) (let e : from + zero ≡ from = omega arith in e) (is, tt)
one_longer p h from zero (x ∷ all) reads are is = absurd are
one_longer p h from (suc n) [] reads are is = absurd are
one_longer p h from (suc n) (x ∷ all) reads are is =
    let place : from + suc n ≡ (from + 1) + n = omega arith in
    let next = one_longer p h (from + 1) n all reads are.1 (subst (λ (s : ℕ). AreRead p h s (dumps_of p h s) reads) place is) in
    let longer : suc n + 1 ≡ suc (n + 1) = omega arith in
    subst (λ (k : ℕ). AreAllRead p h (range_with_len from k) ((x ∷ all) ++ reads ∷ [])) (sym longer) (are.0, next)

pub one_more_read : (p : PlansData) (h : List Event) (from n : ℕ) (all now : List (List (ℕ × ℕ × ℕ))) (reads : List (ℕ × ℕ × ℕ)) → now ≡ all ++ reads ∷ [] → AreAllRead p h (range_with_len from n) all → AreRead p h (from + n) (dumps_of p h (from + n)) reads
    → AreAllRead p h (range_with_len from (n + 1)) now
one_more_read p h from n all now reads pushed are is = subst (AreAllRead p h (range_with_len from (n + 1))) (sym pushed) (one_longer p h from n all reads are is)

-- ---- what a stream is doing says whether it is lost

-- whether this is what a lost stream does
abbrev is_lost : Doing → Bool
is_lost Lost = true
is_lost Open = false
is_lost AllDone = false
is_lost Closed = false

lost_told : (lost closed done : Bool) (doing : Doing) → doing ≡ cond lost Lost (cond closed Closed (cond done AllDone Open)) → is_lost doing ≡ lost
lost_told true closed done doing is = ap is_lost is
lost_told false true done doing is = ap is_lost is
lost_told false false true doing is = ap is_lost is
lost_told false false false doing is = ap is_lost is

pub when_lost : (p : PlansData) (h : List Event) (s : ℕ) → Lost ≡ doing_of p h s → true ≡ (standing_of p h s).lost
when_lost p h s is = lost_told (standing_of p h s).lost (standing_of p h s).closed (is_done p h s) Lost is

pub when_open : (p : PlansData) (h : List Event) (s : ℕ) → Open ≡ doing_of p h s → false ≡ (standing_of p h s).lost
when_open p h s is = lost_told (standing_of p h s).lost (standing_of p h s).closed (is_done p h s) Open is

pub when_done : (p : PlansData) (h : List Event) (s : ℕ) → AllDone ≡ doing_of p h s → false ≡ (standing_of p h s).lost
when_done p h s is = lost_told (standing_of p h s).lost (standing_of p h s).closed (is_done p h s) AllDone is

pub when_closed : (p : PlansData) (h : List Event) (s : ℕ) → Closed ≡ doing_of p h s → false ≡ (standing_of p h s).lost
when_closed p h s is = lost_told (standing_of p h s).lost (standing_of p h s).closed (is_done p h s) Closed is
