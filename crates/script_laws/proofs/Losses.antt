-- A legal history loses each stream once at most.
use Rattle.std.proofs.Common.{◌≡◌, ℕ, zero, suc, ◌+◌, ◌<◌, ◌≤◌, eqb, Bool, true, false, not, ◌&&◌, cond, List, [], ◌∷◌, length, refl, sym, ap, subst, ◌∙◌, arith}
use Rattle.std.proofs.lemmas.Bool.{eqb-true}
use Rattle.std.specs.List.{count_by, range_with_len}
use Rattle.std.proofs.lemmas.Bool.Decides.{nat_tests}
use Rattle.std.proofs.lemmas.List.Sums.{sum_by-cons}
use Rattle.gpu_plan.specs.Plans.{PlansData, plan_of}
use Rattle.sync_core.specs.Standing.{Standing, IsKnown, is_open}
use Rattle.gpu_journal.specs.declared.event.Event.{Event}
use Rattle.gpu_journal.specs.declared.event.Event.TheVariants.{Order, Step, Finish, Lost, Close}
use Rattle.gpu_journal.specs.declared.event.Why.{Why}
use Rattle.gpu_journal.specs.declared.event.Why.TheVariants.{Error, Memory}
use Rattle.gpu_journal.specs.World.{world, stream_in, asked_by, known}
use Rattle.gpu_journal.specs.Waits.{deed, sync_of, standing_of, drawn}
use Rattle.gpu_journal.specs.Ended.{streams_of}
use Rattle.gpu_journal.specs.Facts.{place_of}
use Rattle.gpu_journal.specs.Legal.{Obeys, IsLegal}
use Rattle.serial_laws.proofs.Others.{moved_by, standing_own, standing_other}
use Rattle.serial_laws.proofs.Fitting.{open_of_left, fits}
use Rattle.serial_laws.proofs.Spent.{obeys_known, asked_same}
use Rattle.script_laws.specs.Trials.{is_loss, losses}
use Rattle.script_laws.specs.Generated.{lost_streams}

-- ---- counting the numbers that pass a test

-- one item more
counted_cons : {A : Type 0} (passes : A → Bool) (item : A) (items : List A) → count_by passes (item ∷ items) ≡ cond (passes item) 1 0 + count_by passes items
counted_cons passes item items = sum_by-cons (λ x. cond (passes x) 1 0) item items

none_pass : (items : List ℕ) → count_by (λ s. false) items ≡ 0
none_pass [] = refl
none_pass (item ∷ items) = let rest : count_by (λ (s : ℕ). false) items ≡ 0 = none_pass items in omega (arith, rest, counted_cons (λ s. false) item items)

all_same : (new old : ℕ → Bool) (items : List ℕ) → ((t : ℕ) → new t ≡ old t) → count_by new items ≡ count_by old items
all_same new old [] same = refl
all_same new old (item ∷ items) same =
    let rest : count_by new items ≡ count_by old items = all_same new old items same in
    counted_cons new item items ∙ ap (λ b. cond b 1 0 + count_by new items) (same item) ∙ ap (λ n. cond (old item) 1 0 + n) rest ∙ sym (counted_cons old item items)

module _ (new old : ℕ → Bool) (s : ℕ) (was : old s ≡ false) (is : new s ≡ true) (others : (t : ℕ) → eqb s t ≡ false → new t ≡ old t) where
  off : (t : ℕ) → (s ≡ t → ⊥) → eqb s t ≡ false
  off t apart = grind (arith, nat_tests)

  -- numbers above s
  above : (from count : ℕ) → s < from → count_by new (range_with_len from count) ≡ count_by old (range_with_len from count)
  above from zero lt = refl
  above from (suc count) lt =
      let rest : count_by new (range_with_len (from + 1) count) ≡ count_by old (range_with_len (from + 1) count) = above (from + 1) count (omega arith) in
      counted_cons new from (range_with_len (from + 1) count) ∙ ap (λ b. cond b 1 0 + count_by new (range_with_len (from + 1) count)) (others from (off from (λ e. omega arith)))
      ∙ ap (λ n. cond (old from) 1 0 + n) rest ∙ sym (counted_cons old from (range_with_len (from + 1) count))

  -- numbers of which s is the first
  one_here : (from count : ℕ) → s ≡ from → count_by new (from ∷ range_with_len (from + 1) count) ≡ count_by old (from ∷ range_with_len (from + 1) count) + 1
  one_here from count here =
      let more = range_with_len (from + 1) count in
      let now : new from ≡ true = ap new (sym here) ∙ is in
      let before : old from ≡ false = ap old (sym here) ∙ was in
      let rest : count_by new more ≡ count_by old more = above (from + 1) count (omega arith) in
      let first : count_by new (from ∷ more) ≡ 1 + count_by new more = counted_cons new from more ∙ ap (λ b. cond b 1 0 + count_by new more) now in
      let second : count_by old (from ∷ more) ≡ 0 + count_by old more = counted_cons old from more ∙ ap (λ b. cond b 1 0 + count_by old more) before in
      omega (arith, rest, first, second)

  -- numbers among which s is
  one_more : (from count : ℕ) → from ≤ s → s < from + count → count_by new (range_with_len from count) ≡ count_by old (range_with_len from count) + 1
  one_more from zero low high = absurd (omega arith)
  one_more from (suc count) low high = by (eqb s from) refl (λ further. one_more (from + 1) count further (omega arith))
    where
      by : (b : Bool) → eqb s from ≡ b → (from + 1 ≤ s → count_by new (range_with_len (from + 1) count) ≡ count_by old (range_with_len (from + 1) count) + 1)
          → count_by new (from ∷ range_with_len (from + 1) count) ≡ count_by old (from ∷ range_with_len (from + 1) count) + 1
      by true e next = one_here from count (eqb-true s from e)
      by false e next =
          let apart : s ≡ from → ⊥ = grind (arith, nat_tests) in
          let rest : count_by new (range_with_len (from + 1) count) ≡ count_by old (range_with_len (from + 1) count) + 1 = next (omega arith) in
          let first : count_by new (from ∷ range_with_len (from + 1) count) ≡ cond (old from) 1 0 + count_by new (range_with_len (from + 1) count) = counted_cons new from (range_with_len (from + 1) count) ∙ ap (λ b. cond b 1 0 + count_by new (range_with_len (from + 1) count)) (others from e) in
          omega (arith, rest, first, counted_cons old from (range_with_len (from + 1) count))

-- ---- what an event makes of a stream

own_kept : (p : PlansData) (e : Event) (h : List Event) (n : ℕ) (old : Standing) → is_loss e ≡ false → (moved_by (deed p e (world p h)) n old).lost ≡ old.lost
own_kept p (Order s m c) h n old none = refl
own_kept p (Step s words) h n old none = (asked_same p (asked_by p s words (world p h)) n old).0
own_kept p (Finish s m) h n old none = refl
own_kept p (Lost s why words) h n old none = absurd cc
own_kept p (Close s) h n old none = refl

-- an event that is no loss loses no stream
kept : (p : PlansData) (e : Event) (h : List Event) → is_loss e ≡ false → (t : ℕ) → (standing_of p (e ∷ h) t).lost ≡ (standing_of p h t).lost
kept p e h none t = by (eqb (stream_in e) t) refl
  where
    own : (standing_of p (e ∷ h) (stream_in e)).lost ≡ (standing_of p h (stream_in e)).lost
    own = ap (λ (x : Standing). x.lost) (standing_own p e h) ∙ own_kept p e h (drawn p h + 1) (standing_of p h (stream_in e)) none

    by : (b : Bool) → eqb (stream_in e) t ≡ b → (standing_of p (e ∷ h) t).lost ≡ (standing_of p h t).lost
    by true is = subst (λ (t : ℕ). (standing_of p (e ∷ h) t).lost ≡ (standing_of p h t).lost) (eqb-true (stream_in e) t is) own
    by false is = ap (λ (x : Standing). x.lost) (standing_other p e h t is)

not_lost : (lost closed : Bool) → (not lost && not closed) ≡ true → lost ≡ false
not_lost true closed e = absurd cc
not_lost false closed e = refl

-- a stream that is lost was open
was_open : (p : PlansData) (h : List Event) (s : ℕ) (why : Why) (words : List (ℕ × ℕ)) → IsLegal p h → Obeys p h (Lost s why words) → is_open (standing_of p h s) ≡ true
was_open p h s (Error error) words legal o = (open_of_left (plan_of p s).actions (place_of h) (known p h s) (standing_of p h s) (fits p h legal s) o.rule_4).0
was_open p h s Memory words legal o = o.rule_11.0.stays

-- ---- the count

loss_adds : (p : PlansData) (s : ℕ) (why : Why) (words : List (ℕ × ℕ)) (h : List Event) → IsLegal p h → Obeys p h (Lost s why words) → lost_streams p (Lost s why words ∷ h) ≡ lost_streams p h + 1
loss_adds p s why words h legal o =
    let e = Lost s why words in
    let before : (standing_of p h s).lost ≡ false = not_lost (standing_of p h s).lost (standing_of p h s).closed (was_open p h s why words legal o) in
    let now : (standing_of p (e ∷ h) s).lost ≡ true = ap (λ (x : Standing). x.lost) (standing_own p e h) in
    let among : IsKnown (length p.plans) s = obeys_known p e h legal o in
    one_more (λ t. (standing_of p (e ∷ h) t).lost) (λ t. (standing_of p h t).lost) s before now (λ t other. ap (λ (x : Standing). x.lost) (standing_other p e h t other)) 1 (length p.plans) (omega (arith, among.0)) (omega (arith, among.1))

other_keeps : (p : PlansData) (e : Event) (h : List Event) → is_loss e ≡ false → lost_streams p (e ∷ h) ≡ lost_streams p h
other_keeps p e h none = all_same (λ t. (standing_of p (e ∷ h) t).lost) (λ t. (standing_of p h t).lost) (streams_of p) (kept p e h none)

event_counts : (p : PlansData) (e : Event) (h : List Event) → IsLegal p h → Obeys p h e → losses h ≡ lost_streams p h → cond (is_loss e) 1 0 + losses h ≡ lost_streams p (e ∷ h)
event_counts p (Order s n c) h legal o before = omega (arith, before, other_keeps p (Order s n c) h refl)
event_counts p (Step s words) h legal o before = omega (arith, before, other_keeps p (Step s words) h refl)
event_counts p (Finish s n) h legal o before = omega (arith, before, other_keeps p (Finish s n) h refl)
event_counts p (Lost s why words) h legal o before = omega (arith, before, loss_adds p s why words h legal o)
event_counts p (Close s) h legal o before = omega (arith, before, other_keeps p (Close s) h refl)

pub losses_are_lost_streams : (p : PlansData) (h : List Event) → IsLegal p h → losses h ≡ lost_streams p h
unfolding sync_of
losses_are_lost_streams p [] legal = sym (none_pass (streams_of p))
losses_are_lost_streams p (e ∷ h) legal = counted_cons is_loss e h ∙ event_counts p e h legal.1 legal.0 (losses_are_lost_streams p h legal.1)
