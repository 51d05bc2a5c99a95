-- Whether a stream is settled, whether steps are apart and whether texels fit rests on the works of the streams alone.
use Rattle.std.proofs.Common.{◌≡◌, ◌≢◌, ℕ, ◌≤◌, ◌⊎◌, inl, inr, eqb, Bool, true, false, not, ◌||◌, cond, Option, Some, unwrap_or, List, [], ◌∷◌, refl, sym, ap, subst, ◌∙◌, arith, IsSome}
use Rattle.std.specs.Prelude.{slice_get}
use Rattle.std.specs.List.{All}
use Rattle.std.proofs.lemmas.Bool.{and_from, eqb-false, eq-eqb}
use Rattle.gpu_plan.specs.Plans.{PlansData, plan_of}
use Rattle.gpu_plan.specs.Passes.{bound}
use Rattle.gpu_plan.specs.Places.{flush_places}
use Rattle.gpu_plan.specs.Values.{value_at}
use Rattle.sync_core.specs.Standing.{first_order}
use Rattle.gpu_journal.specs.declared.event.Event.{Event}
use Rattle.gpu_journal.specs.declared.event.Event.TheVariants.{Order, Step, Finish, Lost, Close}
use Rattle.gpu_journal.specs.declared.event.Why.TheVariants.{Error, Memory}
use Rattle.gpu_journal.specs.World.{stream_in}
use Rattle.gpu_journal.specs.Waits.{left_of}
use Rattle.gpu_journal.specs.Facts.{flush_of, reach}
use Rattle.gpu_journal.specs.Legal.{IsLegal}
use Rattle.serial_laws.proofs.Fronts.{front_placed}
use Rattle.race_laws.specs.Works.{Work, Executed, Finished, Refused, work_of, with_work, works, finishes}
use Rattle.race_laws.specs.Settled.{IsStill, FetchesStill, NoneInFlight}
use Rattle.race_laws.specs.Touches.{conflict, is_apart, are_apart, steps_in}
use Rattle.race_laws.specs.Laws.{PremisesAgree}
use Rattle.race_laws.proofs.Own.{Own, own_of, own_is, finished_is}
use Rattle.race_laws.proofs.Next.{StillWorks, worked, still_worked}
use Rattle.race_laws.proofs.Agreeing.{is_next}
use Rattle.race_laws.proofs.Ending.{works_agree}
use Rattle.race_laws.proofs.Shuffles.{Words, Steps, of, Same, Among, Apart, among_first, among_later, apart_by}
use Rattle.race_laws.proofs.Outcomes.{same_steps, made_same}

-- ---- words in flight, by the works before them

-- where the flush of the next work stands, and how far the client can be then
abbrev place_by : PlansData → ℕ → List Work → ℕ
place_by p s ws = unwrap_or (slice_get (flush_places (plan_of p s).actions) (finishes ws)) 0

abbrev reach_by : PlansData → ℕ → List Work → ℕ
reach_by p s ws = bound (plan_of p s).actions (own_of (plan_of p s).areas ws).finished (own_of (plan_of p s).areas ws).tokens

abbrev StillBy : PlansData → ℕ → List Work → List (ℕ × ℕ) → Type 0
StillBy p s ws words = All (λ word. (k : ℕ) → place_by p s ws ≤ k → k ≤ reach_by p s ws → value_at (plan_of p s).actions k word.0 ≡ word.1) words

-- none of the works has a word that was changed in flight
abbrev AllStill : PlansData → ℕ → List Work → Type 0
AllStill p s [] = Unit {0}
AllStill p s (Executed words ∷ ws) = StillBy p s ws words × AllStill p s ws
AllStill p s (Finished ∷ ws) = AllStill p s ws
AllStill p s (Refused error words ∷ ws) = StillBy p s ws words × AllStill p s ws

place_is : (p : PlansData) (h : List Event) (s : ℕ) → IsLegal p h → IsSome (first_order (left_of p h s)) → flush_of p h s ≡ place_by p s (works h s)
place_is p h s legal some =
    let at = front_placed p h s legal some in
    let count = finished_is p h s in
    ap (λ (o : Option ℕ). unwrap_or o 0) (sym at) ∙ ap (λ (n : ℕ). unwrap_or (slice_get (flush_places (plan_of p s).actions) n) 0) count

reach_is : (p : PlansData) (h : List Event) (s : ℕ) → reach p h s ≡ reach_by p s (works h s)
reach_is p h s = ap (λ (o : Own). bound (plan_of p s).actions o.finished o.tokens) (own_is p h s)

-- the words of the next work, by either
by_works : (p : PlansData) (h : List Event) (s : ℕ) (words : List (ℕ × ℕ)) → IsLegal p h → IsSome (first_order (left_of p h s)) → All (IsStill p h s) words → StillBy p s (works h s) words
by_works p h s words legal some still =
    subst (λ (c : ℕ). All (λ (word : ℕ × ℕ). (k : ℕ) → c ≤ k → k ≤ reach_by p s (works h s) → value_at (plan_of p s).actions k word.0 ≡ word.1) words) (place_is p h s legal some)
    (subst (λ (b : ℕ). All (λ (word : ℕ × ℕ). (k : ℕ) → flush_of p h s ≤ k → k ≤ b → value_at (plan_of p s).actions k word.0 ≡ word.1) words) (reach_is p h s) still)

by_history : (p : PlansData) (h : List Event) (s : ℕ) (words : List (ℕ × ℕ)) → IsLegal p h → IsSome (first_order (left_of p h s)) → StillBy p s (works h s) words → All (IsStill p h s) words
by_history p h s words legal some still =
    subst (λ (c : ℕ). All (λ (word : ℕ × ℕ). (k : ℕ) → c ≤ k → k ≤ reach p h s → value_at (plan_of p s).actions k word.0 ≡ word.1) words) (sym (place_is p h s legal some))
    (subst (λ (b : ℕ). All (λ (word : ℕ × ℕ). (k : ℕ) → place_by p s (works h s) ≤ k → k ≤ b → value_at (plan_of p s).actions k word.0 ≡ word.1) words) (sym (reach_is p h s)) still)

still_works : (p : PlansData) (h : List Event) (s : ℕ) → IsLegal p h → NoneInFlight p h s → AllStill p s (works h s)
still_works p [] s legal still = tt
still_works p (e ∷ h) s legal still = by (still_works p h s legal.1 still.1) (is_next e h s)
  where
    more : (work : Work) → IsSome (first_order (left_of p h s)) → StillWorks p h s work → AllStill p s (works h s) → AllStill p s (work ∷ works h s)
    more (Executed words) some its rest = (by_works p h s words legal.1 some its, rest)
    more Finished some its rest = rest
    more (Refused error words) some its rest = (by_works p h s words legal.1 some its, rest)

    by : AllStill p s (works h s) → (works (e ∷ h) s ≡ works h s) ⊎ ((work : Work) × (stream_in e ≡ s) × (work_of e ≡ Some work) × (works (e ∷ h) s ≡ work ∷ works h s)) → AllStill p s (works (e ∷ h) s)
    by rest (inl same) = subst (AllStill p s) (sym same) rest
    by rest (inr one) = subst (AllStill p s) (sym one.3) (more one.0 (worked p h e s one.0 legal.0 one.1 one.2).some (still_worked p h e s one.0 still.0 one.1 one.2) rest)

works_still : (p : PlansData) (h : List Event) (s : ℕ) → IsLegal p h → AllStill p s (works h s) → NoneInFlight p h s
works_still p [] s legal still = tt
works_still p (e ∷ h) s legal still = (here e legal still, works_still p h s legal.1 (behind e (eqb (stream_in e) s) still))
  where
    -- the works before the event
    behind : (e : Event) (b : Bool) → AllStill p s (cond b (with_work (work_of e) (works h s)) (works h s)) → AllStill p s (works h s)
    behind e false still = still
    behind (Order t n c) true still = still
    behind (Step t words) true still = still.1
    behind (Finish t n) true still = still
    behind (Lost t (Error error) words) true still = still.1
    behind (Lost t Memory words) true still = still
    behind (Close t) true still = still

    own : (e : Event) → stream_in e ≡ s → AllStill p s (works (e ∷ h) s) → AllStill p s (with_work (work_of e) (works h s))
    own e is still = subst (AllStill p s) (ap (λ (b : Bool). cond b (with_work (work_of e) (works h s)) (works h s)) (eq-eqb (stream_in e) s is)) still

    here : (e : Event) → IsLegal p (e ∷ h) → AllStill p s (works (e ∷ h) s) → FetchesStill p h s e
    here (Order t n c) legal still = tt
    here (Step t words) legal still = λ is. by_history p h s words legal.1 (worked p h (Step t words) s (Executed words) legal.0 is refl).some (own (Step t words) is still).0
    here (Finish t n) legal still = tt
    here (Lost t (Error error) words) legal still = λ is. by_history p h s words legal.1 (worked p h (Lost t (Error error) words) s (Refused error words) legal.0 is refl).some (own (Lost t (Error error) words) is still).0
    here (Lost t Memory words) legal still = tt
    here (Close t) legal still = tt

-- ---- steps that are apart

is_apart_by : (s : ℕ) (words : Words) (xs : Steps) → ((t : ℕ) (b : Words) → s ≢ t → Among b (of t xs) → conflict words b ≡ false) → is_apart s words xs ≡ true
is_apart_by s words [] all = refl
is_apart_by s words (x ∷ xs) all =
    and_from (eqb s x.0 || not (conflict words x.1)) (is_apart s words xs) (by (eqb s x.0) refl) (is_apart_by s words xs (λ t b other is. all t b other (among_later b t x xs is)))
  where
    by : (c : Bool) → eqb s x.0 ≡ c → (c || not (conflict words x.1)) ≡ true
    by true q = refl
    by false q = ap not (all x.0 x.1 (eqb-false s x.0 q) (among_first x xs))

are_apart_by : (xs : Steps) → Apart xs → are_apart xs ≡ true
are_apart_by [] apart = refl
are_apart_by (x ∷ xs) apart =
    and_from (is_apart x.0 x.1 xs) (are_apart xs)
    (is_apart_by x.0 x.1 xs (λ t b other is. apart x.0 t x.1 b other (among_first x xs) (among_later b t x xs is)))
    (are_apart_by xs (λ s t a b other here there. apart s t a b other (among_later a s x xs here) (among_later b t x xs there)))

apart_same : (xs ys : Steps) → Same xs ys → Apart xs → Apart ys
apart_same xs ys same apart s t a b other here there = apart s t a b other (subst (Among a) (sym (same s)) here) (subst (Among b) (sym (same t)) there)

-- ---- all premises

pub premises_agree : PremisesAgree
premises_agree p h g lawful whole also premises =
    let same : (s : ℕ) → works g s ≡ works h s = λ s. works_agree p h g s lawful whole also (premises.settled s) in
    let steps = same_steps h g same in
    let all = made_same (steps_in h) (steps_in g) steps in
    let few = premises.fits in
    record {
      settled = λ s. record {
        still = works_still p g s also.legal (subst (AllStill p s) (sym (same s)) (still_works p h s whole.legal (premises.settled s).still));
        closed = (premises.settled s).closed;
      };
      fits = omega (arith, all, few);
      apart = are_apart_by (steps_in g) (apart_same (steps_in h) (steps_in g) steps (apart_by (steps_in h) premises.apart));
    }
