-- How many words the events of a legal history have.
use Rattle.std.proofs.Common.{◌≡◌, ◌≢◌, not, ℕ, zero, suc, ◌+◌, ◌-◌, ◌*◌, ◌≤◌, ◌<◌, eqb, Bool, true, false, cond, List, [], ◌∷◌, length, refl, sym, ap, subst, arith}
use Rattle.std.specs.Prelude.{sum_by}
use Rattle.std.proofs.lemmas.Bool.{eqb-true, eq-eqb, ne_eqb, and_right}
use Rattle.std.proofs.lemmas.List.Sums.{sum_by-cons}
use Rattle.gpu_plan.specs.Plans.{PlansData, plan_of}
use Rattle.stream_state.proofs.Runs.{stepped_fetched}
use Rattle.sync_core.specs.Standing.{Standing, IsKnown, is_open}
use Rattle.gpu_journal.specs.declared.event.Event.{Event}
use Rattle.gpu_journal.specs.declared.event.Event.TheVariants.{Order, Step, Finish, Lost, Close}
use Rattle.gpu_journal.specs.declared.event.Why.TheVariants.{Error, Memory}
use Rattle.gpu_journal.specs.Past.{event_words}
use Rattle.gpu_journal.specs.World.{Known, world, stream_in, asked_by, known, known_after, state_of}
use Rattle.gpu_journal.specs.Waits.{deed, standing_of, drawn}
use Rattle.gpu_journal.specs.Facts.{place_of}
use Rattle.gpu_journal.specs.Legal.{Obeys, IsLegal}
use Rattle.gpu_journal.proofs.Worlds.{states_within}
use Rattle.serial_laws.specs.Scripts.{AreLawfulPlans}
use Rattle.serial_laws.proofs.Fitting.{fits, open_of_left}
use Rattle.serial_laws.proofs.Others.{moved_by, standing_own, standing_other, known_own, known_other}
use Rattle.serial_laws.proofs.Passed.{lawful_of}
use Rattle.serial_laws.proofs.Spent.{asked_open, obeys_known}
use Rattle.serial_laws.proofs.Sums.{total, total_zero}
use Rattle.run_output.proofs.Rooms.{obeying_room}
use Rattle.script_answers.specs.Laws.{WordsAreFew}

-- ---- the words of one stream

-- how many words the events of a stream have
abbrev words_of : List Event → ℕ → ℕ
words_of [] s = 0
words_of (e ∷ h) s = cond (eqb (stream_in e) s) (words_of h s + length (event_words e)) (words_of h s)

-- what one loss may have
abbrev loss_words : Standing → ℕ
loss_words x = cond (is_open x) 0 69632

-- they are fetched for steps, but for those of one loss
abbrev Held : ℕ → Known → Standing → Type 0
Held words k x = words ≤ k.state.fetched + loss_words x

held_more : (words more : ℕ) (k l : Known) (x y : Standing) → is_open y ≡ is_open x → l.state.fetched ≡ k.state.fetched + more → Held words k x → Held (words + more) l y
held_more words more k l x y same fetched held =
    let end : loss_words y ≡ loss_words x = ap (λ (b : Bool). cond b 0 69632) same in
    omega (arith, held, end, fetched)

held_gone : (words more : ℕ) (k : Known) (x y : Standing) → is_open x ≡ true → is_open y ≡ false → more ≤ 69632 → Held words k x → Held (words + more) k y
held_gone words more k x y was now few held =
    let before : loss_words x ≡ 0 = ap (λ (b : Bool). cond b 0 69632) was in
    let after : loss_words y ≡ 69632 = ap (λ (b : Bool). cond b 0 69632) now in
    omega (arith, held, before, after, few)

held_event : (p : PlansData) (e : Event) (h : List Event) → AreLawfulPlans p → IsLegal p h → Obeys p h e → Held (words_of h (stream_in e)) (known p h (stream_in e)) (standing_of p h (stream_in e))
    → Held (words_of h (stream_in e) + length (event_words e)) (known_after p e (world p h) (known p h (stream_in e))) (moved_by (deed p e (world p h)) (drawn p h + 1) (standing_of p h (stream_in e)))
held_event p (Order s n c) h lawful legal o held = held_more (words_of h s) 0 (known p h s) (known_after p (Order s n c) (world p h) (known p h s)) (standing_of p h s) (moved_by (deed p (Order s n c) (world p h)) (drawn p h + 1) (standing_of p h s)) refl (omega arith) held
held_event p (Step s words) h lawful legal o held =
    held_more (words_of h s) (length words) (known p h s) (known_after p (Step s words) (world p h) (known p h s)) (standing_of p h s) (moved_by (deed p (Step s words) (world p h)) (drawn p h + 1) (standing_of p h s))
    (asked_open p (asked_by p s words (world p h)) (drawn p h + 1) (standing_of p h s)) (stepped_fetched (plan_of p s).areas words (state_of p h s)) held
held_event p (Finish s n) h lawful legal o held = held_more (words_of h s) 0 (known p h s) (known_after p (Finish s n) (world p h) (known p h s)) (standing_of p h s) (moved_by (deed p (Finish s n) (world p h)) (drawn p h + 1) (standing_of p h s)) refl (omega arith) held
held_event p (Lost s (Error error) words) h lawful legal o held =
    let was = (open_of_left (plan_of p s).actions (place_of h) (known p h s) (standing_of p h s) (fits p h legal s) o.rule_4).0 in
    held_gone (words_of h s) (length words) (known p h s) (standing_of p h s) (moved_by (deed p (Lost s (Error error) words) (world p h)) (drawn p h + 1) (standing_of p h s)) was refl (obeying_room p h (Lost s (Error error) words) lawful legal o).few held
held_event p (Lost s Memory words) h lawful legal o held =
    held_gone (words_of h s) (length words) (known p h s) (standing_of p h s) (moved_by (deed p (Lost s Memory words) (world p h)) (drawn p h + 1) (standing_of p h s)) o.rule_11.0.stays refl (obeying_room p h (Lost s Memory words) lawful legal o).few held
held_event p (Close s) h lawful legal o held =
    held_gone (words_of h s) 0 (known p h s) (standing_of p h s) (moved_by (deed p (Close s) (world p h)) (drawn p h + 1) (standing_of p h s)) o.rule_12.still_open.stays (and_right (not (standing_of p h s).lost) false refl) (omega arith) held

held_then : (p : PlansData) (e : Event) (h : List Event) (t : ℕ) → AreLawfulPlans p → IsLegal p h → Obeys p h e → ((s : ℕ) → Held (words_of h s) (known p h s) (standing_of p h s)) → Held (words_of (e ∷ h) t) (known p (e ∷ h) t) (standing_of p (e ∷ h) t)
held_then p e h t lawful legal o held = by (eqb (stream_in e) t) refl
  where
    own : Held (words_of (e ∷ h) (stream_in e)) (known p (e ∷ h) (stream_in e)) (standing_of p (e ∷ h) (stream_in e))
    own =
        let s = stream_in e in
        subst (λ (b : Bool). Held (cond b (words_of h s + length (event_words e)) (words_of h s)) (known p (e ∷ h) s) (standing_of p (e ∷ h) s)) (sym (eq-eqb s s refl))
        (subst (λ (k : Known). Held (words_of h s + length (event_words e)) k (standing_of p (e ∷ h) s)) (sym (known_own p e h))
        (subst (λ (x : Standing). Held (words_of h s + length (event_words e)) (known_after p e (world p h) (known p h s)) x) (sym (standing_own p e h)) (held_event p e h lawful legal o (held s))))

    by : (b : Bool) → eqb (stream_in e) t ≡ b → Held (words_of (e ∷ h) t) (known p (e ∷ h) t) (standing_of p (e ∷ h) t)
    by true q = subst (λ t. Held (words_of (e ∷ h) t) (known p (e ∷ h) t) (standing_of p (e ∷ h) t)) (eqb-true (stream_in e) t q) own
    by false q =
        subst (λ (b : Bool). Held (cond b (words_of h t + length (event_words e)) (words_of h t)) (known p (e ∷ h) t) (standing_of p (e ∷ h) t)) (sym q)
        (subst (λ (k : Known). Held (words_of h t) k (standing_of p (e ∷ h) t)) (sym (known_other p e h t q))
        (subst (λ (x : Standing). Held (words_of h t) (known p h t) x) (sym (standing_other p e h t q)) (held t)))

held_all : (p : PlansData) (h : List Event) (t : ℕ) → AreLawfulPlans p → IsLegal p h → Held (words_of h t) (known p h t) (standing_of p h t)
held_all p [] t lawful legal = omega arith
held_all p (e ∷ h) t lawful legal = held_then p e h t lawful legal.1 legal.0 (λ s. held_all p h s lawful legal.1)

-- ---- the words of all streams

total_same : (n : ℕ) (f g : ℕ → ℕ) → ((k : ℕ) → g k ≡ f k) → total n g ≡ total n f
total_same zero f g h = refl
total_same (suc n) f g h = let r = total_same n (λ k. f (suc k)) (λ k. g (suc k)) (λ k. h (suc k)) in let z = h 0 in omega (arith, r, z)

-- where one value is greater, so is the sum
total_plus : (n i m : ℕ) (f g : ℕ → ℕ) → i < n → g i ≡ f i + m → ((k : ℕ) → k ≢ i → g k ≡ f k) → total n g ≡ total n f + m
total_plus zero i m f g lt own others = absurd (omega arith)
total_plus (suc n) zero m f g lt own others = let r = total_same n (λ k. f (suc k)) (λ k. g (suc k)) (λ k. others (suc k) (λ e. absurd (omega arith))) in omega (arith, r, own)
total_plus (suc n) (suc i) m f g lt own others =
    let r = total_plus n i m (λ k. f (suc k)) (λ k. g (suc k)) (omega arith) own (λ k d. others (suc k) (λ e. d (omega arith))) in
    let z = others 0 (λ e. absurd (omega arith)) in
    omega (arith, r, z)

total_most : (n most : ℕ) (f : ℕ → ℕ) → ((k : ℕ) → k < n → f k ≤ most) → total n f ≤ n * most
total_most zero most f h = omega arith
total_most (suc n) most f h =
    let r = total_most n most (λ k. f (suc k)) (λ k lt. h (suc k) (omega arith)) in
    let z = h 0 (omega arith) in
    let more : suc n * most ≡ most + n * most = omega arith in
    omega (arith, r, z, more)

all_counted : (p : PlansData) (h : List Event) → IsLegal p h → sum_by (λ e. length (event_words e)) h ≡ total (length p.plans) (λ k. words_of h (suc k))
all_counted p [] legal = sym (total_zero (length p.plans) (λ k. 0) (λ k. refl))
all_counted p (e ∷ h) legal =
    let isknown = obeys_known p e h legal.1 legal.0 in
    let low = isknown.0 in
    let high = isknown.1 in
    let is : suc (stream_in e - 1) ≡ stream_in e = omega arith in
    let more = total_plus (length p.plans) (stream_in e - 1) (length (event_words e)) (λ k. words_of h (suc k)) (λ k. words_of (e ∷ h) (suc k)) (omega arith) (own (stream_in e - 1) is) others in
    let rest = all_counted p h legal.1 in
    let first = sum_by-cons (λ e. length (event_words e)) e h in
    omega (arith, more, rest, first)
  where
    own : (k : ℕ) → suc k ≡ stream_in e → words_of (e ∷ h) (suc k) ≡ words_of h (suc k) + length (event_words e)
    own k is = ap (λ (b : Bool). cond b (words_of h (suc k) + length (event_words e)) (words_of h (suc k))) (eq-eqb (stream_in e) (suc k) (sym is))

    others : (k : ℕ) → k ≢ stream_in e - 1 → words_of (e ∷ h) (suc k) ≡ words_of h (suc k)
    others k differs = ap (λ (b : Bool). cond b (words_of h (suc k) + length (event_words e)) (words_of h (suc k))) (ne_eqb (stream_in e) (suc k) (λ same. differs (omega (arith, same))))

-- of a stream that is known
words_within : (p : PlansData) (h : List Event) (s : ℕ) → AreLawfulPlans p → IsLegal p h → IsKnown (length p.plans) s → words_of h s ≤ 1118208
words_within p h s lawful legal known =
    let held = held_all p h s lawful legal in
    let quota = (states_within p h s (lawful_of p s lawful known).laid_out legal).bounded.fetched in
    by (is_open (standing_of p h s)) (omega (arith, held, quota))
  where
    by : (b : Bool) → words_of h s ≤ 1048576 + cond b 0 69632 → words_of h s ≤ 1118208
    by true few = omega (arith, few)
    by false few = omega (arith, few)

pub words_are_few : WordsAreFew
words_are_few p h lawful legal =
    let all = all_counted p h legal in
    let most = total_most (length p.plans) 1118208 (λ k. words_of h (suc k)) (λ k lt. words_within p h (suc k) lawful legal (omega arith, omega arith)) in
    let streams = lawful.together.streams in
    omega (arith, all, most, streams)
