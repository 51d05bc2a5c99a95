-- What a legal history says of each stream: which of its flushes are ordered, which are finished, and where those stand
-- that are ordered and not finished.
use Rattle.std.proofs.Common.{◌≡◌, ℕ, suc, ◌+◌, ◌≤◌, ◌<◌, eqb, Bool, true, false, cond, Option, Some, None, List, [], ◌∷◌, ◌++◌, length, drop, refl, sym, ap, subst, ◌∙◌, arith, IsSome, length-append}
use Rattle.std.proofs.lemmas.Bool.{true_from_ne_false, eqb-true, eq-eqb, and_right}
use Rattle.std.proofs.lemmas.Bool.Decides.{nat_tests}
use Rattle.std.proofs.lemmas.List.Elements.{All-head, All-tail}
use Rattle.std.specs.Prelude.{slice_get, max, not}
use Rattle.gpu_plan.specs.declared.plan.Action.{Action}
use Rattle.gpu_plan.specs.Plans.{PlansData, plan_of}
use Rattle.gpu_plan.specs.Passes.{flushes}
use Rattle.gpu_plan.specs.Places.{flush_places}
use Rattle.stream_state.specs.declared.effect.Effect.{Effect}
use Rattle.stream_state.specs.declared.effect.Effect.TheVariants.{Nothing, Token, Release, Wait, WaitName, Pixels, Results}
use Rattle.sync_core.specs.declared.wait.Number.{Number}
use Rattle.sync_core.specs.Standing.{Standing, is_open, first_order, bumped}
use Rattle.sync_core.specs.Events as sync
use Rattle.sync_core.proofs.Numbers.{Each, left_drawn}
use Rattle.gpu_journal.specs.declared.event.Event.{Event}
use Rattle.gpu_journal.specs.declared.event.Event.TheVariants.{Order, Step, Finish, Lost, Close}
use Rattle.gpu_journal.specs.World.{Known, World, world, first_world, stream_in, asked_by, known, known_after}
use Rattle.gpu_journal.specs.Waits.{deed, deed_asked, fences_in, sync_of, standing_of, left_of, drawn}
use Rattle.gpu_journal.specs.Facts.{place_of}
use Rattle.gpu_journal.specs.Legal.{Obeys, IsLegal}
use Rattle.gpu_journal.proofs.Worlds.{world_none, sync_none}
use Rattle.serial_laws.proofs.Others.{moved_by, standing_own, standing_other, known_own, known_other}
use Rattle.serial_laws.proofs.Flushes.{flush_of_place}

-- these numbers are those of the flushes at these places, from the k-th on
abbrev pub ArePlaced : (ℕ → ℕ) → List ℕ → ℕ → List Number → Type 0
ArePlaced place places k [] = Unit {0}
ArePlaced place places k (x ∷ xs) = (slice_get places k ≡ Some (place x.order)) × ArePlaced place places (suc k) xs

placed_push : (place : ℕ → ℕ) (places : List ℕ) (k : ℕ) (xs : List Number) (n : Number) → ArePlaced place places k xs → slice_get places (k + length xs) ≡ Some (place n.order) → ArePlaced place places k (xs ++ n ∷ [])
placed_push place places k [] n a e = (ap (slice_get places) (omega arith) ∙ e, tt)
placed_push place places k (x ∷ xs) n a e = (a.0, placed_push place places (suc k) xs n a.1 (ap (slice_get places) (omega arith) ∙ e))

placed_bumped : (place : ℕ → ℕ) (places : List ℕ) (k : ℕ) (xs : List Number) → ArePlaced place places k xs → ArePlaced place places k (bumped xs)
placed_bumped place places k [] a = a
placed_bumped place places k (x ∷ xs) a = a

placed_drop : (place : ℕ → ℕ) (places : List ℕ) (k : ℕ) (xs : List Number) → ArePlaced place places k xs → ArePlaced place places (k + 1) (drop 1 xs)
placed_drop place places k [] a = tt
placed_drop place places k (x ∷ xs) a = subst (λ n. ArePlaced place places n xs) (omega arith) a.1

-- the place of a number that is drawn later changes none of these
placed_again : (place : ℕ → ℕ) (places : List ℕ) (k n c : ℕ) (xs : List Number) → Each (λ m. m < n) xs → ArePlaced place places k xs → ArePlaced (λ m. cond (eqb n m) c (place m)) places k xs
placed_again place places k n c [] low a = tt
placed_again place places k n c (x ∷ xs) low a =
    let less : x.order < n = All-head (λ (y : Number). y.order < n) x xs low in
    (a.0 ∙ ap (λ (b : Bool). Some (cond b c (place x.order))) (sym (other x.order n less)), placed_again place places (suc k) n c xs (All-tail (λ (y : Number). y.order < n) x xs low) a.1)
  where
    other : (m n : ℕ) → m < n → eqb n m ≡ false
    other m n h = grind (arith, nat_tests)

-- what a history says of one stream
pub record Fits (actions : List Action) (place : ℕ → ℕ) (k : Known) (x : Standing) : Type 0 where
  pub its_left : is_open x ≡ true → k.finished + length x.left ≡ k.ordered
  pub gone_left : is_open x ≡ false → x.left ≡ []
  pub fewer : k.finished ≤ k.ordered
  pub few : k.ordered ≤ flushes actions
  pub placed : ArePlaced place (flush_places actions) k.finished x.left

abbrev pub FitsAt : PlansData → List Event → ℕ → Type 0
FitsAt p h t = Fits (plan_of p t).actions (place_of h) (known p h t) (standing_of p h t)

length-bumped : (xs : List Number) → length (bumped xs) ≡ length xs
length-bumped [] = refl
length-bumped (x ∷ xs) = refl

-- ---- what each event makes of it

fits_ordered : (actions : List Action) (place : ℕ → ℕ) (k : Known) (x : Standing) (n c m : ℕ) → Fits actions place k x → is_open x ≡ true → slice_get (flush_places actions) k.ordered ≡ Some c → Each (λ m. m < n) x.left
    → Fits actions (λ m. cond (eqb n m) c (place m)) (record k { ordered = k.ordered + 1 }) (record x { left = x.left ++ record { order = n; made = m } ∷ [] })
fits_ordered actions place k x n c m f o e low =
    let more = length-append x.left (record { order = n; made = m } ∷ []) in
    let all = f.its_left o in
    let less = flush_of_place actions k.ordered c e in
    let fewer = f.fewer in
    record {
      its_left = λ q. omega (arith, more, all);
      gone_left = λ q. absurd (cc);
      fewer = omega arith;
      few = omega arith;
      placed = placed_push _ (flush_places actions) k.finished x.left record { order = n; made = m } (placed_again place (flush_places actions) k.finished n c x.left low f.placed)
          (ap (slice_get (flush_places actions)) all ∙ e ∙ ap (λ (b : Bool). Some (cond b c (place n))) (sym (eq-eqb n n refl)));
    }

fits_waited : (actions : List Action) (place : ℕ → ℕ) (k : Known) (x : Standing) → Fits actions place k x → Fits actions place k (record x { left = bumped x.left })
fits_waited actions place k x f = record {
  its_left = λ q. ap (λ n. k.finished + n) (length-bumped x.left) ∙ f.its_left q;
  gone_left = λ q. ap bumped (f.gone_left q);
  fewer = f.fewer;
  few = f.few;
  placed = placed_bumped place (flush_places actions) k.finished x.left f.placed;
}

fits_released : (actions : List Action) (place : ℕ → ℕ) (k : Known) (x : Standing) (r : ℕ) → Fits actions place k x → Fits actions place k (record x { release = r })
fits_released actions place k x r f = record { its_left = f.its_left; gone_left = f.gone_left; fewer = f.fewer; few = f.few; placed = f.placed }

-- the facts beside the flushes do not count
fits_known : (actions : List Action) (place : ℕ → ℕ) (k l : Known) (x : Standing) → l.ordered ≡ k.ordered → l.finished ≡ k.finished → Fits actions place k x → Fits actions place l x
fits_known actions place k l x o d f = record {
  its_left = λ q. ap (λ n. n + length x.left) d ∙ f.its_left q ∙ sym o;
  gone_left = f.gone_left;
  fewer = let a = f.fewer in omega arith;
  few = let a = f.few in omega arith;
  placed = subst (λ n. ArePlaced place (flush_places actions) n x.left) (sym d) f.placed;
}

-- a stream with an unprocessed number is open
pub open_of_left : (actions : List Action) (place : ℕ → ℕ) (k : Known) (x : Standing) → Fits actions place k x → IsSome (first_order x.left) → (is_open x ≡ true) × (0 < length x.left)
open_of_left actions place k x f some = (true_from_ne_false (is_open x) (λ q. let none = f.gone_left q in empty x.left none some), some_length x.left some)
  where
    empty : (xs : List Number) → xs ≡ [] → IsSome (first_order xs) → ⊥
    empty [] e h = cc
    empty (y ∷ ys) e h = cc

    some_length : (xs : List Number) → IsSome (first_order xs) → 0 < length xs
    some_length [] h = absurd (cc)
    some_length (y ∷ ys) h = omega arith

fits_finished : (actions : List Action) (place : ℕ → ℕ) (k : Known) (x : Standing) → Fits actions place k x → IsSome (first_order x.left) → Fits actions place (record k { finished = k.finished + 1 }) (record x { left = drop 1 x.left })
fits_finished actions place k x f some =
    let o = open_of_left actions place k x f some in
    let all = f.its_left o.0 in
    let one = less x.left o.1 in
    let pos = o.1 in
    record {
      its_left = λ q. omega (arith, one, all);
      gone_left = λ q. let z = f.gone_left q in ap (drop 1) z;
      fewer = omega (arith, all, pos);
      few = f.few;
      placed = placed_drop place (flush_places actions) k.finished x.left f.placed;
    }
  where
    less : (xs : List Number) → 0 < length xs → length (drop 1 xs) + 1 ≡ length xs
    less [] h = absurd (omega arith)
    less (y ∷ ys) h = omega arith

fits_gone : (actions : List Action) (place : ℕ → ℕ) (k : Known) (x y : Standing) → is_open y ≡ false → y.left ≡ [] → Fits actions place k x → Fits actions place k y
fits_gone actions place k x y e n f = record {
  its_left = λ q. absurd (cc);
  gone_left = λ q. n;
  fewer = f.fewer;
  few = f.few;
  placed = subst (λ (l : List Number). ArePlaced place (flush_places actions) k.finished l) (sym n) tt;
}

-- what a step asks for changes no number
fits_asked : (p : PlansData) (effect : Effect) (n : ℕ) (actions : List Action) (place : ℕ → ℕ) (k : Known) (x : Standing) → Fits actions place k x → Fits actions place k (moved_by (deed_asked p effect) n x)
fits_asked p (Release r) n actions place k x f = fits_released actions place k x (max x.release r) f
fits_asked p (Wait t r) n actions place k x f = fits_waited actions place k x f
fits_asked p (WaitName t r) n actions place k x f = fits_waited actions place k x f
fits_asked p Nothing n actions place k x f = f
fits_asked p (Token t) n actions place k x f = f
fits_asked p (Pixels op) n actions place k x f = f
fits_asked p (Results w) n actions place k x f = f

pub first_some : (o : Option ℕ) (n : ℕ) → o ≡ Some n → IsSome o
first_some None n e = absurd (cc)
first_some (Some m) n e = refl

fits_event : (p : PlansData) (e : Event) (h : List Event) → Obeys p h e → FitsAt p h (stream_in e)
    → Fits (plan_of p (stream_in e)).actions (place_of (e ∷ h)) (known_after p e (world p h) (known p h (stream_in e))) (moved_by (deed p e (world p h)) (drawn p h + 1) (standing_of p h (stream_in e)))
fits_event p (Order s n c) h o f =
    subst (λ m. Fits (plan_of p s).actions (place_of (Order s n c ∷ h)) (known_after p (Order s n c) (world p h) (known p h s)) (moved_by (deed p (Order s n c) (world p h)) m (standing_of p h s))) o.rule_2
    (fits_ordered (plan_of p s).actions (place_of h) (known p h s) (standing_of p h s) n c (length (fences_in (slice_get (plan_of p s).actions c))) f o.rule_1.stays o.rule_3 low)
  where
    low : Each (λ m. m < n) (left_of p h s)
    low = λ i d lt. let a = left_drawn (sync_of p h) s i d lt in let b = o.rule_2 in omega (arith, a, b)
fits_event p (Step s words) h o f =
    fits_known (plan_of p s).actions (place_of h) (known p h s) (known_after p (Step s words) (world p h) (known p h s)) (moved_by (deed_asked p (asked_by p s words (world p h))) (drawn p h + 1) (standing_of p h s)) refl refl
    (fits_asked p (asked_by p s words (world p h)) (drawn p h + 1) (plan_of p s).actions (place_of h) (known p h s) (standing_of p h s) f)
fits_event p (Finish s n) h o f = fits_finished (plan_of p s).actions (place_of h) (known p h s) (standing_of p h s) f (first_some (first_order (left_of p h s)) n o.rule_4)
fits_event p (Lost s why words) h o f = fits_gone (plan_of p s).actions (place_of h) (known p h s) (standing_of p h s) (record (standing_of p h s) { lost = true; left = [] }) refl refl f
fits_event p (Close s) h o f = fits_gone (plan_of p s).actions (place_of h) (known p h s) (standing_of p h s) (record (standing_of p h s) { closed = true; left = [] }) (and_right (not (standing_of p h s).lost) false refl) refl f

-- the places of the numbers of another stream
fits_other : (p : PlansData) (e : Event) (h : List Event) (t : ℕ) → Obeys p h e → FitsAt p h t → Fits (plan_of p t).actions (place_of (e ∷ h)) (known p h t) (standing_of p h t)
fits_other p (Order s n c) h t o f = record {
  its_left = f.its_left;
  gone_left = f.gone_left;
  fewer = f.fewer;
  few = f.few;
  placed = placed_again (place_of h) (flush_places (plan_of p t).actions) (known p h t).finished n c (left_of p h t) (λ i d lt. let a = left_drawn (sync_of p h) t i d lt in let b = o.rule_2 in omega (arith, a, b)) f.placed;
}
fits_other p (Step s words) h t o f = f
fits_other p (Finish s n) h t o f = f
fits_other p (Lost s why words) h t o f = f
fits_other p (Close s) h t o f = f

fits_then : (p : PlansData) (e : Event) (h : List Event) (t : ℕ) → Obeys p h e → ((s : ℕ) → FitsAt p h s) → FitsAt p (e ∷ h) t
fits_then p e h t o f = by (eqb (stream_in e) t) refl
  where
    own : FitsAt p (e ∷ h) (stream_in e)
    own =
        subst (λ (k : Known). Fits (plan_of p (stream_in e)).actions (place_of (e ∷ h)) k (standing_of p (e ∷ h) (stream_in e))) (sym (known_own p e h))
        (subst (λ (x : Standing). Fits (plan_of p (stream_in e)).actions (place_of (e ∷ h)) (known_after p e (world p h) (known p h (stream_in e))) x) (sym (standing_own p e h)) (fits_event p e h o (f (stream_in e))))

    by : (b : Bool) → eqb (stream_in e) t ≡ b → FitsAt p (e ∷ h) t
    by true q = subst (λ t. FitsAt p (e ∷ h) t) (eqb-true (stream_in e) t q) own
    by false q =
        subst (λ (k : Known). Fits (plan_of p t).actions (place_of (e ∷ h)) k (standing_of p (e ∷ h) t)) (sym (known_other p e h t q))
        (subst (λ (x : Standing). Fits (plan_of p t).actions (place_of (e ∷ h)) (known p h t) x) (sym (standing_other p e h t q)) (fits_other p e h t o (f t)))

pub fits : (p : PlansData) (h : List Event) → IsLegal p h → (t : ℕ) → FitsAt p h t
fits p [] y t =
    subst (λ (w : World). Fits (plan_of p t).actions (place_of []) (w.streams t) (standing_of p [] t)) (sym (world_none p))
    (subst (λ (g : List sync.SyncEvent). Fits (plan_of p t).actions (place_of []) (first_world.streams t) (sync.standing g t)) (sym (sync_none p))
    record { its_left = λ q. omega arith; gone_left = λ q. refl; fewer = omega arith; few = omega arith; placed = tt })
fits p (e ∷ h) y t = fits_then p e h t y.0 (fits p h y.1)
