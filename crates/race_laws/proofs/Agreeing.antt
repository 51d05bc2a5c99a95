-- Of two legal histories, one goes on where the other one stops, for each settled stream.
use Rattle.std.proofs.Common.{◌≡◌, ℕ, ◌≤◌, ◌⊎◌, inl, inr, ⊎_elim, eqb, Bool, true, false, cond, Option, Some, None, List, [], ◌∷◌, ◌++◌, length, refl, sym, ap, subst, ◌∙◌, arith, append-nil, length-append}
use Rattle.std.proofs.lemmas.Bool.{eqb-true}
use Rattle.gpu_journal.specs.declared.event.Event.{Event}
use Rattle.gpu_journal.specs.World.{stream_in}
use Rattle.gpu_journal.specs.Legal.{IsLegal}
use Rattle.race_laws.specs.Works.{Work, work_of, with_work, works, IsFront}
use Rattle.race_laws.specs.Laws.{WorksAreFronts}
use Rattle.race_laws.proofs.Next.{worked, still_worked, next_same}

-- an event is no work of the stream, or it is its next one
abbrev pub IsNext : Event → List Event → ℕ → Type 0
IsNext e h s = (works (e ∷ h) s ≡ works h s) ⊎ ((work : Work) × (stream_in e ≡ s) × (work_of e ≡ Some work) × (works (e ∷ h) s ≡ work ∷ works h s))

pub is_next : (e : Event) (h : List Event) (s : ℕ) → IsNext e h s
is_next e h s = by (eqb (stream_in e) s) refl (work_of e) refl
  where
    by : (b : Bool) → eqb (stream_in e) s ≡ b → (o : Option Work) → work_of e ≡ o → IsNext e h s
    by false q o is = inl (ap (λ (b : Bool). cond b (with_work (work_of e) (works h s)) (works h s)) q)
    by true q None is = inl (ap (λ (b : Bool). cond b (with_work (work_of e) (works h s)) (works h s)) q ∙ ap (λ (o : Option Work). with_work o (works h s)) is)
    by true q (Some work) is = inr (work, eqb-true (stream_in e) s q, is, ap (λ (b : Bool). cond b (with_work (work_of e) (works h s)) (works h s)) q ∙ ap (λ (o : Option Work). with_work o (works h s)) is)

-- one of the two went on from where the other one is
abbrev pub Fronts : List Work → List Work → Type 0
Fronts a b = IsFront b a ⊎ IsFront a b

-- what is as long and goes on to it is it
no_more : (more a b : List Work) → more ++ a ≡ b → length b ≤ length a → a ≡ b
no_more [] a b e few = e
no_more (m ∷ more) a b e few =
    let count : length (m ∷ more ++ a) ≡ length b = ap length e in
    let sum = length-append more a in
    absurd (omega (arith, count, sum, few))

-- both go on: where they are the same before, the next works decide; else the longer one went on as before
both_on : (v w : Work) (a b : List Work) → Fronts a b → Fronts a (w ∷ b) → Fronts (v ∷ a) b → (a ≡ b → v ≡ w) → Fronts (v ∷ a) (w ∷ b)
both_on v w a b base left right same = ⊎_elim (λ f. longer f.more f.whole) (λ f. shorter f.more f.whole) base
  where
    equal : a ≡ b → Fronts (v ∷ a) (w ∷ b)
    equal e = inr record { more = []; whole = λ i. same e i ∷ e i }

    longer : (more : List Work) → more ++ b ≡ a → Fronts (v ∷ a) (w ∷ b)
    longer [] e = equal (sym e)
    longer (m ∷ more) e =
        let count : length (m ∷ more ++ b) ≡ length a = ap length e in
        let sum = length-append more b in
        ⊎_elim
        (λ f. inl record { more = v ∷ f.more; whole = ap (λ (x : List Work). v ∷ x) f.whole })
        (λ f. inl record { more = v ∷ []; whole = ap (λ (x : List Work). v ∷ x) (sym (no_more f.more a (w ∷ b) f.whole (omega (arith, count, sum)))) })
        left

    shorter : (more : List Work) → more ++ a ≡ b → Fronts (v ∷ a) (w ∷ b)
    shorter [] e = equal e
    shorter (m ∷ more) e =
        let count : length (m ∷ more ++ a) ≡ length b = ap length e in
        let sum = length-append more a in
        ⊎_elim
        (λ f. inr record { more = w ∷ []; whole = ap (λ (x : List Work). w ∷ x) (sym (no_more f.more b (v ∷ a) f.whole (omega (arith, count, sum)))) })
        (λ f. inr record { more = w ∷ f.more; whole = ap (λ (x : List Work). w ∷ x) f.whole })
        right

pub works_are_fronts : WorksAreFronts
works_are_fronts p [] g s legal also still = inr record { more = works g s; whole = append-nil (works g s) }
works_are_fronts p (e ∷ h) g s legal also still = over (λ g also. works_are_fronts p h g s legal.1 also still.1) g also
  where
    -- what the history before the event says of every other one
    Before : Type 0
    Before = (g : List Event) → IsLegal p g → Fronts (works h s) (works g s)

    -- the other history after one more event, by what was found before that
    by : (f : Event) (g : List Event) → IsLegal p (f ∷ g) → Before → IsNext e h s → IsNext f g s → Fronts (works (e ∷ h) s) (works g s) → Fronts (works (e ∷ h) s) (works (f ∷ g) s)
    by f g also earlier next (inl none) before = subst (Fronts (works (e ∷ h) s)) (sym none) before
    by f g also earlier (inl none) (inr other) before = subst (λ (a : List Work). Fronts a (works (f ∷ g) s)) (sym none) (earlier (f ∷ g) also)
    by f g also earlier (inr one) (inr other) before =
        let v = one.0 in
        let w = other.0 in
        let right : Fronts (v ∷ works h s) (works g s) = subst (λ (a : List Work). Fronts a (works g s)) one.3 before in
        let left : Fronts (works h s) (w ∷ works g s) = subst (Fronts (works h s)) other.3 (earlier (f ∷ g) also) in
        let same : works h s ≡ works g s → v ≡ w = λ q. next_same p h g s v w legal.1 also.1 q (worked p h e s v legal.0 one.1 one.2) (still_worked p h e s v still.0 one.1 one.2) (worked p g f s w also.0 other.1 other.2) in
        let both = both_on v w (works h s) (works g s) (earlier g also.1) left right same in
        subst (λ (a : List Work). Fronts a (works (f ∷ g) s)) (sym one.3) (subst (Fronts (v ∷ works h s)) (sym other.3) both)

    over : Before → (g : List Event) → IsLegal p g → Fronts (works (e ∷ h) s) (works g s)
    over earlier [] also = inl record { more = works (e ∷ h) s; whole = append-nil (works (e ∷ h) s) }
    over earlier (f ∷ g) also = by f g also earlier (is_next e h s) (is_next f g s) (over earlier g also.1)
