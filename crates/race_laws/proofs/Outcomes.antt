-- Settled streams that are apart leave the same in every whole history.
use Rattle.std.proofs.Common.{◌≡◌, ℕ, ◌+◌, eqb, Bool, true, false, cond, List, [], ◌∷◌, refl, sym, ap, ◌∙◌, arith}
use Rattle.std.proofs.lemmas.Bool.{eq-eqb}
use Rattle.gpu_plan.specs.Plans.{PlansData}
use Rattle.stream_state.specs.Steps.{command_in}
use Rattle.gpu_journal.specs.declared.event.Event.{Event}
use Rattle.gpu_journal.specs.declared.event.Event.TheVariants.{Order, Step, Finish, Lost, Close}
use Rattle.gpu_journal.specs.declared.event.Why.TheVariants.{Error, Memory}
use Rattle.gpu_journal.specs.World.{stream_in, replay}
use Rattle.race_laws.specs.Works.{Work, Executed, Finished, Refused, work_of, with_work, works}
use Rattle.race_laws.specs.Touches.{texels_made, all_made, steps_in, Fits}
use Rattle.race_laws.specs.Laws.{LeaveTheSame, ConflictsDecide, OneResult}
use Rattle.race_laws.proofs.Rising.{same_images}
use Rattle.race_laws.proofs.Stages.{Stage}
use Rattle.race_laws.proofs.Shuffles.{Words, Steps, of, without, Same, same_rest, same_stage, TakesOff, Apart, apart_takes, apart_by}
use Rattle.race_laws.proofs.Orders.{Alike, alike_takes}
use Rattle.race_laws.proofs.Replays.{replays}
use Rattle.race_laws.proofs.Ending.{works_agree}

-- ---- the steps of a stream are those among its works

abbrev executed : List Work → List Words
executed [] = []
executed (Executed words ∷ ws) = words ∷ executed ws
executed (Finished ∷ ws) = executed ws
executed (Refused error words ∷ ws) = executed ws

of_works : (h : List Event) (s : ℕ) → of s (steps_in h) ≡ executed (works h s)
of_works [] s = refl
of_works (e ∷ h) s = by e (eqb (stream_in e) s) refl (of_works h s)
  where
    by : (e : Event) (b : Bool) → eqb (stream_in e) s ≡ b → of s (steps_in h) ≡ executed (works h s) → of s (steps_in (e ∷ h)) ≡ executed (cond b (with_work (work_of e) (works h s)) (works h s))
    by (Step t words) true q rest = ap (λ (b : Bool). cond b (words ∷ of s (steps_in h)) (of s (steps_in h))) q ∙ ap (λ (ws : List Words). words ∷ ws) rest
    by (Step t words) false q rest = ap (λ (b : Bool). cond b (words ∷ of s (steps_in h)) (of s (steps_in h))) q ∙ rest
    by (Order t n c) true q rest = rest
    by (Order t n c) false q rest = rest
    by (Finish t n) true q rest = rest
    by (Finish t n) false q rest = rest
    by (Lost t (Error error) words) true q rest = rest
    by (Lost t (Error error) words) false q rest = rest
    by (Lost t Memory words) true q rest = rest
    by (Lost t Memory words) false q rest = rest
    by (Close t) true q rest = rest
    by (Close t) false q rest = rest

pub same_steps : (h g : List Event) → ((s : ℕ) → works g s ≡ works h s) → Same (steps_in h) (steps_in g)
same_steps h g same s = of_works h s ∙ sym (ap executed (same s)) ∙ sym (of_works g s)

-- ---- they ask for as many texels

made_without : (s : ℕ) (words : Words) (rest : List Words) (ys : Steps) → of s ys ≡ words ∷ rest → all_made ys ≡ texels_made (command_in words) + all_made (without s ys)
made_without s words rest [] are = absurd (cc)
made_without s words rest (y ∷ ys) are = by (λ q. made_without s words rest ys q) (eqb y.0 s) refl
  where
    by : (of s ys ≡ words ∷ rest → all_made ys ≡ texels_made (command_in words) + all_made (without s ys)) → (b : Bool) → eqb y.0 s ≡ b → all_made (y ∷ ys) ≡ texels_made (command_in words) + all_made (cond b ys (y ∷ without s ys))
    by more true q =
        let here : y.1 ∷ of s ys ≡ words ∷ rest = sym (ap (λ (b : Bool). cond b (y.1 ∷ of s ys) (of s ys)) q) ∙ are in
        let words_are : y.1 ≡ words = cc in
        ap (λ (w : Words). texels_made (command_in w) + all_made ys) words_are
    by more false q =
        let behind : of s ys ≡ words ∷ rest = sym (ap (λ (b : Bool). cond b (y.1 ∷ of s ys) (of s ys)) q) ∙ are in
        let all = more behind in
        omega (arith, all)

pub made_same : (xs ys : Steps) → Same xs ys → all_made xs ≡ all_made ys
made_same [] [] same = refl
made_same [] (y ∷ ys) same = let e : [] ≡ y.1 ∷ of y.0 ys = same y.0 ∙ ap (λ (b : Bool). cond b (y.1 ∷ of y.0 ys) (of y.0 ys)) (eq-eqb y.0 y.0 refl) in absurd (cc)
made_same (x ∷ xs) ys same =
    let own : of x.0 ys ≡ x.1 ∷ of x.0 xs = sym (same x.0) ∙ ap (λ (b : Bool). cond b (x.1 ∷ of x.0 xs) (of x.0 xs)) (eq-eqb x.0 x.0 refl) in
    let rest = made_same xs (without x.0 ys) (same_rest x xs ys same) in
    let one = made_without x.0 x.1 (of x.0 xs) ys own in
    omega (arith, rest, one)

-- ---- what they leave

pub leave_same : (p : PlansData) (h g : List Event) (Known : Steps → Steps → Type 0) → TakesOff Known → ((s : ℕ) → works g s ≡ works h s) → Fits h → Known (steps_in h) (steps_in g) → LeaveTheSame p h g
leave_same p h g Known takes same fits known =
    let steps = same_steps h g same in
    let all = made_same (steps_in h) (steps_in g) steps in
    let a = replays p h fits in
    let b = replays p g (omega (arith, all, fits)) in
    let stage = same_stage p Known takes (steps_in h) (steps_in g) steps known in
    record {
      images = same_images (replay p g) (replay p h) b.rising a.rising (λ q. λ i. (b.found ∙ sym (ap (λ (s : Stage). s.images) stage) ∙ sym a.found) i q);
      states = λ s. b.states s ∙ sym (ap (λ (x : Stage). x.states s) stage) ∙ sym (a.states s);
    }

pub conflicts_decide : ConflictsDecide
conflicts_decide p h g same fits alike = leave_same p h g Alike alike_takes same fits alike

pub one_result : OneResult
one_result p h g lawful whole also none =
    leave_same p h g (λ xs ys. Apart xs) apart_takes (λ s. works_agree p h g s lawful whole also (none.settled s)) none.fits (apart_by (steps_in h) none.apart)
