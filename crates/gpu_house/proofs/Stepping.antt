-- What a run keeps after a step: its note is met, and its client hears of it.
use Rattle.std.proofs.Common.{◌≡◌, ◌≢◌, ℕ, ◌+◌, ◌≤◌, max, eqb, Bool, true, false, List, [], ◌∷◌, length, drop, Option, Some, None, refl, sym, ap, subst, ◌∙◌, arith, length-drop, length-append, option_map}
use Rattle.std.specs.Prelude.{IfSome, slice_get}
use Rattle.std.specs.List.{All}
use Rattle.std.proofs.Math.Nat.{max_comm, le-max_left}
use Rattle.std.proofs.lemmas.Bool.Decides.{nat_tests}
use Rattle.gpu_house.proofs.Parts.{drop-drop}
use Rattle.std.proofs.lemmas.List.Elements.{All-drop, All-weaker}
use Rattle.atomic_table.specs.Seated.{TableId}
use Rattle.gpu_plan.specs.Plans.{PlansData, plan_of}
use Rattle.gpu_plan.specs.Places.{flush_places}
use Rattle.gpu_plan.specs.Passes.{bound, greatest}
use Rattle.gpu_plan.specs.MayHold.{MayHold}
use Rattle.gpu_plan.proofs.Holding.{may_hold_between}
use Rattle.gpu_plan.proofs.Passing.{bound_grows_by_greatest}
use Rattle.gpu_fetch.specs.Side.{SideData, side_reach, token_published}
use Rattle.stream_state.specs.declared.effect.Effect.{Effect}
use Rattle.stream_state.specs.declared.effect.Effect.TheVariants.{Nothing, Token, Release, Wait, WaitName, Pixels, Results}
use Rattle.sync_core.specs.Standing.{IsKnown}
use Rattle.gpu_journal.specs.declared.event.Event.{Event}
use Rattle.gpu_journal.specs.declared.event.Event.TheVariants.{Step}
use Rattle.gpu_journal.specs.Facts.{put_in}
use Rattle.gpu_journal.specs.World as worlds
use Rattle.gpu_journal.specs.World.{known, world, asked_by}
use Rattle.serial_laws.proofs.Knowns.{step_tokens}
use Rattle.house_core.specs.Core.{IsRunOf, MayHavePut}
use Rattle.house_core.specs.Answers.{IsMovedBy}
use Rattle.house_core.specs.Desks.{RunData}
use Rattle.gpu_house.specs.Slots.{RunFits}
use Rattle.gpu_house.specs.Changes.{met_by}
use Rattle.gpu_house.specs.Batches.{AreNext}
use Rattle.gpu_house.specs.declared.answers.Next.{Next}
use Rattle.gpu_house.specs.declared.answers.Next.TheVariants.{More, FlushEnd}
use Rattle.gpu_house.specs.Steps.{told_side, next_of}
use Rattle.gpu_house.proofs.Running.{met_further, met_again}

-- ---- what a client hears

told_keeps : {A : Type 0} (of : SideData → A) → ((s : SideData) (token : ℕ) → of (token_published s token) ≡ of s) → (effect : Effect) (s : SideData) → of (told_side effect s) ≡ of s
told_keeps of keeps Nothing s = refl
told_keeps of keeps (Token token) s = keeps s token
told_keeps of keeps (Release r) s = refl
told_keeps of keeps (Wait t r) s = refl
told_keeps of keeps (WaitName name r) s = refl
told_keeps of keeps (Pixels op) s = refl
told_keeps of keeps (Results write) s = refl

-- the greatest token that a client heard of is that of the journal
told_greatest : (effect : Effect) (s : SideData) (tokens : List ℕ) → s.greatest ≡ greatest tokens → (told_side effect s).greatest ≡ greatest (worlds.tokens_after effect tokens)
told_greatest Nothing s tokens is = is
told_greatest (Token token) s tokens is = max_comm s.greatest token ∙ ap (max token) is
told_greatest (Release r) s tokens is = is
told_greatest (Wait t r) s tokens is = is
told_greatest (WaitName name r) s tokens is = is
told_greatest (Pixels op) s tokens is = is
told_greatest (Results write) s tokens is = is

pub told_list : (effect : Effect) (s : SideData) → (told_side effect s).fetched ≡ s.fetched
told_list effect s = told_keeps (λ d. d.fetched) (λ d token. refl) effect s

-- it is no less than it was
told_no_less : (effect : Effect) (s : SideData) → s.greatest ≤ (told_side effect s).greatest
told_no_less Nothing s = omega arith
told_no_less (Token token) s = le-max_left s.greatest token
told_no_less (Release r) s = omega arith
told_no_less (Wait t r) s = omega arith
told_no_less (WaitName name r) s = omega arith
told_no_less (Pixels op) s = omega arith
told_no_less (Results write) s = omega arith

-- its client can come no less far
told_reach : (effect : Effect) (s : SideData) → side_reach s ≤ side_reach (told_side effect s)
told_reach Nothing s = omega arith
told_reach (Token token) s = bound_grows_by_greatest s.plan.actions s.finished s.finished s.greatest (max s.greatest token) (omega arith) (le-max_left s.greatest token)
told_reach (Release r) s = omega arith
told_reach (Wait t r) s = omega arith
told_reach (WaitName name r) s = omega arith
told_reach (Pixels op) s = omega arith
told_reach (Results write) s = omega arith

module _ {Side Note : Type 0} (side : Side → SideData) (table : Side → TableId) (mark : Note → ℕ) (note_of : Note → TableId → Type 0) (p : PlansData) (tables books : ℕ → TableId) where
  abbrev Fits : RunData → Side → Option Note → Type 0
  Fits run x left = RunFits side table mark note_of p tables books run x left

  -- a note of a run can be met
  pub note_marked : (run : RunData) (x : Side) (left : Option Note) → Fits run x left → IfSome left (λ note. 1 ≤ mark note)
  note_marked run x None fits = tt
  note_marked run x (Some note) fits = let is : mark note ≡ run.place + 1 = fits.noted in omega (arith, is)

  -- a side that says the same
  same_again : (run : RunData) (x y : Side) → Fits run x None → side y ≡ side x → table y ≡ table x → Fits run y None
  same_again run x y fits told same =
      met_further side table mark note_of p tables books run x y None (side x).met (side x).fetched fits told same fits.list fits.may fits.whole fits.noted.0
      (subst (λ (s : SideData). s.met ≤ side_reach s) (sym told) fits.noted.1)

  -- the note is met, where it was not
  pub met_fits : (run : RunData) (x y : Side) (left : Option Note) → Fits run x left → side y ≡ met_by (option_map mark left) (side x) → IfSome left (λ note. (side y).met ≤ side_reach (side y)) → table y ≡ table x → Fits run y None
  met_fits run x y None fits told bounded same = same_again run x y fits told same
  met_fits run x y (Some note) fits told bounded same = met_again side table mark note_of p tables books run x y note fits told bounded same

  -- how many words were fetched: those of the facts, those of the step, and those after them
  list_is : (run : RunData) (x : Side) (words : List (ℕ × ℕ)) → Fits run x None → (next : AreNext run.facts (side x).fetched words) → length (side x).fetched ≡ run.facts.fetched + length words + length next.rest
  list_is run x words fits next =
      let n = length-drop run.facts.fetched (side x).fetched in
      let k = ap length next.next in
      let m = length-append words next.rest in
      let low = fits.list in
      omega (arith, n, k, m, low)

  -- the words after those of a step may have been put, where the greatest token is no less
  behind_may : (run now : RunData) (list : List (ℕ × ℕ)) (count : ℕ) → now.stream ≡ run.stream → now.place ≡ run.place → now.finished ≡ run.finished → run.greatest ≤ now.greatest → All (MayHavePut p run) (drop run.facts.fetched list)
      → All (MayHavePut p now) (drop (run.facts.fetched + count) list)
  behind_may run now list count stream place finished more may =
      let wider : (word : ℕ × ℕ) → MayHavePut p run word → MayHavePut p now word = λ word was.
      subst (λ (t : ℕ). MayHold (plan_of p t).actions now.place (bound (plan_of p t).actions now.finished (now.greatest ∷ [])) word.0 word.1) (sym stream)
      (subst (λ (k : ℕ). MayHold (plan_of p run.stream).actions k (bound (plan_of p run.stream).actions now.finished (now.greatest ∷ [])) word.0 word.1) (sym place)
      (may_hold_between (plan_of p run.stream).actions run.place run.place (bound (plan_of p run.stream).actions run.finished (run.greatest ∷ [])) (bound (plan_of p run.stream).actions now.finished (now.greatest ∷ [])) word.0 word.1
      (omega arith) (bound_grows_by_greatest (plan_of p run.stream).actions run.finished now.finished run.greatest now.greatest (omega (arith, finished)) more) was)) in
      subst (All (MayHavePut p now)) (drop-drop run.facts.fetched count list) (All-drop (MayHavePut p now) count (drop run.facts.fetched list) (All-weaker (MayHavePut p run) (MayHavePut p now) wider (drop run.facts.fetched list) may))

  -- a step was executed
  pub stepped_fits : (run now : RunData) (y z : Side) (words : List (ℕ × ℕ)) (effect : Effect) (kept : Bool) (old new : List Event) → Fits run y None → AreNext run.facts (side y).fetched words → side z ≡ told_side effect (side y) → table z ≡ table y
      → new ≡ Step run.stream words ∷ old → effect ≡ asked_by p run.stream words (world p old) → IsRunOf p old run → IsMovedBy run now words kept → IsRunOf p new now → Fits now z None
  stepped_fits run now y z words effect kept old new fits next told same past asked was moved is =
      let s = run.stream in
      let here = moved.stream in
      let list : (side z).fetched ≡ (side y).fetched = ap (λ (d : SideData). d.fetched) told ∙ told_list effect (side y) in
      let long : length (side z).fetched ≡ run.facts.fetched + length words + length next.rest = ap length list ∙ list_is run y words fits next in
      let further = moved.fetched in
      let met : (side z).met ≡ (side y).met = ap (λ (d : SideData). d.met) told ∙ told_keeps (λ d. d.met) (λ d token. refl) effect (side y) in
      let place = moved.place in
      let plan : (side z).plan ≡ plan_of p s = ap (λ (d : SideData). d.plan) told ∙ told_keeps (λ d. d.plan) (λ d token. refl) effect (side y) ∙ fits.plan in
      let farther : side_reach (side y) ≤ side_reach (side z) = subst (λ (d : SideData). side_reach (side y) ≤ side_reach d) (sym told) (told_reach effect (side y)) in
      let reached = fits.noted.1 in
      let at = fits.noted.0 in
      let tokens : (known p new now.stream).tokens ≡ worlds.tokens_after effect (known p old s).tokens =
      ap (λ (h : List Event). (known p h now.stream).tokens) past ∙ ap (λ (t : ℕ). (known p (Step s words ∷ old) t).tokens) here ∙ step_tokens p old s words ∙ ap (λ (e : Effect). worlds.tokens_after e (known p old s).tokens) (sym asked) in
      let greater : (side z).greatest ≡ now.greatest = ap (λ (d : SideData). d.greatest) told ∙ told_greatest effect (side y) (known p old s).tokens (fits.greatest ∙ was.greatest) ∙ ap greatest (sym tokens) ∙ sym is.greatest in
      let no_less : (side y).greatest ≤ (side z).greatest = subst (λ (d : SideData). (side y).greatest ≤ d.greatest) (sym told) (told_no_less effect (side y)) in
      let had = fits.greatest in
      record {
        of_plans = record {
          known = subst (λ (t : ℕ). IsKnown (length p.plans) t) (sym here) fits.of_plans.known;
          areas = moved.areas ∙ fits.of_plans.areas ∙ ap (λ (t : ℕ). (plan_of p t).areas) (sym here);
          place = ap (λ (t : ℕ). slice_get (flush_places (plan_of p t).actions) now.finished) here ∙ ap (slice_get (flush_places (plan_of p s).actions)) moved.finished ∙ fits.of_plans.place ∙ ap (λ (k : ℕ). Some k) (sym place);
          put = moved.put ∙ fits.of_plans.put ∙ ap (λ (k : ℕ). put_in (slice_get (plan_of p s).actions k)) (sym place) ∙ ap (λ (t : ℕ). put_in (slice_get (plan_of p t).actions now.place)) (sym here);
        };
        book = moved.book ∙ fits.book ∙ ap books (sym here);
        plan = plan ∙ ap (plan_of p) (sym here);
        shared = same ∙ fits.shared ∙ ap tables (sym here);
        note_shared = tt;
        finished = ap (λ (d : SideData). d.finished) told ∙ told_keeps (λ d. d.finished) (λ d token. refl) effect (side y) ∙ fits.finished ∙ sym moved.finished;
        greatest = greater;
        list = omega (arith, long, further);
        may = subst (λ (n : ℕ). All (MayHavePut p now) (drop n (side z).fetched)) (sym further)
            (behind_may run now (side z).fetched (length words) here place moved.finished (omega (arith, greater, no_less, had)) (subst (λ (l : List (ℕ × ℕ)). All (MayHavePut p run) (drop run.facts.fetched l)) (sym list) fits.may));
        whole = λ end. (let none = ap length (next.ended (sym moved.get ∙ end ∙ moved.put)) in omega (arith, long, further, none));
        behind = (let low = fits.behind in omega (arith, met, place, low));
        noted = (omega (arith, met, at, place), omega (arith, met, reached, farther));
      }

-- ---- what a step answers

-- the flush has ended exactly where it is said to
pub ends : (next : Next) (kept at_end : Bool) (get put : ℕ) → next ≡ next_of kept at_end → at_end ≡ eqb get put → (next ≡ FlushEnd → get ≡ put) × (next ≡ More → get ≢ put)
ends next kept at_end get put e is = subst (λ (n : Next). (n ≡ FlushEnd → get ≡ put) × (n ≡ More → get ≢ put)) (sym e) (by kept at_end is)
  where
    by : (kept at_end : Bool) → at_end ≡ eqb get put → (next_of kept at_end ≡ FlushEnd → get ≡ put) × (next_of kept at_end ≡ More → get ≢ put)
    by true at_end is = (λ q. absurd (cc), λ q. absurd (cc))
    by false true is = (λ q. grind (arith, nat_tests), λ q. absurd (cc))
    by false false is = (λ q. absurd (cc), λ q same. grind (arith, nat_tests))
