-- Images and states as steps leave them, and two steps that are done in any order.
use Rattle.std.proofs.Common.{◌≡◌, ◌≢◌, ℕ, eqb, Bool, true, false, cond, None, List, [], ◌∷◌, refl, sym, ap, ◌∙◌}
use Rattle.std.specs.List.{list_any}
use Rattle.std.proofs.lemmas.Bool.{eqb-true, ne_eqb}
use Rattle.gpu_cmd.specs.declared.areas.Areas.{Areas}
use Rattle.gpu_cmd.specs.declared.command.Command.{Command}
use Rattle.gpu_cmd.specs.declared.command.Command.TheVariants.{Noop, SetToken, SetBucketSize, SetBucketData, SetBucketDataImmediate, GetBucketStart, GetBucketData, InsertFence, WaitToken, WaitSyncToken, CreateImage, DeleteImage, ClearRect, CopyRect, UploadRect, UploadBucket, UploadBuffer, CreateBuffer, DeleteBuffer, BufferData}
use Rattle.gpu_store.specs.declared.op.Op.{Op}
use Rattle.gpu_store.specs.declared.op.Answer.{Answer}
use Rattle.gpu_store.specs.declared.op.Answer.TheVariants.{Done}
use Rattle.gpu_plan.specs.Plans.{PlansData, plan_of}
use Rattle.stream_state.specs.declared.effect.Effect.{Effect}
use Rattle.stream_state.specs.declared.effect.Effect.TheVariants.{Nothing, Token, Release, Wait, WaitName, Pixels, Results}
use Rattle.stream_state.specs.State.{State, first_state, noted}
use Rattle.stream_state.specs.Steps.{command_in, asked, effect_of, stepped, effect}
use Rattle.race_laws.specs.Touches.{Touch, touched, touches, clashes, conflict}
use Rattle.race_laws.proofs.Sheets.{Sheet, fate_in, answer_of, drawn}
use Rattle.race_laws.proofs.Clashes.{op_touches, AreFree}
use Rattle.race_laws.proofs.Commuting.{commute}

-- ---- what commands touch is what their operations touch

-- what an effect touches
abbrev touches_of : Effect → List Touch
touches_of (Pixels op) = op_touches op
touches_of _ = []

touched_by : (areas : Areas) (command : Command) (words : List (ℕ × ℕ)) (state : State) (op : Op) → effect_of areas command words state ≡ Pixels op → touched command ≡ op_touches op
unfolding effect_of asked
touched_by areas Noop words state op is = absurd (cc)
touched_by areas (SetToken token) words state op is = absurd (cc)
touched_by areas (SetBucketSize bucket size) words state op is = absurd (cc)
touched_by areas (SetBucketData bucket offset size memory memory_offset) words state op is = absurd (cc)
touched_by areas (SetBucketDataImmediate bucket offset size) words state op is = absurd (cc)
touched_by areas (GetBucketStart bucket result_memory result_offset data_size data_memory data_offset) words state op is = absurd (cc)
touched_by areas (GetBucketData bucket offset size memory memory_offset) words state op is = absurd (cc)
touched_by areas (InsertFence low high) words state op is = absurd (cc)
touched_by areas (WaitToken stream low high) words state op is = absurd (cc)
touched_by areas (WaitSyncToken namespace id_low id_high low high) words state op is = absurd (cc)
touched_by areas (CreateBuffer buffer size) words state op is = absurd (cc)
touched_by areas (DeleteBuffer buffer) words state op is = absurd (cc)
touched_by areas (BufferData buffer offset size memory memory_offset) words state op is = absurd (cc)
touched_by areas (CreateImage image width height) words state op is = ap touches_of is
touched_by areas (DeleteImage image) words state op is = ap touches_of is
touched_by areas (ClearRect image x y w h texel) words state op is = ap touches_of is
touched_by areas (CopyRect source sx sy target dx dy w h) words state op is = ap touches_of is
touched_by areas (UploadRect image x y w h format memory offset) words state op is = ap touches_of is
touched_by areas (UploadBucket image x y w h format bucket) words state op is = ap touches_of is
touched_by areas (UploadBuffer image x y w h format buffer offset) words state op is = ap touches_of is

pub touches_are : (areas : Areas) (words : List (ℕ × ℕ)) (state : State) (op : Op) → effect areas words state ≡ Pixels op → touches words ≡ op_touches op
unfolding effect
touches_are areas words state op is = touched_by areas (command_in words) words state op is

-- ---- effects

-- the images after an effect, and how it is answered; what asks for no image operation is done
abbrev pub shown : Effect → Sheet → Sheet
shown (Pixels op) sheet = drawn op sheet
shown _ sheet = sheet

abbrev pub answered : Effect → Sheet → Answer
answered (Pixels op) sheet = answer_of (fate_in op sheet)
answered _ sheet = Done

-- in either order two effects leave the same images, and each is answered as if it were alone
pub record Swap (e f : Effect) (sheet : Sheet) : Type 0 where
  pub images : shown f (shown e sheet) ≡ shown e (shown f sheet)
  pub first : answered e (shown f sheet) ≡ answered e sheet
  pub second : answered f (shown e sheet) ≡ answered f sheet

swap_pixels : (a b : Op) (sheet : Sheet) → AreFree a b → Swap (Pixels a) (Pixels b) sheet
swap_pixels a b sheet none = let c = commute a b sheet none in record { images = c.images; first = c.first; second = c.second }

-- one of the two draws nothing
swap_none : (e f : Effect) (sheet : Sheet) → ((s : Sheet) → shown f s ≡ s) → ((s t : Sheet) → answered f s ≡ answered f t) → Swap e f sheet
swap_none e f sheet same alike = record {
  images = same (shown e sheet) ∙ sym (ap (shown e) (same sheet));
  first = ap (answered e) (same sheet);
  second = alike (shown e sheet) sheet;
}

swap_back : (e f : Effect) (sheet : Sheet) → Swap f e sheet → Swap e f sheet
swap_back e f sheet swap = record { images = sym swap.images; first = swap.second; second = swap.first }

-- where the operations of both are free of each other
abbrev pub FreeEffects : Effect → Effect → Type 0
FreeEffects (Pixels a) (Pixels b) = AreFree a b
FreeEffects _ _ = Unit {0}

swaps : (e f : Effect) (sheet : Sheet) → FreeEffects e f → Swap e f sheet
swaps (Pixels a) (Pixels b) sheet none = swap_pixels a b sheet none
swaps e Nothing sheet none = swap_none e Nothing sheet (λ s. refl) (λ s t. refl)
swaps e (Token token) sheet none = swap_none e (Token token) sheet (λ s. refl) (λ s t. refl)
swaps e (Release r) sheet none = swap_none e (Release r) sheet (λ s. refl) (λ s t. refl)
swaps e (Wait t r) sheet none = swap_none e (Wait t r) sheet (λ s. refl) (λ s t. refl)
swaps e (WaitName t r) sheet none = swap_none e (WaitName t r) sheet (λ s. refl) (λ s t. refl)
swaps e (Results w) sheet none = swap_none e (Results w) sheet (λ s. refl) (λ s t. refl)
swaps Nothing (Pixels b) sheet none = swap_back Nothing (Pixels b) sheet (swap_none (Pixels b) Nothing sheet (λ s. refl) (λ s t. refl))
swaps (Token token) (Pixels b) sheet none = swap_back (Token token) (Pixels b) sheet (swap_none (Pixels b) (Token token) sheet (λ s. refl) (λ s t. refl))
swaps (Release r) (Pixels b) sheet none = swap_back (Release r) (Pixels b) sheet (swap_none (Pixels b) (Release r) sheet (λ s. refl) (λ s t. refl))
swaps (Wait t r) (Pixels b) sheet none = swap_back (Wait t r) (Pixels b) sheet (swap_none (Pixels b) (Wait t r) sheet (λ s. refl) (λ s t. refl))
swaps (WaitName t r) (Pixels b) sheet none = swap_back (WaitName t r) (Pixels b) sheet (swap_none (Pixels b) (WaitName t r) sheet (λ s. refl) (λ s t. refl))
swaps (Results w) (Pixels b) sheet none = swap_back (Results w) (Pixels b) sheet (swap_none (Pixels b) (Results w) sheet (λ s. refl) (λ s t. refl))

-- the effects of two steps that do not conflict are free of each other
effects_free : (e f : Effect) (words others : List (ℕ × ℕ)) → ((op : Op) → e ≡ Pixels op → touches words ≡ op_touches op) → ((op : Op) → f ≡ Pixels op → touches others ≡ op_touches op) → conflict words others ≡ false → FreeEffects e f
effects_free (Pixels a) (Pixels b) words others of_words of_others off =
    (λ i. list_any (λ x. list_any (clashes x) (sym (of_others b refl) i)) (sym (of_words a refl) i)) ∙ off
effects_free (Pixels a) Nothing words others of_words of_others off = tt
effects_free (Pixels a) (Token token) words others of_words of_others off = tt
effects_free (Pixels a) (Release r) words others of_words of_others off = tt
effects_free (Pixels a) (Wait t r) words others of_words of_others off = tt
effects_free (Pixels a) (WaitName t r) words others of_words of_others off = tt
effects_free (Pixels a) (Results w) words others of_words of_others off = tt
effects_free Nothing f words others of_words of_others off = tt
effects_free (Token token) f words others of_words of_others off = tt
effects_free (Release r) f words others of_words of_others off = tt
effects_free (Wait t r) f words others of_words of_others off = tt
effects_free (WaitName t r) f words others of_words of_others off = tt
effects_free (Results w) f words others of_words of_others off = tt

-- ---- steps

-- the images by their numbers, and the states by their streams
pub record Stage : Type 0 where
  pub images : Sheet
  pub states : ℕ → State

abbrev pub first_stage : Stage
first_stage = record { images = λ i. None; states = λ s. first_state }

-- what a step asks
abbrev pub asks : PlansData → ℕ → List (ℕ × ℕ) → Stage → Effect
asks p s words stage = effect (plan_of p s).areas words (stage.states s)

-- after one more step
abbrev pub stepped_stage : PlansData → ℕ × List (ℕ × ℕ) → Stage → Stage
stepped_stage p step stage = record {
  images = shown (asks p step.0 step.1 stage) stage.images;
  states = λ t. cond (eqb step.0 t) (noted (answered (asks p step.0 step.1 stage) stage.images) (stepped (plan_of p t).areas step.1 (stage.states t))) (stage.states t);
}

-- after steps, the newest first
abbrev pub stage_of : PlansData → List (ℕ × List (ℕ × ℕ)) → Stage
stage_of p [] = first_stage
stage_of p (step ∷ steps) = stepped_stage p step (stage_of p steps)

-- two steps of different streams that do not conflict are done in any order
pub steps_swap : (p : PlansData) (x y : ℕ × List (ℕ × ℕ)) (stage : Stage) → x.0 ≢ y.0 → conflict x.1 y.1 ≡ false → stepped_stage p x (stepped_stage p y stage) ≡ stepped_stage p y (stepped_stage p x stage)
steps_swap p x y stage apart off =
    let ex = asks p x.0 x.1 stage in
    let ey = asks p y.0 y.1 stage in
    let after_x = stepped_stage p x stage in
    let after_y = stepped_stage p y stage in
    let x_same : asks p x.0 x.1 after_y ≡ ex = ap (effect (plan_of p x.0).areas x.1) (kept y after_y.states (λ t. noted (answered ey stage.images) (stepped (plan_of p t).areas y.1 (stage.states t))) x.0 (ne_eqb y.0 x.0 (λ e. apart (sym e))) (λ t. refl)) in
    let y_same : asks p y.0 y.1 after_x ≡ ey = ap (effect (plan_of p y.0).areas y.1) (kept x after_x.states (λ t. noted (answered ex stage.images) (stepped (plan_of p t).areas x.1 (stage.states t))) y.0 (ne_eqb x.0 y.0 apart) (λ t. refl)) in
    let swap = swaps ex ey stage.images (effects_free ex ey x.1 y.1 (λ op. touches_are (plan_of p x.0).areas x.1 (stage.states x.0) op) (λ op. touches_are (plan_of p y.0).areas y.1 (stage.states y.0) op) off) in
    let images : (stepped_stage p x after_y).images ≡ (stepped_stage p y after_x).images = (λ i. shown (x_same i) after_y.images) ∙ sym swap.images ∙ sym (λ i. shown (y_same i) after_x.images) in
    let answer_x : answered (asks p x.0 x.1 after_y) after_y.images ≡ answered ex stage.images = (λ i. answered (x_same i) after_y.images) ∙ swap.first in
    let answer_y : answered (asks p y.0 y.1 after_x) after_x.images ≡ answered ey stage.images = (λ i. answered (y_same i) after_x.images) ∙ swap.second in
    λ i. record {
      images = images i;
      states = λ t. states t (answered (asks p x.0 x.1 after_y) after_y.images) (answered ex stage.images) (answered (asks p y.0 y.1 after_x) after_x.images) (answered ey stage.images) answer_x answer_y (eqb x.0 t) refl (eqb y.0 t) refl i;
    }
  where
    kept : (z : ℕ × List (ℕ × ℕ)) (after : ℕ → State) (new : ℕ → State) (t : ℕ) → eqb z.0 t ≡ false → ((t : ℕ) → after t ≡ cond (eqb z.0 t) (new t) (stage.states t)) → after t ≡ stage.states t
    kept z after new t q is = is t ∙ ap (λ (b : Bool). cond b (new t) (stage.states t)) q

    states : (t : ℕ) (a a' b b' : Answer) → a ≡ a' → b ≡ b' → (c : Bool) → eqb x.0 t ≡ c → (d : Bool) → eqb y.0 t ≡ d
        → cond c (noted a (stepped (plan_of p t).areas x.1 (cond d (noted b' (stepped (plan_of p t).areas y.1 (stage.states t))) (stage.states t)))) (cond d (noted b' (stepped (plan_of p t).areas y.1 (stage.states t))) (stage.states t))
        ≡ cond d (noted b (stepped (plan_of p t).areas y.1 (cond c (noted a' (stepped (plan_of p t).areas x.1 (stage.states t))) (stage.states t)))) (cond c (noted a' (stepped (plan_of p t).areas x.1 (stage.states t))) (stage.states t))
    states t a a' b b' of_a of_b true m true n = absurd (apart (eqb-true x.0 t m ∙ sym (eqb-true y.0 t n)))
    states t a a' b b' of_a of_b true m false n = ap (λ (z : Answer). noted z (stepped (plan_of p t).areas x.1 (stage.states t))) of_a
    states t a a' b b' of_a of_b false m true n = ap (λ (z : Answer). noted z (stepped (plan_of p t).areas y.1 (stage.states t))) (sym of_b)
    states t a a' b b' of_a of_b false m false n = refl
