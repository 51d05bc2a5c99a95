-- What a history says of images and states is what its steps leave, where the texels of all images are few.
use Rattle.std.proofs.Common.{◌≡◌, ℕ, ◌+◌, ◌≤◌, eqb, Bool, true, false, cond, List, [], ◌∷◌, refl, sym, ap, subst, ◌∙◌, arith}
use Rattle.std.proofs.lemmas.Bool.{eqb-true}
use Rattle.gpu_cmd.specs.declared.areas.Areas.{Areas}
use Rattle.gpu_cmd.specs.declared.command.Command.{Command}
use Rattle.gpu_cmd.specs.declared.command.Command.TheVariants.{Noop, SetToken, SetBucketSize, SetBucketData, SetBucketDataImmediate, GetBucketStart, GetBucketData, InsertFence, WaitToken, WaitSyncToken, CreateImage, DeleteImage, ClearRect, CopyRect, UploadRect, UploadBucket, UploadBuffer, CreateBuffer, DeleteBuffer, BufferData}
use Rattle.gpu_store.specs.declared.op.Answer.{Answer}
use Rattle.gpu_store.specs.Images.{Pictures, picture_of, total_texels}
use Rattle.gpu_plan.specs.Plans.{PlansData, plan_of}
use Rattle.stream_state.specs.declared.effect.Effect.{Effect}
use Rattle.stream_state.specs.declared.effect.Effect.TheVariants.{Nothing, Token, Release, Wait, WaitName, Pixels, Results}
use Rattle.stream_state.specs.State.{State, noted}
use Rattle.stream_state.specs.Steps.{command_in, asked, effect_of, stepped, effect}
use Rattle.gpu_journal.specs.declared.event.Event.{Event}
use Rattle.gpu_journal.specs.declared.event.Event.TheVariants.{Order, Step, Finish, Lost, Close}
use Rattle.gpu_journal.specs.World.{Known, World, world, stream_in, asked_by, drawn_by, known, known_after, replay, state_of}
use Rattle.gpu_journal.proofs.Worlds.{world_none, images_then, known_then}
use Rattle.race_laws.specs.Touches.{steps_in, texels_made, all_made}
use Rattle.race_laws.proofs.Rising.{Rising}
use Rattle.race_laws.proofs.Sheets.{texels_asked, linked}
use Rattle.race_laws.proofs.Stages.{shown, answered, asks, stage_of}

-- ---- the texels that commands ask for are those of their operations

abbrev asked_texels : Effect → ℕ
asked_texels (Pixels op) = texels_asked op
asked_texels _ = 0

made_by : (areas : Areas) (command : Command) (words : List (ℕ × ℕ)) (state : State) → asked_texels (effect_of areas command words state) ≡ texels_made command
unfolding effect_of asked
made_by areas Noop words state = refl
made_by areas (SetToken token) words state = refl
made_by areas (SetBucketSize bucket size) words state = refl
made_by areas (SetBucketData bucket offset size memory memory_offset) words state = refl
made_by areas (SetBucketDataImmediate bucket offset size) words state = refl
made_by areas (GetBucketStart bucket result_memory result_offset data_size data_memory data_offset) words state = refl
made_by areas (GetBucketData bucket offset size memory memory_offset) words state = refl
made_by areas (InsertFence low high) words state = refl
made_by areas (WaitToken stream low high) words state = refl
made_by areas (WaitSyncToken namespace id_low id_high low high) words state = refl
made_by areas (CreateBuffer buffer size) words state = refl
made_by areas (DeleteBuffer buffer) words state = refl
made_by areas (BufferData buffer offset size memory memory_offset) words state = refl
made_by areas (CreateImage image width height) words state = refl
made_by areas (DeleteImage image) words state = refl
made_by areas (ClearRect image x y w h texel) words state = refl
made_by areas (CopyRect source sx sy target dx dy w h) words state = refl
made_by areas (UploadRect image x y w h format memory offset) words state = refl
made_by areas (UploadBucket image x y w h format bucket) words state = refl
made_by areas (UploadBuffer image x y w h format buffer offset) words state = refl

made_is : (areas : Areas) (words : List (ℕ × ℕ)) (state : State) → asked_texels (effect areas words state) ≡ texels_made (command_in words)
unfolding effect
made_is areas words state = made_by areas (command_in words) words state

-- ---- one effect

record Shows (effect : Effect) (images : Pictures) : Type 0 where
  answer : (drawn_by effect images).answer ≡ answered effect (picture_of images)
  found : (i : ℕ) → picture_of (drawn_by effect images).images i ≡ shown effect (picture_of images) i
  rising : Rising (drawn_by effect images).images
  total : total_texels (drawn_by effect images).images ≤ total_texels images + asked_texels effect

shows : (effect : Effect) (images : Pictures) → Rising images → total_texels images + asked_texels effect ≤ 4194304 → Shows effect images
shows (Pixels op) images r room = let l = linked images op r room in record { answer = l.answer; found = l.found; rising = l.rising; total = l.total }
shows Nothing images r room = record { answer = refl; found = λ i. refl; rising = r; total = omega arith }
shows (Token token) images r room = record { answer = refl; found = λ i. refl; rising = r; total = omega arith }
shows (Release release) images r room = record { answer = refl; found = λ i. refl; rising = r; total = omega arith }
shows (Wait stream release) images r room = record { answer = refl; found = λ i. refl; rising = r; total = omega arith }
shows (WaitName name release) images r room = record { answer = refl; found = λ i. refl; rising = r; total = omega arith }
shows (Results writes) images r room = record { answer = refl; found = λ i. refl; rising = r; total = omega arith }

-- ---- a history

pub record Replays (p : PlansData) (h : List Event) : Type 0 where
  pub found : picture_of (replay p h) ≡ (stage_of p (steps_in h)).images
  pub rising : Rising (replay p h)
  pub total : total_texels (replay p h) ≤ all_made (steps_in h)
  pub states : (s : ℕ) → state_of p h s ≡ (stage_of p (steps_in h)).states s

-- an event that is no step
replays_on : (p : PlansData) (e : Event) (h : List Event) → replay p (e ∷ h) ≡ replay p h → ((s : ℕ) → state_of p (e ∷ h) s ≡ state_of p h s) → steps_in (e ∷ h) ≡ steps_in h → Replays p h → Replays p (e ∷ h)
replays_on p e h images states steps before = record {
  found = ap picture_of images ∙ before.found ∙ sym (ap (λ xs. (stage_of p xs).images) steps);
  rising = subst Rising (sym images) before.rising;
  total =
      let one = ap total_texels images in
      let two = ap all_made steps in
      let most = before.total in
      omega (arith, one, two, most);
  states = λ s. states s ∙ before.states s ∙ sym (ap (λ xs. (stage_of p xs).states s) steps);
}

state_kept : (p : PlansData) (e : Event) (h : List Event) → ((k : Known) → (known_after p e (world p h) k).state ≡ k.state) → (s : ℕ) → state_of p (e ∷ h) s ≡ state_of p h s
state_kept p e h kept s = ap (λ (k : Known). k.state) (known_then p e h s) ∙ by (eqb (stream_in e) s)
  where
    by : (b : Bool) → (cond b (known_after p e (world p h) (known p h s)) (known p h s)).state ≡ state_of p h s
    by true = kept (known p h s)
    by false = refl

replays_step : (p : PlansData) (s : ℕ) (words : List (ℕ × ℕ)) (h : List Event) → texels_made (command_in words) + all_made (steps_in h) ≤ 4194304 → Replays p h → Replays p (Step s words ∷ h)
replays_step p s words h room before =
    let areas = (plan_of p s).areas in
    let stage = stage_of p (steps_in h) in
    let e = asked_by p s words (world p h) in
    let made = made_is areas words (state_of p h s) in
    let most = before.total in
    let one = shows e (replay p h) before.rising (omega (arith, made, most, room)) in
    let same : e ≡ asks p s words stage = ap (effect areas words) (before.states s) in
    let images = images_then p (Step s words) h in
    let answer : (drawn_by e (replay p h)).answer ≡ answered (asks p s words stage) stage.images = one.answer ∙ (λ i. answered (same i) (before.found i)) in
    record {
      found = ap picture_of images ∙ (λ i. λ n. one.found n i) ∙ (λ i. shown (same i) (before.found i));
      rising = subst Rising (sym images) one.rising;
      total =
          let sum = ap total_texels images in
          let few = one.total in
          omega (arith, sum, few, made, most);
      states = λ t. ap (λ (k : Known). k.state) (known_then p (Step s words) h t) ∙ by t (answered (asks p s words stage) stage.images) answer (eqb s t) refl;
    }
  where
    by : (t : ℕ) (a : Answer) → (drawn_by (asked_by p s words (world p h)) (replay p h)).answer ≡ a → (b : Bool) → eqb s t ≡ b
        → (cond b (known_after p (Step s words) (world p h) (known p h t)) (known p h t)).state
        ≡ cond b (noted a (stepped (plan_of p t).areas words ((stage_of p (steps_in h)).states t))) ((stage_of p (steps_in h)).states t)
    by t a is true q = (λ i. noted (is i) (stepped (plan_of p (eqb-true s t q i)).areas words (before.states t i)))
    by t a is false q = before.states t

pub replays : (p : PlansData) (h : List Event) → all_made (steps_in h) ≤ 4194304 → Replays p h
replays p [] room = record {
  found = λ i. picture_of ((world_none p i).images);
  rising = subst (λ (w : World). Rising w.images) (sym (world_none p)) tt;
  total = let none : total_texels (replay p []) ≡ total_texels [] = ap (λ (w : World). total_texels w.images) (world_none p) in omega (arith, none);
  states = λ s. ap (λ (w : World). (w.streams s).state) (world_none p);
}
replays p (Step s words ∷ h) room = replays_step p s words h room (replays p h (omega (arith, room)))
replays p (Order s n c ∷ h) room = replays_on p (Order s n c) h (images_then p (Order s n c) h) (state_kept p (Order s n c) h (λ k. refl)) refl (replays p h room)
replays p (Finish s n ∷ h) room = replays_on p (Finish s n) h (images_then p (Finish s n) h) (state_kept p (Finish s n) h (λ k. refl)) refl (replays p h room)
replays p (Lost s why words ∷ h) room = replays_on p (Lost s why words) h (images_then p (Lost s why words) h) (state_kept p (Lost s why words) h (λ k. refl)) refl (replays p h room)
replays p (Close s ∷ h) room = replays_on p (Close s) h (images_then p (Close s) h) (state_kept p (Close s) h (λ k. refl)) refl (replays p h room)
