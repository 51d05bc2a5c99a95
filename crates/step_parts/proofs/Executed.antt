-- What was taken is executed, by what its command claims.
use Rattle.std.proofs.Common.{◌≡◌, ◌∷◌, ℕ, Bool, List, Option, Some, None, false, length, refl, sym, ap, subst, ◌∙◌}
use Rattle.gpu_store.specs.declared.op.Op.{Op}
use Rattle.gpu_store.specs.declared.op.Answer.{Answer}
use Rattle.gpu_store.specs.declared.op.Answer.TheVariants.{Done}
use Rattle.gpu_store.specs.Images.{Applied, apply}
use Rattle.stream_state.specs.declared.effect.Effect.{Effect}
use Rattle.stream_state.specs.declared.effect.Effect.TheVariants.{Nothing, Token, Release, Wait, WaitName, Pixels, Results}
use Rattle.stream_state.specs.State.{State, noted}
use Rattle.sync_core.specs.Events.{Deed, SyncEvent, Waited, happened}
use Rattle.sync_core.specs.Core.{StandsFor}
use Rattle.gpu_plan.specs.Plans.{PlansData}
use Rattle.gpu_journal.specs.World.{drawn_by}
use Rattle.step_parts.specs.declared.claim.Claim.TheVariants as claims
use Rattle.step_parts.specs.declared.scene.Scene.{Scene}
use Rattle.step_parts.specs.declared.taken.Taken.{Taken}
use Rattle.step_parts.specs.Keeping.{keeps, keeps_wait}
use Rattle.step_parts.specs.Claims.{claim_of, IsPlain}
use Rattle.step_parts.specs.Executing.{areas_of, asks, HasPassed, MeetsClaim, Follows, Executes}
use Rattle.step_parts.proofs.Asking.{Asks}
use Rattle.step_parts.proofs.Claimed.{tells}

-- what claims nothing asks nothing of the images and of the waits that may need memory there
pub plain_asked : (taken : Taken) (state : State) → HasPassed taken state → claims.Nothing ≡ claim_of taken.plans.now taken.command.now → IsPlain (asks taken state)
plain_asked taken state passed is = tells taken.plans.now (areas_of taken) taken.words.now state taken.command.now claims.Nothing passed.command is

-- an image is made
pub image_claimed : (taken : Taken) (old new : Scene) (state : State) (answer : Answer) (op : Op) → HasPassed taken state → claims.Image op ≡ claim_of taken.plans.now taken.command.now
    → answer ≡ (apply old.images op).answer → new.images ≡ (apply old.images op).images → new.sync ≡ old.sync → MeetsClaim taken old new (asks taken state) (Some (answer, false))
image_claimed taken old new state answer op passed is answered images same =
    let made = tells taken.plans.now (areas_of taken) taken.words.now state taken.command.now (claims.Image op) passed.command is in
    subst (λ (e : Effect). MeetsClaim taken old new e (Some (answer, false))) (sym made.asks) (
      made.free,
      record {
        images = images;
        waits = λ h stands. subst (λ core. StandsFor core h) (sym same) stands;
        drawn = ap (λ core. core.drawn) same;
        count = ap (λ core. length core.streams) same;
      },
      answered,
      refl,
    )

-- a wait is judged
pub wait_claimed : (taken : Taken) (old new : Scene) (state : State) (kept : Bool) (t r : ℕ) → HasPassed taken state → claims.Wait t r ≡ claim_of taken.plans.now taken.command.now → kept ≡ keeps_wait old.sync taken.stream t r → new.images ≡ old.images
    → ((h : List SyncEvent) → StandsFor old.sync h → StandsFor new.sync ((taken.stream, Waited t r) ∷ h)) → new.sync.drawn ≡ old.sync.drawn → length new.sync.streams ≡ length old.sync.streams
    → MeetsClaim taken old new (asks taken state) (Some (Done, kept))
wait_claimed taken old new state kept t r passed claim is images waits drawn count =
    let made = tells taken.plans.now (areas_of taken) taken.words.now state taken.command.now (claims.Wait t r) passed.command claim in
    let draws = made.draws old.images in (
      made.free,
      record {
        images = images ∙ sym (ap (λ (d : Applied). d.images) draws);
        waits = λ h stands. subst (λ (d : Option Deed). StandsFor new.sync (happened taken.stream d h)) (sym made.deed) (waits h stands);
        drawn = drawn;
        count = count;
      },
      sym (ap (λ (d : Applied). d.answer) draws),
      is ∙ sym (made.keeps old.sync taken.stream),
    )

-- what is plain keeps no wait
keeps_none : (p : PlansData) (taken : Taken) (scene : Scene) (effect : Effect) → IsPlain effect → keeps p scene.sync taken.stream effect ≡ false
keeps_none p taken scene Nothing plain = refl
keeps_none p taken scene (Token token) plain = refl
keeps_none p taken scene (Release release) plain = refl
keeps_none p taken scene (Wait stream release) plain = absurd plain
keeps_none p taken scene (WaitName name release) plain = absurd plain
keeps_none p taken scene (Pixels op) plain = refl
keeps_none p taken scene (Results writes) plain = refl

-- all that a step asked for is done, was answered so, and its wait was kept or not
abbrev pub HasDone : Taken → Scene → Scene → Effect → Answer × Bool → Type 0
HasDone taken old new effect did = Follows taken old new effect × (did.0 ≡ (drawn_by effect old.images).answer) × (did.1 ≡ keeps taken.plans.now old.sync taken.stream effect)

pub claimed_done : (taken : Taken) (old new : Scene) (state : State) (effect : Effect) (did : Answer × Bool) → effect ≡ asks taken state → MeetsClaim taken old new (asks taken state) (Some did) → HasDone taken old new effect did
claimed_done taken old new state effect did is meets = subst (λ (e : Effect). HasDone taken old new e did) (sym is) (meets.1, meets.2, meets.3)

pub plain_done : (taken : Taken) (old now new : Scene) (state : State) (effect : Effect) (answer : Answer) → effect ≡ asks taken state → MeetsClaim taken old now (asks taken state) None → answer ≡ (drawn_by effect now.images).answer
    → Follows taken now new effect → HasDone taken old new effect (answer, false)
plain_done taken old now new state effect answer is meets answered follows =
    subst (λ (was : Scene). HasDone taken was new effect (answer, false)) meets.1 (follows, answered, sym (keeps_none taken.plans.now taken now effect (subst IsPlain (sym is) meets.0)))

pub executes : (taken : Taken) (old new : Scene) (state stepped left : State) (effect : Effect) (did : Answer × Bool) → Asks taken state stepped effect → HasDone taken old new effect did → left ≡ noted did.0 stepped
    → Executes taken old new state left record { effect = effect; answer = did.0; kept = did.1 }
executes taken old new state stepped left effect did given done after = record {
  told = record {
    effect = given.effect;
    answer = done.1;
    kept = done.2;
    writes = given.writes;
    places = given.places;
    texels = given.texels;
  };
  scene = done.0;
  state = after ∙ ap (noted did.0) given.state;
}
