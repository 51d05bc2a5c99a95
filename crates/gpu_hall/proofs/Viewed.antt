-- The view of a hall fits its journal again after each call.
use Rattle.std.proofs.Common.{◌≡◌, ◌⊎◌, ⊎_elim, ℕ, suc, ◌-◌, ◌≤◌, Bool, true, false, Option, Some, None, List, [], ◌∷◌, ◌++◌, length, drop, refl, sym, ap, subst, ◌∙◌, arith, append_assoc}
use Rattle.std.specs.Prelude.{IfSome, Result, Ok, Err, OnOk, OnErr, option_map}
use Rattle.std.proofs.lemmas.List.{append-nil}
use Rattle.std.specs.List.{All}
use Rattle.std.proofs.lemmas.List.Elements.{All-nil, All-cons, All-weaker, All-push}
use Rattle.logbook.specs.Pages.{Book}
use Rattle.gpu_store.specs.declared.op.Op.{Op}
use Rattle.gpu_store.specs.Images.{Pictures, apply}
use Rattle.gpu_plan.specs.Plans.{PlansData}
use Rattle.live_view.specs.declared.version.Version.{Version}
use Rattle.live_view.specs.Versions.{blank, version, images_drawn, IsLatest}
use Rattle.live_view.specs.Rule.{IsLast}
use Rattle.live_view.specs.Seen.{WriterData, next_version}
use Rattle.live_view.proofs.Stepping.{last_push}
use Rattle.gpu_journal.specs.declared.event.Event.{Event}
use Rattle.gpu_journal.specs.declared.event.Event.TheVariants.{Order, Step, Finish, Lost, Close}
use Rattle.gpu_journal.specs.World.{World, replay}
use Rattle.gpu_journal.proofs.Worlds.{world_none, images_then}
use Rattle.gpu_house.specs.Committing.{drawn_over, TellsDrawn}
use Rattle.gpu_hall.specs.Views.{first_events, IsVersionOf, whole_version, ShowAll, ViewFits, IsFreshView, IsSameView, ViewHasRoom, HasNoted, view_front}

-- ---- versions, once more events have come

first_more : (n : ℕ) (e : Event) (h : List Event) → n ≤ length h → first_events n (e ∷ h) ≡ first_events n h
first_more n e h few = let less : length (e ∷ h) - n ≡ suc (length h - n) = omega arith in ap (λ (k : ℕ). drop k (e ∷ h)) less

module _ (p : PlansData) where
  abbrev Versions : List Version → List Event → Type 0
  Versions versions h = All (IsVersionOf p h) versions

  version_more : (e : Event) (h : List Event) (v : Version) → IsVersionOf p h v → IsVersionOf p (e ∷ h) v
  version_more e h v is = record {
    few = (let few = is.few in omega arith);
    images = is.images ∙ ap (replay p) (sym (first_more v.events e h is.few));
  }

  pub versions_more : (versions : List Version) (e : Event) (h : List Event) → Versions versions h → Versions versions (e ∷ h)
  versions_more versions e h are = All-weaker (IsVersionOf p h) (IsVersionOf p (e ∷ h)) (version_more e h) versions are

-- ---- the images

-- an event that is no step draws nothing
abbrev pub is_step : Event → Bool
is_step (Order s n c) = false
is_step (Step s words) = true
is_step (Finish s n) = false
is_step (Lost s why words) = false
is_step (Close s) = false

images_same : (p : PlansData) (e : Event) (h : List Event) → is_step e ≡ false → replay p (e ∷ h) ≡ replay p h
images_same p (Order s n c) h none = images_then p (Order s n c) h
images_same p (Step s words) h none = absurd (cc)
images_same p (Finish s n) h none = images_then p (Finish s n) h
images_same p (Lost s why words) h none = images_then p (Lost s why words) h
images_same p (Close s) h none = images_then p (Close s) h

-- operations that are applied in order, by the words of the house and by those of the view
drawn_same : (images : Pictures) (ops : List Op) → drawn_over images ops ≡ images_drawn images ops
drawn_same images [] = refl
drawn_same images (op ∷ ops) = drawn_same (apply images op).images ops

drawn_then : (images : Pictures) (first second : List Op) → images_drawn images (first ++ second) ≡ images_drawn (images_drawn images first) second
drawn_then images [] second = refl
drawn_then images (op ∷ first) second = drawn_then (apply images op).images first second

-- ---- the view

module _ (p : PlansData) (view : Book) where
  abbrev Fits : List Event → Option WriterData → Type 0
  Fits h writer = IfSome writer (ViewFits p view h)

  pub view_first : (h : List Event) (writer : Option WriterData) → h ≡ [] → IfSome writer (IsFreshView view) → Fits h writer
  view_first h None empty fresh = tt
  view_first h (Some w) empty fresh = subst (λ (h : List Event). ViewFits p view h w) (sym empty) (subst (ViewFits p view []) (sym fresh.fresh) record {
    named = fresh.named;
    shown = All-cons (IsVersionOf p []) blank [] record { few = omega arith; images = sym (ap (λ (w : World). w.images) (world_none p)) } (All-nil (IsVersionOf p []));
    follows = sym (ap (λ (w : World). w.images) (world_none p));
  })

  pub view_quiet : (e : Event) (h : List Event) (writer : Option WriterData) → is_step e ≡ false → Fits h writer → Fits (e ∷ h) writer
  view_quiet e h None none fit = tt
  view_quiet e h (Some w) none fit = record {
    named = fit.named;
    shown = versions_more p (w.versions ++ w.tried) e h fit.shown;
    follows = fit.follows ∙ sym (images_same p e h none);
  }

  pub view_room : (h : List Event) (old new : Option WriterData) → IsSameView old new → Fits h old → Fits h new
  view_room h None None same fit = tt
  view_room h None (Some w) same fit = absurd same
  view_room h (Some v) None same fit = absurd same
  view_room h (Some v) (Some w) same fit = subst (ViewFits p view h) (sym same) record { named = fit.named; shown = fit.shown; follows = fit.follows }

  -- operations were noted that lead to the images of a further journal
  pub view_noted : (h g : List Event) (ops : List Op) (old new : Option WriterData) → ((versions : List Version) → All (IsVersionOf p h) versions → All (IsVersionOf p g) versions)
      → TellsDrawn (replay p h) (replay p g) [] ops → HasNoted ops old new → Fits h old → Fits g new
  view_noted h g ops None None later told noted fit = tt
  view_noted h g ops None (Some w) later told noted fit = absurd noted
  view_noted h g ops (Some v) None later told noted fit = absurd noted
  view_noted h g ops (Some v) (Some w) later told noted fit = subst (ViewFits p view g) (sym noted) record {
    named = fit.named;
    shown = later (v.versions ++ v.tried) fit.shown;
    follows = drawn_then v.images v.noted ops ∙ ap (λ (images : Pictures). images_drawn images ops) fit.follows ∙ ap (images_drawn (replay p h)) told.told
        ∙ sym (drawn_same (replay p h) told.ops) ∙ sym told.images;
  }

-- ---- room for operations

pub fewer : (few many : ℕ) (writer : Option WriterData) → few ≤ many → ViewHasRoom many writer → ViewHasRoom few writer
fewer few many None within room = tt
fewer few many (Some w) within room = omega (arith, within, room)

-- ---- operations noted one after the other

pub noted_none : (w : WriterData) → w ≡ record w { noted = w.noted ++ []; spare = w.spare }
noted_none w = ap (λ (ops : List Op). record w { noted = ops; spare = w.spare }) (sym (append-nil w.noted))

pub none_of : {X : Type 0} (xs : List X) → length xs ≡ 0 → xs ≡ []
none_of [] none = refl
none_of (x ∷ xs) none = absurd (omega (arith, none))

pub noted_more : (first old new : WriterData) (ops : List Op) (op : Op) (spare : ℕ) → old ≡ record first { noted = first.noted ++ ops; spare = old.spare } → new ≡ record old { noted = old.noted ++ op ∷ []; spare = spare }
    → new ≡ record first { noted = first.noted ++ (ops ++ op ∷ []); spare = new.spare }
noted_more first old new ops op spare was is =
    let now : new ≡ record first { noted = (first.noted ++ ops) ++ op ∷ []; spare = spare } = is ∙ ap (λ (w : WriterData). record w { noted = w.noted ++ op ∷ []; spare = spare }) was in
    now ∙ ap (λ (n : ℕ). record first { noted = (first.noted ++ ops) ++ op ∷ []; spare = n }) (sym (ap (λ (w : WriterData). w.spare) now))
    ∙ ap (λ (list : List Op). record first { noted = list; spare = new.spare }) (append_assoc first.noted ops (op ∷ []))

-- ---- a version of all events is published

first_all : (n : ℕ) (h : List Event) → n ≡ length h → first_events n h ≡ h
first_all n h is = let none : length h - n ≡ 0 = omega arith in ap (λ (k : ℕ). drop k h) none

pub latest : (p : PlansData) (h : List Event) (n : ℕ) (versions : List Version) → n ≡ length h → All (IsVersionOf p h) versions → IsLatest versions n
latest p h n versions is are = All-weaker (IsVersionOf p h) (λ v. v.events ≤ n) (λ v one. (let few = one.few in omega (arith, few, is))) versions are

module _ (p : PlansData) (view : Book) (h : List Event) (n : ℕ) (old new : WriterData) (is : n ≡ length h) (fit : ViewFits p view h old) (its : new.view ≡ old.view) where
  abbrev next : Version
  next = next_version old n

  next_is : next ≡ whole_version p h
  next_is = ap (λ (images : Pictures). version images n) fit.follows ∙ ap (version (replay p h)) is

  next_of : IsVersionOf p h next
  next_of = record { few = (omega (arith, is)); images = fit.follows ∙ ap (replay p) (sym (first_all n h is)) }

  pub view_published : {T E : Type 0} (r : Result T E) → OnOk r (new.versions ≡ (old.versions ++ old.tried) ++ next ∷ []) → OnOk r (new.images ≡ images_drawn old.images old.noted) → OnOk r ((new.noted ≡ []) × (new.tried ≡ []))
      → OnErr r ((new.versions ≡ old.versions) × (new.images ≡ old.images) × (new.noted ≡ old.noted)) → OnErr r ((new.tried ≡ old.tried) ⊎ (new.tried ≡ old.tried ++ next ∷ [])) → ViewFits p view h new
  view_published (Ok t) listed images handed kept tried = record {
    named = its ∙ fit.named;
    shown = subst (All (IsVersionOf p h)) (sym (ap (λ (l : List Version). new.versions ++ l) handed.1 ∙ append-nil new.versions ∙ listed)) (All-push (IsVersionOf p h) (old.versions ++ old.tried) next fit.shown next_of);
    follows = ap (images_drawn new.images) handed.0 ∙ images ∙ fit.follows;
  }
  view_published (Err e) listed images handed kept tried = record {
    named = its ∙ fit.named;
    shown = ⊎_elim (λ same. subst (All (IsVersionOf p h)) (sym (ap (λ (l : List Version). new.versions ++ l) same ∙ ap (λ (l : List Version). l ++ old.tried) kept.0)) fit.shown)
        (λ more. subst (All (IsVersionOf p h)) (sym (ap (λ (l : List Version). new.versions ++ l) more ∙ ap (λ (l : List Version). l ++ (old.tried ++ next ∷ [])) kept.0 ∙ sym (append_assoc old.versions old.tried (next ∷ []))))
        (All-push (IsVersionOf p h) (old.versions ++ old.tried) next fit.shown next_of)) tried;
    follows = ap (λ (l : List Op). images_drawn new.images l) kept.2 ∙ ap (λ (images : Pictures). images_drawn images old.noted) kept.1 ∙ fit.follows;
  }

  pub all_shown : {T E : Type 0} (r : Result T E) → OnOk r (new.versions ≡ (old.versions ++ old.tried) ++ next ∷ []) → OnOk r (ShowAll p h new.versions)
  all_shown (Ok t) listed = record {
    each = subst (All (IsVersionOf p h)) (sym listed) (All-push (IsVersionOf p h) (old.versions ++ old.tried) next fit.shown next_of);
    last = subst (λ (l : List Version). IsLast (whole_version p h) l) (sym listed) (subst (λ (v : Version). IsLast v ((old.versions ++ old.tried) ++ next ∷ [])) next_is (last_push (old.versions ++ old.tried) next));
  }
  all_shown (Err e) listed = tt

-- ---- what contracts see of the view

-- it is seen as before where it is the same but for its room, or where operations were noted
pub seen_same : (old new : Option WriterData) → IsSameView old new → option_map view_front new ≡ option_map view_front old
seen_same None None same = refl
seen_same (Some old) (Some new) same = ap (λ (w : WriterData). Some (view_front w)) same
seen_same None (Some new) same = absurd same
seen_same (Some old) None same = absurd same

pub seen_noted : (ops : List Op) (old new : Option WriterData) → HasNoted ops old new → option_map view_front new ≡ option_map view_front old
seen_noted ops None None noted = refl
seen_noted ops (Some old) (Some new) noted = ap (λ (w : WriterData). Some (view_front w)) noted
seen_noted ops None (Some new) noted = absurd noted
seen_noted ops (Some old) None noted = absurd noted

-- of three facts after a refusal, the first
pub err_first : {T E : Type 0} (A B C : Type 0) (r : Result T E) → OnErr r (A × B × C) → OnErr r A
err_first A B C (Ok t) all = tt
err_first A B C (Err e) all = all.0
