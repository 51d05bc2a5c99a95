-- What a viewer has seen once it heard of all versions.
use Rattle.std.proofs.Common.{◌≡◌, ℕ, ◌+◌, ◌-◌, ◌<◌, ◌≤◌, Option, Some, List, [], ◌∷◌, ◌++◌, length, map, get_or, sym, ap, subst, ◌∙◌, arith}
use Rattle.std.specs.Prelude.{slice_get, option_map, IfSome}
use Rattle.std.specs.List.{All}
use Rattle.std.specs.List.Sorted.{IsNonDecreasingBy}
use Rattle.std.proofs.lemmas.List.{length-append, length-map, get_or-map}
use Rattle.std.proofs.lemmas.List.Elements.{All-map, All-weaker}
use Rattle.std.proofs.lemmas.Option.{slice_get-get_or}
use lib.Seq.{get_or-append_seam}
use mathlib.Core.List.{IsPrefix}
use Rattle.logbook.specs.Pages.{Book}
use Rattle.live_view.specs.declared.look.Look.{Look}
use Rattle.live_view.specs.declared.look.TheConstants.{LOOKS}
use Rattle.live_view.specs.declared.look.Sight.{Sight}
use Rattle.live_view.specs.Looks.{sight, IsOf}
use Rattle.live_view.specs.Fronts.{FrontData}
use Rattle.live_view.specs.Seen.{ViewerData}
use Rattle.live_view.proofs.Prefixes.{prefix_length}
use Rattle.gpu_hall.specs.Views.{ShownData}
use Rattle.gpu_hall.specs.Looks.{IsLookOf, AreViewerLooks}
use Rattle.gpu_hall.proofs.Looked.{look_is_of, last_look}
use Rattle.thread_parts.specs.Watches.{HasLooked, HasWatched}
use Rattle.gpu_threads.specs.Views.{IsViewerOf, SawTold}

-- viewers of a view that have looked so often are viewers of what is shown of it
pub viewers_of : (shown : ShownData) (view : Book) (watches : List ViewerData) → IfSome shown.view (λ (told : FrontData). told.view ≡ view) → All (HasWatched view LOOKS) watches → All (IsViewerOf shown) watches
viewers_of shown view watches named are k other few = record {
  view = subst (λ (v : Book). IfSome shown.view (λ (told : FrontData). told.view ≡ v)) (sym (are k other few).view_is) named;
  watched = (are k other few).count_is;
}

-- ---- the looks of one viewer

-- the look of a sight
abbrev seen : Sight → Look
seen s = s.look

-- the number of events does not fall either where the looks stand alone
rising_seen : (looks : List Sight) → IsNonDecreasingBy (λ s. s.look.events) looks → IsNonDecreasingBy (λ look. look.events) (map seen looks)
rising_seen looks up i j d le lt =
    let n = length-map looks seen in
    let few : j < length looks = omega (arith, lt, n) in
    let a = get_or-map seen looks i (sight 0 d) d (omega (arith, le, few)) in
    let b = get_or-map seen looks j (sight 0 d) d few in
    let h = up i j (sight 0 d) le few in
    omega (arith, ap (λ (l : Look). l.events) a, ap (λ (l : Look). l.events) b, h)

module _ (shown : ShownData) (was now : ViewerData) (watched : length was.looks ≡ 16) (met : IfSome shown.view (λ told. IsPrefix told.versions was.versions)) (looked : HasLooked was now) (saw : SawTold shown now) where
  -- its last look
  abbrev its : Sight
  its = sight (length now.versions - 1) looked.look

  seventeen : length now.looks ≡ 17
  seventeen = ap length looked.looks ∙ length-append was.looks (its ∷ []) ∙ ap (λ (n : ℕ). n + 1) watched

  last_is : (d : Sight) → get_or now.looks 16 d ≡ its
  last_is d = ap (λ (l : List Sight). get_or l 16 d) looked.looks ∙ ap (λ (k : ℕ). get_or (was.looks ++ its ∷ []) k d) (sym watched) ∙ get_or-append_seam was.looks its [] d

  -- it is of a version that was reported, and of none before the last one
  is_told : IsOf saw.told.versions its
  is_told = subst (IsOf saw.told.versions) (last_is its) (saw.each 16 its (let n = seventeen in omega (arith, n)))

  late : length saw.told.versions ≤ its.place + 1
  late =
      let begun : IsPrefix saw.told.versions was.versions = subst (λ (o : Option FrontData). IfSome o (λ told. IsPrefix told.versions was.versions)) saw.is_told.its met in
      let a = prefix_length saw.told.versions was.versions begun in
      let b = prefix_length was.versions now.versions looked.longer in
      omega (arith, a, b)

  pub all_seen : (looks : List Look) → looks ≡ map (λ (s : Sight). s.look) now.looks → IsNonDecreasingBy (λ s. s.look.events) now.looks → AreViewerLooks shown.plans shown.past looks
  all_seen looks are up =
      let p = shown.plans in
      let h = shown.past in
      let each : All (IsLookOf p h) (map seen now.looks) = All-map (IsLookOf p h) seen now.looks (All-weaker (IsOf saw.told.versions) (λ (s : Sight). IsLookOf p h s.look) (λ (s : Sight) (is : IsOf saw.told.versions s). look_is_of p h saw.told.versions s is saw.is_told.all.each) now.looks saw.each) in
      let there : slice_get (map seen now.looks) 16 ≡ Some its.look =
      slice_get-get_or (map seen now.looks) 16 its.look (let a = seventeen in let b = length-map now.looks seen in omega (arith, a, b))
      ∙ ap Some (get_or-map seen now.looks 16 its its.look (let a = seventeen in omega (arith, a)) ∙ ap seen (last_is its)) in
      subst (AreViewerLooks p h) (sym are) record {
        count = length-map now.looks seen ∙ seventeen;
        each = each;
        rising = rising_seen now.looks up;
        last = ap (option_map (λ (l : Look). l.events)) there ∙ ap Some (last_look p h saw.told.versions its is_told saw.is_told.all late);
      }
