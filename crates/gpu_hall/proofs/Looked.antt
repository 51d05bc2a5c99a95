-- What viewers saw of the journal, once the versions that they looked at were reported.
use Rattle.std.proofs.Common.{◌≡◌, ◌-◌, ◌+◌, ◌<◌, ◌≤◌, Option, Some, None, List, length, refl, sym, ap, subst, ◌∙◌, arith}
use Rattle.std.specs.Prelude.{slice_get, option_map}
use Rattle.std.specs.List.{All}
use Rattle.std.proofs.lemmas.Option.{slice_get_within, get_or_from_slice_get}
use Rattle.gpu_store.specs.Sums.{texel_sum}
use Rattle.gpu_plan.specs.Plans.{PlansData}
use Rattle.live_view.specs.declared.version.Version.{Version}
use Rattle.live_view.specs.declared.look.Look.{Look}
use Rattle.live_view.specs.declared.look.Sight.{Sight}
use Rattle.live_view.specs.Looks.{look_of, IsOf}
use Rattle.gpu_journal.specs.declared.event.Event.{Event}
use Rattle.gpu_hall.specs.Views.{IsVersionOf, ShowAll, whole_version}
use Rattle.gpu_hall.specs.Looks.{IsLookOf}

-- a look of a version is one that the version tells
of_version : (versions : List Version) (sight : Sight) → IsOf versions sight → (v : Version) × (slice_get versions sight.place ≡ Some v) × (look_of v ≡ sight.look)
of_version versions sight is = by (slice_get versions sight.place) refl is
  where
    by : (o : Option Version) → slice_get versions sight.place ≡ o → option_map look_of o ≡ Some sight.look → (v : Version) × (slice_get versions sight.place ≡ Some v) × (look_of v ≡ sight.look)
    by None at is = absurd (cc)
    by (Some v) at is = (v, at, cc)

module _ (p : PlansData) (h : List Event) (versions : List Version) (sight : Sight) (is : IsOf versions sight) where
  -- each look is of first events of the journal
  pub look_is_of : All (IsVersionOf p h) versions → IsLookOf p h sight.look
  look_is_of each =
      let it = of_version versions sight is in
      let v = it.0 in
      let there : sight.place < length versions = slice_get_within versions sight.place v it.1 in
      let its : IsVersionOf p h v = subst (IsVersionOf p h) (get_or_from_slice_get versions sight.place v v it.1) (each sight.place v there) in
      subst (IsLookOf p h) it.2 record { few = its.few; sum = ap texel_sum its.images }

  -- and the one of the last version is of all
  pub last_look : ShowAll p h versions → length versions ≤ sight.place + 1 → sight.look.events ≡ length h
  last_look show last =
      let it = of_version versions sight is in
      let there : sight.place < length versions = slice_get_within versions sight.place it.0 it.1 in
      let place : sight.place ≡ length versions - 1 = omega (arith, there, last) in
      let whole : Some it.0 ≡ Some (whole_version p h) = sym it.1 ∙ ap (slice_get versions) place ∙ show.last in
      let same : it.0 ≡ whole_version p h = cc in
      sym (ap (λ (look : Look). look.events) it.2) ∙ ap (λ (v : Version). v.events) same
