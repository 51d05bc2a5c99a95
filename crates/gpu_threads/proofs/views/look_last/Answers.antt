use Rattle.std.proofs.Common.{◌≡◌, Option, length, map, sym, ap, subst, ◌∙◌}
use Rattle.std.specs.Prelude.{IfSome}
use Rattle.std.specs.List.{All}
use Rattle.std.specs.List.Sorted.{IsNonDecreasingBy}
use mathlib.Core.List.{IsPrefix}
use Rattle.live_view.specs.declared.look.Sight.{Sight}
use Rattle.live_view.specs.Looks.{IsOf}
use Rattle.live_view.specs.Fronts.{FrontData}
use Rattle.gpu_hall.specs.Views.{ShownData}
use Rattle.gpu_threads.specs.Views.{IsViewTold, SawTold}
use Rattle.gpu_threads.proofs.Watched.{all_seen}
use Rattle.gpu_threads.proofs.views.look_last.Goals as goal

-- what was reported after the last look is what was reported before it, and no look came after it
pub returns-clause-looks : goal.returns-clause-looks
returns-clause-looks g c =
    let shown = c.args.shown.now in
    let now = c.look.new.self in
    let same : c.confirm.new.watch.looks ≡ now.looks = c.confirm.ensures.looks in
    let told = c.confirm.ensures.told in
    let saw : SawTold shown now = record {
      told = told.told;
      is_told = subst (λ (s : ShownData). IsViewTold s told.told) c.tell-told.ensures.same told.is_told;
      each = subst (All (IsOf told.told.versions)) same told.each;
    } in
    let met : IfSome shown.view (λ (told : FrontData). IsPrefix told.versions c.learn.new.self.versions) =
    subst (λ (o : Option FrontData). IfSome o (λ (told : FrontData). IsPrefix told.versions c.learn.new.self.versions)) (sym c.tell-told.ensures.told.its) c.learn.ensures.told in
    all_seen shown c.learn.new.self now (ap length c.learn.ensures.looks ∙ c.requires.watched) met c.look.ensures saw c.into_seen.result.items
    (c.into_seen.ensures.seen ∙ ap (map (λ (s : Sight). s.look)) same)
    (subst (IsNonDecreasingBy (λ (s : Sight). s.look.events)) same c.into_seen.ensures.kept.events)
