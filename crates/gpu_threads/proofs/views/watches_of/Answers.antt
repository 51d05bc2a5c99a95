use Rattle.std.proofs.Common.{◌≡◌, List, [], ◌∷◌, ◌++◌, sym, ap, subst, ◌∙◌, append_assoc}
use Rattle.std.specs.List.{All}
use Rattle.std.proofs.lemmas.List.Elements.{All-tail}
use Rattle.live_view.specs.Seen.{ViewerData}
use Rattle.gpu_threads.proofs.views.watches_of.Goals as goal

pub loop-viewer-preserved : goal.loop-viewer-preserved
loop-viewer-preserved c =
    let viewer = c.in-Some.viewer in
    let rest = c.next.new.self.rest.items in
    let done = c.loop-viewer.watches.items in
    let left : c.loop-viewer.viewer-iterator.rest.items ≡ viewer ∷ rest = c.in-Some.ensures.steps.0 in
    let pushed : c.push.new.self.items ≡ done ++ viewer ∷ [] = c.in_ok-push.ensures.items ∙ ap (λ (watch : ViewerData). done ++ watch ∷ []) c.in_ok-make.ensures in
    let new : ViewerData → Type 0 = λ viewer. viewer.looks ≡ [] in
    record {
      are = ap (λ (l : List ViewerData). l ++ rest) pushed ∙ append_assoc done (viewer ∷ []) rest ∙ ap (λ (l : List ViewerData). done ++ l) (sym left) ∙ c.loop-viewer.invariant.are;
      new = All-tail new viewer rest (subst (All new) left c.loop-viewer.invariant.new);
    }
