use Rattle.std.proofs.Common.{◌≡◌, ◌≤◌, ℕ, [], ◌∷◌, ◌++◌, length, Vec, refl, sym, ap, subst, ◌∙◌, arith}
use Rattle.std.specs.List.{All}
use Rattle.std.specs.declared.alloc.Global.{Global}
use Rattle.std.proofs.lemmas.List.{length-append}
use Rattle.std.proofs.lemmas.List.Elements.{All-nil, All-push, All-head, All-tail}
use Rattle.live_view.specs.declared.look.Look.{Look}
use Rattle.gpu_hall.specs.Views.{ShownData}
use Rattle.gpu_hall.specs.Looks.{AreViewerLooks}
use Rattle.gpu_threads.specs.Views.{IsViewerOf}
use Rattle.gpu_threads.proofs.views.look_all.Goals as goal

pub loop-watch-init : goal.loop-watch-init
loop-watch-init g c =
    let shown = c.args.shown.now in
    let is : c.args.watches.items ≡ c.into_iter-watch-iterator.result.rest.items = cc in
    let none : c.args.seen.items ≡ [] = c.requires.none in
    let have : Vec Look Global → Type 0 = λ looks. AreViewerLooks shown.plans shown.past looks.items in
    record {
      same = refl;
      left = subst (All (IsViewerOf shown)) is c.requires.viewers;
      many = (let a = ap length is in let b = ap length none in omega (arith, a, b));
      room = c.requires.room;
      done = subst (All have) (sym none) (All-nil have);
    }

pub look_last-requires : goal.look_last-requires
look_last-requires g c =
    let shown = c.args.shown.now in
    let was = c.loop-watch.invariant in
    let watch = c.in-Some.watch in
    let left : c.loop-watch.watch-iterator.rest.items ≡ watch ∷ c.next.new.self.rest.items = c.in-Some.ensures.steps.0 in
    subst (λ (s : ShownData). IsViewerOf s watch) (sym was.same) (All-head (IsViewerOf shown) watch c.next.new.self.rest.items (subst (All (IsViewerOf shown)) left was.left))

pub loop-watch-preserved : goal.loop-watch-preserved
loop-watch-preserved g c =
    let shown = c.args.shown.now in
    let was = c.loop-watch.invariant in
    let watch = c.in-Some.watch in
    let rest = c.next.new.self.rest.items in
    let seen = c.loop-watch.seen.items in
    let looks = c.look_last.result in
    let left : c.loop-watch.watch-iterator.rest.items ≡ watch ∷ rest = c.in-Some.ensures.steps.0 in
    let pushed : c.push_reserved.new.self.items ≡ seen ++ looks ∷ [] = c.push_reserved.ensures.items in
    let all = subst (λ (s : ShownData). AreViewerLooks s.plans s.past looks.items) was.same c.look_last.ensures.looks in
    let have : Vec Look Global → Type 0 = λ looks. AreViewerLooks shown.plans shown.past looks.items in
    record {
      same = c.look_last.ensures.same ∙ was.same;
      left = All-tail (IsViewerOf shown) watch rest (subst (All (IsViewerOf shown)) left was.left);
      many = (let a = ap length pushed in let b = length-append seen (looks ∷ []) in let d = ap length left in let m = was.many in omega (arith, a, b, d, m));
      room = subst (λ (n : ℕ). length c.args.watches.items ≤ n) (sym c.push_reserved.ensures.capacity) was.room;
      done = subst (All have) (sym pushed) (All-push have seen looks was.done all);
    }

-- no viewer is left
pub returns-clause-looks : goal.returns-clause-looks
returns-clause-looks g c = record {
  many = (let many = c.loop-watch.invariant.many in let none = c.in-None.ensures.steps.0 in omega (arith, many, none));
  each = c.loop-watch.invariant.done;
}

pub returns-clause-same : goal.returns-clause-same
returns-clause-same g c = c.loop-watch.invariant.same
