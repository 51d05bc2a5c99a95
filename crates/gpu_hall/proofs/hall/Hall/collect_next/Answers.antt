use Rattle.std.proofs.Common.{inl, inr, refl, sym, subst, ◌∙◌}
use Rattle.gpu_hall.specs.Collecting.{HasLooked}
use Rattle.gpu_hall.specs.Halls.{HallData, hall_seen}
use Rattle.gpu_hall.proofs.Collected.{none_grew, dropped_grew, one_grew}
use Rattle.gpu_hall.proofs.Takers.{open_taken, one_taken}
use Rattle.gpu_hall.proofs.Outs.{none_same}
use Rattle.gpu_hall.proofs.Fitting.{view_came}
use Rattle.gpu_hall.proofs.hall.Hall.collect_next.Goals as goal

pub order_or_lose-requires-clause-open : goal.order_or_lose-requires-clause-open
order_or_lose-requires-clause-open g c =
    let N = g.N.Naming in
    let some = c.in-Some.ensures in
    open_taken N.plans N.words N.queues c.self.inside.house.core.past c.self.inside.takers.items c.args.stream c.index_mut.result.now c.take_next.new.taker c.requires.known c.index_mut.ensures.value c.self.invariant.fits.queues
    some.taken some.flush (sym c.is_lost.ensures ∙ c.if-is_lost.false) c.shows_legal.ensures

pub invariant_of-self-2 : goal.invariant_of-self-2
invariant_of-self-2 g c =
    let N = g.N.Naming in
    let some = c.in-Some.ensures in
    let h = c.self.inside.house.core.past in
    let now = c.order_or_lose.new.house.core.past in
    record {
      fits = record {
        queues = one_taken N.plans N.words N.queues h c.self.inside.takers.items c.args.stream c.index_mut.result.now c.take_next.new.taker c.requires.known c.index_mut.ensures.value c.self.invariant.fits.queues some.taken some.flush (sym c.is_lost.ensures ∙ c.if-is_lost.false) now c.order_or_lose.ensures.came;
        view = view_came N.plans N.words N.queues N.view h now c.args.stream c.self.inside.view c.order_or_lose.ensures.came c.self.invariant.fits.view;
      };
      going = none_same c.self.inside.house.core.outs c.order_or_lose.new.house.core.outs c.order_or_lose.ensures.outs c.self.invariant.going;
    }

pub returns-in_default : goal.returns-in_default
returns-in_default g c =
    let p = g.N.Naming.plans in
    let s = c.args.stream in
    let h = c.self.inside.house.core.past in
    subst (λ (v : HallData). HasLooked p s 0 v (hall_seen c.self.inside.house.core c.self.inside.view)) c.self.view_is record { came = inl refl; count = none_grew p s h h refl; outs = refl; view = refl }

pub returns-then-is_lost : goal.returns-then-is_lost
returns-then-is_lost g c =
    let p = g.N.Naming.plans in
    let s = c.args.stream in
    let h = c.self.inside.house.core.past in
    subst (λ (v : HallData). HasLooked p s 1 v (hall_seen c.self.inside.house.core c.self.inside.view)) c.self.view_is
    record { came = inl refl; count = dropped_grew p s h h 1 refl (sym c.is_lost.ensures ∙ c.if-is_lost.true); outs = refl; view = refl }

pub returns : goal.returns
returns g c =
    let p = g.N.Naming.plans in
    let s = c.args.stream in
    let now = c.order_or_lose.new.house.core in
    let came = c.order_or_lose.ensures.came in
    subst (λ (v : HallData). HasLooked p s 1 v (hall_seen now c.self.inside.view)) c.self.view_is
    record { came = inr came; count = one_grew p s c.self.inside.house.core.past now.past came; outs = c.order_or_lose.ensures.outs; view = refl }
