-- Each goal of the loop is a fact of the dump at hand.
use Rattle.verify_input.proofs.Names.{◌≡◌, ◌+◌, ◌-◌, ◌<◌, ◌∷◌, [], ℕ, List, length, map, get_or, drop, take, refl, sym, ap, subst, ◌∙◌, arith, Contains, All, get_or_default, length-take, length-drop, drop_all, err_from_is_err_and, PlanData, IsDump, RiseFrom, flushes, flushes_within, Dump}
use Rattle.verify_input.proofs.Dues.{Begins, at_read, due_next, taking_none, taking_more, judged_exit, judged_all}
use Rattle.verify_input.proofs.Lefts.{dumps_left}
use Rattle.verify_input.proofs.Rising.{Next, next_dump}
use Rattle.verify_input.proofs.sections.take_dumps_of.Goals as goal
use Rattle.verify_input.proofs.sections.take_dumps_of.Goals.{In-loop-dump, After-flushes_in-least}

pub loop-dump-init : goal.loop-dump-init
loop-dump-init c = record {
  left = c.actions-left.ensures.value;
  within = omega arith;
  least = refl;
  rising = subst (RiseFrom 0) c.dumps-dump-items.ensures.value c.dumps-dump-items.ensures.rising;
  taking = taking_none;
}

-- ---- the dump at hand

module _ (c : In-loop-dump) where
  abbrev dump : ℕ × ℕ
  dump = get_or c.dumps-dump-items.result.now c.loop-dump.dump-index (0, 0)

  within : c.loop-dump.dump-index < length c.args.plan.now.dumps
  within = subst (λ (ds : List (ℕ × ℕ)). c.loop-dump.dump-index < length ds) c.dumps-dump-items.ensures.value c.loop-dump-test.true

  at : dump ≡ get_or c.args.plan.now.dumps c.loop-dump.dump-index dump
  at =
      get_or_default c.dumps-dump-items.result.now c.loop-dump.dump-index (0, 0) dump c.loop-dump-test.true
      ∙ ap (λ (ds : List (ℕ × ℕ)). get_or ds c.loop-dump.dump-index dump) c.dumps-dump-items.ensures.value

  next : Next c.args.plan.now c.loop-dump.done c.loop-dump.dump-index dump
  next =
      let lawful = subst (All (IsDump c.args.plan.now.areas.results c.args.plan.now.actions)) c.dumps-dump-items.ensures.value c.dumps-dump-items.ensures.lawful in
      next_dump c.args.plan.now c.loop-dump.done c.loop-dump.dump-index dump within at lawful c.loop-dump.invariant.within c.loop-dump.invariant.rising

  -- its line is the next that is due
  left : Begins (dumps_left c.args.stream c.args.plan.now.dumps c.loop-dump.dump-index) (Dump c.args.stream dump ∷ []) (dumps_left c.args.stream c.args.plan.now.dumps (c.loop-dump.dump-index + 1))
  left = due_next (λ dump. Dump c.args.stream dump) (at_read c.args.plan.now.dumps c.loop-dump.dump-index dump within at)

-- the flushes before it are counted
counted : (c : After-flushes_in-least) → c.loop-dump.least + c.flushes_in-least.result ≡ flushes (take (dump (goal.at.After-flushes_in-least c).In-loop-dump).0 c.args.plan.now.actions)
counted c =
    let here = (goal.at.After-flushes_in-least c).In-loop-dump in
    let count = c.flushes_in-least.ensures.value ∙ ap flushes (c.split_at.ensures.front ∙ ap (take ((dump here).0 - c.loop-dump.done)) c.loop-dump.invariant.left) in
    let least = c.loop-dump.invariant.least in
    let all = (next here).counted in
    omega (arith, count, least, all)

pub overflow_sub-dump : goal.overflow_sub-dump
overflow_sub-dump c = (next (goal.at.overflow_sub-dump c).In-loop-dump).later

pub split_at-requires : goal.split_at-requires
split_at-requires c = let room = (next (goal.at.split_at-requires c).In-loop-dump).room in omega (arith, ap length c.loop-dump.invariant.left, room)

pub flushes_in-least-requires : goal.flushes_in-least-requires
flushes_in-least-requires c =
    let here = (goal.at.flushes_in-least-requires c).In-loop-dump in
    let few = c.actions-left.ensures.lawful.few in
    let two = length-take ((dump here).0 - c.loop-dump.done) c.loop-dump.left.now in
    let three = length-drop c.loop-dump.done c.args.plan.now.actions in
    omega (arith, few, ap length c.loop-dump.invariant.left, ap length c.split_at.ensures.front, two, three, ap length c.actions-left.ensures.value)

pub overflow_add-least : goal.overflow_add-least
overflow_add-least c =
    let path = goal.at.overflow_add-least c in
    let most = flushes_within c.args.plan.now.actions (dump path.In-loop-dump).0 in
    let within = (next path.In-loop-dump).within in
    let few = c.actions-left.ensures.lawful.few in
    omega (arith, counted path.After-flushes_in-least, most, within, few, ap length c.actions-left.ensures.value)

pub take_dump-requires : goal.take_dump-requires
take_dump-requires c =
    let path = goal.at.take_dump-requires c in
    record {
      history = c.requires.history;
      known = c.requires.known;
      there = subst (λ (plan : PlanData). Contains plan.dumps (dump path.In-loop-dump)) (sym c.requires.plan) (next path.In-loop-dump).there;
      least = counted path.After-flushes_in-least ∙ ap (λ (plan : PlanData). flushes (take (dump path.In-loop-dump).0 plan.actions)) (sym c.requires.plan);
    }

pub returns-in_err-take_dump : goal.returns-in_err-take_dump
returns-in_err-take_dump c =
    judged_exit (err_from_is_err_and c.from_residual.result c.from_residual.ensures.1) (left (goal.at.returns-in_err-take_dump c).In-loop-dump) c.loop-dump.invariant.taking c.in_err-take_dump.ensures.err

pub loop-dump-preserved : goal.loop-dump-preserved
loop-dump-preserved c =
    let path = goal.at.loop-dump-preserved c in
    let here = path.In-loop-dump in
    record {
      left = c.split_at.ensures.back ∙ ap (drop ((dump here).0 - c.loop-dump.done)) c.loop-dump.invariant.left ∙ (next here).left;
      within = (next here).within;
      least = counted path.After-flushes_in-least;
      rising = (next here).rising;
      taking = taking_more (left here) c.loop-dump.invariant.taking c.in_ok-take_dump.ensures.ok;
    }

pub returns : goal.returns
returns c =
    let all = ap length c.dumps-dump-items.ensures.value in
    judged_all (ap (λ (left : List (ℕ × ℕ)). map (λ dump. Dump c.args.stream dump) left) (drop_all c.loop-dump.dump-index c.args.plan.now.dumps (omega (arith, all)))) c.loop-dump.invariant.taking
