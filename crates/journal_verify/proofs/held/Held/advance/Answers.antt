use Rattle.std.proofs.Common.{◌≡◌, ◌<◌, length, get_or, refl, sym, ap, subst, ◌∙◌, arith}
use Rattle.std.proofs.lemmas.List.Elements.{All-get_or}
use Rattle.std.proofs.lemmas.Option.{slice_get_read}
use Rattle.gpu_plan.specs.Plans.{IsWithin}
use Rattle.journal_verify.specs.Held.{Held}
use Rattle.journal_verify.proofs.Holding.{held_more}
use Rattle.journal_verify.proofs.Reaching.{length-stored}
use Rattle.journal_verify.proofs.held.Held.advance.Goals as goal

pub loop-self-preserved : goal.loop-self-preserved
loop-self-preserved c =
    let actions = c.args.actions.now in
    let held = c.loop-self.self in
    let new = c.do_next-in-loop-self.new.self in
    let action = c.index-actions-self.result in
    let here : c.do_next.inside.done ≡ held.done = ap (λ (h : Held). h.done) c.do_next.view_is in
    let before : c.self.inside.done ≡ held.done = ap (λ (h : Held). h.done) c.self.view_is in
    let less = c.loop-self-test.true in
    let next = c.do_next-in-loop-self.ensures.done in
    let there : held.done < length actions = omega arith in
    let is : action ≡ get_or actions held.done action = c.index-actions-self.is ∙ ap (λ n. get_or actions n action) here in
    let fits : IsWithin (length c.args.self.now.values) action = subst (IsWithin (length c.args.self.now.values)) (sym is) (All-get_or (IsWithin (length c.args.self.now.values)) actions held.done action there c.requires.within) in
    record {
      within = omega arith;
      places = ap length c.do_next-in-loop-self.ensures.values ∙ length-stored action held.values ∙ c.loop-self.invariant.places;
      held = held_more actions action held new (slice_get_read actions (length actions) held.done action refl there is) (subst (λ n. IsWithin n action) (sym c.loop-self.invariant.places) fits) c.loop-self.invariant.held next c.do_next-in-loop-self.ensures.values;
    }
