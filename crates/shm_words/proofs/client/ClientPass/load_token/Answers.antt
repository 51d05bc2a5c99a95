use Rattle.std.proofs.Common.{◌≡◌, ◌+◌, Bool, true, cond, Some, sym, ap, ◌∙◌, subst, refl, arith}
use Rattle.std.specs.Prelude.{slice_get}
use Rattle.std.proofs.lemmas.Bool.{le-leb}
use Rattle.atomic_table.specs.Seated.{TableId}
use Rattle.gpu_cmd.specs.Lawful.{places_of}
use Rattle.gpu_plan.specs.declared.plan.Action.TheVariants.{Token}
use Rattle.shm_words.specs.Views.{client_of, loaded, is_enough, client_next}
use Rattle.shm_words.specs.Seen.{ClientData, next_action}
use Rattle.shm_words.proofs.ClientSteps.{loads_a_token}
use Rattle.shm_words.proofs.Keeping.{next_there, moved}
use Rattle.shm_words.proofs.client.ClientPass.load_token.Goals as goal

pub load-greatest-requires : goal.load-greatest-requires
load-greatest-requires c =
    let kept = c.self.invariant in
    let seat = c.self.inside.seat in
    let action = Token c.args.token in
    let same : seat.table_id ≡ c.words.inside.table.shared.table_id = ap (λ (d : ClientData). d.table) c.self.view_is ∙ sym c.requires.table ∙ sym c.words.view_is in
    let wide : c.words.inside.table.shared.table_id.words ≡ 3 + places_of c.self.inside.plan.areas = ap (λ (t : TableId). t.words) (sym same) ∙ kept.wide in
    let next : slice_get c.self.inside.plan.actions c.self.inside.done ≡ Some action = subst (λ (d : ClientData). next_action d ≡ Some action) (sym c.self.view_is) c.requires.next in
    (same, omega arith, loads_a_token _ _ _ seat.me c.args.token kept.is (next_there _ _ _ _ seat.me kept action next))

pub invariant_of-self : goal.invariant_of-self
invariant_of-self c =
    let seat = c.self.inside.seat in
    let client = client_of seat.me.0 in
    let action = Token c.args.token in
    let r = c.load-greatest.result in
    let next : slice_get c.self.inside.plan.actions c.self.inside.done ≡ Some action = subst (λ (d : ClientData). next_action d ≡ Some action) (sym c.self.view_is) c.requires.next in
    let here = next_there _ _ _ _ seat.me c.self.invariant action next in
    let passed = c.if-passes.true in
    let b : is_enough (client_next client) r ≡ true = ap (λ o. is_enough o r) here ∙ le-leb c.args.token r (omega arith) in
    moved _ _ _ _ seat.me c.self.invariant action _ _ _ (loaded (is_enough (client_next client) r) 2 r client) next (omega arith) c.load-greatest.ensures.0 c.load-greatest.ensures.2 refl
    (ap (λ (x : Bool). client.done + cond x 1 0) b)
