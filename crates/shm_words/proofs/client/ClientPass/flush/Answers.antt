use Rattle.std.proofs.Common.{◌≡◌, ℕ, ◌+◌, ◌<◌, ◌^◌, sym, ap, ◌∙◌, subst, refl, arith, rules}
use Rattle.atomic_table.specs.Seated.{TableId}
use Rattle.gpu_cmd.specs.Lawful.{places_of}
use Rattle.gpu_plan.specs.declared.plan.Action.TheVariants.{Flush}
use Rattle.gpu_plan.proofs.Passing.{flushes_within}
use Rattle.shm_words.specs.Views.{client_of, flush_done}
use Rattle.shm_words.specs.Seen.{ClientData}
use Rattle.shm_words.specs.Acts.{IsAtFlush}
use Rattle.shm_words.proofs.ClientSteps.{marks}
use Rattle.shm_words.proofs.SeatSteps.{notes}
use Rattle.shm_words.proofs.Keeping.{client_still, next_there, moved, flush_there}
use Rattle.shm_words.proofs.client.ClientPass.flush.Goals as goal

pub store-requires : goal.store-requires
store-requires c =
    let kept = c.self.invariant in
    let seat = c.self.inside.seat in
    let at = flush_there c.self.inside.plan.actions c.self.inside.done (subst IsAtFlush (sym c.self.view_is) c.requires.next) in
    let same : seat.table_id ≡ c.words.inside.table.shared.table_id = ap (λ (d : ClientData). d.table) c.self.view_is ∙ sym c.requires.table ∙ sym c.words.view_is in
    let wide : c.words.inside.table.shared.table_id.words ≡ 3 + places_of c.self.inside.plan.areas = ap (λ (t : TableId). t.words) (sym same) ∙ kept.wide in
    (same, omega arith, marks _ _ _ seat.me at.0 at.1 (c.self.inside.done + 1) kept.is (next_there _ _ _ _ seat.me kept (Flush at.0 at.1) at.2) (ap (λ (n : ℕ). n + 1) (sym kept.done_is)))

pub overflow_add-self-2 : goal.overflow_add-self-2
overflow_add-self-2 c =
    let kept = c.self.invariant in
    let few = flushes_within c.self.inside.plan.actions c.self.inside.done in
    let is = kept.before_is in
    let within = kept.within in
    let short = kept.lawful.few in
    let small : c.self.inside.flushes + 1 < 2 ^ 64 = omega arith in
    search (rules, small)

pub split_seat-requires : goal.split_seat-requires
split_seat-requires c =
    let kept = c.self.invariant in
    let seat = c.self.inside.seat in
    let same : seat.table_id ≡ c.words.inside.table.shared.table_id = ap (λ (d : ClientData). d.table) c.self.view_is ∙ sym c.requires.table ∙ sym c.words.view_is in
    let wide : c.words.inside.table.shared.table_id.words ≡ 3 + places_of c.self.inside.plan.areas = ap (λ (t : TableId). t.words) (sym same) ∙ kept.wide in
    (c.store.ensures.0 ∙ same, omega arith, notes _ _ c.store.new.seat.me (client_still seat.me c.store.new.seat.me (flush_done (client_of seat.me.0)) kept.is c.store.ensures.2))

pub invariant_of-self : goal.invariant_of-self
invariant_of-self c =
    let at = flush_there c.self.inside.plan.actions c.self.inside.done (subst IsAtFlush (sym c.self.view_is) c.requires.next) in
    moved _ _ _ _ c.self.inside.seat.me c.self.invariant (Flush at.0 at.1) _ _ _ (flush_done (client_of c.self.inside.seat.me.0)) at.2 (omega arith) (c.split_seat.ensures.0 ∙ c.store.ensures.0) (c.split_seat.ensures.2 ∙ c.store.ensures.2) refl refl
