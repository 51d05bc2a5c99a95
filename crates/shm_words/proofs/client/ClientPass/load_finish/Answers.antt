use Rattle.std.proofs.Common.{◌≡◌, ◌+◌, Bool, true, cond, Some, nat_le, sym, ap, ◌∙◌, subst, refl, arith}
use Rattle.std.specs.Prelude.{slice_get}
use Rattle.std.proofs.lemmas.Bool.{le-leb}
use Rattle.atomic_table.specs.Seated.{TableId}
use Rattle.gpu_cmd.specs.Lawful.{places_of}
use Rattle.shm_words.specs.Views.{client_of, loaded, flushes_of}
use Rattle.shm_words.specs.Seen.{ClientData, next_action}
use Rattle.shm_words.proofs.ClientSteps.{loads}
use Rattle.shm_words.proofs.Keeping.{await_counts, next_there, before_there, moved}
use Rattle.shm_words.proofs.client.ClientPass.load_finish.Goals as goal

pub load-finished-requires : goal.load-finished-requires
load-finished-requires c =
    let kept = c.self.invariant in
    let seat = c.self.inside.seat in
    let a = c.requires.next.0 in
    let same : seat.table_id ≡ c.words.inside.table.shared.table_id = ap (λ (d : ClientData). d.table) c.self.view_is ∙ sym c.requires.table ∙ sym c.words.view_is in
    let wide : c.words.inside.table.shared.table_id.words ≡ 3 + places_of c.self.inside.plan.areas = ap (λ (t : TableId). t.words) (sym same) ∙ kept.wide in
    let next : slice_get c.self.inside.plan.actions c.self.inside.done ≡ Some a = subst (λ (d : ClientData). next_action d ≡ Some a) (sym c.self.view_is) c.requires.next.1 in
    (same, omega arith, loads _ _ _ seat.me a kept.is (next_there _ _ _ _ seat.me kept a next) c.requires.next.2)

pub invariant_of-self : goal.invariant_of-self
invariant_of-self c =
    let a = c.requires.next.0 in
    let seat = c.self.inside.seat in
    let client = client_of seat.me.0 in
    let r = c.load-finished.result in
    let next : slice_get c.self.inside.plan.actions c.self.inside.done ≡ Some a = subst (λ (d : ClientData). next_action d ≡ Some a) (sym c.self.view_is) c.requires.next.1 in
    let none = await_counts a c.requires.next.2 in
    let is = before_there _ _ _ _ seat.me c.self.invariant in
    let passed = c.if-passes.true in
    let b : nat_le (flushes_of client) r ≡ true = le-leb (flushes_of client) r (omega arith) in
    moved _ _ _ _ seat.me c.self.invariant a _ _ _ (loaded (nat_le (flushes_of client) r) 1 r client) next (omega arith) c.load-finished.ensures.0 c.load-finished.ensures.2 refl
    (ap (λ (x : Bool). client.done + cond x 1 0) b)
