use Rattle.std.proofs.Common.{◌≡◌, ℕ, ◌+◌, sym, ap, ◌∙◌, arith}
use Rattle.atomic_table.specs.Seated.{TableId}
use Rattle.shm_words.specs.Seen.{ServiceData}
use Rattle.shm_words.proofs.ServiceSteps.{finishes}
use Rattle.shm_words.proofs.service.ServicePass.publish_finish.Goals as goal

pub store-requires : goal.store-requires
store-requires c =
    let kept = c.self.invariant in
    let same : c.self.inside.seat.table_id ≡ c.words.inside.table.shared.table_id = ap (λ (d : ServiceData). d.table) c.self.view_is ∙ sym c.requires.table ∙ sym c.words.view_is in
    let wide = ap (λ (t : TableId). t.words) (sym same) ∙ kept.wide in
    (same, omega arith, finishes _ _ _ c.self.inside.seat.me (c.self.inside.finished + 1) kept.is (ap (λ (n : ℕ). n + 1) (sym kept.finished_is)))
