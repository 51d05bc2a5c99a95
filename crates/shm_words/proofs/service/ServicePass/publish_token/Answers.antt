use Rattle.std.proofs.Common.{◌≡◌, sym, ap, ◌∙◌, arith}
use Rattle.atomic_table.specs.Seated.{TableId}
use Rattle.shm_words.specs.Seen.{ServiceData}
use Rattle.shm_words.proofs.ServiceSteps.{tells_token}
use Rattle.shm_words.proofs.service.ServicePass.publish_token.Goals as goal

pub store-requires : goal.store-requires
store-requires c =
    let kept = c.self.invariant in
    let same : c.self.inside.seat.table_id ≡ c.words.inside.table.shared.table_id = ap (λ (d : ServiceData). d.table) c.self.view_is ∙ sym c.requires.table ∙ sym c.words.view_is in
    let wide = ap (λ (t : TableId). t.words) (sym same) ∙ kept.wide in
    let now = kept.greatest_is in
    (same, omega arith, tells_token _ _ _ c.self.inside.seat.me _ kept.is (let m = c.max-greatest.ensures in omega arith))
