use Rattle.live_view.proofs.Keeping.{admits}
use Rattle.live_view.proofs.making.place.Goals as goal

pub reader-requires : goal.reader-requires
reader-requires g c = admits
