use Rattle.live_view.proofs.Keeping.{turns_look}
use Rattle.live_view.proofs.entering.look_once.Goals as goal

pub enter-open-requires : goal.enter-open-requires
enter-open-requires g c = turns_look
