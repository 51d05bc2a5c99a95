use Rattle.live_view.proofs.Keeping.{turns_meet}
use Rattle.live_view.proofs.entering.meet_once.Goals as goal

pub enter-open-requires : goal.enter-open-requires
enter-open-requires g c = turns_meet
