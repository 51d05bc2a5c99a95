-- What is kept of a whole history, as it is asked for.
use Rattle.verify_input.proofs.Names.{◌≡◌, ℕ, ◌+◌, ◌<◌, List, length, get_or, ap, ◌∙◌, arith, length-map-range_with_len, get_or-map-range_with_len, End, end_of, past_of, IsHistory, History, endings_in, sync_of}
use Rattle.sync_core.specs.Pending.{endings}

module _ (history : History) (is : IsHistory history) where
  pub streams_kept : length history.followed.now.judge.states ≡ length history.plans.now.plans
  streams_kept = is.followed.follows.fits.states

  pub ends_kept : length history.ends.now ≡ length history.plans.now.plans
  ends_kept = ap length is.ends ∙ length-map-range_with_len (end_of (past_of history)) 1 (length history.plans.now.plans)

  pub end_there : (index stream : ℕ) (other : End) → index < length history.plans.now.plans → index + 1 ≡ stream → get_or history.ends.now index other ≡ end_of (past_of history) stream
  end_there index stream other lt next =
      ap (λ (ends : List End). get_or ends index other) is.ends
      ∙ get_or-map-range_with_len (end_of (past_of history)) 1 (length history.plans.now.plans) index stream other lt (omega (arith, next))

  pub endings_kept : history.followed.now.judge.core.endings ≡ endings_in history.plans.now (past_of history)
  endings_kept = is.followed.follows.sync.endings ∙ ap (λ (n : ℕ). endings n (sync_of history.plans.now (past_of history))) is.followed.follows.fits.core
