-- A run that does a step stays out.
use Rattle.std.proofs.Common.{◌≡◌, ℕ, zero, suc, ◌<◌, Bool, false, ⊎_elim, List, length, sym, ap, subst, arith}
use Rattle.std.proofs.lemmas.Bool.{cases_lt}
use Rattle.std.proofs.lemmas.List.{get_or_past}
use Rattle.sync_core.specs.Standing.{IsKnown}
use Rattle.house_core.specs.Core.{CoreData, IsAway, out_at, is_home, with_out}
use Rattle.house_core.specs.Desks.{Out, RunData, at_home}
use Rattle.gpu_house.proofs.Rows.{out_set_here}
use Rattle.gpu_house.proofs.Homes.{is_out}

-- a run that is out is of a stream that has a place in the row
out_known : (outs : List Out) (s : ℕ) → 0 < (out_at outs s).order → IsKnown (length outs) s
out_known outs zero some = absurd (omega arith)
out_known outs (suc k) some = ⊎_elim (λ lt. (omega arith, omega arith)) (λ past. absurd (let none = ap (λ (o : Out). o.order) (get_or_past outs k at_home past) in omega arith)) (cases_lt k (length outs))

pub stays_out : (core : CoreData) (run : RunData) (kept : Bool) → IsAway core run → is_home (with_out core.outs run.stream record { order = run.order; paused = kept }) run.stream ≡ false
stays_out core run kept away =
    let out : Out = record { order = run.order; paused = kept } in
    is_out _ run.stream out (out_set_here core.outs run.stream out (out_known core.outs run.stream (subst (λ (o : Out). 0 < o.order) (sym away.out) away.positive))) away.positive
