use Rattle.std.proofs.Common.{◌≡◌, ℕ, suc, ◌-◌, ◌<◌, length, subst, arith}
use Rattle.std.specs.Prelude.{slice_get, slice_index_or}
use Rattle.std.specs.Option.{IsSomeAnd}
use Rattle.gpu_house.specs.Names.{table_at}
use Rattle.gpu_house.specs.House.{HouseData}
use Rattle.sync_core.proofs.Targets.{waits_go_down}
use Rattle.gpu_journal.specs.Waits.{sync_of}
use Rattle.gpu_house.specs.Stuck.{IsNotStuck}
use Rattle.gpu_house.proofs.Least.{not_stuck}
use Rattle.gpu_house.proofs.Places.{each_has}
use Rattle.gpu_house.proofs.house.House.shows_laws.Goals as goal

pub returns-clause-results : goal.returns-clause-results
returns-clause-results g c stream known =
    let S = g.P.ServiceSide in
    let tables = table_at g.N.Naming.result_words in
    let results = c.self.inside.results.items in
    let was = c.self.invariant in
    let low = known.0 in
    let high = known.1 in
    let count = was.result_count in
    let within : stream - 1 < length results = omega (arith, low, high, count) in
    let at : suc (stream - 1) ≡ stream = omega (arith, low) in
    subst (λ (h : HouseData g.row.P.Denot g.row.P-Note.Denot g.row.P-Results.Denot). IsSomeAnd (slice_get h.results (stream - 1)) (λ own. S.results_of own (tables stream))) c.self.view_is
    (each_has (λ own. S.results_of own (tables stream)) results (stream - 1) within
    (λ other. subst (λ (s : ℕ). S.results_of (slice_index_or results (stream - 1) other) (tables s)) at (was.results (stream - 1) other within).shared))

pub returns-clause-stuck : goal.returns-clause-stuck
returns-clause-stuck g c =
    let N = g.N.Naming in
    let core = c.self.inside.core in
    subst (λ (h : HouseData g.row.P.Denot g.row.P-Note.Denot g.row.P-Results.Denot). IsNotStuck N.plans h.core.past h.core.outs) c.self.view_is
    (not_stuck N.plans core c.self.invariant.core c.self.invariant.plans (waits_go_down (length N.plans.plans) (sync_of N.plans core.past)))
