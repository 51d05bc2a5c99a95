use Rattle.std.proofs.Common.{◌≡◌, ℕ, ◌+◌, ◌-◌, [], inl, inr, refl, ap, ◌∙◌, subst, arith}
use Rattle.std.proofs.lemmas.Result.{IfOk-from_err, MatchResult-from_err}
use Rattle.gpu_cmd.specs.Lawful.{places_of}
use Rattle.gpu_fetch.specs.Side.{SideData}
use Rattle.gpu_fetch.specs.Fetched.{FetchesRow}
use Rattle.gpu_fetch.proofs.Fetching.{row_none, row_more, row_in_part, finds_one}
use Rattle.gpu_fetch.proofs.fetch.fetch_row.Goals as goal

pub loop-place-init : goal.loop-place-init
loop-place-init g c =
    let S = g.P.ServiceSide.shows c.args.words.now in
    let s = g.P.ServiceSide.side c.args.side.now in
    let none : 0 ≡ c.args.from - c.args.from = omega arith in
    record {
      row = subst (λ (n : ℕ). FetchesRow S s s c.args.from n c.args.list.now.items c.reserve.new.self.items) none (row_none S s s c.args.from c.args.list.now.items c.reserve.new.self.items refl c.reserve.ensures.items);
      room = (let ok = c.in_ok-reserve.ensures.ok in omega arith);
      still = record { beside = c.requires.belongs; notes = λ n h. h };
      table = refl;
    }

pub fetch-requires-clause-place : goal.fetch-requires-clause-place
fetch-requires-clause-place g c =
    let same : places_of (g.P.ServiceSide.side c.loop-place.side).plan.areas ≡ places_of (g.P.ServiceSide.side c.args.side.now).plan.areas = ap (λ (x : SideData). places_of x.plan.areas) c.loop-place.invariant.row.fetches.fetches.grows in
    let within = c.requires.within in
    omega arith

pub returns-in_err-reserve-clause-part : goal.returns-in_err-reserve-clause-part
returns-in_err-reserve-clause-part g c =
    let s = g.P.ServiceSide.side c.args.side.now in
    let here = row_in_part s c.args.count (row_none (g.P.ServiceSide.shows c.args.words.now) s s c.args.from [] [] refl refl) (omega arith) refl in
    MatchResult-from_err c.from_residual.result _ _ c.from_residual.ensures.0 (λ _. here)

pub returns-in_err-value-clause-part : goal.returns-in_err-value-clause-part
returns-in_err-value-clause-part g c =
    let here = row_in_part (g.P.ServiceSide.side c.fetch.new.self) c.args.count c.loop-place.invariant.row (omega arith) c.in_err-value.ensures.grows in
    MatchResult-from_err c.from_residual-in_err-value.result _ _ c.from_residual-in_err-value.ensures.0 (λ _. here)

pub returns-in_err-value-clause-whole : goal.returns-in_err-value-clause-whole
returns-in_err-value-clause-whole g c = MatchResult-from_err c.from_residual-in_err-value.result _ _ c.from_residual-in_err-value.ensures.0 (λ _. inl c.in_err-value.ensures.memory)

pub returns-in_err-reserve-clause-whole : goal.returns-in_err-reserve-clause-whole
returns-in_err-reserve-clause-whole g c = MatchResult-from_err c.from_residual.result _ _ c.from_residual.ensures.0 (λ _. inr refl)

pub loop-place-preserved : goal.loop-place-preserved
loop-place-preserved g c =
    let S = g.P.ServiceSide.shows c.args.words.now in
    let s = g.P.ServiceSide.side c.args.side.now in
    let t = g.P.ServiceSide.side c.loop-place.side in
    let u = g.P.ServiceSide.side c.fetch.new.self in
    let was = c.loop-place.invariant in
    let e = c.in_ok-value.ensures in
    let place = c.loop-place.place in
    let value = c.in_ok-value.value in
    let one = finds_one S t u (place, value) e.grows e.may e.shows in
    let more = row_more place value c.push_reserved.new.self.items was.row (omega arith) one c.push_reserved.ensures.items in
    let next : place - c.args.from + 1 ≡ place + 1 - c.args.from = omega arith in
    record {
      row = subst (λ (n : ℕ). FetchesRow S s u c.args.from n c.args.list.now.items c.push_reserved.new.self.items) next more;
      room = (let room = was.room in let len = c.push_reserved.ensures.len in let more = c.push_reserved.ensures.capacity in omega arith);
      still = record { beside = e.belongs; notes = λ n h. e.notes n (was.still.notes n h) };
      table = e.table ∙ was.table;
    }

pub returns-clause-row : goal.returns-clause-row
returns-clause-row g c =
    let all : c.loop-place.place - c.args.from ≡ c.args.count = omega arith in
    subst (λ (n : ℕ). FetchesRow (g.P.ServiceSide.shows c.args.words.now) (g.P.ServiceSide.side c.args.side.now) (g.P.ServiceSide.side c.loop-place.side) c.args.from n c.args.list.now.items c.loop-place.list.items) all c.loop-place.invariant.row

pub returns-in_err-reserve-clause-row : goal.returns-in_err-reserve-clause-row
returns-in_err-reserve-clause-row g c = IfOk-from_err c.from_residual.result _ c.from_residual.ensures.0

pub returns-in_err-reserve-clause-still : goal.returns-in_err-reserve-clause-still
returns-in_err-reserve-clause-still g c = record { beside = c.requires.belongs; notes = λ n h. h }

pub returns-in_err-reserve-clause-table : goal.returns-in_err-reserve-clause-table
returns-in_err-reserve-clause-table g c = refl

pub fetch-requires-clause-belongs : goal.fetch-requires-clause-belongs
fetch-requires-clause-belongs g c = c.loop-place.invariant.still.beside

pub returns-in_err-value-clause-row : goal.returns-in_err-value-clause-row
returns-in_err-value-clause-row g c = IfOk-from_err c.from_residual-in_err-value.result _ c.from_residual-in_err-value.ensures.0

pub returns-in_err-value-clause-still : goal.returns-in_err-value-clause-still
returns-in_err-value-clause-still g c = record { beside = c.in_err-value.ensures.belongs; notes = λ n h. c.in_err-value.ensures.notes n (c.loop-place.invariant.still.notes n h) }

pub returns-in_err-value-clause-table : goal.returns-in_err-value-clause-table
returns-in_err-value-clause-table g c = c.in_err-value.ensures.table ∙ c.loop-place.invariant.table

pub returns-clause-still : goal.returns-clause-still
returns-clause-still g c = c.loop-place.invariant.still

pub returns-clause-table : goal.returns-clause-table
returns-clause-table g c = c.loop-place.invariant.table
