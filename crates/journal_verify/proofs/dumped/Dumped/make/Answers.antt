use Rattle.std.proofs.Common.{◌≡◌, ℕ, true, List, length, take, sym, ap, subst, ◌∙◌, arith}
use Rattle.std.specs.List.{All}
use Rattle.std.proofs.lemmas.List.{take_all, length-replicate}
use Rattle.journal_verify.specs.Dumped.{DumpedData, is_dumped_in}
use Rattle.journal_verify.proofs.Replacing.{untouched}
use Rattle.journal_verify.proofs.Small.{small_none}
use Rattle.journal_verify.proofs.dumped.Dumped.make.Goals as goal

pub returns : goal.returns
returns c =
    let plan = c.args.plan.now in
    let new : DumpedData = record { is_dumped = c.loop-place.is_dumped.items; values = c.in_ok-values.values.items; left = c.new.result.entries } in
    let dumps = c.dumps-dumps.result.now in
    let all : take c.loop-place.place-index dumps ≡ plan.dumps = take_all c.loop-place.place-index dumps (omega arith) ∙ c.dumps-dumps.ensures.value in
    let watched = subst (λ (l : List (ℕ × ℕ)). All (λ (dump : ℕ × ℕ). is_dumped_in new dump.1 ≡ true) l) all c.loop-place.invariant.watched in
    untouched plan c.places_in-count.result new watched (c.in_ok-values.ensures.items_if_clones_equal (λ y h. h)) c.new.ensures.empty

pub invariant_of-result : goal.invariant_of-result
invariant_of-result c =
    let values = c.in_ok-values.ensures.items_if_clones_equal (λ y h. h) in
    (ap (λ (l : List ℕ). length l) values ∙ length-replicate c.places_in-count.result 0 ∙ sym c.loop-place.invariant.count, small_none c.new.result.entries c.new.ensures.empty)
