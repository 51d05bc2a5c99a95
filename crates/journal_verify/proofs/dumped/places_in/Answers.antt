use Rattle.std.proofs.Common.{◌≡◌, ◌≤◌, ◌<◌, ℕ, List, get_or, take, subst, arith}
use Rattle.std.specs.List.{All}
use Rattle.std.proofs.lemmas.Grind.{common_steps}
use Rattle.std.proofs.lemmas.Bool.Decides.{nat_tests}
use Rattle.std.proofs.lemmas.List.{take_all}
use Rattle.journal_verify.proofs.Replacing.{room_more}
use Rattle.journal_verify.proofs.dumped.places_in.Goals as goal

pub loop-place-preserved : goal.loop-place-preserved
loop-place-preserved c =
    let dumps = c.args.dumps.now in
    let i = c.loop-place.place-index in
    let greater = c.max-count.ensures in
    let more : c.loop-place.count ≤ c.max-count.result = first_of (grind (arith, nat_tests), grind (arith, common_steps)) in
    let here : (get_or dumps i (0, 0)).1 < c.max-count.result = first_of (grind (arith, nat_tests), grind (arith, common_steps)) in
    room_more dumps i c.loop-place.count c.max-count.result (0, 0) c.loop-place-test.true c.loop-place.invariant more here

pub returns : goal.returns
returns c =
    let dumps = c.args.dumps.now in
    let all : take c.loop-place.place-index dumps ≡ dumps = take_all c.loop-place.place-index dumps (omega arith) in
    subst (λ (l : List (ℕ × ℕ)). All (λ (dump : ℕ × ℕ). dump.1 < c.loop-place.count) l) all c.loop-place.invariant
