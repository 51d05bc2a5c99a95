-- By how many events a commit grows the journal.
use Rattle.std.proofs.Common.{◌≡◌, ℕ, ◌+◌, List, [], ◌∷◌, length, ap, ◌∙◌, arith}
use Rattle.std.proofs.lemmas.List.{length-append}
use Rattle.gpu_journal.specs.declared.event.Event.{Event}
use Rattle.gpu_journal.specs.declared.event.Event.TheVariants as event
use Rattle.gpu_house.specs.Committing.{journal_stepped}
use Rattle.gpu_hall.specs.Commits.{WasOver, Waits, Ended, Invalid, Wanted}
use Rattle.gpu_hall.specs.Laws.{StepsGrow, ReturnsGrow}

-- by one for each step
longer : (s : ℕ) (ws : List (List (ℕ × ℕ))) (h : List Event) → length (journal_stepped s ws h) ≡ length h + length ws
longer s [] h = omega arith
longer s (words ∷ ws) h = let more = longer s ws (event.Step s words ∷ h) in omega (arith, more)

pub steps_grow : StepsGrow
steps_grow p old new s members kept has = let is = ap length has.steps ∙ longer s members old in (omega (arith, is), omega (arith, is))

pub returns_grow : ReturnsGrow
returns_grow p old new s n members WasOver came = let is = ap length came.same in (omega (arith, is), omega (arith, is))
returns_grow p old new s n members Waits came = let is = ap length came.steps ∙ longer s members old in (omega (arith, is), omega (arith, is))
returns_grow p old new s n members Ended came = let is = ap length came.finish in let more = longer s members old in (omega (arith, is, more), omega (arith, is, more))
returns_grow p old new s n members (Invalid error) came =
    let is = ap length came.loss in
    let more = longer s came.first old in
    let all = ap length came.those ∙ length-append came.first (came.words ∷ came.rest) in
    (omega (arith, is, more), omega (arith, is, more, all))
returns_grow p old new s n members Wanted came =
    let is = ap length came.loss in
    let more = longer s came.first old in
    let all = ap length came.those ∙ length-append came.first came.rest in
    (omega (arith, is, more), omega (arith, is, more, all))
