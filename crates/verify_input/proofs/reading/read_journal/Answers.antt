use Rattle.std.proofs.Common.{◌≡◌, ◌+◌, ◌<◌, Option, Some, None, List, [], ◌∷◌, ◌++◌, length, reverse, refl, sym, ap, subst, ◌∙◌, arith}
use Rattle.std.proofs.lemmas.Bool.Decides.{nat_tests}
use Rattle.std.proofs.lemmas.List.{length-reverse, reverse-append}
use Rattle.gpu_journal.specs.declared.event.Event.{Event}
use Rattle.verify_input.proofs.Lines.{IsRead, read_more, read_all, read_bad, read_open}
use Rattle.verify_input.proofs.reading.read_journal.Goals as goal

-- what is not there is missing
missing : (said : Option Event) → ((event : Event) → said ≡ Some event → ⊥) → said ≡ None
missing None not = refl
missing (Some event) not = absurd (not event refl)

pub returns-in_default-clause-err : goal.returns-in_default-clause-err
returns-in_default-clause-err c =
    let events = reverse c.loop-rest.journal.events in
    let count : c.count.result + 1 ≡ length events + 1 = omega (arith, length-reverse c.loop-rest.journal.events) in
    let some : 0 < length c.loop-rest.rest.now = grind (arith, nat_tests) in
    (length events, count, read_open c.args.text.now events c.loop-rest.rest.now c.loop-rest.invariant some c.in_default.ensures.first)

pub returns-in_default-2-clause-err : goal.returns-in_default-2-clause-err
returns-in_default-2-clause-err c =
    let events = reverse c.loop-rest.journal.events in
    let none = sym c.in_ok-said.ensures ∙ missing c.in_ok-said.field-0 c.in_default-2.not-Some in
    let count : c.count.result + 1 ≡ length events + 1 = omega (arith, length-reverse c.loop-rest.journal.events) in
    (length events, count, read_bad c.args.text.now events c.loop-rest.rest.now c.in-Some.front.now c.in-Some.behind.now c.loop-rest.invariant c.in-Some.ensures.cut c.in-Some.ensures.first none)

pub loop-rest-preserved : goal.loop-rest-preserved
loop-rest-preserved c =
    let past = c.loop-rest.journal.events in
    let said = sym c.in_ok-said.ensures ∙ c.in-Some-2.is in
    let more : reverse (c.in-Some-2.said ∷ past) ≡ reverse past ++ c.in-Some-2.said ∷ [] = reverse-append (c.in-Some-2.said ∷ []) past in
    subst (λ (events : List Event). IsRead c.args.text.now events c.in-Some.behind.now) (sym (ap reverse c.in_ok-add.ensures.ok ∙ more))
    (read_more c.args.text.now (reverse past) c.loop-rest.rest.now c.in-Some.front.now c.in-Some.behind.now c.in-Some-2.said c.loop-rest.invariant c.in-Some.ensures.cut said)

pub returns-clause-ok : goal.returns-clause-ok
returns-clause-ok c = read_all c.args.text.now (reverse c.loop-rest.journal.events) c.loop-rest.rest.now c.loop-rest.invariant (grind arith)
