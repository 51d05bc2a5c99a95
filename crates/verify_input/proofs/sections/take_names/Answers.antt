use Rattle.verify_input.proofs.Names.{List, ℕ, sym, ap, subst, ◌∙◌, arith, nat_tests, same_lines, Judges}
use Rattle.journal_text.specs.Parts.{heads}
use Rattle.verify_input.specs.declared.what.What.TheVariants as what
use Rattle.verify_input.proofs.Heads.{second}
use Rattle.verify_input.proofs.Offered.{names_are}
use Rattle.verify_input.proofs.sections.take_names.Goals as goal

pub take_all-requires : goal.take_all-requires
take_all-requires c = record { fits = tt; each = names_are c.of.result.plans.now; other = λ e. cc }

pub returns : goal.returns
returns c = λ h.
    let p = c.args.plans.now in
    subst (λ (lines : List (List ℕ)). Judges p h (same_lines what.Name lines) c.args.rest.now c.take_all.new.self c.take_all.result) (ap heads c.of.ensures ∙ sym (second p (grind (arith, nat_tests)))) (c.take_all.ensures p h)
