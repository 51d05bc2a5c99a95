use Rattle.std.proofs.Common.{◌≡◌, ℕ, List, ◌∷◌, ◌++◌, OnOk, sym, subst, arith}
use Rattle.std.proofs.lemmas.Grind.{common_steps}
use Rattle.journal_text.proofs.Numerals.{numeral_decimal}
use Rattle.script_laws.proofs.digits.push_number.Goals as goal

pub returns : goal.returns
returns c =
    let P : List ℕ → Type 0 = λ digits. OnOk c.extend_from_slice.result (c.extend_from_slice.new.self.items ≡ c.args.out.now.items ++ (32 ∷ digits)) in
    subst P (sym (numeral_decimal c.args.number (omega arith))) (grind (arith, common_steps))
