-- What `verify` says by its finding.
use Rattle.std.proofs.Common.{ℕ, List, refl, sym, subst, Result, Ok, Err}
use Rattle.std.specs.Prelude.{IfOk}
use Rattle.verify_input.specs.Found.{Finds}
use Rattle.verify_input.specs.Whole.{FindsWhole}
use Rattle.verify_input.specs.declared.finding.Finding.{Finding}
use Rattle.verify_input.specs.declared.finding.Finding.TheVariants.{Refused, NoJournal, No, Differs, NotComplete, Yes}
use Rattle.script_answers.specs.declared.command.Command.TheVariants.{Verify, VerifyWhole}
use Rattle.script_answers.specs.declared.answer.Answer.{Answer}
use Rattle.script_answers.specs.declared.status.Status.{Status}
use Rattle.script_answers.specs.Answers.{answer_ending, answer_text, TellsFinding}
use Rattle.script_answers.specs.Says.{Says}
use Rattle.script_answers.proofs.Judged.{judged_whole}

verify_says : (base : ℕ) (input : List ℕ) (finding : Finding) (ending : Status) (text : List ℕ) → Finds input finding → TellsFinding finding ending text → Says Verify base input ending text
verify_says base input (Refused line kind) ending text found tells = subst (λ (e : Status). Says Verify base input e text) (sym tells.0) (refl, found, tells.1)
verify_says base input (NoJournal line) ending text found tells = subst (λ (e : Status). Says Verify base input e text) (sym tells.0) (found, tells.1)
verify_says base input (No event rule) ending text found tells = subst (λ (e : Status). Says Verify base input e text) (sym tells.0) (found, tells.1)
verify_says base input (Differs line what) ending text found tells = absurd found
verify_says base input NotComplete ending text found tells = subst (λ (e : Status). Says Verify base input e text) (sym tells.0) (found, tells.1)
verify_says base input (Yes images events) ending text found tells = subst (λ (e : Status). Says Verify base input e text) (sym tells.0) (refl, (images, events, found, tells.1))

whole_says : (base : ℕ) (input : List ℕ) (finding : Finding) (ending : Status) (text : List ℕ) → FindsWhole base input finding → TellsFinding finding ending text → Says VerifyWhole base input ending text
whole_says base input (Refused line kind) ending text found tells = subst (λ (e : Status). Says VerifyWhole base input e text) (sym tells.0) (refl, found, tells.1)
whole_says base input (NoJournal line) ending text found tells = subst (λ (e : Status). Says VerifyWhole base input e text) (sym tells.0) (found, tells.1)
whole_says base input (No event rule) ending text found tells = subst (λ (e : Status). Says VerifyWhole base input e text) (sym tells.0) (found, tells.1)
whole_says base input (Differs line what) ending text found tells = subst (λ (e : Status). Says VerifyWhole base input e text) (sym tells.0) (found, tells.1)
whole_says base input NotComplete ending text found tells = subst (λ (e : Status). Says VerifyWhole base input e text) (sym tells.0) (found, tells.1)
whole_says base input (Yes images events) ending text found tells = subst (λ (e : Status). Says VerifyWhole base input e text) (sym tells.0) (refl, judged_whole base input images events text found tells.1)

-- where there is memory for the answer
pub verify_answers : {E : Type 0} (input : List ℕ) (finding : Finding) (answer : Result Answer E) → Finds input finding → IfOk answer (λ answer. TellsFinding finding (answer_ending answer) (answer_text answer))
    → IfOk answer (λ answer. (base : ℕ) → Says Verify base input (answer_ending answer) (answer_text answer))
verify_answers input finding (Ok answer) found tells = λ base. verify_says base input finding (answer_ending answer) (answer_text answer) found tells
verify_answers input finding (Err e) found tells = tt

pub whole_answers : {E : Type 0} (base : ℕ) (input : List ℕ) (finding : Finding) (answer : Result Answer E) → FindsWhole base input finding → IfOk answer (λ answer. TellsFinding finding (answer_ending answer) (answer_text answer))
    → IfOk answer (λ answer. Says VerifyWhole base input (answer_ending answer) (answer_text answer))
whole_answers base input finding (Ok answer) found tells = whole_says base input finding (answer_ending answer) (answer_text answer) found tells
whole_answers base input finding (Err e) found tells = tt
