-- The first rule that an event breaks.
use Rattle.std.proofs.Common.{◌≡◌, ℕ, zero, suc, ◌-◌, List, [], ◌∷◌, take, reverse, refl, sym, ap}
use Rattle.std.proofs.lemmas.Option.{slice_get_within, get_or_from_slice_get}
use Rattle.gpu_plan.specs.Plans.{PlansData}
use Rattle.gpu_journal.specs.declared.event.Event.{Event}
use Rattle.gpu_journal.specs.declared.event.Event.TheVariants.{Order, Step, Finish, Lost, Close}
use Rattle.gpu_journal.specs.declared.event.Why.TheVariants.{Error, Memory}
use Rattle.gpu_journal.specs.Legal.{Obeys}
use Rattle.gpu_journal.proofs.Worlds.{known_of_left}
use Rattle.gpu_journal.proofs.Following.{legal_here}
use Rattle.serial_laws.proofs.Fitting.{first_some}
use Rattle.serial_laws.proofs.Further.{flush_reached}
use Rattle.journal_verify.specs.Rules.{IsFirstFailing, rules_of}
use Rattle.journal_verify.specs.Laws.{SixIsNeverFirst, WrongIsIllegal, RuleIsOne}

-- rules 4 and 5 give rule 6
pub six_is_never_first : SixIsNeverFirst
six_is_never_first p g (Order s n c) lawful legal x = x.1.1.1.1.1 tt
six_is_never_first p g (Step s words) lawful legal x =
    let some = x.1.1.1.0 in
    x.1.1.1.1.1 (flush_reached p g s lawful legal (record { isknown = known_of_left p g s legal some; some = some; free = x.1.1.1.1.0 }))
six_is_never_first p g (Finish s n) lawful legal x =
    let some = first_some _ n x.1.1.1.0 in
    x.1.1.1.1.1 (flush_reached p g s lawful legal (record { isknown = known_of_left p g s legal some; some = some; free = x.1.1.1.1.0 }))
six_is_never_first p g (Lost s (Error error) words) lawful legal x =
    let some = x.1.1.1.0 in
    x.1.1.1.1.1 (flush_reached p g s lawful legal (record { isknown = known_of_left p g s legal some; some = some; free = x.1.1.1.1.0 }))
six_is_never_first p g (Lost s Memory words) lawful legal x = x.1.1.1.1.1 tt
six_is_never_first p g (Close s) lawful legal x = x.1.1.1.1.1 tt

-- all of these rules hold
abbrev AllHold : List (Type 0) → Type 0
AllHold [] = Unit {0}
AllHold (rule ∷ rules) = rule × AllHold rules

none_fails : (rules : List (Type 0)) (number : ℕ) → AllHold rules → IsFirstFailing rules number → ⊥
none_fails [] number all fails = fails
none_fails (rule ∷ rules) zero all fails = fails
none_fails (rule ∷ rules) (suc zero) all fails = fails all.0
none_fails (rule ∷ rules) (suc (suc number)) all fails = none_fails rules (suc number) all.1 fails.1

all_obeyed : (p : PlansData) (g : List Event) (e : Event) → Obeys p g e → AllHold (rules_of p g e)
all_obeyed p g e o = (o.rule_1, (o.rule_2, (o.rule_3, (o.rule_4, (o.rule_5, (o.rule_6, (o.rule_7, (o.rule_8, (o.rule_9, (o.rule_10, (o.rule_11, (o.rule_12, tt))))))))))))

pub wrong_is_illegal : WrongIsIllegal
wrong_is_illegal p events number rule wrong legal =
    let k = number - 1 in
    let lt = slice_get_within events k wrong.event wrong.there in
    let at = sym (get_or_from_slice_get events k wrong.event wrong.event wrong.there) in
    none_fails (rules_of p (reverse (take k events)) wrong.event) rule (all_obeyed p (reverse (take k events)) wrong.event (legal_here p events k wrong.event lt at legal).0) wrong.breaks

first_is_one : (rules : List (Type 0)) (m n : ℕ) → IsFirstFailing rules m → IsFirstFailing rules n → m ≡ n
first_is_one [] m n a b = absurd a
first_is_one (rule ∷ rules) zero n a b = absurd a
first_is_one (rule ∷ rules) (suc m) zero a b = absurd b
first_is_one (rule ∷ rules) (suc zero) (suc zero) a b = refl
first_is_one (rule ∷ rules) (suc zero) (suc (suc n)) a b = absurd (a b.0)
first_is_one (rule ∷ rules) (suc (suc m)) (suc zero) a b = absurd (b a.0)
first_is_one (rule ∷ rules) (suc (suc m)) (suc (suc n)) a b = ap suc (first_is_one rules (suc m) (suc n) a.1 b.1)

pub rule_is_one : RuleIsOne
rule_is_one p g e rule other a b = first_is_one (rules_of p g e) rule other a b
