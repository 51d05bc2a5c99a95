-- Names that differ, and one more after them.
use Rattle.std.proofs.Common.{◌≡◌, ℕ, zero, suc, ◌+◌, ◌-◌, ◌≤◌, false, ◌||◌, List, [], ◌∷◌, ◌++◌, length, slice_get, option_map, Some, refl, sym, ap, subst, ◌∙◌, arith}
use Rattle.std.specs.List.{All, AllByRecursion, IsDistinct, list_any, position_or_len}
use Rattle.std.proofs.lemmas.List.Elements.{All-nil, All-push, All-head, All-tail}
use Rattle.std.proofs.lemmas.Bool.{lt-ltb, or_parts}
use Rattle.std.proofs.lemmas.Option.{slice_get_within, slice_get-map}
use Rattle.std.proofs.lemmas.Bool.Decides.{nat_tests}
use Rattle.gpu_cmd.specs.declared.name.Name.{Name}
use Rattle.script_lines.specs.Names.{is_name}
use Rattle.script_lines.proofs.Numbers.{itself}
use Rattle.gpu_plan.specs.Plans.{PlanData, is_of, number_of}
use Rattle.gpu_plan.specs.Named.{names_in, AreNumbered, HasSmallSpace, AreLawfulNames}

turned : (a b : Name) → is_name a b ≡ false → is_name b a ≡ false
turned a b e = grind (arith, nat_tests)

all_end : (P : Name → Type 0) (names : List Name) (name : Name) → AllByRecursion P names → P name → AllByRecursion P (names ++ name ∷ [])
all_end P [] name h last = (last, tt)
all_end P (n ∷ names) name h last = (h.0, all_end P names name h.1 last)

distinct_end : (names : List Name) (name : Name) → IsDistinct is_name names → list_any (is_name name) names ≡ false → IsDistinct is_name (names ++ name ∷ [])
unfolding IsDistinct
distinct_end [] name h new = (tt, tt)
distinct_end (n ∷ names) name h new =
    let both = or_parts (is_name name n) (list_any (is_name name) names) new in
    (all_end (λ y. is_name n y ≡ false) names name h.0 (turned name n both.0), distinct_end names name h.1 both.1)

numbered_from : (j : ℕ) (names : List Name) (name : Name) → ((k : ℕ) (n : Name) → slice_get names k ≡ Some n → n ≡ record { namespace = 0; id = j + k + 1 }) → name ≡ record { namespace = 0; id = j + length names + 1 }
    → (k : ℕ) (n : Name) → slice_get (names ++ name ∷ []) k ≡ Some n → n ≡ record { namespace = 0; id = j + k + 1 }
numbered_from j [] name h is zero n e = let same : name ≡ n = cc in sym same ∙ is
numbered_from j [] name h is (suc k) n e = absurd cc
numbered_from j (first ∷ names) name h is zero n e = h zero n e
numbered_from j (first ∷ names) name h is (suc k) n e =
    let shifted : (i : ℕ) (m : Name) → slice_get names i ≡ Some m → m ≡ record { namespace = 0; id = j + 1 + i + 1 } = λ i m at. h (suc i) m at ∙ ap (λ id. record { namespace = 0; id = id }) (omega arith) in
    let last : name ≡ record { namespace = 0; id = j + 1 + length names + 1 } = is ∙ ap (λ id. record { namespace = 0; id = id }) (omega arith) in
    numbered_from (j + 1) names name shifted last k n e ∙ ap (λ id. record { namespace = 0; id = id }) (omega arith)

numbered_end : (names : List Name) (name : Name) → AreNumbered names → name ≡ record { namespace = 0; id = length names + 1 } → AreNumbered (names ++ name ∷ [])
numbered_end names name h is k n e =
    numbered_from 0 names name (λ i m at. h i m at ∙ ap (λ id. record { namespace = 0; id = id }) (omega arith)) (is ∙ ap (λ id. record { namespace = 0; id = id }) (omega arith)) k n e ∙ ap (λ id. record { namespace = 0; id = id }) (omega arith)

-- one more name that is not among the others, has a small namespace, and in version 1 is the next number
pub lawful_end : (version : ℕ) (names : List Name) (name : Name) → AreLawfulNames version names → list_any (is_name name) names ≡ false → (version ≡ 1 → name ≡ record { namespace = 0; id = length names + 1 }) → HasSmallSpace name → AreLawfulNames version (names ++ name ∷ [])
lawful_end version names name h new number small = record {
  apart = distinct_end names name h.apart new;
  numbered = λ one. numbered_end names name (h.numbered one) (number one);
  spaced = All-push HasSmallSpace names name h.spaced small;
}

pub lawful_none : (version : ℕ) → AreLawfulNames version []
unfolding IsDistinct
lawful_none version = record { apart = tt; numbered = λ one k name e. absurd cc; spaced = All-nil HasSmallSpace }

pub any_is : (name : Name) (plans : List PlanData) → list_any (is_of name) plans ≡ list_any (is_name name) (names_in plans)
any_is name [] = refl
any_is name (plan ∷ plans) = ap (λ b. is_name name plan.name || b) (any_is name plans)

pub names_more : (plans : List PlanData) (plan : PlanData) → names_in (plans ++ plan ∷ []) ≡ names_in plans ++ plan.name ∷ []
names_more [] plan = refl
names_more (p ∷ plans) plan = ap (λ names. p.name ∷ names) (names_more plans plan)

-- ---- a stream's name has its number

all_at : (P : Name → Type 0) (plans : List PlanData) (k : ℕ) (plan : PlanData) → AllByRecursion P (names_in plans) → slice_get plans k ≡ Some plan → P plan.name
all_at P [] k plan h e = absurd cc
all_at P (p ∷ plans) zero plan h e = let s : p ≡ plan = cc in subst (λ (x : PlanData). P x.name) s h.0
all_at P (p ∷ plans) (suc k) plan h e = all_at P plans k plan h.1 e

small_at : (plans : List PlanData) (k : ℕ) (plan : PlanData) → All HasSmallSpace (names_in plans) → slice_get plans k ≡ Some plan → HasSmallSpace plan.name
small_at [] k plan h e = absurd cc
small_at (p ∷ plans) zero plan h e = let s : p ≡ plan = cc in subst (λ (x : PlanData). HasSmallSpace x.name) s (All-head HasSmallSpace p.name (names_in plans) h)
small_at (p ∷ plans) (suc k) plan h e = small_at plans k plan (All-tail HasSmallSpace p.name (names_in plans) h) e

first_is : (plans : List PlanData) (k : ℕ) (plan : PlanData) → IsDistinct is_name (names_in plans) → slice_get plans k ≡ Some plan → position_or_len (is_of plan.name) plans ≡ k
unfolding IsDistinct
first_is [] k plan h e = absurd cc
first_is (p ∷ plans) zero plan h e = let s : p ≡ plan = cc in rw (ap (λ (x : PlanData). is_name plan.name x.name) s, itself plan.name) refl
first_is (p ∷ plans) (suc k) plan h e = rw (turned p.name plan.name (all_at (λ y. is_name p.name y ≡ false) plans k plan h.0 e)) (let next = first_is plans k plan h.1 e in omega arith)

module _ (version stream : ℕ) (plans : List PlanData) (plan : PlanData) (lawful : AreLawfulNames version (names_in plans)) (first : 1 ≤ stream) (there : slice_get plans (stream - 1) ≡ Some plan) where
  pub own_number : number_of plans plan.name ≡ stream
  own_number = rw (first_is plans (stream - 1) plan lawful.apart there, lt-ltb (stream - 1) (length plans) (slice_get_within plans (stream - 1) plan there)) (omega arith)

  pub own_space : HasSmallSpace plan.name
  own_space = small_at plans (stream - 1) plan lawful.spaced there

  pub own_name : version ≡ 1 → plan.name ≡ record { namespace = 0; id = stream }
  own_name one = lawful.numbered one (stream - 1) plan.name (slice_get-map (λ (p : PlanData). p.name) plans (stream - 1) ∙ ap (option_map (λ (p : PlanData). p.name)) there) ∙ ap (λ id. record { namespace = 0; id = id }) (omega arith)
