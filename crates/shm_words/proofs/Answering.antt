-- What a client's call answers.
use Rattle.std.proofs.Common.{◌≡◌, ℕ, ◌+◌, Bool, true, false, ◌||◌, cond, nat_le, List, [], ◌∷◌, ◌++◌, take, Option, Some, refl, sym, ap, ◌∙◌, arith, append_assoc, append-nil}
use Rattle.std.proofs.Math.Bool.{or-true, or-false}
use Rattle.gpu_plan.specs.declared.plan.Action.{Action}
use Rattle.gpu_plan.specs.declared.plan.Action.TheVariants.{Put, Finish, Token}
use Rattle.gpu_plan.specs.Passes.{flushes, passes_if_there}
use Rattle.shm_words.specs.declared.client.Acted.{Acted}
use Rattle.shm_words.specs.declared.client.Acted.TheVariants.{Stored, Passed, NotYet}
use Rattle.shm_words.specs.Seen.{ClientData, next_action, flushes_before}
use Rattle.shm_words.specs.Acts.{Acts, answer_for, loads_for, counts, with_load}

-- a client with a given number of further actions done and these words loaded
abbrev with_acts : ClientData → ℕ → List (ℕ × ℕ) → ClientData
with_acts c n words = record c { done = c.done + n; loads = c.loads ++ words }

unchanged : (c : ClientData) → c ≡ with_acts c 0 []
unchanged c = let same : c.done ≡ c.done + 0 = omega arith in λ i. record c { done = same i; loads = sym (append-nil c.loads) i }

-- a client acted, where its next action is known
acts_by : (c d : ClientData) (next : Option Action) (finished greatest : ℕ) (answer : Acted) (n : ℕ) (words : List (ℕ × ℕ)) → next_action c ≡ next → answer ≡ answer_for (passes_if_there (flushes_before c) finished (greatest ∷ []) next) next → counts answer ≡ n → loads_for finished greatest next ≡ words → d ≡ with_acts c n words → Acts c d answer
acts_by c d next finished greatest answer n words here is count loads becomes = record {
  finished = finished;
  greatest = greatest;
  answers = is ∙ ap (λ o. answer_for (passes_if_there (flushes_before c) finished (greatest ∷ []) o) o) (sym here);
  becomes = becomes ∙ (λ i. with_acts c (sym count i) ((sym loads ∙ ap (loads_for finished greatest) (sym here)) i));
}

-- nothing is loaded or done
pub acts_still : (c : ClientData) (next : Option Action) (answer : Acted) → next_action c ≡ next → answer ≡ answer_for (passes_if_there (flushes_before c) 0 (0 ∷ []) next) next → counts answer ≡ 0 → loads_for 0 0 next ≡ [] → Acts c c answer
acts_still c next answer here is none no_loads = acts_by c c next 0 0 answer 0 [] here is none no_loads (unchanged c)

-- a put is stored
pub acts_put : (c d : ClientData) (place value : ℕ) → next_action c ≡ Some (Put place value) → d ≡ record c { done = c.done + 1 } → Acts c d Stored
acts_put c d place value here is = acts_by c d (Some (Put place value)) 0 0 Stored 1 [] here refl refl refl (is ∙ (λ i. record c { done = c.done + 1; loads = sym (append-nil c.loads) i }))

await_counts : (b : Bool) → counts (cond b Passed NotYet) ≡ cond b 1 0
await_counts true = refl
await_counts false = refl

-- a finish loads the finish word
pub acts_finish : (c d : ClientData) (finished : ℕ) (b : Bool) (answer : Acted) → next_action c ≡ Some Finish → b ≡ nat_le (flushes_before c) finished → d ≡ with_load b 1 finished c → answer ≡ cond b Passed NotYet → Acts c d answer
acts_finish c d finished b answer here test is awaited = acts_by c d (Some Finish) finished 0 answer (cond b 1 0) ((1, finished) ∷ []) here
    (awaited ∙ ap (λ (x : Bool). cond x Passed NotYet) test)
    (ap counts awaited ∙ await_counts b) refl is

plus_none : (n : ℕ) → n + 0 ≡ n
plus_none n = omega arith

-- a token is satisfied by the token word
pub acts_token : (c d : ClientData) (token greatest : ℕ) (b : Bool) → next_action c ≡ Some (Token token) → b ≡ nat_le token greatest → d ≡ with_load b 2 greatest c → b ≡ true → Acts c d Passed
acts_token c d token greatest b here test is hit =
    let enough : nat_le token greatest ≡ true = sym test ∙ hit in
    acts_by c d (Some (Token token)) 0 greatest Passed 1 ((2, greatest) ∷ []) here
    (sym (ap (λ (x : Bool). cond x Passed NotYet) (ap (λ (x : Bool). nat_le (flushes_before c) 0 || (x || false)) enough ∙ or-true (nat_le (flushes_before c) 0))))
    refl
    (ap (λ (x : Bool). (2, greatest) ∷ cond x [] ((1, 0) ∷ [])) enough)
    (is ∙ (λ i. with_acts c (cond (hit i) 1 0) ((2, greatest) ∷ [])))

-- or not, and then the finish word is loaded
pub acts_token_then_finish : (c d e : ClientData) (token greatest finished : ℕ) (b b' : Bool) (answer : Acted) → next_action c ≡ Some (Token token) → b ≡ nat_le token greatest → d ≡ with_load b 2 greatest c → b ≡ false
    → b' ≡ nat_le (flushes_before d) finished → e ≡ with_load b' 1 finished d → answer ≡ cond b' Passed NotYet → Acts c e answer
acts_token_then_finish c d e token greatest finished b b' answer here test is missed test' is' awaited =
    let less : nat_le token greatest ≡ false = sym test ∙ missed in
    let zero : cond b 1 0 ≡ 0 = ap (λ (x : Bool). cond x 1 0) missed in
    let d_is : d ≡ with_acts c 0 ((2, greatest) ∷ []) = is ∙ (λ i. with_acts c (zero i) ((2, greatest) ∷ [])) in
    let none = plus_none c.done in
    let before : flushes_before d ≡ flushes_before c = ap flushes_before d_is ∙ ap (λ n. flushes (take n c.plan.actions)) none in
    let through : b' ≡ (nat_le (flushes_before c) finished || (nat_le token greatest || false)) = test' ∙ ap (λ n. nat_le n finished) before ∙ sym (ap (λ (x : Bool). nat_le (flushes_before c) finished || (x || false)) less ∙ or-false (nat_le (flushes_before c) finished)) in
    acts_by c e (Some (Token token)) finished greatest answer (cond b' 1 0) ((2, greatest) ∷ (1, finished) ∷ []) here
    (awaited ∙ ap (λ (x : Bool). cond x Passed NotYet) through)
    (ap counts awaited ∙ await_counts b')
    (ap (λ (x : Bool). (2, greatest) ∷ cond x [] ((1, finished) ∷ [])) less)
    (is' ∙ ap (with_load b' 1 finished) d_is ∙ (λ i. record c { done = none i + cond b' 1 0; loads = append_assoc c.loads ((2, greatest) ∷ []) ((1, finished) ∷ []) i }))
