-- Rounds written one after the other.
use Rattle.std.proofs.Common.{◌≡◌, ℕ, zero, suc, ◌+◌, ◌-◌, ◌*◌, ◌%◌, List, [], ◌∷◌, ◌++◌, refl, sym, ap, ◌∙◌, arith, append_assoc}
use Rattle.std.specs.Prelude.{codes}
use Rattle.std.specs.List.{flat_map}
use Rattle.std.proofs.lemmas.List.{append-nil}
use Rattle.script_generator.specs.Draws.{next_draw, after_draws}
use Rattle.script_generator.specs.Generator.{spaced_number, value_text, base_of, block, round_text, rounds, start_text, stream_script, stream_scripts, generated}

pub rounds_one : (left more stream round state : ℕ) → left ≡ more + 1 → rounds left stream round state ≡ round_text stream round state ++ rounds more stream (round + 1) (after_draws 7 state)
unfolding rounds
rounds_one left more stream round state is = ap (λ n. rounds n stream round state) {x = left} {y = suc more} (omega arith)

draws_add : (m n state : ℕ) → after_draws (m + n) state ≡ after_draws n (after_draws m state)
draws_add zero n state = ap (λ k. after_draws k state) {x = 0 + n} {y = n} (omega arith)
draws_add (suc m) n state = ap (λ k. after_draws k state) {x = suc m + n} {y = suc (m + n)} (omega arith) ∙ draws_add m n (next_draw state)

pub draws_one : (left more state : ℕ) → left ≡ more + 1 → after_draws (7 * left) state ≡ after_draws (7 * more) (after_draws 7 state)
draws_one left more state is = ap (λ n. after_draws n state) {x = 7 * left} {y = 7 + 7 * more} (omega arith) ∙ draws_add 7 (7 * more) state

-- one round written, the rest follows it
pub rounds_go : (out new all : List ℕ) (left more stream round state next : ℕ) → left ≡ more + 1 → new ≡ out ++ round_text stream round state → next ≡ after_draws 7 state
    → out ++ rounds left stream round state ≡ all → new ++ rounds more stream (round + 1) next ≡ all
rounds_go out new all left more stream round state next is written next_draw so_far =
    rw (written, next_draw) (let one = rounds_one left more stream round state is in let joined : (out ++ round_text stream round state) ++ rounds more stream (round + 1) (after_draws 7 state) ≡ out ++ rounds left stream round state = rw one (simp append_assoc) in joined ∙ so_far)

pub rounds_none : (out all : List ℕ) (left stream round state : ℕ) → left ≡ 0 → out ++ rounds left stream round state ≡ all → out ++ [] ≡ all
unfolding rounds
rounds_none out all left stream round state none so_far =
    let same : out ++ rounds left stream round state ≡ out ++ [] = ap (λ n. out ++ rounds n stream round state) none in
    sym same ∙ so_far

pieces : (out p q r s t u v w : List ℕ) → (((((((out ++ p) ++ q) ++ r) ++ s) ++ t) ++ u) ++ v) ++ w ≡ out ++ (p ++ q ++ r ++ s ++ t ++ u ++ v ++ w)
pieces out p q r s t u v w = simp append_assoc

-- the pieces of a round are its text
pub round_joined : (out a b c d e f g new : List ℕ) (stream round state uploaded : ℕ)
    → a ≡ out ++ codes "put"
    → b ≡ a ++ spaced_number (32 * (round % 2))
    → c ≡ b ++ flat_map value_text (block stream round state)
    → d ≡ c ++ codes "\nfill 0 0"
    → e ≡ d ++ value_text uploaded
    → f ≡ e ++ codes "\nflush"
    → g ≡ f ++ spaced_number (32 * (1 - round % 2))
    → new ≡ g ++ codes "\nfinish\n"
    → uploaded ≡ after_draws 7 state
    → new ≡ out ++ round_text stream round state
unfolding round_text
round_joined out a b c d e f g new stream round state uploaded first second third fourth fifth sixth seventh last behind =
    let other : spaced_number (32 * (1 - round % 2)) ≡ spaced_number (32 - base_of round) = ap spaced_number {x = 32 * (1 - round % 2)} {y = 32 - base_of round} (omega arith) in
    rw (last, seventh, sixth, fifth, fourth, third, second, first, other, behind) (pieces out (codes "put") (spaced_number (base_of round)) (flat_map value_text (block stream round state)) (codes "\nfill 0 0") (value_text (after_draws 7 state)) (codes "\nflush") (spaced_number (32 - base_of round)) (codes "\nfinish\n"))

low : 108 ∷ 111 ∷ 119 ∷ [] ≡ codes "low"
low = refl

normal : 110 ∷ 111 ∷ 114 ∷ 109 ∷ 97 ∷ 108 ∷ [] ≡ codes "normal"
normal = refl

high : 104 ∷ 105 ∷ 103 ∷ 104 ∷ [] ≡ codes "high"
high = refl

join : (h p q r s t u v w : List ℕ) → (((h ++ (p ++ q)) ++ (r ++ s)) ++ (t ++ u)) ++ (v ++ w) ≡ h ++ ((p ++ q) ++ ((r ++ s) ++ ((t ++ u) ++ ((v ++ w) ++ []))))
join h p q r s t u v w = simp (append_assoc, append-nil)

pub whole : (size seed s t u : ℕ) (a b c d e : List ℕ) → a ≡ codes "gpu-script 1\n" → b ≡ a ++ stream_script (108 ∷ 111 ∷ 119 ∷ []) size 1 seed → s ≡ after_draws (7 * size) seed
    → c ≡ b ++ stream_script (108 ∷ 111 ∷ 119 ∷ []) size 2 s → t ≡ after_draws (7 * size) s → d ≡ c ++ stream_script (110 ∷ 111 ∷ 114 ∷ 109 ∷ 97 ∷ 108 ∷ []) size 3 t → u ≡ after_draws (7 * size) t
    → e ≡ d ++ stream_script (104 ∷ 105 ∷ 103 ∷ 104 ∷ []) size 4 u → e ≡ generated size seed
unfolding generated stream_scripts
whole size seed s t u a b c d e head one after_one two after_two three after_three four =
    rw (four, three, two, one, head, low, normal, high, after_three, after_two, after_one) (join (codes "gpu-script 1\n") (start_text (codes "low") 1) (rounds size 1 1 seed) (start_text (codes "low") 2) (rounds size 2 1 (after_draws (7 * size) seed)) (start_text (codes "normal") 3) (rounds size 3 1 (after_draws (7 * size) (after_draws (7 * size) seed))) (start_text (codes "high") 4) (rounds size 4 1 (after_draws (7 * size) (after_draws (7 * size) (after_draws (7 * size) seed)))))
