-- The rounds of a stream are taken up, whatever was drawn.
use Rattle.std.proofs.Common.{◌≡◌, ℕ, zero, suc, ◌+◌, ◌-◌, ◌*◌, ◌%◌, ◌≤◌, ◌<◌, ◌^◌, true, List, refl, sym, subst, arith}
use Rattle.std.specs.List.{list_all}
use Rattle.std.proofs.lemmas.Bool.{lt-ltb}
use Rattle.gpu_cmd.specs.declared.priority.Priority.{Priority}
use Rattle.gpu_plan.specs.declared.plan.Action.{Action}
use Rattle.gpu_plan.specs.Plans.{PlanData}
use Rattle.script_generator.specs.Draws.{next_draw, after_draws, below}
use Rattle.script_generator.specs.Generator.{base_of, block, round_text, rounds}
use Rattle.script_laws.proofs.Values.{is_small}
use Rattle.script_laws.proofs.Lines.{at_work, is_open}
use Rattle.script_laws.proofs.RoundTexts.{round_is}
use Rattle.script_laws.proofs.Works.{Works, Said, zero_said, half_said, works_on, widened, round_works}

-- ---- what a round says

pub drawn_small : (state : ℕ) → next_draw state < 2 ^ 32
drawn_small state = omega arith

stream_small : (draw : ℕ) → is_small (1 + below 4 draw) ≡ true
stream_small draw = lt-ltb (1 + below 4 draw) (2 ^ 32) (omega arith)

place_small : (draw : ℕ) → is_small (below 16 draw) ≡ true
place_small draw = lt-ltb (below 16 draw) (2 ^ 32) (omega arith)

pub block_small : (stream round state : ℕ) → stream ≤ 4 → round ≤ 2000 → list_all is_small (block stream round state) ≡ true
block_small stream round state s r =
    let number : (n : ℕ) → n ≤ 2000 → is_small n ≡ true = λ n small. lt-ltb n (2 ^ 32) (omega arith) in
    rw (number stream (omega arith), number round r, stream_small (after_draws 1 state), place_small (after_draws 2 state), place_small (after_draws 3 state), lt-ltb _ _ (drawn_small (after_draws 3 state)), place_small (after_draws 5 state), place_small (after_draws 6 state)) refl

pub by_parity : (P : ℕ → Type 0) → P 0 → P 1 → (n : ℕ) → n < 2 → P n
by_parity P even odd zero small = even
by_parity P even odd (suc zero) small = odd
by_parity P even odd (suc (suc n)) small = absurd (omega arith)

base_said : (round : ℕ) → Said (base_of round)
base_said round = by_parity (λ n. Said (32 * n)) zero_said half_said (round % 2) (omega arith)

left_said : (round : ℕ) → Said (32 - base_of round)
left_said round = by_parity (λ n. Said (32 - 32 * n)) half_said zero_said (round % 2) (omega arith)

-- ---- rounds

module _ (done : List PlanData) (stream : ℕ) (priority : Priority) (known : stream ≤ 4) where
  one_round : (round state : ℕ) → round ≤ 2000 → (actions : List Action) (count flushes : ℕ) → is_open actions → count + 35 ≤ 1000000 → flushes + 1 ≤ 100000
      → Works done stream priority (at_work done stream priority actions count flushes) (round_text stream round state) (count + 35) (flushes + 1)
  unfolding round_text
  one_round round state r actions count flushes lasts few fewer =
      subst (λ text. Works done stream priority (at_work done stream priority actions count flushes) text (count + 35) (flushes + 1)) (sym (round_is round (block stream round state) (after_draws 7 state)))
      (round_works done stream priority (base_of round) (block stream round state) (after_draws 7 state) (base_said round) (left_said round) (omega arith) refl (block_small stream round state known r) (drawn_small (after_draws 6 state)) actions count flushes lasts few fewer)

  pub all_rounds : (size round state : ℕ) → round + size ≤ 2001 → (actions : List Action) (count flushes : ℕ) → is_open actions → count + 35 * size ≤ 1000000 → flushes + size ≤ 100000
      → Works done stream priority (at_work done stream priority actions count flushes) (rounds size stream round state) (count + 35 * size) (flushes + size)
  unfolding rounds
  all_rounds zero round state within actions count flushes lasts few fewer = record {
    actions = actions;
    count = count;
    flushes = flushes;
    lasts = lasts;
    few = omega arith;
    fewer = omega arith;
    takes = λ n rest. (n, refl);
  }
  all_rounds (suc more) round state within actions count flushes lasts few fewer =
      works_on done stream priority (at_work done stream priority actions count flushes) (round_text stream round state) (rounds more stream (round + 1) (after_draws 7 state)) (count + 35) (flushes + 1) (count + 35 * suc more) (flushes + suc more)
      (one_round round state (omega arith) actions count flushes lasts (omega arith) (omega arith))
      (λ actions₁ count₁ flushes₁ lasts₁ few₁ fewer₁. widened done stream priority (all_rounds more (round + 1) (after_draws 7 state) (omega arith) actions₁ count₁ flushes₁ lasts₁ (omega arith) (omega arith)) (omega arith) (omega arith))
