use Rattle.std.proofs.Common.{◌≡◌, ◌^◌, ◌<◌, ◌≤◌, List, ℕ, Some, length, take, inl, sym, subst, ap, ◌∙◌, arith}
use Rattle.std.proofs.lemmas.Bool.Decides.{nat_tests}
use Rattle.std.proofs.lemmas.List.{take_all}
use Rattle.verify_input.proofs.Numbers.{no_value_empty, no_value_long, IsWorth, no_digits, worth_more, worth_most, worth_room, worth_told, worth_over}
use Rattle.verify_input.proofs.number.own_value.Goals as goal
use Rattle.verify_input.proofs.number.own_value.Goals.{then-is_empty-via-then-is_empty, then-is_empty-via-else-is_empty+then-word-gt8}

pub returns-then-is_empty : goal.returns-then-is_empty
returns-then-is_empty c = elim c.then-is_empty.branch [
  | then-is_empty-via-then-is_empty w ↦
      (let e = c.is_empty.ensures in let t = w.if-is_empty.true in
      let none : length c.args.word.now ≡ 0 = grind (arith, nat_tests) in
      sym (no_value_empty c.args.word.now none))
  | then-is_empty-via-else-is_empty+then-word-gt8 w ↦ sym (no_value_long c.args.word.now w.if-word-gt8.true)
]

pub loop-byte-init : goal.loop-byte-init
loop-byte-init c = record { worth = inl no_digits; most = omega arith }

pub overflow_mul-value : goal.overflow_mul-value
overflow_mul-value c =
    let small = worth_room c.loop-byte.value c.loop-byte.byte-index (omega arith) c.loop-byte.invariant.most in
    omega arith

pub overflow_add-value : goal.overflow_add-value
overflow_add-value c =
    let small = worth_room c.loop-byte.value c.loop-byte.byte-index (omega arith) c.loop-byte.invariant.most in
    let few = c.worth.ensures.most in
    omega arith

pub loop-byte-preserved : goal.loop-byte-preserved
loop-byte-preserved c = record {
  worth = worth_more c.args.word.now c.loop-byte.value c.loop-byte.byte-index c.worth.result c.loop-byte-test.true c.worth.ensures.digit c.worth.ensures.none c.loop-byte.invariant.worth;
  most = worth_most c.loop-byte.value c.loop-byte.byte-index c.worth.result c.worth.ensures.most c.loop-byte.invariant.most;
}

whole : (word : List ℕ) (index value : ℕ) → length word ≤ index → IsWorth word (take index word) value → IsWorth word word value
whole word index value end worth = subst (λ (front : List ℕ). IsWorth word front value) (take_all index word end) worth

pub returns-then-value-from : goal.returns-then-value-from
returns-then-value-from c =
    let word = c.args.word.now in
    let worth = whole word c.loop-byte.byte-index c.loop-byte.value (omega arith) c.loop-byte.invariant.worth in
    let high : 2 ^ 32 ≤ c.loop-byte.value = omega arith in
    worth_over word c.loop-byte.value c.if-word-gt8.false worth high

pub returns : goal.returns
returns c =
    let word = c.args.word.now in
    let e = c.is_empty.ensures in
    let t = c.if-is_empty.false in
    let worth = whole word c.loop-byte.byte-index c.loop-byte.value (omega arith) c.loop-byte.invariant.worth in
    let low : c.loop-byte.value < 2 ^ 32 = omega arith in
    ap Some {y = c.loop-byte.value} (omega arith) ∙ worth_told word c.loop-byte.value (grind (arith, nat_tests)) c.if-word-gt8.false worth low
