use Rattle.std.proofs.Common.{◌≡◌, ◌-◌, ◌<◌, ℕ, Option, Some, Bool, true, false, cond, eqb, ltb, length, get_or, refl, sym, ap, subst, ◌∙◌, arith}
use Rattle.std.specs.Prelude.{◌&&◌}
use Rattle.std.proofs.lemmas.Bool.{lt-ltb}
use Rattle.std.proofs.lemmas.List.{get_or_default}
use Rattle.journal_verify.specs.Reached.{Reached, last_of, older_with, IsPutKept}
use Rattle.journal_verify.proofs.Reaching.{same_pair}
use Rattle.journal_verify.proofs.reach.Reach.keep.Goals as goal

and_true : (b c : Bool) → c ≡ true → b ≡ (b && c)
and_true true c e = sym e
and_true false c e = refl

-- the record of a pair once the last put at a place is kept beside it
with_last : (done p place value last end : ℕ) (o : Option ℕ) (old : Reached) → last ≡ get_or old.values p 0 → end ≡ get_or old.ends p 0 → done < end → o ≡ last_of old.older place value
    → cond (eqb p place && eqb last value) (Some (end - 1)) o ≡ older_with done p old place value
with_last done p place value last end o old el ee less eo =
    let test = and_true (eqb p place && eqb (get_or old.values p 0) value) (ltb done (get_or old.ends p 0)) (lt-ltb _ _ (subst (λ n. done < n) ee less)) in
    (λ i. cond (eqb p place && eqb (el i) value) (Some (ee i - 1)) (eo i)) ∙ ap (λ (b : Bool). cond b (Some (get_or old.ends p 0 - 1)) (last_of old.older place value)) test

pub returns-in_ok-insert : goal.returns-in_ok-insert
returns-in_ok-insert c =
    let inside = c.self.inside in
    let old : Reached = record { upto = inside.upto; behind = inside.behind; values = inside.values.items; ends = inside.ends.items; older = inside.older.entries } in
    let new : Reached = record { upto = inside.upto; behind = inside.behind; values = inside.values.items; ends = inside.ends.items; older = c.insert.new.self.entries } in
    let many : length inside.values.items ≡ length c.args.self.now.values = ap (λ (r : Reached). length r.values) c.self.view_is in
    let valued : c.args.place < length inside.values.items = omega (arith, c.requires.valued) in
    let more : length inside.ends.items ≡ length c.args.self.now.ends = ap (λ (r : Reached). length r.ends) c.self.view_is in
    let ended : c.args.place < length inside.ends.items = omega (arith, c.requires.there) in
    let last : c.index-value.result.now ≡ get_or inside.values.items c.args.place 0 = c.index-value.ensures ∙ get_or_default inside.values.items c.args.place _ 0 valued in
    let end : c.index-end.result.now ≡ get_or inside.ends.items c.args.place 0 = c.index-end.ensures ∙ get_or_default inside.ends.items c.args.place _ 0 ended in
    let kept : IsPutKept c.args.done c.args.place old new = record {
      upto = refl;
      behind = refl;
      values = refl;
      ends = refl;
      older = λ place value. c.in_ok-insert.ensures.updates.0 (place, value)
          ∙ ap (λ (b : Bool). cond b (Some (c.index-end.result.now - 1)) (last_of old.older place value)) (same_pair c.args.place c.index-value.result.now place value)
          ∙ with_last c.args.done c.args.place place value c.index-value.result.now c.index-end.result.now (last_of old.older place value) old last end c.if-end-done.true refl;
    } in
    subst (λ (old : Reached). IsPutKept c.args.done c.args.place old new) c.self.view_is kept
