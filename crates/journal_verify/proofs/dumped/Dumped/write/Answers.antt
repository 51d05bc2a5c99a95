use Rattle.std.proofs.Common.{◌≡◌, ◌<◌, Bool, false, true, cond, Some, length, get_or, set, refl, sym, ap, subst, ◌∙◌, arith}
use Rattle.std.proofs.lemmas.List.{get_or_default, length-set}
use Rattle.journal_verify.specs.Reached.{last_of}
use Rattle.journal_verify.specs.Dumped.{DumpedData, AreSmall, is_dumped_in, IsWrittenTo}
use Rattle.journal_verify.proofs.Reaching.{same_pair}
use Rattle.journal_verify.proofs.Replacing.{watched_within, written_to}
use Rattle.journal_verify.proofs.Small.{small_more}
use Rattle.journal_verify.proofs.dumped.Dumped.write.Goals as goal

pub returns : goal.returns
returns c =
    let inside = c.self.inside in
    let p = c.args.place in
    let old : DumpedData = record { is_dumped = inside.is_dumped.items; values = inside.values.items; left = inside.left.entries } in
    let new : DumpedData = record { is_dumped = inside.is_dumped.items; values = set inside.values.items p c.args.value; left = c.insert.new.self.entries } in
    let there : get_or old.is_dumped p false ≡ true = ap (λ (d : DumpedData). is_dumped_in d p) c.self.view_is ∙ sym c.has.ensures ∙ c.if-not-has.false in
    let low : p < length old.is_dumped = watched_within old.is_dumped p there in
    let lt : p < length old.values = omega (arith, low, c.self.invariant.0) in
    let last : c.index-last.result.now ≡ get_or old.values p 0 = c.index-last.ensures ∙ get_or_default inside.values.items p _ 0 lt in
    let is : IsWrittenTo p c.args.value c.args.finished old new = written_to p c.args.value c.index-last.result.now c.args.finished old new lt last refl refl (λ q w.
    c.in_ok-insert.ensures.updates.0 (q, w)
    ∙ ap (λ (b : Bool). cond b (Some c.args.finished) (last_of old.left q w)) (same_pair p c.index-last.result.now q w)) in
    subst (λ (d : DumpedData). IsWrittenTo p c.args.value c.args.finished d new) c.self.view_is is

pub invariant_of-self-2 : goal.invariant_of-self-2
invariant_of-self-2 c =
    let inside = c.self.inside in (
      length-set inside.values.items c.args.place c.args.value ∙ c.self.invariant.0,
      small_more c.args.place c.index-last.result.now c.args.finished inside.left.entries c.insert.new.self.entries (omega arith) c.self.invariant.1 (λ q w.
          c.in_ok-insert.ensures.updates.0 (q, w)
          ∙ ap (λ (b : Bool). cond b (Some c.args.finished) (last_of inside.left.entries q w)) (same_pair c.args.place c.index-last.result.now q w)),
    )

pub invariant_of-self : goal.invariant_of-self
invariant_of-self c = (c.self.invariant.0, subst AreSmall (sym c.in_err-insert.ensures.err) c.self.invariant.1)
