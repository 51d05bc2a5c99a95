-- Each goal is a lemma of Members on the commands that were fetched so far.
use Rattle.std.proofs.Common.{◌≡◌, ◌-◌, inl, inr, List, ℕ, length, refl, sym, ap, subst, ◌∙◌, arith}
use Rattle.std.specs.Prelude.{slice_range}
use Rattle.std.proofs.lemmas.Result.{MatchResult-from_err}
use Rattle.gpu_cmd.specs.Copied.{IsCopy}
use Rattle.gpu_fetch.specs.declared.fetched_part.FetchedPart.{FetchedPart}
use Rattle.gpu_fetch.specs.Fetched.{items_since}
use Rattle.gpu_fetch.specs.Parts.{words_of_parts, parts_of}
use Rattle.gpu_fetch.proofs.Parts.{added_read}
use Rattle.gpu_house.specs.Batches.{EndsExactly}
use Rattle.gpu_house.proofs.Members.{Gathered, gathered_none, gathered_part, gathered_lost, IsOneMore, parts_whole, parts_copies, parts_chained, parts_fetched, parts_longer, parts_go_on, parts_end}
use Rattle.gpu_house.proofs.batch.Batch.fetch.Given.{Over}
use Rattle.gpu_house.proofs.batch.Batch.fetch.Goals as goal
use Rattle.gpu_house.proofs.batch.Batch.fetch.Goals.{After-deref, In_default, in_default-via-in-Some+else-len-lt-MOST_MEMBERS, in_default-via-in_default}

-- ---- once a command is added after the others

module _ (g : Over) (c : goal.After-deref g) where
  -- the words of the others, and those of the command after them
  abbrev list : List (ℕ × ℕ)
  list = c.loop-parts.list.items

  abbrev longer : List (ℕ × ℕ)
  longer = c.fetch_onto.new.list.items

  abbrev part : FetchedPart
  part = record { count = c.len.result - c.len-from.result; verdict = c.in_ok-verdict.verdict; facts = c.of.result }

  more : IsOneMore (g.P.ServiceSide.shows c.args.words.now) (g.P.ServiceSide.side c.args.side.now) (g.P.ServiceSide.side c.loop-parts.side) (g.P.ServiceSide.side c.fetch_onto.new.side) c.args.facts.now c.loop-parts.next list longer c.loop-parts.parts.items c.push.new.self.items part
  more = record {
    were = c.loop-parts.invariant.gathered;
    full = c.loop-parts.invariant.full;
    fetched = c.in_ok-verdict.ensures.fetches;
    facts = c.of.ensures;
    pushed = c.in_ok-push.ensures.items;
    counted = omega (arith, c.len-from.ensures);
  }

  -- its words, as they are read
  read : slice_range c.deref.result.now c.len-from.result (length c.deref.result.now) ≡ items_since list longer
  read = added_read list c.deref.result.now longer c.len-from.result c.deref.ensures.value (omega (arith, c.len-from.ensures))

pub facts_behind-requires-clause-copy : goal.facts_behind-requires-clause-copy
facts_behind-requires-clause-copy g c =
    let told = (goal.at.facts_behind-requires-clause-copy g c).After-deref in
    subst (λ (l : List (ℕ × ℕ)). IsCopy l c.loop-parts.next c.in_ok-verdict.verdict) (sym (read g told)) c.in_ok-verdict.ensures.fetches.copy

pub loop-parts-init : goal.loop-parts-init
loop-parts-init g c =
    let S = g.P.ServiceSide.shows c.args.words.now in
    let old = g.P.ServiceSide.side c.args.side.now in
    let facts = c.args.facts.now in
    let none = c.new-parts.ensures.items in
    record {
      full = ap words_of_parts none ∙ ap length (sym c.new-list.ensures.items);
      gathered = subst (Gathered S old old facts facts) (ap (parts_of c.new-list.result.items) (sym none)) (gathered_none S old facts c.requires.lawful c.requires.more c.requires.areas);
      still = record { beside = c.requires.belongs; notes = λ n b. b };
      table = refl;
    }

pub loop-parts-preserved : goal.loop-parts-preserved
loop-parts-preserved g c =
    let told = (goal.at.loop-parts-preserved g c).After-deref in
    let was = c.loop-parts.invariant in
    let e = c.in_ok-verdict.ensures in
    let some = c.in-Some.ensures in
    record {
      full = parts_whole (more g told);
      gathered = parts_go_on (more g told) (read g told) c.in-Some.facts some.some some.lawful some.more some.goes_on (omega (arith, c.len.ensures));
      still = record { beside = e.still.beside; notes = λ n b. e.still.notes n (was.still.notes n b) };
      table = e.table ∙ was.table;
    }

-- ---- it is not fetched whole, or no room is found for it

pub returns-in_err-verdict-clause-some : goal.returns-in_err-verdict-clause-some
returns-in_err-verdict-clause-some g c =
    let here = gathered_part c.loop-parts.invariant.gathered (g.P.ServiceSide.side c.fetch_onto.new.side) c.in_err-verdict.ensures.some in
    MatchResult-from_err c.from_residual.result _ _ c.from_residual.ensures.0 (λ _. here)

pub returns-in_err-push-clause-some : goal.returns-in_err-push-clause-some
returns-in_err-push-clause-some g c =
    let e = c.in_ok-verdict.ensures.fetches in
    let words = items_since c.loop-parts.list.items c.fetch_onto.new.list.items in
    let here = gathered_lost c.loop-parts.invariant.gathered (g.P.ServiceSide.side c.fetch_onto.new.side) record { words = words; verdict = c.in_ok-verdict.verdict; facts = c.loop-parts.next } record { facts = refl; fetches = e.fetches; copy = e.copy } in
    MatchResult-from_err c.from_residual-in_err-push.result _ _ c.from_residual-in_err-push.ensures.0 (λ _. here)

-- ---- where the batch ends

end : (g : Over) (c : goal.In_default g) → EndsExactly (parts_of c.fetch_onto.new.list.items c.push.new.self.items)
end g c =
    let told = (goal.at.In_default g c).After-deref in
    parts_end (more g told) (read g told)
    (elim c.in_default.branch [
      | in_default-via-in-Some+else-len-lt-MOST_MEMBERS w ↦ inr (let few = c.loop-parts.invariant.gathered.few in let long = parts_longer (more g told) in omega (arith, few, long, w.len-in-Some-1.ensures, w.if-len-lt-MOST_MEMBERS.false))
      | in_default-via-in_default w ↦ inl w.in_default.ensures.none
    ])

pub invariant_of-result : goal.invariant_of-result
invariant_of-result g c =
    let told = (goal.at.invariant_of-result g c).After-deref in
    (parts_whole (more g told), end g c, parts_copies (more g told))

pub returns-in_default-clause-chained : goal.returns-in_default-clause-chained
returns-in_default-clause-chained g c = parts_chained (more g (goal.at.returns-in_default-clause-chained g c).After-deref)

pub returns-in_default-clause-copies : goal.returns-in_default-clause-copies
returns-in_default-clause-copies g c = parts_copies (more g (goal.at.returns-in_default-clause-copies g c).After-deref)

pub returns-in_default-clause-end : goal.returns-in_default-clause-end
returns-in_default-clause-end g c = end g c

pub returns-in_default-clause-fetches : goal.returns-in_default-clause-fetches
returns-in_default-clause-fetches g c = parts_fetched (more g (goal.at.returns-in_default-clause-fetches g c).After-deref)
