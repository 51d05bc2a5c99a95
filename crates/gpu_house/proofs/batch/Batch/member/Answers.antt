-- The command at the index is cut from the list.
use Rattle.std.proofs.Common.{◌+◌, ◌-◌, take, drop, sym, ◌∙◌, rules, arith}
use Rattle.gpu_fetch.specs.Fetched.{IsFetched}
use Rattle.gpu_house.proofs.Cuts.{parts_seen, cut_ends, cut_read, cut_fetched}
use Rattle.gpu_house.proofs.batch.Batch.member.Goals as goal

pub index-part-requires : goal.index-part-requires
index-part-requires c =
    let many = parts_seen c.self.inside.list.items c.self.inside.parts.items c.args.self.now c.self.view_is in
    omega (arith, c.requires.within, many, c.self.inside.parts.ok.0)

pub overflow_add-words : goal.overflow_add-words
overflow_add-words c =
    let ends = cut_ends c.self.inside.list.items c.self.inside.parts.items c.args.self.now c.self.view_is c.args.index c.args.from c.index-part.result.now c.deref.result.now c.self.invariant.0 c.requires.within c.requires.from c.index-part.ensures c.deref.ensures.value in
    search rules

pub offset_bounds-deref-from : goal.offset_bounds-deref-from
offset_bounds-deref-from c =
    let ends = cut_ends c.self.inside.list.items c.self.inside.parts.items c.args.self.now c.self.view_is c.args.index c.args.from c.index-part.result.now c.deref.result.now c.self.invariant.0 c.requires.within c.requires.from c.index-part.ensures c.deref.ensures.value in
    search rules

pub slice_bounds-words-end : goal.slice_bounds-words-end
slice_bounds-words-end c =
    let ends = cut_ends c.self.inside.list.items c.self.inside.parts.items c.args.self.now c.self.view_is c.args.index c.args.from c.index-part.result.now c.deref.result.now c.self.invariant.0 c.requires.within c.requires.from c.index-part.ensures c.deref.ensures.value in
    search rules

found : (c : goal.After-words-1) → IsFetched record { words = take (c.args.from + c.index-part.result.now.count - c.args.from) (drop c.args.from c.deref.result.now); verdict = c.index-part.result.now.verdict; facts = c.index-part.result.now.facts.value }
found c =
    cut_fetched c.self.inside.list.items c.self.inside.parts.items c.args.self.now c.self.view_is c.args.index c.args.from c.index-part.result.now c.deref.result.now c.self.invariant.0 c.requires.within c.requires.from c.index-part.ensures c.deref.ensures.value
    c.self.invariant.2

pub of-requires-clause-lawful : goal.of-requires-clause-lawful
of-requires-clause-lawful c = (found c).lawful

pub of-requires-clause-more : goal.of-requires-clause-more
of-requires-clause-more c = (found c).more

pub of-requires-clause-copy : goal.of-requires-clause-copy
of-requires-clause-copy c = (found c).copy

pub returns-clause-is : goal.returns-clause-is
returns-clause-is c =
    c.of.ensures.is ∙ sym (cut_read c.self.inside.list.items c.self.inside.parts.items c.args.self.now c.self.view_is c.args.index c.args.from c.index-part.result.now c.deref.result.now c.self.invariant.0 c.requires.within c.requires.from c.index-part.ensures c.deref.ensures.value
    c.of.result)
