use Rattle.std.proofs.Common.{List, ℕ}
use Rattle.std.proofs.lemmas.Result.{err_from_is_err_and}
use Rattle.gpu_cmd.specs.declared.name.Name.{Name}
use Rattle.script_lines.specs.Text.{words_of}
use Rattle.script_lines.specs.Mentioned.{mentioned_by}
use Rattle.script_lines.proofs.Mentions.{named_fails, mention_goes, mention_done, mention_named}
use Rattle.script_lines.proofs.Triples.{goes_on, ends_fence, one_left, two_left, is_done}
use Rattle.script_lines.proofs.fences.triples_of.Goals as goal

pub returns-in-None-clause-said : goal.returns-in-None-clause-said
returns-in-None-clause-said c = is_done (mentioned_by c.args.names.now (words_of c.args.words.rest.now)) c.loop-fences.fences.items (words_of c.loop-fences.words.rest.now) _ c.in-None.ensures.steps.0 c.loop-fences.invariant.said

pub returns-in-None-clause-names : goal.returns-in-None-clause-names
returns-in-None-clause-names c = mention_done c.loop-fences.names (words_of c.loop-fences.words.rest.now) _ c.in-None.ensures.steps.0 c.loop-fences.invariant.mentioned

pub returns-in-None-next-clause-said : goal.returns-in-None-next-clause-said
returns-in-None-next-clause-said c = one_left (mentioned_by c.args.names.now (words_of c.args.words.rest.now)) c.loop-fences.fences.items (words_of c.loop-fences.words.rest.now) (words_of c.next.new.self.rest.now) c.in-Some.n.now _ c.in-Some.ensures.steps c.in-None-next.ensures.steps.0 c.loop-fences.invariant.said

pub returns-in-None-next-2-clause-said : goal.returns-in-None-next-2-clause-said
returns-in-None-next-2-clause-said c = two_left (mentioned_by c.args.names.now (words_of c.args.words.rest.now)) c.loop-fences.fences.items (words_of c.loop-fences.words.rest.now) (words_of c.next.new.self.rest.now) (words_of c.next-in-Some.new.self.rest.now) c.in-Some.n.now c.in-Some-next.i.now _ c.in-Some.ensures.steps c.in-Some-next.ensures.steps c.in-None-next-2.ensures.steps.0 c.loop-fences.invariant.said

pub returns-in_err-name-in-Some-next-2-clause-said : goal.returns-in_err-name-in-Some-next-2-clause-said
returns-in_err-name-in-Some-next-2-clause-said c =
    let p = err_from_is_err_and c.from_residual-in_err-name-in-Some-next-2.result c.from_residual-in_err-name-in-Some-next-2.ensures.1 in
    let e = c.in_err-name-in-Some-next-2.field-0.0 in
    let names : List Name = mentioned_by c.args.names.now (words_of c.args.words.rest.now) in
    let fails = named_fails e names c.in-Some.n.now c.in-Some-next.i.now c.in-Some-next-2.r.now c.in_err-name-in-Some-next-2.ensures in
    rw (p.1, p.2) (ends_fence names c.loop-fences.fences.items e (words_of c.loop-fences.words.rest.now) (words_of c.next.new.self.rest.now) (words_of c.next-in-Some.new.self.rest.now) (words_of c.next-in-Some-next.new.self.rest.now) c.in-Some.n.now c.in-Some-next.i.now c.in-Some-next-2.r.now _ c.in-Some.ensures.steps c.in-Some-next.ensures.steps c.in-Some-next-2.ensures.steps fails c.loop-fences.invariant.said)

pub loop-fences-preserved : goal.loop-fences-preserved
loop-fences-preserved c =
    let names : List Name = mentioned_by c.args.names.now (words_of c.args.words.rest.now) in
    let all = words_of c.loop-fences.words.rest.now in
    let mid = words_of c.next.new.self.rest.now in
    let last = words_of c.next-in-Some.new.self.rest.now in
    let rest = words_of c.next-in-Some-next.new.self.rest.now in
    let n = c.in-Some.n.now in
    let i = c.in-Some-next.i.now in
    let r = c.in-Some-next-2.r.now in
    let said : Name × ℕ = (c.in_ok-name-in-Some-next-2.name, c.in_ok-name-in-Some-next-2.release) in
    let number = c.in_ok-number-in-Some-next-2.number in
    let new = c.in_ok-number-in-Some-next-2.ensures.names in
    let goes = mention_goes c.loop-fences.names c.mention.new.self all mid last rest n i r said names c.in-Some.ensures.steps c.in-Some-next.ensures.steps c.in-Some-next-2.ensures.steps c.in_ok-name-in-Some-next-2.ensures new c.loop-fences.invariant.mentioned in
    let named = mention_named c.loop-fences.names c.mention.new.self names rest n i r said number c.in_ok-name-in-Some-next-2.ensures new c.in_ok-number-in-Some-next-2.ensures.number goes in
    record {
      said = rw c.in_ok-push-in-Some-next-2.ensures.items (goes_on names c.loop-fences.fences.items all mid last rest n i r (number, c.in_ok-name-in-Some-next-2.release) _ c.in-Some.ensures.steps c.in-Some-next.ensures.steps c.in-Some-next-2.ensures.steps named c.loop-fences.invariant.said);
      mentioned = goes;
    }
