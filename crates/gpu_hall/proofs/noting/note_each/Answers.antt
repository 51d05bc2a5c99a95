use Rattle.std.proofs.Common.{◌≡◌, ◌-◌, ◌++◌, ◌∷◌, List, [], length, sym, ap, subst, ◌∙◌, arith, append_assoc}
use Rattle.std.proofs.lemmas.List.{append-nil}
use Rattle.std.specs.List.{All}
use Rattle.std.proofs.lemmas.List.Elements.{All-tail}
use Rattle.gpu_store.specs.declared.op.Op.{Op}
use Rattle.gpu_store.specs.Images.{HasItsTexels}
use Rattle.live_view.specs.Seen.{WriterData}
use Rattle.gpu_hall.proofs.Viewed.{noted_none, noted_more, none_of}
use Rattle.gpu_hall.proofs.noting.note_each.Goals as goal

pub loop-op-init : goal.loop-op-init
loop-op-init c =
    let is : c.args.ops.items ≡ c.into_iter-op-iterator.result.rest.items = cc in
    record { told = noted_none c.args.writer.now; room = rw is at c.requires.room; texels = rw is at c.requires.texels; all = is }

pub loop-op-preserved : goal.loop-op-preserved
loop-op-preserved c =
    let old = c.loop-op.writer in
    let op = c.in-Some.op in
    let rest = c.next.new.self.rest.items in
    let left : c.loop-op.op-iterator.rest.items ≡ op ∷ rest = c.in-Some.ensures.steps.0 in
    let told = noted_more c.args.writer.now old c.note.new.self c.loop-op.yielded op (old.spare - 1) c.loop-op.invariant.told c.note.ensures in
    record {
      told = told;
      room = (let room = c.loop-op.invariant.room in let more = ap length left in let less : c.note.new.self.spare ≡ old.spare - 1 = ap (λ (w : WriterData). w.spare) c.note.ensures in omega (arith, room, more, less));
      texels = All-tail HasItsTexels op rest (subst (All HasItsTexels) left c.loop-op.invariant.texels);
      all = c.loop-op.invariant.all ∙ ap (λ (l : List Op). c.loop-op.yielded ++ l) left ∙ sym (append_assoc c.loop-op.yielded (op ∷ []) rest);
    }

pub returns : goal.returns
returns c =
    let rest = c.loop-op.op-iterator.rest.items in
    let none : rest ≡ [] = none_of rest (omega (arith, c.in-None.ensures.steps.0)) in
    let all : c.loop-op.yielded ≡ c.args.ops.items = sym (c.loop-op.invariant.all ∙ ap (λ (l : List Op). c.loop-op.yielded ++ l) none ∙ append-nil c.loop-op.yielded) in
    c.loop-op.invariant.told ∙ ap (λ (l : List Op). record c.args.writer.now { noted = c.args.writer.now.noted ++ l; spare = c.loop-op.writer.spare }) all
