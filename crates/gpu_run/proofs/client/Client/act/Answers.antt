use Rattle.std.proofs.Common.{◌≡◌, ℕ, ◌+◌, ◌≤◌, [], ◌∷◌, length, sym, ap, subst, ◌∙◌, arith, IsTrue}
use Rattle.gpu_plan.specs.Passes.{flush_count, passes}
use Rattle.gpu_fetch.specs.Side.{SideData}
use Rattle.gpu_fetch.specs.Plain.{PlainData, IsFlush, IsAwait, IsBeside, IsNoteBeside, one_further}
use Rattle.gpu_run.specs.Clients.{RunClientData}
use Rattle.gpu_run.proofs.NextAction.{found_in, is_await, await_quiet, next_is, counted_on, counts_fit, flushes_quiet}
use Rattle.gpu_run.proofs.client.Client.act.Goals as goal

pub invariant_of-self : goal.invariant_of-self
invariant_of-self c =
    let f = found_in _ c.args.self.now c.args.plan.now c.actions.result.now c.self.inside.position c.args.finishes (c.args.token ∷ []) c.index-actions-self.result c.self.view_is c.requires.plan c.actions.ensures.value c.self.invariant.place c.requires.passes c.index-actions-self.is in
    let none = ap flush_count c.in-Put.is in
    counted_on c.self.inside.words c.put.new.self c.args.plan.now c.self.inside.position c.self.inside.flushed c.self.inside.flushed c.index-actions-self.result f.same f.here c.put.ensures.done (omega (arith, none)) c.self.invariant

pub overflow_add-self-in-Flush : goal.overflow_add-self-in-Flush
overflow_add-self-in-Flush c =
    let f = found_in _ c.args.self.now c.args.plan.now c.actions.result.now c.self.inside.position c.args.finishes (c.args.token ∷ []) c.index-actions-self.result c.self.view_is c.requires.plan c.actions.ensures.value c.self.invariant.place c.requires.passes c.index-actions-self.is in
    let few = counts_fit c.self.inside.words c.args.plan.now c.self.inside.position c.self.inside.flushed c.index-actions-self.result f.same f.here c.self.invariant in
    let listed = ap (λ l. length l) c.actions.ensures.value in
    let most = c.actions.ensures.lawful.few in
    omega (arith, few, listed, most)

pub flush-requires-clause-next : goal.flush-requires-clause-next
flush-requires-clause-next c =
    let f = found_in _ c.args.self.now c.args.plan.now c.actions.result.now c.self.inside.position c.args.finishes (c.args.token ∷ []) c.index-actions-self.result c.self.view_is c.requires.plan c.actions.ensures.value c.self.invariant.place c.requires.passes c.index-actions-self.is in
    next_is IsFlush c.args.plan.now.actions c.self.inside.words.done c.index-actions-self.result f.here (subst IsFlush (sym c.in-Flush.is) tt)

pub invariant_of-self-in-Flush : goal.invariant_of-self-in-Flush
invariant_of-self-in-Flush c =
    let f = found_in _ c.args.self.now c.args.plan.now c.actions.result.now c.self.inside.position c.args.finishes (c.args.token ∷ []) c.index-actions-self.result c.self.view_is c.requires.plan c.actions.ensures.value c.self.invariant.place c.requires.passes c.index-actions-self.is in
    let one = ap flush_count c.in-Flush.is in
    counted_on c.self.inside.words c.flush.new.self c.args.plan.now c.self.inside.position c.self.inside.flushed (c.self.inside.flushed + 1) c.index-actions-self.result f.same f.here c.flush.ensures.done (omega (arith, one)) c.self.invariant

pub pass-requires : goal.pass-requires
pass-requires c =
    let f = found_in _ c.args.self.now c.args.plan.now c.actions.result.now c.self.inside.position c.args.finishes (c.args.token ∷ []) c.index-actions-self.result c.self.view_is c.requires.plan c.actions.ensures.value c.self.invariant.place c.requires.passes c.index-actions-self.is in
    let await = is_await _ c.args.finishes (c.args.token ∷ []) c.index-actions-self.result f.passing c.in_default.not-Put c.in_default.not-Flush in
    record {
      plan = f.same;
      next = next_is IsAwait c.args.plan.now.actions c.self.inside.words.done c.index-actions-self.result f.here await;
      passes = subst (λ (x : RunClientData). IsTrue (passes c.args.plan.now.actions x.words.done c.args.finishes (c.args.token ∷ []))) (sym c.self.view_is) c.requires.passes;
    }

pub invariant_of-self-in_default : goal.invariant_of-self-in_default
invariant_of-self-in_default c =
    let f = found_in _ c.args.self.now c.args.plan.now c.actions.result.now c.self.inside.position c.args.finishes (c.args.token ∷ []) c.index-actions-self.result c.self.view_is c.requires.plan c.actions.ensures.value c.self.invariant.place c.requires.passes c.index-actions-self.is in
    let none = await_quiet c.index-actions-self.result (is_await _ c.args.finishes (c.args.token ∷ []) c.index-actions-self.result f.passing c.in_default.not-Put c.in_default.not-Flush) in
    counted_on c.self.inside.words c.pass.new.self c.args.plan.now c.self.inside.position c.self.inside.flushed c.self.inside.flushed c.index-actions-self.result f.same f.here c.pass.ensures.done (omega (arith, none)) c.self.invariant

pub returns-in-Put-clause-quiet : goal.returns-in-Put-clause-quiet
returns-in-Put-clause-quiet c =
    let f = found_in _ c.args.self.now c.args.plan.now c.actions.result.now c.self.inside.position c.args.finishes (c.args.token ∷ []) c.index-actions-self.result c.self.view_is c.requires.plan c.actions.ensures.value c.self.invariant.place c.requires.passes c.index-actions-self.is in
    flushes_quiet c.args.plan.now c.args.self.now.words.done c.index-actions-self.result f.there (ap flush_count c.in-Put.is)

pub returns-in-Flush-clause-flush : goal.returns-in-Flush-clause-flush
returns-in-Flush-clause-flush c =
    let f = found_in _ c.args.self.now c.args.plan.now c.actions.result.now c.self.inside.position c.args.finishes (c.args.token ∷ []) c.index-actions-self.result c.self.view_is c.requires.plan c.actions.ensures.value c.self.invariant.place c.requires.passes c.index-actions-self.is in
    next_is IsFlush c.args.plan.now.actions c.args.self.now.words.done c.index-actions-self.result f.there (subst IsFlush (sym c.in-Flush.is) tt)

pub returns-in_default : goal.returns-in_default
returns-in_default c =
    let f = found_in _ c.args.self.now c.args.plan.now c.actions.result.now c.self.inside.position c.args.finishes (c.args.token ∷ []) c.index-actions-self.result c.self.view_is c.requires.plan c.actions.ensures.value c.self.invariant.place c.requires.passes c.index-actions-self.is in
    let await = is_await _ c.args.finishes (c.args.token ∷ []) c.index-actions-self.result f.passing c.in_default.not-Put c.in_default.not-Flush in
    let words : c.self.inside.words ≡ c.args.self.now.words = ap (λ (x : RunClientData). x.words) c.self.view_is in
    record {
      words = c.pass.ensures.done ∙ ap one_further words;
      read = ap (λ (x : RunClientData). x.read) c.self.view_is;
      beside = subst (λ (w : PlainData). (side : SideData) → c.args.finishes ≤ side.finished → c.args.token ≤ side.greatest → IsBeside side w → IsBeside side c.pass.new.self) words c.pass.ensures.beside;
      notes = subst (λ (w : PlainData). (side : SideData) (mark : ℕ) → c.args.finishes ≤ side.finished → c.args.token ≤ side.greatest → IsNoteBeside side w mark → IsNoteBeside side c.pass.new.self mark) words c.pass.ensures.notes;
      quiet = flushes_quiet c.args.plan.now c.args.self.now.words.done c.index-actions-self.result f.there (await_quiet c.index-actions-self.result await);
      flush = tt;
      mark = tt;
      noted = tt;
    }

pub returns-in-Put-clause-words : goal.returns-in-Put-clause-words
returns-in-Put-clause-words c = c.put.ensures.done ∙ ap (λ (x : RunClientData). one_further x.words) c.self.view_is

pub returns-in-Put-clause-read : goal.returns-in-Put-clause-read
returns-in-Put-clause-read c = ap (λ (x : RunClientData). x.read) c.self.view_is

pub returns-in-Put-clause-beside : goal.returns-in-Put-clause-beside
returns-in-Put-clause-beside c side f t h = c.put.ensures.beside side (subst (λ (x : RunClientData). IsBeside side x.words) (sym c.self.view_is) h)

pub returns-in-Put-clause-notes : goal.returns-in-Put-clause-notes
returns-in-Put-clause-notes c side mark f t h = c.put.ensures.notes side mark (subst (λ (x : RunClientData). IsNoteBeside side x.words mark) (sym c.self.view_is) h)

pub returns-in-Flush-clause-words : goal.returns-in-Flush-clause-words
returns-in-Flush-clause-words c = c.flush.ensures.done ∙ ap (λ (x : RunClientData). one_further x.words) c.self.view_is

pub returns-in-Flush-clause-read : goal.returns-in-Flush-clause-read
returns-in-Flush-clause-read c = ap (λ (x : RunClientData). x.read) c.self.view_is

pub returns-in-Flush-clause-beside : goal.returns-in-Flush-clause-beside
returns-in-Flush-clause-beside c side f t h = (c.flush.ensures.beside side (subst (λ (x : RunClientData). IsBeside side x.words) (sym c.self.view_is) h)).0

pub returns-in-Flush-clause-notes : goal.returns-in-Flush-clause-notes
returns-in-Flush-clause-notes c side mark f t h = c.flush.ensures.notes side mark (subst (λ (x : RunClientData). IsNoteBeside side x.words mark) (sym c.self.view_is) h)

pub returns-in-Flush-clause-mark : goal.returns-in-Flush-clause-mark
returns-in-Flush-clause-mark c = c.flush.ensures.note ∙ ap (λ (x : RunClientData). x.words.done + 1) c.self.view_is

pub returns-in-Flush-clause-noted : goal.returns-in-Flush-clause-noted
returns-in-Flush-clause-noted c side h = c.flush.ensures.beside side (subst (λ (x : RunClientData). IsBeside side x.words) (sym c.self.view_is) h)
