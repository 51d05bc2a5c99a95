use Rattle.std.proofs.Common.{◌≡◌, ℕ, ◌<◌, ◌≤◌, List, [], ◌∷◌, ◌++◌, length, get_or, sym, ap, subst, ◌∙◌}
use Rattle.std.specs.Prelude.{slice_get}
use Rattle.stream_state.specs.State.{result_of}
use Rattle.gpu_run.specs.Clients.{RunClientData}
use Rattle.gpu_run.specs.Reading.{read_with}
use Rattle.gpu_run.proofs.DumpLists.{read_none, read_at, read_other, read_now, on_ok}
use Rattle.gpu_run.proofs.client.Client.read.Goals as goal

pub returns-in_default-clause-read : goal.returns-in_default-clause-read
returns-in_default-clause-read c =
    let same = ap (λ (x : RunClientData). x.read) c.self.view_is in
    read_none c.args.plan.now.dumps c.args.self.now.read c.as_slice.result.now c.args.self.now.words.done (result_of c.args.state.now) (c.as_slice.ensures ∙ same) (subst (λ (l : List (ℕ × ℕ)). length l ≤ length c.as_slice.result.now) c.dumps.ensures.value c.in_default.ensures.lookup.3)

pub returns-then-action-self-clause-read : goal.returns-then-action-self-clause-read
returns-then-action-self-clause-read c =
    let same = ap (λ (x : RunClientData). x.read) c.self.view_is in
    let next = read_at c.args.plan.now.dumps c.args.self.now.read c.as_slice.result.now c.in-Some.dump.now (c.as_slice.ensures ∙ same) (subst (λ (l : List (ℕ × ℕ)). length c.as_slice.result.now < length l) c.dumps.ensures.value c.in-Some.ensures.lookup.3.0) (subst (λ (l : List (ℕ × ℕ)). c.in-Some.dump.now ≡ get_or l (length c.as_slice.result.now) c.in-Some.dump.now) c.dumps.ensures.value c.in-Some.ensures.lookup.1) in
    read_other c.args.plan.now.dumps c.args.self.now.read c.args.self.now.words.done (result_of c.args.state.now) c.in-Some.dump.now next
    (λ q. c.if-action-self.true (q ∙ ap (λ (x : RunClientData). x.words.done) (sym c.self.view_is) ∙ sym c.self.invariant.place))

pub returns-clause-read : goal.returns-clause-read
returns-clause-read c =
    let same = ap (λ (x : RunClientData). x.read) c.self.view_is in
    let next = read_at c.args.plan.now.dumps c.args.self.now.read c.as_slice.result.now c.in-Some.dump.now (c.as_slice.ensures ∙ same) (subst (λ (l : List (ℕ × ℕ)). length c.as_slice.result.now < length l) c.dumps.ensures.value c.in-Some.ensures.lookup.3.0) (subst (λ (l : List (ℕ × ℕ)). c.in-Some.dump.now ≡ get_or l (length c.as_slice.result.now) c.in-Some.dump.now) c.dumps.ensures.value c.in-Some.ensures.lookup.1) in
    on_ok c.push.result (c.push.new.self ≡ c.self.inside.dumps ++ (c.in-Some.dump.now.0, c.in-Some.dump.now.1, c.result.result) ∷ [])
    (c.push.new.self ≡ c.args.self.now.read ++ read_with (slice_get c.args.plan.now.dumps (length c.args.self.now.read)) c.args.self.now.words.done (result_of c.args.state.now))
    (λ pushed. read_now c.args.plan.now.dumps c.args.self.now.read c.push.new.self c.args.self.now.words.done c.result.result (result_of c.args.state.now) c.in-Some.dump.now next
    (c.if-action-self.false ∙ c.self.invariant.place ∙ ap (λ (x : RunClientData). x.words.done) c.self.view_is) c.result.ensures (pushed ∙ ap (λ (l : List (ℕ × ℕ × ℕ)). l ++ (c.in-Some.dump.now.0, c.in-Some.dump.now.1, c.result.result) ∷ []) same))
    c.push.ensures.pushed
