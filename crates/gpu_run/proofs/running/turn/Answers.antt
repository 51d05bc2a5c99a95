use Rattle.std.proofs.Common.{◌≡◌, ℕ, ◌-◌, Bool, true, false, Option, None, Some, [], drop, refl, sym, ap, subst, ◌∙◌}
use Rattle.std.specs.Prelude.{IfSome, slice_get}
use Rattle.std.proofs.lemmas.List.{append-nil, drop_at}
use Rattle.gpu_fetch.specs.Fetched.{FetchedData}
use Rattle.gpu_fetch.specs.Plain.{PlainData, IsBeside, IsNoteBeside}
use Rattle.house_core.specs.Desks.{RunData}
use Rattle.gpu_house.proofs.Going.{goes_further, stops}
use Rattle.gpu_run.specs.Turning.{HasTakenNext}
use Rattle.gpu_run.proofs.Stepping.{HasFetched}
use Rattle.gpu_run.proofs.RunTurns.{words_are, fetched_with, stepped_with}
use Rattle.gpu_run.proofs.running.turn.Given.{Over}
use Rattle.gpu_run.proofs.running.turn.Goals.{In_ok-step}
use Rattle.gpu_run.proofs.running.turn.Goals as goal

-- plain results belong with any words
plain : (o : Option (Unit {0})) → IfSome o (λ (x : Unit {0}). Unit {0})
plain None = tt
plain (Some x) = tt

pub fetch-requires : goal.fetch-requires
fetch-requires g c =
    let run = c.args.run.now in
    let out = c.requires.turn.out in
    let its_words = words_are g.N.Naming.plans c.args.clients.now run.run.stream c.stream.result c.index-clients-stream.result c.words-words.result.now out.is_known out.many.as_clients c.stream.ensures c.index-clients-stream.is c.words-words.ensures in
    record {
      beside = subst (IsBeside run.side) (sym its_words) out.beside.side_beside;
      note = subst (λ (w : PlainData). IfSome run.note (IsNoteBeside run.side w)) (sym its_words) out.beside.first_beside;
      more = c.requires.more;
      going = out.going;
      list = out.list;
    }

pub step-requires : goal.step-requires
step-requires g c =
    let run = c.args.run.now in
    let new = c.fetch.new.self in
    let out = c.requires.turn.out in
    let e = c.in_ok-verdict.ensures in
    let list = c.fetch.new.list.items in
    let found = c.of-fetched.result.words in
    let same : list ≡ found = sym (ap (λ (f : FetchedData). f.words) c.of-fetched.ensures.is ∙ c.deref.ensures.value) in
    record {
      going = ap (λ (r : RunData). r.paused) e.keeps.run ∙ out.going;
      facts = ap (λ (f : FetchedData). f.facts) c.of-fetched.ensures.is ∙ c.of-facts.ensures ∙ c.facts.ensures.facts ∙ ap (λ (r : RunData). r.facts) (sym e.keeps.run);
      list = record {
        rest = [];
        next = ap (λ (r : RunData). drop r.facts.fetched new.side.fetched) e.keeps.run ∙ ap (drop run.run.facts.fetched) e.fetches.grows ∙ drop_at run.side.fetched list run.run.facts.fetched out.list ∙ same ∙ sym (append-nil found);
        ended = λ _. refl;
      };
      beside = e.keeps.still.beside;
      note = subst (λ (o : Option ℕ). IfSome o (IsNoteBeside new.side c.words-words.result.now)) (sym e.keeps.met) tt;
      results = plain (slice_get c.args.house.now.results (new.run.stream - 1));
    }

-- the step, however it was answered
stepped : (g : Over) (c : In_ok-step g) → (more : Bool) → more ≡ goes_further c.in_ok-step.field-0.next → HasTakenNext g.N.Naming.plans c.args.house.now c.step.new.self c.args.clients.now c.args.run.now.run.stream c.step.new.run more
stepped g c more answer =
    let p = g.N.Naming.plans in
    let run = c.args.run.now in
    let w = c.words-words.result.now in
    let turn = c.requires.turn in
    let e = c.in_ok-verdict.ensures in
    let t = c.in_ok-step.ensures in
    let list = c.fetch.new.list.items in
    let found = c.of-fetched.result.words in
    let same : list ≡ found = sym (ap (λ (f : FetchedData). f.words) c.of-fetched.ensures.is ∙ c.deref.ensures.value) in
    let its_words = words_are p c.args.clients.now run.run.stream c.stream.result c.index-clients-stream.result w turn.out.is_known turn.out.many.as_clients c.stream.ensures c.index-clients-stream.is c.words-words.ensures in
    let has = fetched_with p c.args.house.now c.args.clients.now run c.fetch.new.self list c.in_ok-verdict.verdict w turn its_words c.requires.more e.keeps e.fetches.grows e.fetches.found.shows e.copy in
    stepped_with p c.args.house.now c.step.new.self c.args.clients.now run c.fetch.new.self c.step.new.run found w c.in_ok-step.field-0.next more turn (subst (HasFetched p c.args.house.now c.args.clients.now c.fetch.new.self) same has) e.keeps.run e.keeps.met its_words _ _ t.steps.steps t.keeps.slots t.keeps.still
    t.keeps.list answer

pub returns-in-More : goal.returns-in-More
returns-in-More g c = stepped g (goal.at.returns-in-More g c).In_ok-step true (sym (ap goes_further (sym c.into_next.ensures ∙ c.in-More.is)))

pub returns-in-FlushEnd : goal.returns-in-FlushEnd
returns-in-FlushEnd g c = stepped g (goal.at.returns-in-FlushEnd g c).In_ok-step true (sym (ap goes_further (sym c.into_next.ensures ∙ c.in-FlushEnd.is)))

pub returns : goal.returns
returns g c =
    stepped g (goal.at.returns g c).In_ok-step false
    (sym (stops c.in_ok-step.field-0.next (λ e. c.in_default.not-More (c.into_next.ensures ∙ e)) (λ e. c.in_default.not-FlushEnd (c.into_next.ensures ∙ e))))
