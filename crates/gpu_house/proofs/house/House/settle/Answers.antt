use Rattle.std.proofs.Common.{◌≡◌, ℕ, ◌-◌, Option, List, length, refl, sym, ap, subst, ◌∙◌, arith, length-set}
use Rattle.std.specs.Prelude.{IfSome}
use Rattle.sync_core.specs.Standing.{IsKnown}
use Rattle.gpu_word.specs.Results.{Written, Settles}
use Rattle.gpu_journal.specs.Written.{written}
use Rattle.gpu_house.specs.Names.{table_at}
use Rattle.gpu_house.proofs.Places.{set_has}
use Rattle.gpu_house.proofs.Writings.{all_told, at_stream, wrote}
use Rattle.gpu_house.proofs.house.House.settle.Goals as goal

pub invariant_of-self : goal.invariant_of-self
invariant_of-self g c =
    let results = c.self.inside.results.items in
    let now = c.settle.new.results in
    let was = c.self.invariant in
    let known : IsKnown (length results) c.args.stream = subst (λ (n : ℕ). IsKnown n c.args.stream) (sym was.result_count) c.requires.known in
    record {
      core = was.core;
      plans = was.plans;
      booked = was.booked;
      slots = was.slots;
      homes = was.homes;
      marked = was.marked;
      result_count = length-set results (c.args.stream - 1) now ∙ was.result_count;
      results = all_told g.P.ServiceSide.takes g.P.ServiceSide.written g.P.ServiceSide.results_of (table_at g.N.Naming.result_words) g.N.Naming.plans c.self.inside.core.past results c.args.stream now c.index_mut.result.now known c.index_mut.ensures.value c.settle.ensures.written c.settle.ensures.takes c.settle.ensures.named was.results;
    }

pub returns-clause-settled : goal.returns-clause-settled
returns-clause-settled g c = set_has (λ own. IfSome (g.P.ServiceSide.written own) (λ list. Settles list (g.P.ServiceSide.reads c.args.reader))) c.self.inside.results.items (c.args.stream - 1) c.settle.new.results
    (let low = c.requires.known.0 in let high = c.requires.known.1 in let count = c.self.invariant.result_count in omega arith) c.settle.ensures.settled

pub returns-clause-told : goal.returns-clause-told
returns-clause-told g c =
    let results = c.self.inside.results.items in
    let old = c.index_mut.result.now in
    let now = c.settle.new.results in
    let was = c.self.invariant in
    let known : IsKnown (length results) c.args.stream = subst (λ (n : ℕ). IsKnown n c.args.stream) (sym was.result_count) c.requires.known in
    let fit = at_stream g.P.ServiceSide.takes g.P.ServiceSide.written g.P.ServiceSide.results_of (table_at g.N.Naming.result_words) g.N.Naming.plans c.self.inside.core.past results c.args.stream old known c.index_mut.ensures.value was.results in
    set_has (λ own. IfSome (g.P.ServiceSide.written own) (λ list. list ≡ written g.N.Naming.plans c.args.self.now.core.past c.args.stream)) results (c.args.stream - 1) now
    (let low = c.requires.known.0 in let high = c.requires.known.1 in let count = c.self.invariant.result_count in omega arith)
    (subst (λ (o : Option (List Written)). IfSome o (λ list. list ≡ written g.N.Naming.plans c.args.self.now.core.past c.args.stream)) (sym c.settle.ensures.written)
    (subst (λ h. IfSome (g.P.ServiceSide.written old) (λ list. list ≡ written g.N.Naming.plans h c.args.stream)) (ap (λ h. h.core.past) c.self.view_is) fit.are_written))

pub returns-clause-results : goal.returns-clause-results
returns-clause-results g c =
    let results = c.self.inside.results.items in
    let known : IsKnown (length results) c.args.stream = subst (λ (n : ℕ). IsKnown n c.args.stream) (sym c.self.invariant.result_count) c.requires.known in
    wrote g.P.ServiceSide.results_belong c.args.words.now c.args.self.now.results results c.args.stream c.args.stream c.settle.new.results (ap (λ h. h.results) c.self.view_is) refl known c.settle.ensures.belongs
