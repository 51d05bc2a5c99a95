use Rattle.std.proofs.Common.{◌≡◌, ℕ, ◌-◌, Option, Some, None, List, sym, ap, subst, ◌∙◌}
use Rattle.std.specs.Prelude.{slice_get}
use Rattle.std.specs.Option.{IsSomeAnd}
use Rattle.std.proofs.lemmas.Option.{IfSome_then}
use Rattle.gpu_word.specs.Results.{Written, Settles}
use Rattle.result_words.specs.Seen.{ResultWriterData}
use Rattle.gpu_journal.specs.Written.{written}
use Rattle.house_core.specs.Core.{CoreData}
use Rattle.gpu_house.specs.Names.{table_at}
use Rattle.gpu_house.proofs.Places.{if_there}
use Rattle.gpu_hall.specs.Halls.{HallData, hall_seen}
use Rattle.gpu_hall.proofs.Fitting.{fits_same}
use Rattle.gpu_hall.proofs.Outs.{none_same}
use Rattle.gpu_hall.proofs.hall.Hall.settle.Goals as goal

settled_by : (list : List Written) (reads : List (ℕ × ℕ × ℕ)) (found : Option ResultWriterData) → IsSomeAnd found (λ own. own.written ≡ list) → IsSomeAnd found (λ own. Settles own.written reads) → Settles list reads
settled_by list reads None is settled = absurd is
settled_by list reads (Some own) is settled = subst (λ (list : List Written). Settles list reads) is settled

pub settle-requires : goal.settle-requires
settle-requires g c =
    let s = c.args.stream in
    let kept = slice_get c.self.inside.house.results (s - 1) in
    record {
      known = c.requires.known;
      results = IfSome_then kept (if_there (λ (x : ResultWriterData). x.table ≡ table_at g.N.Naming.result_words s) kept (c.shows_laws.ensures.results s c.requires.known)) (λ x its. c.requires.words.1 ∙ sym its);
      reader = c.requires.words.1 ∙ sym c.requires.reader;
    }

pub invariant_of-self : goal.invariant_of-self
invariant_of-self g c =
    let N = g.N.Naming in
    let old = c.self.inside.house.core in
    let new = c.settle.new.self.core in
    let same = c.settle.ensures.core in
    record {
      fits = fits_same N.plans N.words N.queues N.view c.self.inside.takers.items c.self.inside.view old.past new.past (ap (λ (core : CoreData). core.past) same) c.self.invariant.fits;
      going = none_same old.outs new.outs (ap (λ (core : CoreData). core.outs) same) c.self.invariant.going;
    }

pub returns-clause-settled : goal.returns-clause-settled
returns-clause-settled g c =
    let s = c.args.stream in
    let reads = c.args.reader.reads in
    subst (λ (d : HallData). Settles (written g.N.Naming.plans d.past s) reads) c.self.view_is
    (settled_by (written g.N.Naming.plans c.self.inside.house.core.past s) reads (slice_get c.settle.new.self.results (s - 1)) c.settle.ensures.told c.settle.ensures.settled)

pub returns-clause-same : goal.returns-clause-same
returns-clause-same g c = ap (λ (core : CoreData). hall_seen core c.self.inside.view) c.settle.ensures.core ∙ c.self.view_is
