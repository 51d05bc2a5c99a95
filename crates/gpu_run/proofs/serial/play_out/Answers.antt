use Rattle.std.proofs.Common.{◌≡◌, List, drop, length, sym, subst, arith}
use Rattle.std.specs.Prelude.{IfOk}
use Rattle.std.proofs.lemmas.List.{take_at}
use Rattle.gpu_journal.specs.declared.event.Event.{Event}
use Rattle.gpu_run.specs.Dumps.{all_dumps}
use Rattle.gpu_run.specs.Reading.{HaveRead}
use Rattle.gpu_run.specs.Stands.{Acting, Stands}
use Rattle.gpu_run.proofs.serial.play_out.Goals as goal

pub play-requires : goal.play-requires
play-requires g c = subst (Stands (Acting 0) g.N.Naming.plans c.args.house.now) (sym c.deref_mut.ensures.value) c.requires

-- the clients are those that the rounds leave
pub all_dumps-requires-clause-read : goal.all_dumps-requires-clause-read
all_dumps-requires-clause-read g c =
    let old = c.args.clients in
    let new = c.play.new.clients in
    let stands = c.in_ok-play.ensures.stands in
    let now = stands.served.many.as_clients in
    let was = c.requires.served.many.as_clients in
    let long = old.ok in
    subst (HaveRead g.N.Naming.plans c.play.new.house.core.past) (sym (take_at new (drop (length new) old.items) old.len (omega (arith, now, was, long)))) stands.read

pub returns-clause-dumps : goal.returns-clause-dumps
returns-clause-dumps g c = subst (λ (h : List Event). IfOk c.all_dumps.result (λ all. all.items ≡ all_dumps g.N.Naming.plans h)) c.in_ok-play.ensures.serial c.all_dumps.ensures
