use Rattle.std.proofs.Common.{◌≡◌, List, length, drop, sym, ap, subst, ◌∙◌, arith}
use Rattle.std.specs.List.{All}
use Rattle.gpu_journal.specs.declared.event.Event.{Event}
use Rattle.gpu_journal.specs.Legal.{IsLegal}
use Rattle.gpu_journal.specs.Complete.{IsComplete}
use Rattle.gpu_journal.specs.Ended.{streams_of}
use Rattle.gpu_hall.specs.Halls.{HallData}
use Rattle.gpu_threads.specs.Clients.{AreClientsOf}
use Rattle.gpu_threads.specs.Dumps.{IsThrough, AreAllRead}
use Rattle.gpu_threads.specs.Views.{AreAllLooks}
use Rattle.gpu_threads.proofs.Crew.{whole}
use Rattle.gpu_threads.proofs.threads.finish.Goals as goal

pub all_read-requires-clause-clients : goal.all_read-requires-clause-clients
all_read-requires-clause-clients g c =
    let N = g.N.Naming in
    let crew = c.args.crew in
    let new = c.play_left-hall.new.clients in
    let many = c.play_left-hall.ensures.clients.many in
    let was = c.requires.clients.many in
    let long = crew.clients.ok in
    subst (AreClientsOf N.plans N.words N.result_words N.queues) (sym (whole crew.clients.len new (drop (length new) crew.clients.items) (omega (arith, many, was, long)))) c.play_left-hall.ensures.clients

pub all_read-requires-clause-through : goal.all_read-requires-clause-through
all_read-requires-clause-through g c =
    let N = g.N.Naming in
    let crew = c.args.crew in
    let new = c.play_left-hall.new.clients in
    let many = c.play_left-hall.ensures.clients.many in
    let was = c.requires.clients.many in
    let long = crew.clients.ok in
    subst (All (IsThrough N.plans c.play_left-hall.result.past)) (sym (whole crew.clients.len new (drop (length new) crew.clients.items) (omega (arith, many, was, long)))) c.play_left-hall.ensures.through

pub returns : goal.returns
returns g c =
    let p = g.N.Naming.plans in
    let left = c.play_left-hall in
    let ended = c.in_ok-report.ensures in
    let looks = c.in_ok-report.looks.items in
    let past : c.in_ok-report.report.past ≡ left.result.past = ended.past ∙ ap (λ (hall : HallData). hall.past) c.in-Ok.ensures.same in
    record {
      plans = ended.plans;
      based = ended.base;
      legal = subst (IsLegal p) (sym past) c.shows_laws.ensures.legal;
      complete = subst (IsComplete p) (sym past) left.ensures.complete;
      looks = subst (λ (h : List Event). AreAllLooks p h (length c.args.crew.watches.items) looks) (sym ended.past) ended.looks;
      dumps = subst (λ (h : List Event). AreAllRead p h (streams_of p) c.in-Ok.dumps.items) (sym past) c.in-Ok.ensures.read;
    }
